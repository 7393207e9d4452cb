-- What a look on a page says of the page.
use Rattle.std.proofs.Common.{◌≡◌, ℕ, Bool, true, false, cond, not, ◌||◌, eqb, ltb, leb, List, Option, Some, None, Result, Ok, Err, refl, sym, subst, ◌∙◌, inl, inr}
use Rattle.std.specs.Prelude.{◌≢◌, All}
use Rattle.std.proofs.lemmas.Bool.{cases_eq, cond-true, cond-false, eq-eqb, ne_eqb}
use Rattle.nb_record.specs.declared.answer.Look.{Look}
use Rattle.nb_record.specs.declared.answer.Look.TheVariants.{Found, Next, Wants, Gone, Bad}
use Rattle.nb_record.specs.declared.header.PageError.{PageError}
use Rattle.nb_record.specs.declared.header.PageError.TheVariants as error
use Rattle.nb_record.specs.declared.sizes.TheConstants.{CELLS_PER_PAGE}
use Rattle.nb_record.specs.Fields.{u64_at}
use Rattle.nb_record.specs.Pages.{page_number, record_count, page_next, read_cell_page, IsCellPage}
use Rattle.nb_record.specs.Records.{cells_of}
use Rattle.nb_record.specs.Looking.{index_of_key, IsLookOn, IsLookAt, IsLook}
use Rattle.nb_record.proofs.Callers.{cells_checked, key_lacking}

-- the answer where the key isn't on the page
abbrev pub after : ℕ → Look
after next = cond (eqb next 0) Gone (Next next)

-- a page is shown under its own number
pub shown_there : (page : ℕ) (bytes : List ℕ) → cond (eqb page page) (Some bytes) None ≡ Some bytes
shown_there page bytes = cond-true (eqb page page) (Some bytes) None (eq-eqb page page refl)

-- a look past a page of the form that lacks the key
look_past : (key page : ℕ) (bytes : List ℕ) (shown : Option (List ℕ)) (look : Look) → shown ≡ Some bytes
    → IsLook key page shown look → IsCellPage page bytes → All (λ c. c.key ≢ key) (cells_of bytes) → look ≡ after (page_next bytes)
look_past key page bytes shown look there is form lacks =
    let at : IsLookAt key page (read_cell_page page bytes) look = subst (λ s. IsLook key page s look) there is in
    let on : IsLookOn page bytes (index_of_key key bytes) look = subst (λ r. IsLookAt key page r look) ((cells_checked page bytes).1 form) at in
    subst (λ i. IsLookOn page bytes i look) ((key_lacking bytes key).1 lacks) on

-- it answers Gone or a next page
pub looks_past : (key page : ℕ) (bytes : List ℕ) (shown : Option (List ℕ)) (look : Look) → shown ≡ Some bytes
    → IsLook key page shown look → IsCellPage page bytes → All (λ c. c.key ≢ key) (cells_of bytes)
    → (look ≡ Gone → ⊥) → ((next : ℕ) → look ≡ Next next → ⊥) → ⊥
looks_past key page bytes shown look there is form lacks not_gone not_next =
    let next = page_next bytes in
    let past = look_past key page bytes shown look there is form lacks in
    elim (cases_eq next 0) [
      | inl none ↦ not_gone (past ∙ cond-true (eqb next 0) Gone (Next next) (eq-eqb next 0 none))
      | inr some ↦ not_next next (past ∙ cond-false (eqb next 0) Gone (Next next) (ne_eqb next 0 some))
    ]

-- ---- what the answer says of the page

-- The page is of the form, lacks the key, and has this next page.
pub record IsPassed (key page : ℕ) (bytes : List ℕ) (behind : ℕ) : Type 0 where
  pub form : IsCellPage page bytes
  pub lacks : All (λ c. c.key ≢ key) (cells_of bytes)
  pub next : page_next bytes ≡ behind

-- what is known after each answer
abbrev IsSaid : ℕ → ℕ → List ℕ → Look → Type 0
IsSaid key page bytes (Found cell) = Unit {0}
IsSaid key page bytes (Next next) = IsPassed key page bytes next
IsSaid key page bytes (Wants wanted) = Unit {0}
IsSaid key page bytes Gone = IsPassed key page bytes 0
IsSaid key page bytes (Bad bad) = Unit {0}

said_after : (key page : ℕ) (bytes : List ℕ) → IsCellPage page bytes → All (λ c. c.key ≢ key) (cells_of bytes)
    → IsSaid key page bytes (after (page_next bytes))
said_after key page bytes form lacks =
    let next = page_next bytes in
    elim (cases_eq next 0) [
      | inl none ↦ subst (IsSaid key page bytes) (sym (cond-true (eqb next 0) Gone (Next next) (eq-eqb next 0 none)))
          (record { form = form; lacks = lacks; next = none })
      | inr some ↦ subst (IsSaid key page bytes) (sym (cond-false (eqb next 0) Gone (Next next) (ne_eqb next 0 some)))
          (record { form = form; lacks = lacks; next = refl })
    ]

said_on : (key page : ℕ) (bytes : List ℕ) (place : Option ℕ) (look : Look) → IsCellPage page bytes → index_of_key key bytes ≡ place
    → IsLookOn page bytes place look → IsSaid key page bytes look
said_on key page bytes (Some i) look form at is = elim is [
  | inl found ↦ subst (IsSaid key page bytes) (sym found.1) tt
  | inr bad ↦ subst (IsSaid key page bytes) (sym bad.1) tt
]
said_on key page bytes None look form at is =
    subst (IsSaid key page bytes) (sym is) (said_after key page bytes form ((key_lacking bytes key).0 at))

-- the tests of a header, one by one
abbrev checks : Bool → Bool → Bool → Bool → List ℕ → Result (List ℕ) PageError
checks number count next zeros bytes =
    cond (not number) (Err error.Number)
    (cond (not count) (Err error.Count) (cond (not next) (Err error.Next) (cond (not zeros) (Err error.Next) (Ok bytes))))

said_checked : (number count next zeros : Bool) (key page : ℕ) (bytes : List ℕ) (look : Look)
    → read_cell_page page bytes ≡ checks number count next zeros bytes
    → IsLookAt key page (checks number count next zeros bytes) look → IsSaid key page bytes look
said_checked true true true true key page bytes look checked is =
    said_on key page bytes (index_of_key key bytes) look ((cells_checked page bytes).0 checked) refl is
said_checked true true true false key page bytes look checked is = subst (IsSaid key page bytes) (sym is) tt
said_checked true true false zeros key page bytes look checked is = subst (IsSaid key page bytes) (sym is) tt
said_checked true false next zeros key page bytes look checked is = subst (IsSaid key page bytes) (sym is) tt
said_checked false count next zeros key page bytes look checked is = subst (IsSaid key page bytes) (sym is) tt

said : (key page : ℕ) (bytes : List ℕ) (shown : Option (List ℕ)) (look : Look) → shown ≡ Some bytes → IsLook key page shown look
    → IsSaid key page bytes look
said key page bytes shown look there is =
    said_checked (eqb (page_number bytes) page) (leb (record_count bytes) CELLS_PER_PAGE) (eqb (page_next bytes) 0 || ltb page (page_next bytes))
    (eqb (u64_at 24 bytes) 0) key page bytes look refl (subst (λ s. IsLook key page s look) there is)

pub gone_passed : (key page : ℕ) (bytes : List ℕ) (shown : Option (List ℕ)) → shown ≡ Some bytes → IsLook key page shown Gone
    → IsPassed key page bytes 0
gone_passed key page bytes shown there is = said key page bytes shown Gone there is

pub next_passed : (key page next : ℕ) (bytes : List ℕ) (shown : Option (List ℕ)) → shown ≡ Some bytes → IsLook key page shown (Next next)
    → IsPassed key page bytes next
next_passed key page next bytes shown there is = said key page bytes shown (Next next) there is
