-- Waiting pages laid over a file: in any order, byte by byte, and over a file of which one page was written in part.
use Rattle.std.proofs.Common.{◌≡◌, ◌≢◌, ℕ, ◌+◌, ◌≤◌, ◌==◌, ◌&&◌, ◌⊎◌, inl, inr, Bool, true, false, if◌then◌else◌, List, [], ◌∷◌, length, refl, sym, ap, subst, ◌∙◌, arith, Contains}
use Rattle.std.proofs.lemmas.Bool.Decides.{nat_tests}
use Rattle.std.proofs.lemmas.Map.Keys.{IsDistinct-head, IsDistinct-tail}
use Rattle.std.specs.List.{IsDistinct}
use Rattle.lru.proofs.Splits.{Contains-head, Contains-tail, Contains-cons, Contains-nil}
use Rattle.nb_host.specs.Image.{overwritten}
use Rattle.nb_host.specs.Page.{page_start, same_page}
use Rattle.nb_host.specs.declared.page_name.PageName.{PageName}
use Rattle.nb_host.specs.declared.page_name.TheConstants.{PAGE_SIZE}
use Rattle.nb_host.proofs.Callers.{same_page_eq, same_page_apart}
use Rattle.nb_cache.specs.Names.{held_without, cleaned_page, with_clean}
use Rattle.nb_cache.specs.View.{Held, IsDirty, held_names, overlaid}
use Rattle.nb_cache.proofs.Overlays.{swap_writes, write_twice, Lacks, Distinct, Whole, lacks_at, there_or_lacks, without_lacking, lacks_without, without_has, one_of_name}

-- One page over a file.

-- it waits, and it is of this file
abbrev pub lies : ℕ → Held → Bool
lies file h = h.dirty && (h.name.file == file)

abbrev pub laid : ℕ → Held → List ℕ → List ℕ
laid file h bytes = if lies file h then overwritten (page_start h.name.page) h.bytes bytes else bytes

pub whole_tail : (g : Held) (held : List Held) → Whole (g ∷ held) → Whole held
whole_tail g held whole = λ h has. whole h (Contains-tail g held h has)

pub whole_without : (k : PageName) (held : List Held) → Whole held → Whole (held_without k held)
whole_without k held whole = λ h has. whole h (without_has k held h has).0

lies_both : (file : ℕ) (g h : Held) → lies file g ≡ true → lies file h ≡ true → same_page g.name h.name ≡ false
    → (page_start g.name.page + PAGE_SIZE ≤ page_start h.name.page) ⊎ (page_start h.name.page + PAGE_SIZE ≤ page_start g.name.page)
lies_both file g h there_g there_h apart =
    pages_apart g.name.page h.name.page
    (other g.dirty h.dirty g.name.file h.name.file file g.name.page h.name.page there_g there_h apart)
  where
    other : (w v : Bool) (f e file p q : ℕ) → (w && (f == file)) ≡ true → (v && (e == file)) ≡ true
        → ((f == e) && (p == q)) ≡ false → p ≢ q
    other w v f e file p q one two apart same = grind (arith, nat_tests)

    pages_apart : (p q : ℕ) → p ≢ q → (page_start p + PAGE_SIZE ≤ page_start q) ⊎ (page_start q + PAGE_SIZE ≤ page_start p)
    pages_apart p q apart = grind arith

pub laid_swap : (file : ℕ) (g h : Held) (bytes : List ℕ) → length g.bytes ≡ PAGE_SIZE → length h.bytes ≡ PAGE_SIZE
    → same_page g.name h.name ≡ false → laid file g (laid file h bytes) ≡ laid file h (laid file g bytes)
laid_swap file g h bytes full_g full_h apart = (elim (lies file g) as (λ y. lies file g ≡ y → laid file g (laid file h bytes) ≡ laid file h (laid file g bytes)) [
  | false ↦ λ none_g. rw none_g refl
  | true ↦ λ there_g. (elim (lies file h) as (λ y. lies file h ≡ y → laid file g (laid file h bytes) ≡ laid file h (laid file g bytes)) [
    | false ↦ λ none_h. rw none_h refl
    | true ↦ λ there_h. rw (there_g, there_h)
        (swap_writes (page_start g.name.page) (page_start h.name.page) g.bytes h.bytes bytes full_g full_h
        (lies_both file g h there_g there_h apart))
  ]) refl
]) refl

-- The resident pages over a file, in any order.

pub overlaid_out : (file : ℕ) (h : Held) (held : List Held) (bytes : List ℕ) → length h.bytes ≡ PAGE_SIZE → Whole held
    → Lacks h.name held → overlaid file held (laid file h bytes) ≡ laid file h (overlaid file held bytes)
overlaid_out file h [] bytes full whole lacks = refl
overlaid_out file h (g ∷ held) bytes full whole lacks =
    ap (λ l. laid file g l) (overlaid_out file h held bytes full (whole_tail g held whole) lacks.1)
    ∙ sym (laid_swap file h g (overlaid file held bytes) full (whole g (Contains-head g held)) lacks.0)

-- a page before the others
pub overlaid_rest : (file : ℕ) (k : PageName) (h : Held) (held : List Held) (bytes : List ℕ) → Distinct held → Whole held
    → Contains held h → h.name ≡ k → overlaid file held bytes ≡ laid file h (overlaid file (held_without k held) bytes)
overlaid_rest file k h [] bytes distinct whole has named = absurd (Contains-nil h has)
overlaid_rest file k h (g ∷ held) bytes distinct whole has named =
    let apart : Lacks g.name held = IsDistinct-head same_page g.name (held_names held) distinct in
    (elim (same_page k g.name) as (λ y. same_page k g.name ≡ y → overlaid file (g ∷ held) bytes ≡ laid file h (overlaid file (held_without k (g ∷ held)) bytes)) [
      | true ↦ λ here.
          let is : k ≡ g.name = same_page_eq k g.name here in
          let one : g ≡ h = one_of_name (g ∷ held) g h distinct (Contains-head g held) has (sym is ∙ sym named) in
          rw here (ap (λ (f : Held). laid file f (overlaid file held bytes)) one
          ∙ ap (λ l. laid file h (overlaid file l bytes)) (sym (without_lacking k held (subst (λ n. Lacks n held) (sym is) apart))))
      | false ↦ λ here.
          let there : Contains held h = elim (Contains-cons g held h has) [
            | inl same ↦ absurd (same_page_apart k g.name here (sym named ∙ ap (λ (f : Held). f.name) (sym same)))
            | inr there ↦ there
          ] in
          let less = overlaid_rest file k h held bytes (IsDistinct-tail same_page g.name (held_names held) distinct)
          (whole_tail g held whole) there named in
          rw here (ap (λ l. laid file g l) less
          ∙ laid_swap file g h (overlaid file (held_without k held) bytes) (whole g (Contains-head g held)) (whole h has)
          (lacks_at g.name held h apart there))
    ]) refl

-- a page after the others
pub overlaid_under : (file : ℕ) (k : PageName) (h : Held) (held : List Held) (bytes : List ℕ) → Distinct held → Whole held
    → Contains held h → h.name ≡ k → overlaid file held bytes ≡ overlaid file (held_without k held) (laid file h bytes)
overlaid_under file k h held bytes distinct whole has named =
    overlaid_rest file k h held bytes distinct whole has named
    ∙ sym (overlaid_out file h (held_without k held) bytes (whole h has) (whole_without k held whole)
    (subst (λ n. Lacks n (held_without k held)) (sym named) (lacks_without k held)))

-- a page that waits hides the one of the same name
pub laid_over : (file : ℕ) (k : PageName) (p : Held) (held : List Held) (bytes : List ℕ) → Distinct held → Whole held
    → length p.bytes ≡ PAGE_SIZE → p.name ≡ k → p.dirty ≡ true
    → laid file p (overlaid file (held_without k held) bytes) ≡ laid file p (overlaid file held bytes)
laid_over file k p held bytes distinct whole full named waits = elim (there_or_lacks k held) [
  | inr lacks ↦ ap (λ l. laid file p (overlaid file l bytes)) (without_lacking k held lacks)
  | inl one ↦
      hides file p one.0 (overlaid file (held_without k held) bytes) full (whole one.0 one.1) (named ∙ sym one.2) waits
      ∙ ap (λ l. laid file p l) (sym (overlaid_rest file k one.0 held bytes distinct whole one.1 one.2))
]
  where
    hides : (file : ℕ) (p h : Held) (bytes : List ℕ) → length p.bytes ≡ PAGE_SIZE → length h.bytes ≡ PAGE_SIZE
        → p.name ≡ h.name → p.dirty ≡ true → laid file p bytes ≡ laid file p (laid file h bytes)
    hides file p h bytes full_p full_h same waits = (elim (lies file h) as (λ y. lies file h ≡ y → laid file p bytes ≡ laid file p (laid file h bytes)) [
      | false ↦ λ none. rw none refl
      | true ↦ λ there.
          let is : lies file p ≡ true = lies_too p.dirty h.dirty p.name.file h.name.file file waits
          (ap (λ (n : PageName). n.file) same) there in
          let start : page_start p.name.page ≡ page_start h.name.page = ap (λ (n : PageName). page_start n.page) same in
          rw (is, there, start)
          (sym (write_twice (page_start h.name.page) p.bytes h.bytes bytes full_p full_h))
    ]) refl
      where
        lies_too : (w v : Bool) (f e file : ℕ) → w ≡ true → f ≡ e → (v && (e == file)) ≡ true → (w && (f == file)) ≡ true
        lies_too w v f e file waits same there = grind (arith, nat_tests)

-- A page that was written no longer waits.

pub settled_names : (k : PageName) (held : List Held) → held_names (with_clean k held) ≡ held_names held
settled_names k [] = refl
settled_names k (g ∷ held) = (elim (same_page k g.name) as (λ y. same_page k g.name ≡ y → held_names (with_clean k (g ∷ held)) ≡ held_names (g ∷ held)) [
  | true ↦ λ here. rw here (ap (λ l. g.name ∷ l) (settled_names k held))
  | false ↦ λ here. rw here (ap (λ l. g.name ∷ l) (settled_names k held))
]) refl

pub settled_without : (k : PageName) (held : List Held) → held_without k (with_clean k held) ≡ held_without k held
settled_without k [] = refl
settled_without k (g ∷ held) = (elim (same_page k g.name) as (λ y. same_page k g.name ≡ y → held_without k (with_clean k (g ∷ held)) ≡ held_without k (g ∷ held)) [
  | true ↦ λ here. rw here (rw here (settled_without k held))
  | false ↦ λ here. rw here (rw here (ap (λ l. g ∷ l) (settled_without k held)))
]) refl

settled_here : (k : PageName) (g : Held) (held : List Held) → same_page k g.name ≡ true
    → with_clean k (g ∷ held) ≡ cleaned_page g ∷ with_clean k held
settled_here k g held here = ap (λ (b : Bool). (if b then cleaned_page g else g) ∷ with_clean k held) here

settled_other : (k : PageName) (g : Held) (held : List Held) → same_page k g.name ≡ false
    → with_clean k (g ∷ held) ≡ g ∷ with_clean k held
settled_other k g held here = ap (λ (b : Bool). (if b then cleaned_page g else g) ∷ with_clean k held) here

pub settled_lacking : (k : PageName) (held : List Held) → Lacks k held → with_clean k held ≡ held
settled_lacking k [] lacks = refl
settled_lacking k (g ∷ held) lacks = settled_other k g held lacks.0 ∙ ap (λ l. g ∷ l) (settled_lacking k held lacks.1)

-- nothing changes where the page is clean
pub settled_rests : (k : PageName) (held : List Held) → (IsDirty held k → ⊥) → with_clean k held ≡ held
settled_rests k [] none = refl
settled_rests k (g ∷ held) none =
    let rest = settled_rests k held (λ one. none (record {
      page = one.page;
      there = Contains-tail g held one.page one.there;
      named = one.named;
      dirty = one.dirty;
    })) in
    (elim (same_page k g.name) as (λ y. same_page k g.name ≡ y → with_clean k (g ∷ held) ≡ g ∷ held) [
      | true ↦ λ here.
          settled_here k g held here ∙ ap (λ l. cleaned_page g ∷ l) rest
          ∙ ap (λ (h : Held). h ∷ held) (still g (Contains-head g held) (sym (same_page_eq k g.name here)))
      | false ↦ λ other. settled_other k g held other ∙ ap (λ l. g ∷ l) rest
    ]) refl
  where
    page : PageName → List ℕ → Bool → Held
    page name bytes waits = record { name = name; bytes = bytes; dirty = waits }

    still : (f : Held) → Contains (g ∷ held) f → f.name ≡ k → cleaned_page f ≡ f
    still f has named = (elim f.dirty as (λ y. f.dirty ≡ y → cleaned_page f ≡ f) [
      | false ↦ λ rests. ap (page f.name f.bytes) (sym rests)
      | true ↦ λ waits. absurd (none (record { page = f; there = has; named = named; dirty = waits }))
    ]) refl

-- what is there then: a page of another name, or one of this name that rests
pub settled_has : (k : PageName) (held : List Held) (h : Held) → Contains (with_clean k held) h
    → (Contains held h × (same_page k h.name ≡ false)) ⊎ ((g : Held) × Contains held g × (g.name ≡ k) × (h ≡ cleaned_page g))
settled_has k [] h has = absurd (Contains-nil h has)
settled_has k (g ∷ held) h has = (elim (same_page k g.name) as (λ y. same_page k g.name ≡ y → (Contains (g ∷ held) h × (same_page k h.name ≡ false)) ⊎ ((f : Held) × Contains (g ∷ held) f × (f.name ≡ k) × (h ≡ cleaned_page f))) [
  | true ↦ λ here. elim (Contains-cons (cleaned_page g) (with_clean k held) h (subst (λ l. Contains l h) (settled_here k g held here) has)) [
    | inl same ↦ inr (g, Contains-head g held, sym (same_page_eq k g.name here), sym same)
    | inr there ↦ more k g held h (settled_has k held h there)
  ]
  | false ↦ λ here. elim (Contains-cons g (with_clean k held) h (subst (λ l. Contains l h) (settled_other k g held here) has)) [
    | inl same ↦ inl (
      subst (Contains (g ∷ held)) same (Contains-head g held),
      subst (λ (f : Held). same_page k f.name ≡ false) same here,
    )
    | inr there ↦ more k g held h (settled_has k held h there)
  ]
]) refl
  where
    more : (k : PageName) (g : Held) (held : List Held) (h : Held)
        → (Contains held h × (same_page k h.name ≡ false)) ⊎ ((f : Held) × Contains held f × (f.name ≡ k) × (h ≡ cleaned_page f))
        → (Contains (g ∷ held) h × (same_page k h.name ≡ false))
        ⊎ ((f : Held) × Contains (g ∷ held) f × (f.name ≡ k) × (h ≡ cleaned_page f))
    more k g held h (inl one) = inl (Contains-tail g held h one.0, one.1)
    more k g held h (inr one) = inr (one.0, Contains-tail g held one.0 one.1, one.2, one.3)

pub has_settled : (k : PageName) (held : List Held) (h : Held) → Contains held h → same_page k h.name ≡ false
    → Contains (with_clean k held) h
has_settled k [] h has other = absurd (Contains-nil h has)
has_settled k (g ∷ held) h has other = (elim (same_page k g.name) as (λ y. same_page k g.name ≡ y → Contains (with_clean k (g ∷ held)) h) [
  | true ↦ λ here. subst (λ l. Contains l h) (sym (settled_here k g held here)) (elim (Contains-cons g held h has) [
    | inl same ↦
        let two : same_page k h.name ≡ true = subst (λ (f : Held). same_page k f.name ≡ true) same here in absurd (cc)
    | inr there ↦ Contains-tail (cleaned_page g) (with_clean k held) h (has_settled k held h there other)
  ])
  | false ↦ λ here. subst (λ l. Contains l h) (sym (settled_other k g held here)) (elim (Contains-cons g held h has) [
    | inl same ↦ subst (Contains (g ∷ with_clean k held)) same (Contains-head g (with_clean k held))
    | inr there ↦ Contains-tail g (with_clean k held) h (has_settled k held h there other)
  ])
]) refl

pub rested_there : (k : PageName) (held : List Held) (h : Held) → Contains held h → h.name ≡ k
    → Contains (with_clean k held) (cleaned_page h)
rested_there k [] h has named = absurd (Contains-nil h has)
rested_there k (g ∷ held) h has named = (elim (same_page k g.name) as (λ y. same_page k g.name ≡ y → Contains (with_clean k (g ∷ held)) (cleaned_page h)) [
  | true ↦ λ here. subst (λ l. Contains l (cleaned_page h)) (sym (settled_here k g held here)) (elim (Contains-cons g held h has) [
    | inl same ↦ subst (λ (f : Held). Contains (cleaned_page g ∷ with_clean k held) (cleaned_page f)) same
        (Contains-head (cleaned_page g) (with_clean k held))
    | inr there ↦ Contains-tail (cleaned_page g) (with_clean k held) (cleaned_page h) (rested_there k held h there named)
  ])
  | false ↦ λ here. subst (λ l. Contains l (cleaned_page h)) (sym (settled_other k g held here)) (elim (Contains-cons g held h has) [
    | inl same ↦ absurd (same_page_apart k g.name here (sym named ∙ ap (λ (f : Held). f.name) (sym same)))
    | inr there ↦ Contains-tail g (with_clean k held) (cleaned_page h) (rested_there k held h there named)
  ])
]) refl

pub whole_settled : (k : PageName) (held : List Held) → Whole held → Whole (with_clean k held)
whole_settled k held whole = λ h has. elim (settled_has k held h has) [
  | inl one ↦ whole h one.0
  | inr one ↦ subst (λ (f : Held). length f.bytes ≡ PAGE_SIZE) (sym one.3) (whole one.0 one.1)
]

pub distinct_settled : (k : PageName) (held : List Held) → Distinct held → Distinct (with_clean k held)
distinct_settled k held distinct = subst (IsDistinct same_page) (sym (settled_names k held)) distinct

-- over a file into which it was written, the others show what all showed
pub overlaid_settled : (file : ℕ) (k : PageName) (h : Held) (held : List Held) (bytes : List ℕ) → Distinct held → Whole held
    → Contains held h → h.name ≡ k → overlaid file (with_clean k held) (laid file h bytes) ≡ overlaid file held bytes
overlaid_settled file k h held bytes distinct whole has named =
    overlaid_rest file k (cleaned_page h) (with_clean k held) (laid file h bytes) (distinct_settled k held distinct)
    (whole_settled k held whole) (rested_there k held h has named) named
    ∙ ap (λ l. overlaid file l (laid file h bytes)) (settled_without k held)
    ∙ sym (overlaid_under file k h held bytes distinct whole has named)

-- nothing that waits shows nothing
pub overlaid_none : (file : ℕ) (held : List Held) (bytes : List ℕ)
    → ((h : Held) → Contains held h → h.dirty ≡ false) → overlaid file held bytes ≡ bytes
overlaid_none file [] bytes none = refl
overlaid_none file (h ∷ held) bytes none =
    let not_now : h.dirty ≡ false = none h (Contains-head h held) in
    rw not_now (overlaid_none file held bytes (λ g has. none g (Contains-tail h held g has)))
