-- A body of a file, and the page on which it stands.
use Rattle.std.proofs.Common.{◌≡◌, ℕ, zero, suc, ◌+◌, ◌/◌, ◌%◌, ◌<◌, ◌≤◌, IsTrue, Bool, true, false, cond, not, eqb, leb, Ok, Err, List, [], ◌∷◌, ◌++◌, Some, length, inl, inr, refl, sym, ap, subst, ◌∙◌, arith}
use Rattle.std.specs.Prelude.{slice_get, ◌≢◌}
use Rattle.std.proofs.lemmas.Bool.{cases_lt}
use Rattle.std.proofs.lemmas.List.{length_push}
use Rattle.std.proofs.lemmas.Option.{get_or_from_slice_get}
use Rattle.nb_host.specs.Meaning.{HostModel}
use Rattle.nb_host.specs.declared.page_name.PageName.{PageName}
use Rattle.nb_cache.specs.View.{CacheValue, seen, IsWhole}
use Rattle.nb_host.specs.Page.{page_start, page_of, HasPage}
use Rattle.nb_model.specs.declared.body.V3.{V3}
use Rattle.nb_model.specs.declared.body.Body.{Body}
use Rattle.nb_record.specs.declared.sizes.TheConstants.{BODIES_PER_PAGE}
use Rattle.nb_record.specs.Order.{pages_for, count_on, record_of, HoldsBodies, HoldsKickedBodies, HaveDifferentIds}
use Rattle.nb_record.specs.Fields.{u64_at}
use Rattle.nb_record.specs.declared.header.PageError.TheVariants.{Number, Count, Next}
use Rattle.nb_record.specs.Pages.{page_number, record_count, page_next, read_body_page, IsBodyPage}
use Rattle.nb_record.specs.Records.{body_record, body_of, kick_of, IsBodyRecord}
use Rattle.nb_record.proofs.Callers.{page_within, index_within}
use Rattle.nb_order.specs.Files.{page_of_body, HasBody, HasRoomFor, IsBodyAt, IsUnsortable}
use Rattle.nb_order.specs.Indexes.{HasFirst}
use Rattle.nb_order.specs.Refusals.{IsNoBody, HasNoRoom}
use Rattle.nb_order.proofs.Pushing.{pushed_before, pushed_here}

tests_same : (number count next zeros : Bool) (bytes bodies : List ℕ)
    → cond (not number) (Err Number) (cond (not count) (Err Count) (cond (not next) (Err Next) (cond (not zeros) (Err Next) (Ok bytes)))) ≡ Ok bodies → bodies ≡ bytes
tests_same true true true true bytes bodies is = cc
tests_same true true true false bytes bodies is = absurd (cc)
tests_same true true false zeros bytes bodies is = absurd (cc)
tests_same true false next zeros bytes bodies is = absurd (cc)
tests_same false count next zeros bytes bodies is = absurd (cc)

-- a page that a check answers is the bytes
pub checked_same : (page : ℕ) (bytes bodies : List ℕ) → read_body_page page bytes ≡ Ok bodies → bodies ≡ bytes
checked_same page bytes bodies is =
    tests_same (eqb (page_number bytes) page) (leb (record_count bytes) BODIES_PER_PAGE) (eqb (page_next bytes) 0) (eqb (u64_at 24 bytes) 0) bytes bodies is

-- what was read of the record of body j on its page
pub record IsRead (bytes : List ℕ) (page j : ℕ) (body : Body) (kick : V3) : Type 0 where
  pub form : IsBodyPage page bytes
  pub within : j % BODIES_PER_PAGE < record_count bytes
  pub valid : IsBodyRecord (body_record (j % BODIES_PER_PAGE) bytes)
  pub body_is : body ≡ body_of (body_record (j % BODIES_PER_PAGE) bytes)
  pub kick_is : kick ≡ kick_of (body_record (j % BODIES_PER_PAGE) bytes)

-- a body whose record was read from its page
pub body_read : (view : ℕ → List ℕ) (bytes : List ℕ) (name : PageName) (file j : ℕ) (body : Body) (kick : V3)
    → name ≡ page_of_body file j → bytes ≡ page_of (view name.file) name.page
    → HasPage (view name.file) name.page → IsRead bytes name.page j body kick
    → IsBodyAt (view file) j body kick
body_read view bytes name file j body kick at is whole read =
    let here : bytes ≡ page_of (view file) (j / BODIES_PER_PAGE) = is ∙ ap (λ (n : PageName). page_of (view n.file) n.page) at in
    record {
      has = record {
        whole = subst (λ (n : PageName). HasPage (view n.file) n.page) at whole;
        form = subst (IsBodyPage (j / BODIES_PER_PAGE)) here (subst (λ (n : PageName). IsBodyPage n.page bytes) at read.form);
        within = subst (λ l. j % BODIES_PER_PAGE < record_count l) here read.within;
        body = subst (λ l. IsBodyRecord (body_record (j % BODIES_PER_PAGE) l)) here read.valid;
      };
      body_is = read.body_is ∙ ap (λ l. body_of (body_record (j % BODIES_PER_PAGE) l)) here;
      kick_is = read.kick_is ∙ ap (λ l. kick_of (body_record (j % BODIES_PER_PAGE) l)) here;
    }

-- a body whose record was not read from its page isn't there
pub body_missed : (view : ℕ → List ℕ) (bytes : List ℕ) (name : PageName) (file j : ℕ) → name ≡ page_of_body file j
    → bytes ≡ page_of (view name.file) name.page
    → (IsBodyPage name.page bytes → j % BODIES_PER_PAGE < record_count bytes → ¬ IsBodyRecord (body_record (j % BODIES_PER_PAGE) bytes))
    → ¬ HasBody (view file) j
body_missed view bytes name file j at is none has =
    let was : page_of (view file) (j / BODIES_PER_PAGE) ≡ bytes = sym (is ∙ ap (λ (n : PageName). page_of (view n.file) n.page) at) in
    none (subst (λ (n : PageName). IsBodyPage n.page bytes) (sym at) (subst (IsBodyPage (j / BODIES_PER_PAGE)) was has.form))
    (subst (λ l. j % BODIES_PER_PAGE < record_count l) was has.within)
    (subst (λ l. IsBodyRecord (body_record (j % BODIES_PER_PAGE) l)) was has.body)

-- ---- a file that holds a list

-- a number whose page and index on it are there is that of a body
number_below : (count j : ℕ) → j / BODIES_PER_PAGE < pages_for count → j % BODIES_PER_PAGE < count_on count (j / BODIES_PER_PAGE) → j < count
number_below count j page index = grind arith

whole_page : (page pages long : ℕ) → long ≡ page_start pages → page_start (page + 1) ≤ long → page < pages
whole_page page pages long is whole = omega arith

page_is_whole : (page pages long : ℕ) → long ≡ page_start pages → page < pages → page_start (page + 1) ≤ long
page_is_whole page pages long is within = omega arith

pub is_listed : (file : List ℕ) (bodies : List Body) (j : ℕ) → HoldsBodies file bodies → HasBody file j
    → j < length bodies
is_listed file bodies j holds has =
    let page = whole_page (j / BODIES_PER_PAGE) (pages_for (length bodies)) (length file) holds.whole has.whole in
    number_below (length bodies) j page (subst (λ n. j % BODIES_PER_PAGE < n) (holds.counts (j / BODIES_PER_PAGE) page) has.within)

-- the bodies that a file holds are its first bodies
pub held_first : (file : List ℕ) (bodies : List Body) → HoldsBodies file bodies → HasFirst file bodies
held_first file bodies holds = record {
  each = λ j below.
      let page = page_within (length bodies) j below in
      record {
        whole = page_is_whole (j / BODIES_PER_PAGE) (pages_for (length bodies)) (length file) holds.whole page;
        form = holds.pages (j / BODIES_PER_PAGE) page;
        within = subst (λ n. j % BODIES_PER_PAGE < n) (sym (holds.counts (j / BODIES_PER_PAGE) page)) (index_within (length bodies) j below);
        body = holds.records j below;
      };
  held = holds.held;
}

count_partial : (n : ℕ) → n % BODIES_PER_PAGE ≢ 0 → count_on n (n / BODIES_PER_PAGE) ≡ n % BODIES_PER_PAGE
count_partial n some = grind arith

page_partial : (n : ℕ) → n % BODIES_PER_PAGE ≢ 0 → n / BODIES_PER_PAGE < pages_for n
page_partial n some = omega arith

-- a file that holds so many bodies has room for one more behind them
pub held_room : (file : List ℕ) (bodies : List Body) (j : ℕ) → HoldsBodies file bodies → length bodies ≡ j → HasRoomFor file j
held_room file bodies j holds long = subst (HasRoomFor file) long (record {
  whole = λ some. page_is_whole (length bodies / BODIES_PER_PAGE) (pages_for (length bodies)) (length file) holds.whole (page_partial (length bodies) some);
  form = λ some. holds.pages (length bodies / BODIES_PER_PAGE) (page_partial (length bodies) some);
  count = λ some. holds.counts (length bodies / BODIES_PER_PAGE) (page_partial (length bodies) some) ∙ count_partial (length bodies) some;
})

-- ---- the first bodies of any file

pub first_of : List ℕ → ℕ → List Body
first_of file zero = []
first_of file (suc n) = first_of file n ++ body_of (record_of file n) ∷ []

pub length-first_of : (file : List ℕ) (n : ℕ) → length (first_of file n) ≡ n
unfolding first_of
length-first_of file zero = refl
length-first_of file (suc n) = omega (arith, length_push (first_of file n) (body_of (record_of file n)), length-first_of file n)

pub first_of-at : (file : List ℕ) (n j : ℕ) → j < n → slice_get (first_of file n) j ≡ Some (body_of (record_of file j))
unfolding first_of
first_of-at file zero j below = absurd (omega arith)
first_of-at file (suc n) j below =
    let long = length-first_of file n in
    elim (cases_lt j n) [
      | inl before ↦ pushed_before (first_of file n) (body_of (record_of file n)) j (omega arith) ∙ first_of-at file n j before
      | inr behind ↦
          let last : length (first_of file n) ≡ j = omega arith in
          let same : n ≡ j = omega arith in
          ap (slice_get (first_of file n ++ body_of (record_of file n) ∷ [])) (sym last)
          ∙ pushed_here (first_of file n) (body_of (record_of file n)) ∙ ap (λ i. Some (body_of (record_of file i))) same
    ]

pub has_first : (file : List ℕ) (n : ℕ) → ((j : ℕ) → j < n → HasBody file j) → HasFirst file (first_of file n)
has_first file n each =
    let long = length-first_of file n in
    record { each = λ j below. each j (omega arith); held = λ j below. first_of-at file n j (omega arith) }

-- ---- why a file can't be sorted

-- the bodies that a file holds can't fail it where their ids differ
pub never_unsortable : (rank : Body → ℕ) (number count : ℕ) (file : List ℕ) (name : PageName) (bodies : List Body)
    → IsUnsortable rank number count file name → HoldsBodies file bodies → length bodies ≡ count → HaveDifferentIds bodies → ⊥
never_unsortable rank number count file name bodies is holds long different =
    let first = held_first file bodies holds in
    let within : is.index < length bodies = omega (arith, is.below) in
    elim is.cause [
      | inl none ↦ none (first.each is.index within)
      | inr double ↦
          let body = body_of (record_of file is.index) in
          let earlier : double.earlier < length bodies = omega (arith, double.before) in
          different double.earlier is.index body double.before within
          (ap (λ (b : Body). b.id) (get_or_from_slice_get bodies double.earlier (body_of (record_of file double.earlier)) body (first.held double.earlier earlier))
          ∙ double.same_id
          ∙ ap (λ (b : Body). b.id) (sym (get_or_from_slice_get bodies is.index body body (first.held is.index within))))
    ]

-- ---- what a call says

-- where a file holds a list, a body of it was read
pub listed_body : (file : List ℕ) (bodies : List Body) (j : ℕ) (body : Body) (kick : V3) → IsBodyAt file j body kick → HoldsBodies file bodies
    → slice_get bodies j ≡ Some body
listed_body file bodies j body kick is holds = holds.held j (is_listed file bodies j holds is.has) ∙ ap Some (sym is.body_is)

pub listed_kick : (file : List ℕ) (kick_for : Body → V3) (bodies : List Body) (j : ℕ) (b body : Body) (kick : V3) → IsBodyAt file j body kick
    → HoldsKickedBodies file kick_for bodies → slice_get bodies j ≡ Some b → kick ≡ kick_for b
listed_kick file kick_for bodies j b body kick is holds at = is.kick_is ∙ holds.kicks j b at

pub no_body : {H : Type 0} {m : HostModel H} {cache : CacheValue} {host : H} {file index : ℕ} {name : PageName} → name ≡ page_of_body file index
    → (IsTrue m.tells → HasBody (seen m cache host file) index → ⊥) → IsNoBody m cache host file index name
no_body {m = m} {cache = cache} {host = host} {file = file} {index = index} page cause = record {
  page = page;
  cause = cause;
  listed = λ tells bodies holds. elim (cases_lt index (length bodies)) [
    | inl below ↦ let first = held_first (seen m cache host file) bodies holds in absurd (cause tells (first.each index below))
    | inr beyond ↦ beyond
  ];
}

-- a page that isn't whole has no body
pub no_body_short : {H : Type 0} {m : HostModel H} {cache : CacheValue} {host : H} {file index : ℕ} {name : PageName} (other : PageName)
    → other ≡ page_of_body file index → name ≡ other → (IsTrue m.tells → ¬ IsWhole cache (m.contents host) other)
    → IsNoBody m cache host file index name
no_body_short {m = m} {cache = cache} {host = host} other at same short =
    no_body (same ∙ at) (λ tells has. short tells (subst (IsWhole cache (m.contents host)) (sym at) has.whole))

pub no_room : {H : Type 0} {m : HostModel H} {cache : CacheValue} {host : H} {file index : ℕ} {name : PageName} → name ≡ page_of_body file index
    → (IsTrue m.tells → HasRoomFor (seen m cache host file) index → ⊥) → HasNoRoom m cache host file index name
no_room {m = m} {cache = cache} {host = host} {file = file} {index = index} page cause = record {
  page = page;
  cause = cause;
  listed = λ tells bodies holds long. cause tells (held_room (seen m cache host file) bodies index holds long);
}
