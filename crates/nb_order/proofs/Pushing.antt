-- A file of bodies with one body more.
use Rattle.std.proofs.Common.{◌≡◌, ◌≢◌, ℕ, ◌+◌, ◌/◌, ◌%◌, ◌<◌, ◌≤◌, List, [], ◌∷◌, ◌++◌, length, Some, inl, inr, refl, sym, ap, subst, ◌∙◌, arith}
use Rattle.std.specs.Prelude.{slice_get}
use Rattle.std.proofs.lemmas.Bool.{cases_lt, cases_eq}
use Rattle.std.proofs.lemmas.List.{length_push, length-append, length-take, length-drop, get_or_append_left, get_or_push}
use Rattle.std.proofs.lemmas.Option.{slice_get-get_or, slice_get_within, same_Some}
use Rattle.nb_model.specs.declared.body.V3.{V3}
use Rattle.nb_model.specs.declared.body.Body.{Body}
use Rattle.nb_host.specs.declared.page_name.TheConstants.{PAGE_SIZE}
use Rattle.nb_host.specs.Page.{page_start, page_of, HasPage}
use Rattle.nb_host.specs.Image.{IsTorn, overwritten, readable}
use Rattle.nb_host.proofs.Callers.{overwritten_is_torn, overwritten-within, readable-overwritten, readable-torn_after}
use Rattle.nb_record.specs.Order.{pages_for, count_on, record_of, HoldsBodies}
use Rattle.nb_record.specs.declared.sizes.TheConstants.{BODIES_PER_PAGE, BODY_SIZE}
use Rattle.nb_record.specs.Pages.{page_number, record_count, IsBodyPage}
use Rattle.nb_record.specs.Records.{body_record, body_of, kick_of, bodies_of, IsBodyRecord}
use Rattle.nb_record.specs.Writing.{IsZeroPadded, IsZeroPaddedFile}
use Rattle.nb_record.proofs.Callers.{length-bodies_of, body_at}
use Rattle.nb_order.specs.Files.{IsPushed}
use Rattle.nb_order.specs.Indexes.{HasKicks}

-- The page of body j with this body, and this kick, as its last one. The page's other records are those of the file.
pub record IsNextPage (file : List ℕ) (j : ℕ) (page : List ℕ) (body : Body) (kick : V3) : Type 0 where
  pub size : length page ≡ PAGE_SIZE
  pub form : IsBodyPage (j / BODIES_PER_PAGE) page
  pub count : record_count page ≡ j % BODIES_PER_PAGE + 1
  pub kept : (i : ℕ) → i < j % BODIES_PER_PAGE → body_record i page ≡ body_record i (page_of file (j / BODIES_PER_PAGE))
  pub valid : IsBodyRecord (body_record (j % BODIES_PER_PAGE) page)
  pub says : body_of (body_record (j % BODIES_PER_PAGE) page) ≡ body
  pub kicked : kick_of (body_record (j % BODIES_PER_PAGE) page) ≡ kick
  pub padded : IsZeroPaddedFile BODY_SIZE file → IsZeroPadded BODY_SIZE page

-- ---- a page written at the end of a file

module _ (p : ℕ) (page file : List ℕ) (size : length page ≡ PAGE_SIZE) (from : page_start p ≤ length file) where
  abbrev grown : List ℕ
  grown = overwritten (page_start p) page file

  page_below : (q : ℕ) → q < p → page_of grown q ≡ page_of file q
  page_below q below =
      let torn = subst (λ n. IsTorn (page_start p) n file grown) size (overwritten_is_torn (page_start p) page file) in
      readable-torn_after (page_start q) PAGE_SIZE torn (omega arith) (omega arith)

  page_here : page_of grown p ≡ page
  page_here = ap (λ n. readable (page_start p) n grown) (sym size) ∙ readable-overwritten (page_start p) page file

  length-grown : length file ≤ page_start (p + 1) → length grown ≡ page_start (p + 1)
  length-grown to =
      ap (λ l. length l) (overwritten-within (page_start p) page file (omega arith))
      ∙ omega (arith, length-append {A = ℕ}, length-take {A = ℕ}, length-drop {A = ℕ})

-- ---- the count of a file's bodies

-- the whole pages before the one of the next body, and that one
full_pages : (count long : ℕ) → long ≡ page_start (pages_for count) → page_start (count / BODIES_PER_PAGE) ≤ long
full_pages count long is = omega arith

no_more_pages : (count long : ℕ) → long ≡ page_start (pages_for count) → long ≤ page_start (count / BODIES_PER_PAGE + 1)
no_more_pages count long is = omega arith

pages_more : (count : ℕ) → pages_for (count + 1) ≡ count / BODIES_PER_PAGE + 1
pages_more count = omega arith

before_last : (count p : ℕ) → p < count / BODIES_PER_PAGE → p < pages_for count
before_last count p before = omega arith

count_before : (count p : ℕ) → p < count / BODIES_PER_PAGE → count_on (count + 1) p ≡ count_on count p
count_before count p before = grind arith

count_last : (count : ℕ) → count_on (count + 1) (count / BODIES_PER_PAGE) ≡ count % BODIES_PER_PAGE + 1
count_last count = grind arith

same_page_below : (count j : ℕ) → j < count → j / BODIES_PER_PAGE ≡ count / BODIES_PER_PAGE → j % BODIES_PER_PAGE < count % BODIES_PER_PAGE
same_page_below count j below same = omega arith

page_at_most : (count j : ℕ) → j < count → j / BODIES_PER_PAGE ≤ count / BODIES_PER_PAGE
page_at_most count j below = omega arith

-- ---- one body more

pub pushed_before : (bodies : List Body) (body : Body) (j : ℕ) → j < length bodies
    → slice_get (bodies ++ body ∷ []) j ≡ slice_get bodies j
pushed_before bodies body j before =
    slice_get-get_or (bodies ++ body ∷ []) j body (omega (arith, length_push bodies body))
    ∙ ap Some (get_or_append_left bodies (body ∷ []) body j before) ∙ sym (slice_get-get_or bodies j body before)

pub pushed_here : (bodies : List Body) (body : Body) → slice_get (bodies ++ body ∷ []) (length bodies) ≡ Some body
pushed_here bodies body =
    slice_get-get_or (bodies ++ body ∷ []) (length bodies) body (omega (arith, length_push bodies body))
    ∙ ap Some (get_or_push bodies body body (length bodies) refl)

module _ (file page : List ℕ) (bodies : List Body) (body : Body) (kick : V3) (holds : HoldsBodies file bodies)
    (next : IsNextPage file (length bodies) page body kick) where
  abbrev count : ℕ
  count = length bodies

  abbrev new_file : List ℕ
  new_file = overwritten (page_start (count / BODIES_PER_PAGE)) page file

  full : page_start (count / BODIES_PER_PAGE) ≤ length file
  full = full_pages count (length file) holds.whole

  below : (p : ℕ) → p < count / BODIES_PER_PAGE → page_of new_file p ≡ page_of file p
  below = page_below (count / BODIES_PER_PAGE) page file next.size full

  here : page_of new_file (count / BODIES_PER_PAGE) ≡ page
  here = page_here (count / BODIES_PER_PAGE) page file next.size full

  record_stays : (j : ℕ) → j < count → record_of new_file j ≡ record_of file j
  record_stays j before = elim (cases_lt (j / BODIES_PER_PAGE) (count / BODIES_PER_PAGE)) [
    | inl earlier ↦ ap (body_record (j % BODIES_PER_PAGE)) (below (j / BODIES_PER_PAGE) earlier)
    | inr not_earlier ↦
        let same : j / BODIES_PER_PAGE ≡ count / BODIES_PER_PAGE = omega (arith, page_at_most count j before) in
        ap (λ p. body_record (j % BODIES_PER_PAGE) (page_of new_file p)) same ∙ ap (body_record (j % BODIES_PER_PAGE)) here
        ∙ next.kept (j % BODIES_PER_PAGE) (same_page_below count j before same)
        ∙ ap (λ p. body_record (j % BODIES_PER_PAGE) (page_of file p)) (sym same)
  ]

  record_here : record_of new_file count ≡ body_record (count % BODIES_PER_PAGE) page
  record_here = ap (body_record (count % BODIES_PER_PAGE)) here

  form_of : (p : ℕ) → p < count / BODIES_PER_PAGE + 1 → IsBodyPage p (page_of new_file p)
  form_of p within = elim (cases_lt p (count / BODIES_PER_PAGE)) [
    | inl earlier ↦ subst (IsBodyPage p) (sym (below p earlier)) (holds.pages p (before_last count p earlier))
    | inr not_earlier ↦
        let last : count / BODIES_PER_PAGE ≡ p = omega arith in
        subst (λ q. IsBodyPage q (page_of new_file q)) last (subst (IsBodyPage (count / BODIES_PER_PAGE)) (sym here) next.form)
  ]

  count_of : (p : ℕ) → p < count / BODIES_PER_PAGE + 1 → record_count (page_of new_file p) ≡ count_on (count + 1) p
  count_of p within = elim (cases_lt p (count / BODIES_PER_PAGE)) [
    | inl earlier ↦
        ap record_count (below p earlier) ∙ holds.counts p (before_last count p earlier)
        ∙ sym (count_before count p earlier)
    | inr not_earlier ↦
        let last : count / BODIES_PER_PAGE ≡ p = omega arith in
        subst (λ q. record_count (page_of new_file q) ≡ count_on (count + 1) q) last
        (ap record_count here ∙ next.count ∙ sym (count_last count))
  ]

  record_of_one : (j : ℕ) → j < count + 1 → IsBodyRecord (record_of new_file j)
  record_of_one j within = elim (cases_lt j count) [
    | inl before ↦ subst IsBodyRecord (sym (record_stays j before)) (holds.records j before)
    | inr not_before ↦
        let last : count ≡ j = omega arith in
        subst (λ i. IsBodyRecord (record_of new_file i)) last (subst IsBodyRecord (sym record_here) next.valid)
  ]

  body_of_one : (j : ℕ) → j < count + 1 → slice_get (bodies ++ body ∷ []) j ≡ Some (body_of (record_of new_file j))
  body_of_one j within = elim (cases_lt j count) [
    | inl before ↦
        pushed_before bodies body j before ∙ holds.held j before
        ∙ ap (λ r. Some (body_of r)) (sym (record_stays j before))
    | inr not_before ↦
        let last : count ≡ j = omega arith in
        subst (λ i. slice_get (bodies ++ body ∷ []) i ≡ Some (body_of (record_of new_file i))) last
        (pushed_here bodies body ∙ ap Some (sym next.says) ∙ ap (λ r. Some (body_of r)) (sym record_here))
  ]

  holds_more : HoldsBodies new_file (bodies ++ body ∷ [])
  holds_more =
      let more : length (bodies ++ body ∷ []) ≡ count + 1 = length_push bodies body in
      let pages : pages_for (length (bodies ++ body ∷ [])) ≡ count / BODIES_PER_PAGE + 1 = ap pages_for more ∙ pages_more count in
      record {
        whole =
            length-grown (count / BODIES_PER_PAGE) page file next.size full (no_more_pages count (length file) holds.whole)
            ∙ ap (λ n. page_start n) (sym pages);
        pages = λ p within. form_of p (subst (λ n. p < n) pages within);
        counts = λ p within. count_of p (subst (λ n. p < n) pages within) ∙ ap (λ n. count_on n p) (sym more);
        records = λ j within. record_of_one j (subst (λ n. j < n) more within);
        held = λ j within. body_of_one j (subst (λ n. j < n) more within);
      }

  padded_more : IsZeroPaddedFile BODY_SIZE file → IsZeroPaddedFile BODY_SIZE new_file
  padded_more padded p has =
      let long = length-grown (count / BODIES_PER_PAGE) page file next.size full (no_more_pages count (length file) holds.whole) in
      elim (cases_lt p (count / BODIES_PER_PAGE)) [
        | inl earlier ↦ subst (IsZeroPadded BODY_SIZE) (sym (below p earlier)) (padded p (omega (arith, full)))
        | inr not_earlier ↦
            let last : count / BODIES_PER_PAGE ≡ p = omega (arith, long) in
            subst (λ q. IsZeroPadded BODY_SIZE (page_of new_file q)) last (subst (IsZeroPadded BODY_SIZE) (sym here) (next.padded padded))
      ]

  pushed : IsPushed bodies body kick file new_file
  pushed = record { holds = holds_more; records = record_stays; last = ap kick_of record_here ∙ next.kicked; padded = padded_more }

-- the file that such a page was put into
pub body_pushed : (file page new : List ℕ) (bodies : List Body) (body : Body) (kick : V3) (j : ℕ) → HoldsBodies file bodies
    → length bodies ≡ j → IsNextPage file j page body kick → new ≡ overwritten (page_start (j / BODIES_PER_PAGE)) page file
    → IsPushed bodies body kick file new
body_pushed file page new bodies body kick j holds long next written =
    let last : IsNextPage file (length bodies) page body kick = subst (λ n. IsNextPage file n page body kick) (sym long) next in
    subst (λ f. IsPushed bodies body kick file f)
    (ap (λ n. overwritten (page_start (n / BODIES_PER_PAGE)) page file) long ∙ sym written)
    (pushed file page bodies body kick holds last)

-- The page to which body j is to be added: a new one, or the file's.
pub record IsOpened (file : List ℕ) (j : ℕ) (page : List ℕ) : Type 0 where
  pub form : IsBodyPage (j / BODIES_PER_PAGE) page
  pub count : record_count page ≡ j % BODIES_PER_PAGE
  pub read : j % BODIES_PER_PAGE ≢ 0 → page ≡ page_of file (j / BODIES_PER_PAGE)
  pub whole : j % BODIES_PER_PAGE ≢ 0 → HasPage file (j / BODIES_PER_PAGE)
  pub fresh : j % BODIES_PER_PAGE ≡ 0 → IsZeroPadded BODY_SIZE page

-- one page is the other with one record more
pub record IsAdded (old new : List ℕ) (body : Body) (kick : V3) : Type 0 where
  pub size : length new ≡ PAGE_SIZE
  pub number : page_number new ≡ page_number old
  pub form : IsBodyPage (page_number new) new
  pub count : record_count new ≡ record_count old + 1
  pub kept : (i : ℕ) → i < record_count old → body_record i new ≡ body_record i old
  pub valid : IsBodyRecord (body_record (record_count old) new)
  pub bodies : bodies_of new ≡ bodies_of old ++ body ∷ []
  pub kicked : kick_of (body_record (record_count old) new) ≡ kick
  pub padded : IsZeroPadded BODY_SIZE old → IsZeroPadded BODY_SIZE new

-- the whole page behind full ones of a file that has so many bodies
pub last_page : (file : List ℕ) (bodies : List Body) → HoldsBodies file bodies → length bodies % BODIES_PER_PAGE ≢ 0
    → HasPage file (length bodies / BODIES_PER_PAGE)
last_page file bodies holds some = last_within (length bodies) (length file) holds.whole some where
  last_within : (count long : ℕ) → long ≡ page_start (pages_for count) → count % BODIES_PER_PAGE ≢ 0 → page_start (count / BODIES_PER_PAGE + 1) ≤ long
  last_within count long is part = omega arith

-- the page with one record more is the next page
pub next_page : (file old new : List ℕ) (j : ℕ) (body : Body) (kick : V3) → IsOpened file j old → IsAdded old new body kick → IsNextPage file j new body kick
next_page file old new j body kick was is = record {
  size = is.size;
  form = subst (λ p. IsBodyPage p new) (is.number ∙ was.form.number) is.form;
  count = is.count ∙ ap (λ n. n + 1) was.count;
  kept = λ i before.
      is.kept i (subst (λ n. i < n) (sym was.count) before) ∙ ap (body_record i) (was.read (λ none. omega arith));
  valid = subst (λ n. IsBodyRecord (body_record n new)) was.count is.valid;
  says =
      let count = was.count in
      let more = is.count in
      let there : Some (body_of (body_record (j % BODIES_PER_PAGE) new)) ≡ Some body =
      sym (body_at new (j % BODIES_PER_PAGE) (omega arith)) ∙ ap (λ l. slice_get l (j % BODIES_PER_PAGE)) is.bodies
      ∙ ap (λ n. slice_get (bodies_of old ++ body ∷ []) n) (sym (length-bodies_of old ∙ count))
      ∙ pushed_here (bodies_of old) body in
      (cc);
  kicked = subst (λ n. kick_of (body_record n new) ≡ kick) was.count is.kicked;
  padded = λ padded. is.padded (elim (cases_eq (j % BODIES_PER_PAGE) 0) [
    | inl first ↦ was.fresh first
    | inr later ↦ subst (IsZeroPadded BODY_SIZE) (sym (was.read later)) (padded (j / BODIES_PER_PAGE) (was.whole later))
  ]);
}

-- the kicks of one body more
pub kicks_pushed : (file after : List ℕ) (bodies : List Body) (body : Body) (own : V3) (kick : Body → V3) → HasKicks file kick bodies → own ≡ kick body
    → IsPushed bodies body own file after → HasKicks after kick (bodies ++ body ∷ [])
kicks_pushed file after bodies body own kick has is pushed j b at =
    elim (cases_lt j (length bodies)) [
      | inl before ↦ ap kick_of (pushed.records j before) ∙ has j b (sym (pushed_before bodies body j before) ∙ at)
      | inr behind ↦
          let within = slice_get_within (bodies ++ body ∷ []) j b at in
          let last : length bodies ≡ j = omega (arith, length_push bodies body) in
          let same : body ≡ b = same_Some body b (sym (pushed_here bodies body) ∙ ap (slice_get (bodies ++ body ∷ [])) last ∙ at) in
          ap (λ i. kick_of (record_of after i)) (sym last) ∙ pushed.last ∙ is ∙ ap kick same
    ]
