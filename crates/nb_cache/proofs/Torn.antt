-- What a cache shows over a file of which one page was written in part.
use Rattle.std.proofs.Common.{◌≡◌, ℕ, ◌+◌, ◌/◌, ◌<◌, ◌≤◌, max, ◌==◌, ◌&&◌, ◌⊎◌, inl, inr, Bool, true, false, if◌then◌else◌, List, [], ◌∷◌, length, slice_index, refl, sym, ap, subst, ◌∙◌, arith, Contains}
use Rattle.std.proofs.lemmas.Bool.Decides.{nat_tests}
use Rattle.std.proofs.lemmas.List.{ext_get_or}
use Rattle.lru.proofs.Splits.{Contains-head, Contains-tail, Contains-cons, Contains-nil}
use Rattle.nb_host.specs.Image.{Image, IsTorn}
use Rattle.nb_host.specs.Page.{HasPage, page_start}
use Rattle.nb_host.specs.declared.page_name.PageName.{PageName}
use Rattle.nb_host.specs.declared.page_name.TheConstants.{PAGE_SIZE}
use Rattle.nb_cache.specs.InStep.{IsCachedFile, IsCoherent}
use Rattle.nb_cache.specs.View.{Held, CacheValue, overlaid, view_of}
use Rattle.nb_cache.proofs.Overlays.{index_in, index_out, in_or_out, page_length, Whole}
use Rattle.nb_cache.proofs.Laying.{lies, whole_tail}

-- a page that waits covers this byte of the file
pub record Covers (file i : ℕ) (held : List Held) : Type 0 where
  pub page : Held
  pub there : Contains held page
  pub lies : lies file page ≡ true
  pub low : page_start page.name.page ≤ i
  pub high : i < page_start page.name.page + PAGE_SIZE

covers_tail : (file i : ℕ) (h : Held) (held : List Held) (one : Covers file i (h ∷ held))
    → (h ≡ one.page) ⊎ Covers file i held
covers_tail file i h held one = elim (Contains-cons h held one.page one.there) [
  | inl same ↦ inl same
  | inr there ↦ inr (record { page = one.page; there = there; lies = one.lies; low = one.low; high = one.high })
]

-- what is shown at a byte is the file's there, or a dirty page's
pub index_overlaid : (file i : ℕ) (held : List Held) (a b : List ℕ) → Whole held
    → (slice_index a i ≡ slice_index b i) ⊎ Covers file i held
    → slice_index (overlaid file held a) i ≡ slice_index (overlaid file held b) i
index_overlaid file i [] a b whole (inl same) = same
index_overlaid file i [] a b whole (inr one) = absurd (Contains-nil one.page one.there)
index_overlaid file i (h ∷ held) a b whole either = (elim (lies file h) as (λ y. lies file h ≡ y → slice_index (overlaid file (h ∷ held) a) i ≡ slice_index (overlaid file (h ∷ held) b) i) [
  | false ↦ λ none. rw none (index_overlaid file i held a b (whole_tail h held whole) (below none either))
  | true ↦ λ there. rw there (elim (in_or_out (page_start h.name.page) (length h.bytes) i) [
    | inl within ↦
        index_in (page_start h.name.page) h.bytes (overlaid file held a) i within.0 within.1
        ∙ sym (index_in (page_start h.name.page) h.bytes (overlaid file held b) i within.0 within.1)
    | inr out ↦
        index_out (page_start h.name.page) h.bytes (overlaid file held a) i out
        ∙ index_overlaid file i held a b (whole_tail h held whole) (beside out either)
        ∙ sym (index_out (page_start h.name.page) h.bytes (overlaid file held b) i out)
  ])
]) refl
  where
    below : lies file h ≡ false → (slice_index a i ≡ slice_index b i) ⊎ Covers file i (h ∷ held)
        → (slice_index a i ≡ slice_index b i) ⊎ Covers file i held
    below none (inl same) = inl same
    below none (inr one) = elim (covers_tail file i h held one) [
      | inl same ↦
          let two : false ≡ true = sym none ∙ ap (lies file) same ∙ one.lies in absurd (cc)
      | inr rest ↦ inr rest
    ]

    beside : (i < page_start h.name.page) ⊎ (page_start h.name.page + length h.bytes ≤ i)
        → (slice_index a i ≡ slice_index b i) ⊎ Covers file i (h ∷ held)
        → (slice_index a i ≡ slice_index b i) ⊎ Covers file i held
    beside out (inl same) = inl same
    beside out (inr one) = elim (covers_tail file i h held one) [
      | inl same ↦
          let full = whole h (Contains-head h held) in
          let start : page_start one.page.name.page ≡ page_start h.name.page =
          ap (λ (f : Held). page_start f.name.page) (sym same) in
          absurd (outside (page_start h.name.page) (length h.bytes) i out
          (subst (λ n. n ≤ i) start one.low)
          (subst (λ n. i < page_start h.name.page + n) (sym full) (subst (λ n. i < n + PAGE_SIZE) start one.high)))
      | inr rest ↦ inr rest
    ]
      where
        outside : (at len i : ℕ) → (i < at) ⊎ (at + len ≤ i) → at ≤ i → i < at + len → ⊥
        outside at len i (inl before) low high = omega arith
        outside at len i (inr after) low high = omega arith

-- where the last of the dirty pages of a file ends
abbrev pub reach : ℕ → List Held → ℕ
reach file [] = 0
reach file (h ∷ held) = if lies file h then max (reach file held) (page_start h.name.page + PAGE_SIZE) else reach file held

pub length_overlaid : (file : ℕ) (held : List Held) (bytes : List ℕ) → Whole held
    → length (overlaid file held bytes) ≡ max (length bytes) (reach file held)
length_overlaid file [] bytes whole = omega arith
length_overlaid file (h ∷ held) bytes whole = (elim (lies file h) as (λ y. lies file h ≡ y → length (overlaid file (h ∷ held) bytes) ≡ max (length bytes) (reach file (h ∷ held))) [
  | false ↦ λ none. rw none (length_overlaid file held bytes (whole_tail h held whole))
  | true ↦ λ there. rw there (
      let rest = length_overlaid file held bytes (whole_tail h held whole) in
      let last = page_length (page_start h.name.page) h.bytes (overlaid file held bytes) (whole h (Contains-head h held)) in
      omega (arith, rest, last)
      )
]) refl

-- it is a page's end
pub record Reaches (file i : ℕ) (held : List Held) : Type 0 where
  pub page : Held
  pub there : Contains held page
  pub lies : lies file page ≡ true
  pub within : i < page_start page.name.page + PAGE_SIZE

pub reaches : (file i : ℕ) (held : List Held) → i < reach file held → Reaches file i held
reaches file i [] less = absurd (omega arith)
reaches file i (h ∷ held) less = (elim (lies file h) as (λ y. lies file h ≡ y → Reaches file i (h ∷ held)) [
  | false ↦ λ none. more (reaches file i held (rw none at less))
  | true ↦ λ there. elim (either (reach file held) (page_start h.name.page + PAGE_SIZE) i (rw there at less)) [
    | inl rest ↦ more (reaches file i held rest)
    | inr here ↦ record { page = h; there = Contains-head h held; lies = there; within = here }
  ]
]) refl
  where
    more : Reaches file i held → Reaches file i (h ∷ held)
    more one = record {
      page = one.page;
      there = Contains-tail h held one.page one.there;
      lies = one.lies;
      within = one.within;
    }

    either : (a b i : ℕ) → i < max a b → (i < a) ⊎ (i < b)
    either a b i less = grind arith

-- it is no page's end before that
pub reach_least : (file : ℕ) (held : List Held) (h : Held) → Contains held h → lies file h ≡ true
    → page_start h.name.page + PAGE_SIZE ≤ reach file held
reach_least file [] h has there = absurd (Contains-nil h has)
reach_least file (g ∷ held) h has there = elim (Contains-cons g held h has) [
  | inl same ↦
      let is : lies file g ≡ true = ap (lies file) same ∙ there in
      let start : page_start g.name.page ≡ page_start h.name.page = ap (λ (f : Held). page_start f.name.page) same in
      rw is (omega (arith, start))
  | inr rest ↦ first g (reach_least file held h rest there)
]
  where
    first : (g : Held) → page_start h.name.page + PAGE_SIZE ≤ reach file held
        → page_start h.name.page + PAGE_SIZE ≤ reach file (g ∷ held)
    first g less = (elim (lies file g) as (λ y. lies file g ≡ y → page_start h.name.page + PAGE_SIZE ≤ reach file (g ∷ held)) [
      | false ↦ λ none. rw none less
      | true ↦ λ is. rw is (omega (arith, less))
    ]) refl

pub lies_of : (file : ℕ) (h : Held) → h.dirty ≡ true → h.name.file ≡ file → lies file h ≡ true
lies_of file h waits same = both h.dirty h.name.file file waits same
  where
    both : (w : Bool) (f file : ℕ) → w ≡ true → f ≡ file → (w && (f == file)) ≡ true
    both w f file waits same = grind (arith, nat_tests)

-- each byte that a cache shows is the file's, or a dirty page's
pub inside : (c : CacheValue) (image : Image) (file i : ℕ) → IsCachedFile file → Whole c.held → IsCoherent c image
    → i < length (view_of c image file) → (i < length (image.file file)) ⊎ Covers file i c.held
inside c image file i cached whole fits within = elim (below_or i (length (image.file file))) [
  | inl less ↦ inl less
  | inr past ↦
      let total = length_overlaid file c.held (image.file file) whole in
      let far : i < reach file c.held = omega (arith, total, within, past) in
      let last = reaches file i c.held far in
      let ends = reach_least file c.held last.page last.there last.lies in
      let page = i / PAGE_SIZE in
      let low : page_start page ≤ i = omega arith in
      let high : i < page_start (page + 1) = omega arith in
      let whole_there : HasPage (view_of c image file) page =
      omega (arith, total, ends, last.within, low, high, page_before page last.page.name.page i low last.within) in
      elim (fits.no_gap (record { file = file; page = page }) cached whole_there) [
        | inl has ↦ absurd (omega (arith, has, high, past))
        | inr waits ↦ inr (record {
          page = waits.page;
          there = waits.there;
          lies = lies_of file waits.page waits.dirty (ap (λ (n : PageName). n.file) waits.named);
          low = subst (λ (n : PageName). page_start n.page ≤ i) (sym waits.named) low;
          high = subst (λ (n : PageName). i < page_start n.page + PAGE_SIZE) (sym waits.named) (omega arith);
        })
      ]
]
  where
    below_or : (i n : ℕ) → (i < n) ⊎ (n ≤ i)
    below_or i n = grind arith

    page_before : (p q i : ℕ) → page_start p ≤ i → i < page_start q + PAGE_SIZE → p ≤ q
    page_before p q i low less = omega arith

-- What is shown after a page was written in part.
module _ (c : CacheValue) (image : Image) (k : PageName) (after : List ℕ) (cached : IsCachedFile k.file) (whole : Whole c.held) (fits : IsCoherent c image) (torn : IsTorn (page_start k.page) PAGE_SIZE (image.file k.file) after) where
  same_out : (i : ℕ) → i < length (view_of c image k.file)
      → (i < page_start k.page) ⊎ (page_start k.page + PAGE_SIZE ≤ i)
      → slice_index (overlaid k.file c.held after) i ≡ slice_index (view_of c image k.file) i
  same_out i within out =
      index_overlaid k.file i c.held after (image.file k.file) whole
      (elim (inside c image k.file i cached whole fits within) [
        | inl less ↦ inl (beside less out)
        | inr covers ↦ inr covers
      ])
    where
      beside : i < length (image.file k.file) → (i < page_start k.page) ⊎ (page_start k.page + PAGE_SIZE ≤ i)
          → slice_index after i ≡ slice_index (image.file k.file) i
      beside less (inl before) = torn.below i less before
      beside less (inr past) = torn.above i less past

  pub view_torn : IsTorn (page_start k.page) PAGE_SIZE (view_of c image k.file) (overlaid k.file c.held after)
  view_torn =
      let old = length_overlaid k.file c.held (image.file k.file) whole in
      let new = length_overlaid k.file c.held after whole in
      record {
        nothing = λ none. absurd (omega arith);
        no_shorter = omega (arith, old, new, torn.no_shorter);
        no_longer = omega (arith, old, new, torn.no_longer);
        below = λ i within before. same_out i within (inl before);
        above = λ i within past. same_out i within (inr past);
      }

  -- under a page that waits
  pub view_under : (h : Held) → Contains c.held h → h.name ≡ k → h.dirty ≡ true
      → overlaid k.file c.held after ≡ view_of c image k.file
  view_under h has named waits =
      let lies_there : lies k.file h ≡ true = lies_of k.file h waits (ap (λ (n : PageName). n.file) named) in
      let start : page_start h.name.page ≡ page_start k.page = ap (λ (n : PageName). page_start n.page) named in
      let least = reach_least k.file c.held h has lies_there in
      let old = length_overlaid k.file c.held (image.file k.file) whole in
      let new = length_overlaid k.file c.held after whole in
      let same : length (overlaid k.file c.held after) ≡ length (view_of c image k.file) =
      omega (arith, old, new, least, start, torn.no_shorter, torn.no_longer) in
      ext_get_or 0 (overlaid k.file c.held after) (view_of c image k.file) same
      (λ i within. elim (in_or_out (page_start k.page) PAGE_SIZE i) [
        | inl here ↦
            index_overlaid k.file i c.held after (image.file k.file) whole (inr (record {
              page = h;
              there = has;
              lies = lies_there;
              low = subst (λ n. n ≤ i) (sym start) here.0;
              high = subst (λ n. i < n + PAGE_SIZE) (sym start) here.1;
            }))
        | inr out ↦ same_out i (omega (arith, within, same)) out
      ])
