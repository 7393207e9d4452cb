-- The resident pages as a contract sees them, from the pairs of the map.
use Rattle.std.proofs.Common.{◌≡◌, ◌≢◌, ℕ, zero, suc, inl, inr, Bool, true, false, cond, if◌then◌else◌, Some, List, [], ◌∷◌, length, take, refl, sym, ap, subst, ◌∙◌, arith, Contains}
use Rattle.std.specs.List.{AllByRecursion, IsDistinct}
use Rattle.std.specs.Map.{keys_of, lookup, set_value}
use Rattle.std.proofs.lemmas.Map.Entries.{length-keys_of}
use Rattle.std.proofs.lemmas.Map.Keys.{IsDistinct-head, IsDistinct-tail}
use Rattle.nb_host.specs.declared.page_name.PageName.{PageName}
use Rattle.nb_host.specs.declared.page_name.TheConstants.{PAGE_SIZE}
use Rattle.lru.specs.LruCache.{IsValid, lru_cache}
use Rattle.lru.proofs.CallerLemmas.{Contains-take}
use Rattle.lru.proofs.Splits.{Contains-head, Contains-tail, Contains-cons, Contains-nil}
use Rattle.nb_host.specs.Page.{same_page}
use Rattle.nb_cache.specs.Stock.{Stock, held_of}
use Rattle.nb_cache.specs.InStep.{IsCacheable}
use Rattle.nb_cache.specs.Names.{held_without, cleaned_page, with_clean}
use Rattle.nb_cache.specs.Sound.{AreResident}
use Rattle.nb_cache.specs.View.{Held, CacheValue, held_names}
use Rattle.nb_cache.specs.declared.frame.Frame.{Frame}
use Rattle.nb_host.proofs.Callers.{same_page_eq}
use Rattle.nb_cache.proofs.Pages.{others}

abbrev pub stock_of : List (PageName × Frame) → ℕ → ℕ → ℕ → Stock
stock_of es cap spare room = record { pages = cap; held = held_of es; spare = spare; room = room }

-- a cache, from its frames and its marks
abbrev pub cache_of : Stock → List ℕ → CacheValue
cache_of s unwritten = record { pages = s.pages; held = s.held; unwritten = unwritten }

abbrev pub held : PageName × Frame → Held
held e = record { name = e.0; bytes = e.1.bytes.items; dirty = e.1.dirty }

pub names_of-held : (es : List (PageName × Frame)) → held_names (held_of es) ≡ keys_of es
names_of-held [] = refl
names_of-held (e ∷ es) = ap (λ l. e.0 ∷ l) (names_of-held es)

-- a resident page is one of the pairs
pub Contains-held : (es : List (PageName × Frame)) (h : Held) → Contains (held_of es) h
    → (e : PageName × Frame) × Contains es e × (held e ≡ h)
Contains-held [] h has = absurd (Contains-nil h has)
Contains-held (e ∷ es) h has = elim (Contains-cons (held e) (held_of es) h has) [
  | inl same ↦ (e, Contains-head e es, same)
  | inr there ↦ let one = Contains-held es h there in (one.0, Contains-tail e es one.0 one.1, one.2)
]

pub Contains-to_held : (es : List (PageName × Frame)) (e : PageName × Frame) → Contains es e
    → Contains (held_of es) (held e)
Contains-to_held [] e has = absurd (Contains-nil e has)
Contains-to_held (f ∷ es) e has = elim (Contains-cons f es e has) [
  | inl same ↦ subst (λ g. Contains (held_of (f ∷ es)) (held g)) same (Contains-head (held f) (held_of es))
  | inr there ↦ Contains-tail (held f) (held_of es) (held e) (Contains-to_held es e there)
]

-- pairs that are among others stay so
pub Contains-held_more : (few more : List (PageName × Frame))
    → ((e : PageName × Frame) → Contains few e → Contains more e)
    → (h : Held) → Contains (held_of few) h → Contains (held_of more) h
Contains-held_more few more within h has =
    let one = Contains-held few h has in
    subst (Contains (held_of more)) one.2 (Contains-to_held more one.0 (within one.0 one.1))

-- the resident pages without one, and the first of them
pub held_of-others : (k : PageName) (es : List (PageName × Frame)) → held_of (others k es) ≡ held_without k (held_of es)
held_of-others k [] = refl
held_of-others k (e ∷ es) = (elim (same_page k e.0) as (λ y. same_page k e.0 ≡ y → held_of (others k (e ∷ es)) ≡ held_without k (held_of (e ∷ es))) [
  | true ↦ λ here. rw here (held_of-others k es)
  | false ↦ λ here. rw here (ap (λ l. held e ∷ l) (held_of-others k es))
]) refl

pub held_of-take : (n : ℕ) (es : List (PageName × Frame)) → held_of (take n es) ≡ take n (held_of es)
held_of-take zero es = refl
held_of-take (suc n) [] = refl
held_of-take (suc n) (e ∷ es) = ap (λ l. held e ∷ l) (held_of-take n es)

-- a page that no longer waits
pub held_of-with_clean : (k : PageName) (es : List (PageName × Frame)) (frame after : Frame)
    → IsDistinct same_page (keys_of es) → lookup (same_page k) es ≡ Some frame
    → after.bytes.items ≡ frame.bytes.items
    → after.dirty ≡ false → held_of (set_value (same_page k) es after) ≡ with_clean k (held_of es)
held_of-with_clean k [] frame after distinct there bytes rests = refl
held_of-with_clean k (e ∷ es) frame after distinct there bytes rests = (elim (same_page k e.0) as (λ y. same_page k e.0 ≡ y → held_of (set_value (same_page k) (e ∷ es) after) ≡ with_clean k (held_of (e ∷ es))) [
  | true ↦ λ here.
      let same : Some e.1 ≡ Some frame = rw here at there in
      let is : e.1 ≡ frame = (cc) in
      let apart : AllByRecursion (λ y. same_page k y ≡ false) (keys_of es) =
      subst (λ n. AllByRecursion (λ y. same_page n y ≡ false) (keys_of es)) (sym (same_page_eq k e.0 here))
      (IsDistinct-head same_page e.0 (keys_of es) distinct) in
      ap (λ b. held_of (cond b ((e.0, after) ∷ es) (e ∷ set_value (same_page k) es after))) here
      ∙ ap (λ (h : Held). h ∷ held_of es) (made e.0 after.bytes.items e.1.bytes.items after.dirty (bytes ∙ ap (λ (f : Frame). f.bytes.items) (sym is)) rests)
      ∙ ap (λ l. cleaned_page (held e) ∷ l) (sym (settled_lacking k es apart))
      ∙ sym (ap (λ (b : Bool). (if b then cleaned_page (held e) else held e) ∷ with_clean k (held_of es)) here)
  | false ↦ λ other.
      ap (λ b. held_of (cond b ((e.0, after) ∷ es) (e ∷ set_value (same_page k) es after))) other
      ∙ ap (λ l. held e ∷ l) (held_of-with_clean k es frame after (IsDistinct-tail same_page e.0 (keys_of es) distinct)
      (rw other at there) bytes rests)
      ∙ sym (ap (λ (b : Bool). (if b then cleaned_page (held e) else held e) ∷ with_clean k (held_of es)) other)
]) refl
  where
    page : PageName → List ℕ → Bool → Held
    page name bytes waits = record { name = name; bytes = bytes; dirty = waits }

    made : (name : PageName) (a b : List ℕ) (w : Bool) → a ≡ b → w ≡ false → page name a w ≡ page name b false
    made name a b w same rests = ap (page name a) rests ∙ ap (λ l. page name l false) same

    settled_lacking : (k : PageName) (es : List (PageName × Frame)) → AllByRecursion (λ y. same_page k y ≡ false) (keys_of es)
        → with_clean k (held_of es) ≡ held_of es
    settled_lacking k [] apart = refl
    settled_lacking k (e ∷ es) apart =
        ap (λ (b : Bool). (if b then cleaned_page (held e) else held e) ∷ with_clean k (held_of es)) apart.0
        ∙ ap (λ l. held e ∷ l) (settled_lacking k es apart.1)

pub sound : (es : List (PageName × Frame)) (cap : ℕ) → IsValid same_page (lru_cache es cap)
    → ((h : Held) → Contains (held_of es) h → IsCacheable h.name) → AreResident cap (held_of es)
sound es cap valid places = record {
  distinct = subst (IsDistinct same_page) (sym (names_of-held es)) valid.0;
  bound = omega (arith, ap (λ l. length l) (names_of-held es), length-keys_of es, valid.1);
  positive = valid.2;
  whole = λ h has. let one = Contains-held es h has in
      subst (λ (g : Held). length g.bytes ≡ PAGE_SIZE) one.2 one.0.1.whole;
  places = places;
}
