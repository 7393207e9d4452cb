-- The pages that a window shows, and those that a fetch makes resident.
use Rattle.std.proofs.Common.{◌≡◌, ℕ, zero, suc, ◌-◌, ◌<◌, ◌≤◌, List, [], ◌∷◌, ◌++◌, length, take, reverse, Some, None, refl, sym, ap, subst, ◌∙◌, arith, length-take, length-append}
use Rattle.std.specs.Prelude.{◌≢◌, All, Contains, get_or}
use Rattle.std.specs.List.{AllByRecursion}
use Rattle.std.proofs.lemmas.List.{length-reverse, get_or-reverse, get_or-take, get_or_append_left}
use Rattle.std.proofs.lemmas.List.Elements.{All-take, recursion_from_All}
use Rattle.nb_host.specs.Image.{Image}
use Rattle.nb_host.specs.Page.{IsRising, IsBefore, page_of}
use Rattle.nb_host.specs.declared.page_name.PageName.{PageName}
use Rattle.nb_host.specs.declared.page_name.TheConstants.{PAGE_SIZE}
use Rattle.nb_cache.specs.InStep.{IsCacheable, IsCoherent}
use Rattle.nb_cache.specs.Names.{used, without}
use Rattle.nb_cache.specs.View.{CacheValue, names_of, resident_bytes, view_of}
use Rattle.nb_record.specs.declared.tree.Tree.{Tree}
use Rattle.nb_walk.specs.Page.{IsShown}
use Rattle.nb_walk.specs.Shown.{Shows}
use Rattle.nb_force.specs.Rounds.{shown_of, HasOneOf}

-- ---- a window

module _ (cache : CacheValue) (tree : Tree) where
  pub window_shows : (image : Image)
      → ((i : Image) (name : PageName) (bytes : List ℕ) → IsCoherent cache i → resident_bytes cache.held name ≡ Some bytes
      → (bytes ≡ page_of (view_of cache i name.file) name.page) × (length bytes ≡ PAGE_SIZE))
      → IsCoherent cache image → Shows (shown_of cache tree.cells) (shown_of cache tree.bodies) tree (view_of cache image)
  window_shows image all fits = record {
    cell = λ page bytes is. (all image (record { file = tree.cells; page = page }) bytes fits is).0;
    body = λ page bytes is. (all image (record { file = tree.bodies; page = page }) bytes fits is).0;
  }

  pub window_shown : (name : PageName) → resident_bytes cache.held name ≢ None → IsShown (shown_of cache tree.cells) (shown_of cache tree.bodies) tree name
  window_shown name some = record {
    as_cells = λ file. subst (λ f. resident_bytes cache.held (record { file = f; page = name.page }) ≢ None) file some;
    as_bodies = λ file. subst (λ f. resident_bytes cache.held (record { file = f; page = name.page }) ≢ None) file some;
  }

-- ---- the first names

all_taken : {X : Type 0} (P : X → Type 0) (n : ℕ) (xs : List X) → AllByRecursion P xs → AllByRecursion P (take n xs)
all_taken P zero xs all = tt
all_taken P (suc n) [] all = tt
all_taken P (suc n) (x ∷ xs) all = (all.0, all_taken P n xs all.1)

pub rising_taken : (n : ℕ) (names : List PageName) → IsRising names → IsRising (take n names)
rising_taken zero names rising = tt
rising_taken (suc n) [] rising = tt
rising_taken (suc n) (name ∷ names) rising = (all_taken (IsBefore name) n names rising.0, rising_taken n names rising.1)

pub cacheable_taken : (n : ℕ) (names : List PageName) → All IsCacheable names → AllByRecursion IsCacheable (take n names)
cacheable_taken n names all = recursion_from_All IsCacheable (take n names) (All-take IsCacheable n names all)

-- ---- a fetch

kept_taken : (n : ℕ) (xs : List PageName) (k : ℕ) (x : PageName) → k < n → k < length xs → get_or xs k x ≡ x → Contains (take n xs) x
kept_taken n xs k x within below is =
    (k, omega (arith, length-take n xs), get_or-take n xs k x within ∙ is)

used_last : (pages : ℕ) (x : PageName) (xs : List PageName) (old : List PageName) → length (x ∷ xs) ≤ pages → Contains (used pages (x ∷ xs) old) x
used_last pages x xs old few =
    let names = x ∷ xs in
    let k = length xs in
    let back : length names - 1 - k ≡ 0 = omega arith in
    let at : get_or (reverse names) k x ≡ x = get_or-reverse names k x (omega arith) ∙ ap (λ i. get_or names i x) back in
    kept_taken pages (reverse names ++ without names old) k x (omega arith)
    (omega (arith, length-append (reverse names) (without names old), length-reverse names))
    (get_or_append_left (reverse names) (without names old) x k (omega (arith, length-reverse names)) ∙ at)

pub one_resident : (wants : List PageName) (count pages : ℕ) (old : List PageName) (new : CacheValue) → 1 ≤ length wants → 1 ≤ count → length (take count wants) ≤ pages
    → names_of new ≡ used pages (take count wants) old → HasOneOf wants new
one_resident [] count pages old new some least few is = absurd (omega arith)
one_resident (w ∷ ws) zero pages old new some least few is = absurd (omega arith)
one_resident (w ∷ ws) (suc n) pages old new some least few is = record {
  name = w;
  there = (0, omega arith, refl);
  resident = subst (λ l. Contains l w) (sym is) (used_last pages w (take n ws) old few);
}
