-- Names of pages, and the pairs of a map by name without the pairs of one name.
use Rattle.std.proofs.Common.{◌≡◌, ℕ, zero, suc, ◌-◌, ◌<◌, ◌≤◌, true, false, not, List, [], ◌∷◌, length, take, Option, Some, None, refl, sym, ap, subst, ◌∙◌, arith}
use Rattle.std.proofs.lemmas.List.{take_all}
use Rattle.std.proofs.lemmas.Map.Entries.{length-keys_of}
use Rattle.std.proofs.lemmas.Map.Keys.{IsDistinct-head, IsDistinct-tail}
use Rattle.std.specs.List.{AllByRecursion, filter, IsDistinct}
use Rattle.std.specs.Map.{keys_of, lookup_entry, remove_entry}
use Rattle.nb_host.specs.declared.page_name.PageName.{PageName}
use Rattle.nb_host.proofs.Callers.{same_page_eq}
use Rattle.lru.specs.LruCache.{lru_cache, put_entries, promoted}
use Rattle.lru.proofs.CallerLemmas.{Contains-lookup_entry}
use Rattle.nb_host.specs.Page.{same_page}
use Rattle.nb_cache.specs.Names.{without, used}

pub take_cons : {X : Type 0} (n : ℕ) (x : X) (xs : List X) → 0 < n → take n (x ∷ xs) ≡ x ∷ take (n - 1) xs
take_cons zero x xs positive = absurd (omega arith)
take_cons (suc n) x xs positive = let one : suc n - 1 ≡ n = omega arith in rw one refl

module _ {V : Type 0} where
  -- the pairs of the other names, in their order
  abbrev pub others : PageName → List (PageName × V) → List (PageName × V)
  others k es = filter (λ e. not (same_page k e.0)) es

  pub others_all : (k : PageName) (es : List (PageName × V))
      → AllByRecursion (λ y. same_page k y ≡ false) (keys_of es) → others k es ≡ es
  others_all k [] apart = refl
  others_all k (e ∷ es) apart = rw apart.0 (ap (λ l. e ∷ l) (others_all k es apart.1))

  -- where the names are distinct, the first pair of a name is the only one
  pub remove_entry-others : (k : PageName) (es : List (PageName × V)) → IsDistinct same_page (keys_of es)
      → remove_entry (same_page k) es ≡ others k es
  remove_entry-others k [] distinct = refl
  remove_entry-others k (e ∷ es) distinct = (elim (same_page k e.0) as (λ y. same_page k e.0 ≡ y → remove_entry (same_page k) (e ∷ es) ≡ others k (e ∷ es)) [
    | true ↦ λ here.
        let apart = IsDistinct-head same_page e.0 (keys_of es) distinct in
        let same = same_page_eq k e.0 here in
        rw here (sym (others_all k es
        (subst (λ n. AllByRecursion (λ y. same_page n y ≡ false) (keys_of es)) (sym same) apart)))
    | false ↦ λ here.
        rw here (ap (λ l. e ∷ l) (remove_entry-others k es (IsDistinct-tail same_page e.0 (keys_of es) distinct)))
  ]) refl

  pub keys_of-others : (k : PageName) (es : List (PageName × V))
      → keys_of (others k es) ≡ without (k ∷ []) (keys_of es)
  keys_of-others k [] = refl
  keys_of-others k (e ∷ es) = (elim (same_page k e.0) as (λ y. same_page k e.0 ≡ y → keys_of (others k (e ∷ es)) ≡ without (k ∷ []) (keys_of (e ∷ es))) [
    | true ↦ λ here. rw here (keys_of-others k es)
    | false ↦ λ here. rw here (ap (λ l. e.0 ∷ l) (keys_of-others k es))
  ]) refl

  -- where a name isn't found, all pairs are of other names
  pub others_absent : (k : PageName) (es : List (PageName × V)) → lookup_entry (same_page k) es ≡ None
      → others k es ≡ es
  others_absent k [] absent = refl
  others_absent k (e ∷ es) absent = (elim (same_page k e.0) as (λ y. same_page k e.0 ≡ y → others k (e ∷ es) ≡ e ∷ es) [
    | true ↦ λ here. let there = rw here at absent in (cc)
    | false ↦ λ here. rw here (ap (λ l. e ∷ l) (others_absent k es (rw here at absent)))
  ]) refl

  pub found_key : (k : PageName) (es : List (PageName × V)) (f : PageName × V)
      → lookup_entry (same_page k) es ≡ Some f → f.0 ≡ k
  found_key k es f there = sym (same_page_eq k f.0 (Contains-lookup_entry (same_page k) es f there).1)

  pub take-keys_of : (n : ℕ) (es : List (PageName × V)) → keys_of (take n es) ≡ take n (keys_of es)
  take-keys_of zero es = refl
  take-keys_of (suc n) [] = refl
  take-keys_of (suc n) (e ∷ es) = ap (λ l. e.0 ∷ l) (take-keys_of n es)

  module _ (cap : ℕ) (k : PageName) (v : V) (es : List (PageName × V)) where
    put_cases : (o : Option (PageName × V)) → lookup_entry (same_page k) es ≡ o
        → IsDistinct same_page (keys_of es) → length (put_entries same_page (lru_cache es cap) k v) ≤ cap
        → put_entries same_page (lru_cache es cap) k v ≡ (k, v) ∷ take (cap - 1) (others k es)
    put_cases None absent distinct fits = rw (absent, others_absent k es absent) refl
    put_cases (Some f) there distinct fits =
        let removed = remove_entry-others k es distinct in
        let within : length ((f.0, v) ∷ remove_entry (same_page k) es) ≤ cap = rw there at fits in
        let few : length (others k es) ≤ cap - 1 = omega (arith, ap (λ l. length l) removed, within) in
        rw (there, found_key k es f there, removed, take_all (cap - 1) (others k es) few) refl

    -- what a `push` leaves
    pub put_entries-others : IsDistinct same_page (keys_of es)
        → length (put_entries same_page (lru_cache es cap) k v) ≤ cap
        → put_entries same_page (lru_cache es cap) k v ≡ (k, v) ∷ take (cap - 1) (others k es)
    put_entries-others = put_cases (lookup_entry (same_page k) es) refl

    pub keys-put : 0 < cap
        → keys_of ((k, v) ∷ take (cap - 1) (others k es)) ≡ used cap (k ∷ []) (keys_of es)
    keys-put positive =
        ap (λ l. k ∷ l) (take-keys_of (cap - 1) (others k es) ∙ ap (λ l. take (cap - 1) l) (keys_of-others k es))
        ∙ sym (take_cons cap k (without (k ∷ []) (keys_of es)) positive)

  -- what a `promote` of a name that is there leaves
  pub promoted-others : (k : PageName) (es : List (PageName × V)) (f : PageName × V)
      → lookup_entry (same_page k) es ≡ Some f → IsDistinct same_page (keys_of es)
      → promoted (same_page k) es ≡ f ∷ others k es
  promoted-others k es f there distinct = rw (there, remove_entry-others k es distinct) refl

  pub keys-promoted : (cap : ℕ) (k : PageName) (es : List (PageName × V)) (f : PageName × V)
      → lookup_entry (same_page k) es ≡ Some f → IsDistinct same_page (keys_of es)
      → length (promoted (same_page k) es) ≤ cap
      → keys_of (promoted (same_page k) es) ≡ used cap (k ∷ []) (keys_of es)
  keys-promoted cap k es f there distinct fits =
      let moved = promoted-others k es f there distinct in
      let keys = keys_of-others k es in
      let all : keys_of (promoted (same_page k) es) ≡ k ∷ without (k ∷ []) (keys_of es) =
      ap keys_of moved ∙ ap (λ n. n ∷ keys_of (others k es)) (found_key k es f there) ∙ ap (λ l. k ∷ l) keys in
      let few : length (k ∷ without (k ∷ []) (keys_of es)) ≤ cap =
      subst (λ l. length l ≤ cap) all (omega (arith, length-keys_of (promoted (same_page k) es), fits)) in
      all ∙ sym (take_all cap (k ∷ without (k ∷ []) (keys_of es)) few)
