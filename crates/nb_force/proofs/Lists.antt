-- A range of a list, and the elements of lists by their indexes.
use Rattle.std.proofs.Common.{◌≡◌, ℕ, zero, suc, ◌+◌, ◌-◌, ◌<◌, ◌≤◌, Bool, true, List, [], ◌∷◌, ◌++◌, map, filter, Some, length, take, drop, inl, inr, ◌⊎◌, refl, sym, ap, ◌∙◌, arith, length-drop}
use Rattle.std.specs.Prelude.{slice_get, Contains}
use Rattle.std.proofs.lemmas.List.{take_all, length-take-le}
use Rattle.std.proofs.lemmas.List.Elements.{All-contains, filter_passes}
use Rattle.std.proofs.lemmas.Option.{same_Some, none-some, slice_get_within, get_or_from_slice_get}
use Rattle.std.proofs.Math.ListN.{drop_of_length-le}
use Rattle.std.proofs.Math.Seq.{take-add}
use Rattle.nb_order.specs.declared.body_file.KickedBody.{KickedBody}
use Rattle.nb_force.specs.Groups.{range_of}
use Rattle.nb_force.specs.Kicks.{indexed_from}
use Rattle.nb_force.specs.Receiver.{HandedBody}

module _ {X : Type 0} where
  drop_drop : (n m : ℕ) (xs : List X) → drop m (drop n xs) ≡ drop (n + m) xs
  drop_drop zero m xs = let same : m ≡ zero + m = omega arith in ap (λ k. drop k xs) same
  drop_drop (suc n) m [] = let none : List X = [] in drop_of_length-le none {i = m} (omega arith) ∙ sym (drop_of_length-le none {i = suc n + m} (omega arith))
  drop_drop (suc n) m (x ∷ xs) =
      let e : suc (n + m) ≡ suc n + m = omega arith in
      drop_drop n m xs ∙ ap (λ k. drop k (x ∷ xs)) e

  pub range_none : (i : ℕ) (xs : List X) → range_of i i xs ≡ []
  range_none i xs = let none : i - i ≡ 0 = omega arith in ap (λ n. take n (drop i xs)) none

  pub range_split : (from mid end : ℕ) (xs : List X) → from ≤ mid → mid ≤ end → range_of from end xs ≡ range_of from mid xs ++ range_of mid end xs
  range_split from mid end xs low high =
      let many : end - from ≡ (mid - from) + (end - mid) = omega arith in
      let there : from + (mid - from) ≡ mid = omega arith in
      ap (λ n. take n (drop from xs)) many ∙ take-add (mid - from) (end - mid) (drop from xs)
      ∙ ap (λ l. range_of from mid xs ++ take (end - mid) l) (drop_drop from (mid - from) xs ∙ ap (λ n. drop n xs) there)

  one_at : (xs : List X) (i : ℕ) (x : X) → slice_get xs i ≡ Some x → take 1 (drop i xs) ≡ x ∷ []
  one_at [] i x is = absurd (none-some x is)
  one_at (y ∷ ys) zero x is = ap (λ z. z ∷ []) (same_Some y x is)
  one_at (y ∷ ys) (suc i) x is = one_at ys i x is

  pub range_one : (i : ℕ) (xs : List X) (x : X) → slice_get xs i ≡ Some x → range_of i (i + 1) xs ≡ x ∷ []
  range_one i xs x is = let one : (i + 1) - i ≡ 1 = omega arith in ap (λ n. take n (drop i xs)) one ∙ one_at xs i x is

  pub range_all : (n : ℕ) (xs : List X) → n ≡ length xs → range_of 0 n xs ≡ xs
  range_all n xs is = take_all (n - 0) xs (omega arith)

  pub length-range : (from end : ℕ) (xs : List X) → from ≤ end → end ≤ length xs → length (range_of from end xs) ≡ end - from
  length-range from end xs low high = length-take-le (end - from) (drop from xs) (omega (arith, length-drop from xs))

  -- the last element of a list, or one before it
  pub at_push : (xs : List X) (x : X) (i : ℕ) (y : X) → slice_get (xs ++ x ∷ []) i ≡ Some y → (slice_get xs i ≡ Some y) ⊎ ((i ≡ length xs) × (y ≡ x))
  at_push [] x zero y is = inr (refl, sym (same_Some x y is))
  at_push [] x (suc i) y is = absurd (none-some y is)
  at_push (z ∷ xs) x zero y is = inl is
  at_push (z ∷ xs) x (suc i) y is = elim (at_push xs x i y is) [
    | inl before ↦ inl before
    | inr last ↦ inr (omega (arith, last.0), last.1)
  ]

  pub at_contained : (xs : List X) (i : ℕ) (x : X) → slice_get xs i ≡ Some x → Contains xs x
  at_contained xs i x is = (i, slice_get_within xs i x is, get_or_from_slice_get xs i x x is)

  pub at_kept : (test : X → Bool) (xs : List X) (i : ℕ) (x : X) → slice_get (filter test xs) i ≡ Some x → test x ≡ true
  at_kept test xs i x is = All-contains (λ y. test y ≡ true) (filter test xs) x (filter_passes test xs) (at_contained (filter test xs) i x is)

  -- an element of the first elements
  pub at_taken : (n : ℕ) (xs : List X) (i : ℕ) → i < n → slice_get (take n xs) i ≡ slice_get xs i
  at_taken zero xs i below = absurd (omega arith)
  at_taken (suc n) [] i below = refl
  at_taken (suc n) (x ∷ xs) zero below = refl
  at_taken (suc n) (x ∷ xs) (suc i) below = at_taken n xs i (omega arith)

-- an element of a list of images
pub at_mapped : {X Y : Type 0} (f : X → Y) (xs : List X) (i : ℕ) (y : Y) → slice_get (map f xs) i ≡ Some y → (x : X) × (slice_get xs i ≡ Some x) × (y ≡ f x)
at_mapped f [] i y is = absurd (none-some y is)
at_mapped f (x ∷ xs) zero y is = (x, refl, sym (same_Some (f x) y is))
at_mapped f (x ∷ xs) (suc i) y is = at_mapped f xs i y is

pub mapped_at : {X Y : Type 0} (f : X → Y) (xs : List X) (i : ℕ) (x : X) → slice_get xs i ≡ Some x → slice_get (map f xs) i ≡ Some (f x)
mapped_at f [] i x is = absurd (none-some x is)
mapped_at f (y ∷ xs) zero x is = ap (λ z. Some (f z)) (same_Some y x is)
mapped_at f (y ∷ xs) (suc i) x is = mapped_at f xs i x is

-- what is given of two lists, one behind the other
pub indexed_append : (from : ℕ) (xs ys : List KickedBody) → indexed_from from (xs ++ ys) ≡ indexed_from from xs ++ indexed_from (from + length xs) ys
unfolding indexed_from
indexed_append from [] ys = let same : from ≡ from + 0 = omega arith in ap (λ n. indexed_from n ys) same
indexed_append from (x ∷ xs) ys =
    let next : suc from + length xs ≡ from + length (x ∷ xs) = omega arith in
    let first : HandedBody = record { index = from; kicked = x } in
    ap (λ l. first ∷ l) (indexed_append (suc from) xs ys ∙ ap (λ n. indexed_from (suc from) xs ++ indexed_from n ys) next)

pub indexed_one : (from : ℕ) (x : KickedBody) → indexed_from from (x ∷ []) ≡ record { index = from; kicked = x } ∷ []
unfolding indexed_from
indexed_one from x = refl

pub indexed_none : (from : ℕ) → indexed_from from [] ≡ []
unfolding indexed_from
indexed_none from = refl
