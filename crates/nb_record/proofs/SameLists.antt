-- Lists of cells whose keys differ are the same but for their order where they have the same cells.
use Rattle.std.proofs.Common.{◌≡◌, ℕ, zero, suc, ◌%◌, ◌^◌, ◌==◌, List, [], ◌∷◌, sym, ap, refl, inl, inr, arith}
use Rattle.std.specs.Prelude.{◌≢◌, ◌⊎◌, filter, All, AllPairs, Contains, IsPermutation}
use Rattle.std.specs.List.{remove}
use Rattle.std.proofs.lemmas.List.Elements.{All-cons, All-contains}
use Rattle.std.proofs.lemmas.List.Kept.{AllPairs-cons}
use Rattle.std.proofs.lemmas.List.Sorted.{All-permutation, Contains-permutation, IsPermutation-refl, IsPermutation-sym, IsPermutation-cons, IsPermutation-trans, IsPermutation-remove}
use Rattle.nb_record.specs.declared.cell.Cell.{Cell}
use Rattle.nb_record.specs.Table.{cells_on_chain, IsCellTable}
use Rattle.nb_record.proofs.Moves.{permutation_keeps, exchanged, IsPermutation-filter}

-- ---- pairs, in any order

head_pairs : {X : Type 0} (R : X → X → Type 0) (x : X) (xs : List X) → AllPairs R (x ∷ xs) → All (R x) xs
head_pairs R x xs pairs k d below = pairs 0 (suc k) d (omega arith) (omega arith)

tail_pairs : {X : Type 0} (R : X → X → Type 0) (x : X) (xs : List X) → AllPairs R (x ∷ xs) → AllPairs R xs
tail_pairs R x xs pairs i j d before within = pairs (suc i) (suc j) d (omega arith) (omega arith)

pairs_exchanged : {X : Type 0} (R : X → X → Type 0) → ((a b : X) → R a b → R b a) → (x y : X) (xs : List X) → AllPairs R (x ∷ y ∷ xs) → AllPairs R (y ∷ x ∷ xs)
pairs_exchanged R back x y xs pairs =
    let rest = tail_pairs R x (y ∷ xs) pairs in
    let of_x : All (R x) xs = λ k d below. pairs 0 (suc (suc k)) d (omega arith) (omega arith) in
    AllPairs-cons R y (x ∷ xs) (All-cons (R y) x xs (back x y (pairs 0 1 x (omega arith) (omega arith))) (head_pairs R y xs rest))
    (AllPairs-cons R x xs of_x (tail_pairs R y xs rest))

pub AllPairs-permutation : {X : Type 0} (R : X → X → Type 0) → ((a b : X) → R a b → R b a) → (xs ys : List X) → IsPermutation xs ys → AllPairs R xs → AllPairs R ys
AllPairs-permutation R back xs ys is pairs =
    (permutation_keeps (λ fs gs. IsPermutation fs gs × (AllPairs R fs → AllPairs R gs))
    (record {
      same = λ fs. (IsPermutation-refl fs, λ all. all);
      join = λ fs gs hs one other. (IsPermutation-trans fs gs hs one.0 other.0, λ all. other.1 (one.1 all));
      more = λ x fs gs one. (
        IsPermutation-cons x fs gs one.0,
        λ all. AllPairs-cons R x gs (All-permutation (R x) fs gs one.0 (head_pairs R x fs all)) (one.1 (tail_pairs R x fs all)),
      );
      exchange = λ x y fs. (exchanged x y fs, pairs_exchanged R back x y fs);
    })
    xs ys is).1 pairs

-- ---- the same cells

abbrev Differ : Cell → Cell → Type 0
Differ a b = a.key ≢ b.key

differ_back : (a b : Cell) → Differ a b → Differ b a
differ_back a b differ same = differ (sym same)

first_or_rest : {X : Type 0} (x z : X) (xs : List X) → Contains (x ∷ xs) z → (x ≡ z) ⊎ Contains xs z
first_or_rest x z xs (zero, below, is) = inl is
first_or_rest x z xs (suc k, below, is) = inr (k, omega arith, is)

behind : {X : Type 0} (x z : X) (xs : List X) → Contains xs z → Contains (x ∷ xs) z
behind x z xs (k, below, is) = (suc k, omega arith, is)

-- a cell that isn't the first is one of the rest
one_of_rest : (x z : Cell) (xs : List Cell) → Differ x z → Contains (x ∷ xs) z → Contains xs z
one_of_rest x z xs differ within =
    elim (first_or_rest x z xs within) [
      | inl same ↦ absurd (differ (ap (λ c. c.key) same))
      | inr rest ↦ rest
    ]

pub same_cells_same_list : (xs ys : List Cell) → AllPairs (λ a b. a.key ≢ b.key) xs → AllPairs (λ a b. a.key ≢ b.key) ys → ((z : Cell) → Contains xs z → Contains ys z) → ((z : Cell) → Contains ys z → Contains xs z) → IsPermutation xs ys
same_cells_same_list [] [] left right into back = IsPermutation-refl []
same_cells_same_list [] (y ∷ ys) left right into back =
    let none = back y (0, omega arith, refl) in
    absurd (omega (arith, none.1))
same_cells_same_list (x ∷ xs) ys left right into back =
    let index = into x (0, omega arith, refl) in
    let rest = remove ys index.0 in
    let moved : IsPermutation ys (x ∷ rest) = IsPermutation-remove ys index.0 x index.1 (sym index.2) in
    let apart : AllPairs Differ (x ∷ rest) = AllPairs-permutation Differ differ_back ys (x ∷ rest) moved right in
    let same : IsPermutation xs rest =
    same_cells_same_list xs rest (tail_pairs Differ x xs left) (tail_pairs Differ x rest apart)
    (λ z within. one_of_rest x z rest (All-contains (Differ x) xs z (head_pairs Differ x xs left) within) (Contains-permutation ys (x ∷ rest) z moved (into z (behind x z xs within))))
    (λ z within. one_of_rest x z xs (All-contains (Differ x) rest z (head_pairs Differ x rest apart) within) (back z (Contains-permutation (x ∷ rest) ys z (IsPermutation-sym ys (x ∷ rest) moved) (behind x z rest within)))) in
    IsPermutation-trans (x ∷ xs) (x ∷ rest) ys (IsPermutation-cons x xs rest same) (IsPermutation-sym ys (x ∷ rest) moved)

-- ---- a table holds its cells in no order

pub same_table : (file : List ℕ) (bits pages : ℕ) (xs ys : List Cell) → IsPermutation xs ys → IsCellTable file bits pages xs → IsCellTable file bits pages ys
same_table file bits pages xs ys moved is = record {
  whole = is.whole;
  begins = is.begins;
  forms = is.forms;
  records = is.records;
  nexts = is.nexts;
  first = is.first;
  follows = is.follows;
  chains = λ h below.
      let low = λ (c : Cell). c.key % 2 ^ bits == h in
      IsPermutation-trans (cells_on_chain file pages h) (filter low xs) (filter low ys) (is.chains h below) (IsPermutation-filter low xs ys moved);
}
