-- The numbers that a command is given, by how many they are.
use Rattle.std.proofs.Common.{◌≡◌, ℕ, ◌<◌, ◌≤◌, refl, List, [], ◌∷◌, length, slice_index_or, arith}
use Rattle.nb_cli.specs.Words.{Numbers, AreOnly}

pub none_there : (xs : List ℕ) → length xs < 1 → xs ≡ []
none_there [] below = refl
none_there (x ∷ xs) below = absurd (omega arith)

pub one_there : (xs : List ℕ) → 1 ≤ length xs → length xs < 2 → xs ≡ slice_index_or xs 0 0 ∷ []
one_there [] least below = absurd (omega arith)
one_there (x ∷ []) least below = refl
one_there (x ∷ y ∷ xs) least below = absurd (omega arith)

pub two_there : (xs : List ℕ) → 2 ≤ length xs → length xs < 3 → xs ≡ slice_index_or xs 0 0 ∷ slice_index_or xs 1 0 ∷ []
two_there [] least below = absurd (omega arith)
two_there (x ∷ []) least below = absurd (omega arith)
two_there (x ∷ y ∷ []) least below = refl
two_there (x ∷ y ∷ z ∷ xs) least below = absurd (omega arith)

pub three_there : (xs : List ℕ) → 3 ≤ length xs → length xs < 4
    → xs ≡ slice_index_or xs 0 0 ∷ slice_index_or xs 1 0 ∷ slice_index_or xs 2 0 ∷ []
three_there [] least below = absurd (omega arith)
three_there (x ∷ []) least below = absurd (omega arith)
three_there (x ∷ y ∷ []) least below = absurd (omega arith)
three_there (x ∷ y ∷ z ∷ []) least below = refl
three_there (x ∷ y ∷ z ∷ w ∷ xs) least below = absurd (omega arith)

-- numbers with no option
pub only_these : (numbers : Numbers) (these : List ℕ) → numbers.arguments ≡ these → (numbers.pages ≡ []) × (numbers.walks ≡ []) → AreOnly these numbers
only_these numbers these same none = λ i. record { arguments = same i; pages = none.0 i; walks = none.1 i }
