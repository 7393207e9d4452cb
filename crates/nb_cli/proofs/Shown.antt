-- The text of `show`, line by line.
use Rattle.std.proofs.Common.{◌≡◌, ℕ, zero, suc, ◌+◌, List, [], ◌∷◌, ◌++◌, refl, sym, ap, subst, ◌∙◌, arith}
use Rattle.std.proofs.lemmas.List.{flat_map_more}
use Rattle.std.specs.List.{flat_map}
use Rattle.nb_model.specs.declared.params.Params.{Params}
use Rattle.nb_format.specs.ParamsText.{canonical_line, canonical_text}

-- the first of these texts, so many
abbrev pub first_of : (ℕ → List ℕ) → ℕ → List ℕ
first_of f zero = []
first_of f (suc n) = first_of f n ++ f n

pub first_of-more : (f : ℕ → List ℕ) (n : ℕ) → first_of f (n + 1) ≡ first_of f n ++ f n
first_of-more f n =
    let P : ℕ → Type 0 = λ m. first_of f m ≡ first_of f n ++ f n in
    let next : n + 1 ≡ suc n = omega arith in
    subst P (sym next) refl

one_more : (f : ℕ → List ℕ) (n : ℕ) (numbers : List ℕ) → first_of f n ≡ flat_map f numbers
    → first_of f (suc n) ≡ flat_map f (numbers ++ n ∷ [])
one_more f n numbers so_far = ap (λ (t : List ℕ). t ++ f n) so_far ∙ flat_map_more f [] numbers n

seven : (f : ℕ → List ℕ) → first_of f 7 ≡ flat_map f (0 ∷ 1 ∷ 2 ∷ 3 ∷ 4 ∷ 5 ∷ 6 ∷ [])
seven f =
    one_more f 6 (0 ∷ 1 ∷ 2 ∷ 3 ∷ 4 ∷ 5 ∷ []) (one_more f 5 (0 ∷ 1 ∷ 2 ∷ 3 ∷ 4 ∷ []) (one_more f 4 (0 ∷ 1 ∷ 2 ∷ 3 ∷ [])
    (one_more f 3 (0 ∷ 1 ∷ 2 ∷ []) (one_more f 2 (0 ∷ 1 ∷ []) (one_more f 1 (0 ∷ []) (one_more f 0 [] refl))))))

-- all of the parameters' lines
pub lines-all : (params : Params) → first_of (canonical_line params) 7 ≡ canonical_text params
lines-all params = seven (canonical_line params)
