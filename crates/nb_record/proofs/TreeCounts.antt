-- How many cells a tree has.
use Rattle.std.proofs.Common.{◌≡◌, ℕ, zero, suc, ◌+◌, ◌-◌, ◌*◌, ◌≤◌, List, [], ◌∷◌, ◌++◌, length, sym, ap, ◌∙◌, refl, inl, inr, arith}
use Rattle.std.specs.Prelude.{◌≢◌, sum_by}
use Rattle.std.proofs.lemmas.Bool.{cases_lt}
use Rattle.std.proofs.lemmas.List.Concat.{length-flat_map}
use Rattle.std.proofs.lemmas.List.Sums.{sum_by-cons, sum_by-le-sum_by}
use Rattle.nb_model.specs.declared.body.Body.{Body}
use Rattle.nb_model.specs.declared.params.Params.{Params}
use Rattle.nb_model.specs.Limits.{deepest_level}
use Rattle.nb_model.specs.Octree.{in_octant}
use Rattle.nb_model.specs.Gravity.{octants}
use Rattle.nb_model.specs.Leapfrog.{unescaped}
use Rattle.nb_model.proofs.Facts.{sum_by_agree}
use Rattle.nb_model.proofs.Facts.{sum_by-octants}
use Rattle.nb_record.specs.Cells.{cells_to_depth, tree_cells}
use Rattle.nb_record.proofs.TreeCells.{cells-nil, cells-deepest, cells-leaf, cells-divided}
use Rattle.nb_record.proofs.TreeFound.{first_cell}

-- so much for each body
abbrev each_counts : ℕ → List Body → ℕ
each_counts n bodies = sum_by (λ _. n) bodies

one_more_each : (n : ℕ) (bs : List Body) → each_counts (suc n) bs ≡ each_counts n bs + length bs
one_more_each n [] = omega arith
one_more_each n (b ∷ bs) = omega (arith, sum_by-cons (λ (_ : Body). suc n) b bs, sum_by-cons (λ (_ : Body). n) b bs, one_more_each n bs)

one_each : (bs : List Body) → each_counts 1 bs ≡ length bs
one_each [] = omega arith
one_each (b ∷ bs) = omega (arith, sum_by-cons (λ (_ : Body). 1) b bs, one_each bs)

all_levels : (bs : List Body) → each_counts 22 bs ≡ 22 * length bs
all_levels [] = omega arith
all_levels (b ∷ bs) = omega (arith, sum_by-cons (λ (_ : Body). 22) b bs, all_levels bs)

-- each body is in at most one cell of each level
length_cells : (params : Params) (all : List Body) (depth : ℕ) (path : List ℕ) (bodies : List Body) → length (cells_to_depth params all depth path bodies) ≤ each_counts (suc depth) bodies
length_cells params all depth path [] = omega (arith, ap length (cells-nil params all depth path))
length_cells params all zero path (b ∷ bs) = omega (arith, ap length (cells-deepest params all path b bs), one_each (b ∷ bs))
length_cells params all (suc depth) path (b ∷ bs) =
    let level = deepest_level - 1 - depth in
    let cells = λ (octant : ℕ). cells_to_depth params all depth (path ++ octant ∷ []) (in_octant level (b ∷ bs) octant) in
    let more = one_more_each (suc depth) (b ∷ bs) in
    elim (cases_lt params.leaf (length (b ∷ bs))) [
      | inl many ↦
          omega (
            arith,
            ap length (cells-divided params all depth path b bs many),
            length-flat_map cells octants,
            more,
            sum_by-le-sum_by (λ octant. length (cells octant)) (λ octant. each_counts (suc depth) (in_octant level (b ∷ bs) octant)) octants (λ octant. length_cells params all depth (path ++ octant ∷ []) (in_octant level (b ∷ bs) octant)),
            sum_by-octants (λ _. suc depth) level (b ∷ bs),
          )
      | inr few ↦ omega (arith, ap length (cells-leaf params all depth path b bs few), more)
    ]

pub most_cells : (params : Params) (bodies : List Body) → length (tree_cells params bodies) ≤ 22 * length (unescaped bodies)
most_cells params bodies = omega (arith, length_cells params (unescaped bodies) 21 [] (unescaped bodies), all_levels (unescaped bodies))

pub no_cells : (params : Params) (bodies : List Body) → unescaped bodies ≡ [] → tree_cells params bodies ≡ []
no_cells params bodies none = ap (λ l. cells_to_depth params l 21 [] l) none ∙ cells-nil params [] 21 []

first_there : (params : Params) (all bodies : List Body) → bodies ≢ [] → 1 ≤ length (cells_to_depth params all 21 [] bodies)
first_there params all [] some = absurd (some refl)
first_there params all (b ∷ bs) some =
    let first = first_cell params all 21 [] b bs in
    omega (arith, ap length first.2)

pub some_cells : (params : Params) (bodies : List Body) → unescaped bodies ≢ [] → 1 ≤ length (tree_cells params bodies)
some_cells params bodies some = first_there params (unescaped bodies) (unescaped bodies) some

-- ---- sums over the octants of a cell

pub length-octants : (level : ℕ) (bodies : List Body) → sum_by (λ octant. length (in_octant level bodies octant)) octants ≡ length bodies
length-octants level bodies =
    sym (sum_by_agree (λ octant. each_counts 1 (in_octant level bodies octant)) (λ octant. length (in_octant level bodies octant)) (λ octant. one_each (in_octant level bodies octant)) octants)
    ∙ sum_by-octants (λ _. 1) level bodies
    ∙ one_each bodies
