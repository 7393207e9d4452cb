-- A tree doesn't depend on the order of its list of bodies.
use Rattle.std.proofs.Common.{◌≡◌, ℕ, zero, suc, ◌-◌, ◌*◌, ◌/◌, ◌^◌, ◌==◌, cond, not, ltb, List, [], ◌∷◌, ◌++◌, length, sym, ap, ◌∙◌, refl, subst, inl, inr, arith}
use Rattle.std.specs.Prelude.{sum_by, IsPermutation}
use Rattle.std.specs.List.{flat_map, list_all}
use Rattle.std.proofs.lemmas.Bool.{cases_lt}
use Rattle.std.proofs.lemmas.List.Sorted.{length_permutation, sum_by-IsPermutation, IsPermutation-sym, IsPermutation-trans}
use Rattle.nb_model.specs.declared.body.Body.{Body}
use Rattle.nb_model.specs.declared.params.Params.{Params}
use Rattle.nb_model.specs.Limits.{deepest_level}
use Rattle.nb_model.specs.Octree.{octant_at, in_octant, total_mass, centre_of_mass}
use Rattle.nb_model.specs.Gravity.{octants}
use Rattle.nb_model.specs.Leapfrog.{unescaped}
use Rattle.nb_model.proofs.Facts.{sum_by_agree}
use Rattle.nb_key.specs.Morton.{key_of, morton_key}
use Rattle.nb_record.specs.declared.tree.Tree.{Tree}
use Rattle.nb_record.specs.Order.{by_key, sorted_by, IsSortedByRank, HoldsBodies}
use Rattle.nb_record.specs.Table.{IsCellTable}
use Rattle.nb_record.specs.Tree.{IsBitsFor, IsTreeOf}
use Rattle.nb_record.specs.Cells.{first_body, kids_of, cell_for, cells_to_depth, tree_cells}
use Rattle.nb_record.proofs.Sorting.{permuted, only}
use Rattle.nb_record.proofs.Moves.{IsPermutation-filter, list_all-IsPermutation}
use Rattle.nb_record.proofs.TreeCells.{cells-nil, cells-deepest, cells-leaf, cells-divided, octant_cells}

-- ---- one cell

pub same_mass : (xs ys : List Body) → IsPermutation xs ys → total_mass xs ≡ total_mass ys
same_mass xs ys is = sym (sum_by-IsPermutation (λ b. b.mass) xs ys is)

same_mean : (along : Body → ℕ) (xs ys : List Body) → IsPermutation xs ys → sum_by (λ b. b.mass * along b) xs / total_mass xs ≡ sum_by (λ b. b.mass * along b) ys / total_mass ys
same_mean along xs ys is =
    ap (λ n. n / total_mass xs) (sym (sum_by-IsPermutation (λ b. b.mass * along b) xs ys is))
    ∙ ap (λ m. sum_by (λ b. b.mass * along b) ys / m) (same_mass xs ys is)

pub same_centre : (xs ys : List Body) → IsPermutation xs ys → centre_of_mass xs ≡ centre_of_mass ys
same_centre xs ys is = λ i. record { x = x i; y = y i; z = z i } where
  x : (centre_of_mass xs).x ≡ (centre_of_mass ys).x
  x = same_mean (λ b. b.at.x) xs ys is

  y : (centre_of_mass xs).y ≡ (centre_of_mass ys).y
  y = same_mean (λ b. b.at.y) xs ys is

  z : (centre_of_mass xs).z ≡ (centre_of_mass ys).z
  z = same_mean (λ b. b.at.z) xs ys is

same_first : (all others xs ys : List Body) → IsPermutation all others → IsPermutation xs ys → first_body all xs ≡ first_body others ys
same_first all others xs ys is_all is =
    let test = λ (bodies : List Body) (b : Body). list_all (λ c. ltb (morton_key b.at) (morton_key c.at)) bodies in
    sum_by_agree (λ b. cond (test xs b) 1 0) (λ b. cond (test ys b) 1 0) (λ b. ap (λ t. cond t 1 0) (list_all-IsPermutation (λ c. ltb (morton_key b.at) (morton_key c.at)) xs ys is)) all
    ∙ sym (sum_by-IsPermutation (λ b. cond (test ys b) 1 0) all others is_all)

pub same_octant : (level : ℕ) (xs ys : List Body) (octant : ℕ) → IsPermutation xs ys → IsPermutation (in_octant level xs octant) (in_octant level ys octant)
same_octant level xs ys octant is = IsPermutation-filter (λ b. octant_at level b.at == octant) xs ys is

pub same_length : (xs ys : List Body) → IsPermutation xs ys → length xs ≡ length ys
same_length xs ys is = sym (length_permutation xs ys is)

same_kids : (level : ℕ) (xs ys : List Body) → IsPermutation xs ys → kids_of level xs ≡ kids_of level ys
same_kids level xs ys is =
    sum_by_agree (λ octant. cond (ltb 0 (length (in_octant level xs octant))) (2 ^ octant) 0) (λ octant. cond (ltb 0 (length (in_octant level ys octant))) (2 ^ octant) 0)
    (λ octant. ap (λ n. cond (ltb 0 n) (2 ^ octant) 0) (same_length (in_octant level xs octant) (in_octant level ys octant) (same_octant level xs ys octant is))) octants

same_cell_for : (all others : List Body) (path : List ℕ) (xs ys : List Body) (kids more : ℕ) → IsPermutation all others → IsPermutation xs ys → kids ≡ more → cell_for all path xs kids ≡ cell_for others path ys more
same_cell_for all others path xs ys kids more is_all is same = λ i. record { key = key_of path; mass = mass i; centre = centre i; first = first i; count = count i; kids = same i } where
  mass : total_mass xs ≡ total_mass ys
  mass = same_mass xs ys is

  centre : centre_of_mass xs ≡ centre_of_mass ys
  centre = same_centre xs ys is

  first : first_body all xs ≡ first_body others ys
  first = same_first all others xs ys is_all is

  count : length xs ≡ length ys
  count = same_length xs ys is

-- ---- all cells

pub flat_map_agree : {X Y : Type 0} (f g : X → List Y) → ((x : X) → f x ≡ g x) → (xs : List X) → flat_map f xs ≡ flat_map g xs
flat_map_agree f g same [] = refl
flat_map_agree f g same (x ∷ xs) = ap (λ l. l ++ flat_map f xs) (same x) ∙ ap (λ l. g x ++ l) (flat_map_agree f g same xs)

same_cells : (params : Params) (all others : List Body) → IsPermutation all others → (depth : ℕ) (path : List ℕ) (xs ys : List Body) → IsPermutation xs ys → cells_to_depth params all depth path xs ≡ cells_to_depth params others depth path ys
same_cells params all others is_all depth path [] [] is = cells-nil params all depth path ∙ sym (cells-nil params others depth path)
same_cells params all others is_all depth path [] (y ∷ ys) is = absurd (omega (arith, same_length [] (y ∷ ys) is))
same_cells params all others is_all depth path (x ∷ xs) [] is = absurd (omega (arith, same_length (x ∷ xs) [] is))
same_cells params all others is_all zero path (x ∷ xs) (y ∷ ys) is =
    cells-deepest params all path x xs
    ∙ ap (λ c. c ∷ []) (same_cell_for all others path (x ∷ xs) (y ∷ ys) 0 0 is_all is refl)
    ∙ sym (cells-deepest params others path y ys)
same_cells params all others is_all (suc depth) path (x ∷ xs) (y ∷ ys) is =
    let level = deepest_level - 1 - depth in
    let long = same_length (x ∷ xs) (y ∷ ys) is in
    elim (cases_lt params.leaf (length (x ∷ xs))) [
      | inl many ↦
          let head = same_cell_for all others path (x ∷ xs) (y ∷ ys) (kids_of level (x ∷ xs)) (kids_of level (y ∷ ys)) is_all is (same_kids level (x ∷ xs) (y ∷ ys) is) in
          let rest : octant_cells params all depth path (x ∷ xs) ≡ octant_cells params others depth path (y ∷ ys) =
          flat_map_agree (λ octant. cells_to_depth params all depth (path ++ octant ∷ []) (in_octant level (x ∷ xs) octant)) (λ octant. cells_to_depth params others depth (path ++ octant ∷ []) (in_octant level (y ∷ ys) octant))
          (λ octant. same_cells params all others is_all depth (path ++ octant ∷ []) (in_octant level (x ∷ xs) octant) (in_octant level (y ∷ ys) octant) (same_octant level (x ∷ xs) (y ∷ ys) octant is)) octants in
          cells-divided params all depth path x xs many ∙ (λ i. head i ∷ rest i) ∙ sym (cells-divided params others depth path y ys (omega (arith, long, many)))
      | inr few ↦
          cells-leaf params all depth path x xs few
          ∙ ap (λ c. c ∷ []) (same_cell_for all others path (x ∷ xs) (y ∷ ys) 0 0 is_all is refl)
          ∙ sym (cells-leaf params others depth path y ys (omega (arith, long, few)))
    ]

pub same_tree : (params : Params) (xs ys : List Body) → IsPermutation xs ys → tree_cells params xs ≡ tree_cells params ys
same_tree params xs ys is =
    let inside : IsPermutation (unescaped xs) (unescaped ys) = IsPermutation-filter (λ b. not b.out) xs ys is in
    same_cells params (unescaped xs) (unescaped ys) inside 21 [] (unescaped xs) (unescaped ys) inside

-- ---- the tree in its files

pub same_tree_of : (tree : Tree) (files : ℕ → List ℕ) (params : Params) (xs ys : List Body) → IsPermutation xs ys → IsTreeOf tree files params xs → IsTreeOf tree files params ys
same_tree_of tree files params xs ys is of =
    let back : IsPermutation ys (sorted_by by_key xs) = IsPermutation-trans ys xs (sorted_by by_key xs) (IsPermutation-sym xs ys is) (permuted by_key xs) in
    let order : sorted_by by_key xs ≡ sorted_by by_key ys = only by_key ys (sorted_by by_key xs) back of.distinct in
    let cells : tree_cells params xs ≡ tree_cells params ys = same_tree params xs ys is in
    let inside : IsPermutation (unescaped xs) (unescaped ys) = IsPermutation-filter (λ b. not b.out) xs ys is in
    record {
      distinct = subst (IsSortedByRank by_key) order of.distinct;
      ordered = subst (HoldsBodies (files tree.bodies)) order of.ordered;
      bits = subst (IsBitsFor tree.bits) (same_length xs ys is) of.bits;
      table = subst (IsCellTable (files tree.cells) tree.bits tree.pages) cells of.table;
      count = of.count ∙ same_length (unescaped xs) (unescaped ys) inside;
      mass = of.mass ∙ same_mass (unescaped xs) (unescaped ys) inside;
      nodes = of.nodes ∙ ap length cells;
    }
