-- A kick leaves the tree: the cells tell nothing of velocities.
use Rattle.std.proofs.Common.{◌≡◌, ℕ, zero, suc, ◌-◌, ◌*◌, ◌/◌, ◌^◌, ◌==◌, cond, not, ltb, List, [], ◌∷◌, ◌++◌, length, map, sym, ap, ◌∙◌, refl, inl, inr, arith}
use Rattle.std.specs.Prelude.{sum_by}
use Rattle.std.specs.List.{list_all}
use Rattle.std.proofs.lemmas.Bool.{cases_lt}
use Rattle.std.proofs.lemmas.List.{length-map}
use Rattle.std.proofs.lemmas.List.Folds.{list_all-map}
use Rattle.nb_model.specs.declared.body.V3.{V3}
use Rattle.nb_model.specs.declared.body.Body.{Body}
use Rattle.nb_model.specs.declared.params.Params.{Params}
use Rattle.nb_model.specs.declared.way.Way.{Way}
use Rattle.nb_model.specs.Limits.{deepest_level}
use Rattle.nb_model.specs.Octree.{octant_at, in_octant, total_mass, centre_of_mass}
use Rattle.nb_model.specs.Gravity.{octants}
use Rattle.nb_model.specs.Leapfrog.{unescaped, half_kick, accelerate, kick}
use Rattle.nb_model.proofs.Facts.{sum_by_agree, sum_by-map, filter-map}
use Rattle.nb_model.proofs.Facts.{accelerated}
use Rattle.nb_key.specs.Morton.{key_of, morton_key}
use Rattle.nb_record.specs.Cells.{first_body, kids_of, cell_for, cells_to_depth, tree_cells}
use Rattle.nb_record.proofs.TreeCells.{cells-nil, cells-deepest, cells-leaf, cells-divided, octant_cells}
use Rattle.nb_record.proofs.SameTrees.{flat_map_agree}

-- ---- one cell

mass_kept : (way : Way) (change : Body → V3) (bs : List Body) → total_mass (accelerated way change bs) ≡ total_mass bs
mass_kept way change bs = sum_by-map (λ b. b.mass) (λ b. accelerate way (change b) b) bs

mean_kept : (way : Way) (change : Body → V3) (along : Body → ℕ) (bs : List Body) → sum_by (λ b. b.mass * along b) (accelerated way change bs) ≡ sum_by (λ b. (accelerate way (change b) b).mass * along (accelerate way (change b) b)) bs
mean_kept way change along bs = sum_by-map (λ b. b.mass * along b) (λ b. accelerate way (change b) b) bs

centre_kept : (way : Way) (change : Body → V3) (bs : List Body) → centre_of_mass (accelerated way change bs) ≡ centre_of_mass bs
centre_kept way change bs = λ i. record { x = x i; y = y i; z = z i } where
  mean : (m n k l : ℕ) → m ≡ n → k ≡ l → m / k ≡ n / l
  mean m n k l top bottom = ap (λ t. t / k) top ∙ ap (λ t. n / t) bottom

  x : (centre_of_mass (accelerated way change bs)).x ≡ (centre_of_mass bs).x
  x = mean (sum_by (λ b. b.mass * b.at.x) (accelerated way change bs)) (sum_by (λ b. b.mass * b.at.x) bs) (total_mass (accelerated way change bs)) (total_mass bs) (mean_kept way change (λ b. b.at.x) bs) (mass_kept way change bs)

  y : (centre_of_mass (accelerated way change bs)).y ≡ (centre_of_mass bs).y
  y = mean (sum_by (λ b. b.mass * b.at.y) (accelerated way change bs)) (sum_by (λ b. b.mass * b.at.y) bs) (total_mass (accelerated way change bs)) (total_mass bs) (mean_kept way change (λ b. b.at.y) bs) (mass_kept way change bs)

  z : (centre_of_mass (accelerated way change bs)).z ≡ (centre_of_mass bs).z
  z = mean (sum_by (λ b. b.mass * b.at.z) (accelerated way change bs)) (sum_by (λ b. b.mass * b.at.z) bs) (total_mass (accelerated way change bs)) (total_mass bs) (mean_kept way change (λ b. b.at.z) bs) (mass_kept way change bs)

first_kept : (way : Way) (change : Body → V3) (all bs : List Body) → first_body (accelerated way change all) (accelerated way change bs) ≡ first_body all bs
first_kept way change all bs =
    let moved = λ (b : Body). accelerate way (change b) b in
    let lower = λ (b c : Body). ltb (morton_key b.at) (morton_key c.at) in
    sum_by-map (λ b. cond (list_all (lower b) (map moved bs)) 1 0) moved all
    ∙ sum_by_agree (λ b. cond (list_all (lower b) (map moved bs)) 1 0) (λ b. cond (list_all (lower b) bs) 1 0) (λ b. ap (λ t. cond t 1 0) (list_all-map (lower b) moved bs)) all

octant_kept : (way : Way) (change : Body → V3) (level : ℕ) (bs : List Body) (octant : ℕ) → in_octant level (accelerated way change bs) octant ≡ accelerated way change (in_octant level bs octant)
octant_kept way change level bs octant = filter-map (λ b. octant_at level b.at == octant) (λ b. accelerate way (change b) b) bs

length_kept : (way : Way) (change : Body → V3) (bs : List Body) → length (accelerated way change bs) ≡ length bs
length_kept way change bs = length-map bs (λ b. accelerate way (change b) b)

kids_kept : (way : Way) (change : Body → V3) (level : ℕ) (bs : List Body) → kids_of level (accelerated way change bs) ≡ kids_of level bs
kids_kept way change level bs =
    sum_by_agree (λ octant. cond (ltb 0 (length (in_octant level (accelerated way change bs) octant))) (2 ^ octant) 0) (λ octant. cond (ltb 0 (length (in_octant level bs octant))) (2 ^ octant) 0)
    (λ octant. ap (λ n. cond (ltb 0 n) (2 ^ octant) 0) (ap length (octant_kept way change level bs octant) ∙ length_kept way change (in_octant level bs octant))) octants

cell_kept : (way : Way) (change : Body → V3) (all : List Body) (path : List ℕ) (bs : List Body) (kids more : ℕ) → kids ≡ more → cell_for (accelerated way change all) path (accelerated way change bs) kids ≡ cell_for all path bs more
cell_kept way change all path bs kids more same = λ i. record { key = key_of path; mass = mass i; centre = centre i; first = first i; count = count i; kids = same i } where
  mass : total_mass (accelerated way change bs) ≡ total_mass bs
  mass = mass_kept way change bs

  centre : centre_of_mass (accelerated way change bs) ≡ centre_of_mass bs
  centre = centre_kept way change bs

  first : first_body (accelerated way change all) (accelerated way change bs) ≡ first_body all bs
  first = first_kept way change all bs

  count : length (accelerated way change bs) ≡ length bs
  count = length_kept way change bs

-- ---- all cells

cells_kept : (params : Params) (way : Way) (change : Body → V3) (all : List Body) (depth : ℕ) (path : List ℕ) (bs : List Body) → cells_to_depth params (accelerated way change all) depth path (accelerated way change bs) ≡ cells_to_depth params all depth path bs
cells_kept params way change all depth path [] = cells-nil params (accelerated way change all) depth path ∙ sym (cells-nil params all depth path)
cells_kept params way change all zero path (b ∷ bs) =
    cells-deepest params (accelerated way change all) path (accelerate way (change b) b) (accelerated way change bs)
    ∙ ap (λ c. c ∷ []) (cell_kept way change all path (b ∷ bs) 0 0 refl)
    ∙ sym (cells-deepest params all path b bs)
cells_kept params way change all (suc depth) path (b ∷ bs) =
    let level = deepest_level - 1 - depth in
    let moved = accelerated way change (b ∷ bs) in
    let long = length_kept way change (b ∷ bs) in
    elim (cases_lt params.leaf (length (b ∷ bs))) [
      | inl many ↦
          let head = cell_kept way change all path (b ∷ bs) (kids_of level moved) (kids_of level (b ∷ bs)) (kids_kept way change level (b ∷ bs)) in
          let rest : octant_cells params (accelerated way change all) depth path moved ≡ octant_cells params all depth path (b ∷ bs) =
          flat_map_agree (λ octant. cells_to_depth params (accelerated way change all) depth (path ++ octant ∷ []) (in_octant level moved octant)) (λ octant. cells_to_depth params all depth (path ++ octant ∷ []) (in_octant level (b ∷ bs) octant))
          (λ octant. ap (cells_to_depth params (accelerated way change all) depth (path ++ octant ∷ [])) (octant_kept way change level (b ∷ bs) octant) ∙ cells_kept params way change all depth (path ++ octant ∷ []) (in_octant level (b ∷ bs) octant)) octants in
          cells-divided params (accelerated way change all) depth path (accelerate way (change b) b) (accelerated way change bs) (omega (arith, long, many)) ∙ (λ i. head i ∷ rest i) ∙ sym (cells-divided params all depth path b bs many)
      | inr few ↦
          cells-leaf params (accelerated way change all) depth path (accelerate way (change b) b) (accelerated way change bs) (omega (arith, long, few))
          ∙ ap (λ c. c ∷ []) (cell_kept way change all path (b ∷ bs) 0 0 refl)
          ∙ sym (cells-leaf params all depth path b bs few)
    ]

pub kicked_tree : (params kicks : Params) (way : Way) (bodies : List Body) → tree_cells params (kick kicks way bodies) ≡ tree_cells params bodies
kicked_tree params kicks way bodies =
    let change = half_kick kicks bodies in
    let inside : unescaped (kick kicks way bodies) ≡ accelerated way change (unescaped bodies) = filter-map (λ b. not b.out) (λ b. accelerate way (change b) b) bodies in
    ap (λ l. cells_to_depth params l 21 [] l) inside ∙ cells_kept params way change (unescaped bodies) 21 [] (unescaped bodies)
