-- A tree has every cell that isn't empty and whose parent is divided, and no two with one key.
use Rattle.std.proofs.Common.{◌≡◌, ℕ, zero, suc, ◌+◌, ◌-◌, ◌*◌, ◌/◌, ◌<◌, ◌≤◌, List, [], ◌∷◌, ◌++◌, length, get_or, sym, ap, ◌∙◌, refl, subst, inl, inr, arith}
use Rattle.std.specs.Prelude.{◌≢◌, All, Contains}
use Rattle.std.specs.List.{flat_map}
use Rattle.std.proofs.lemmas.Bool.{cases_lt}
use Rattle.std.proofs.lemmas.List.Elements.{All-nil, All-head, All-same, All-contains, Contains-append_left, Contains-append_right}
use Rattle.nb_model.specs.declared.body.At.{At}
use Rattle.nb_model.specs.declared.body.Body.{Body}
use Rattle.nb_model.specs.declared.params.Params.{Params}
use Rattle.nb_model.specs.Limits.{deepest_level}
use Rattle.nb_model.specs.Octree.{octant_at, in_octant, total_mass, centre_of_mass}
use Rattle.nb_model.specs.Gravity.{octants}
use Rattle.nb_model.proofs.Facts.{octant_at-lt, length-in_octant-le}
use Rattle.nb_key.specs.Morton.{octants_to, key_of, key_at, IsKeyAt}
use Rattle.nb_key.proofs.Levels.{one_level}
use Rattle.nb_key.proofs.Paths.{length-octants_to}
use Rattle.nb_record.specs.declared.cell.Cell.{Cell}
use Rattle.nb_record.specs.Cells.{first_body, kids_of, cell_for, cells_to_depth, in_cell, IsTreeCell}
use Rattle.nb_record.proofs.Siblings.{in_root, octant_of_cell, octant_number, key_step_one, all_in_cell}
use Rattle.nb_record.proofs.TreeCells.{cells-deepest, cells-leaf, cells-divided, octant_cells, IsReached, reached_octant, OfTree, each_of_tree}

-- ---- one key, one cell

pub same_cell : (params : Params) (all : List Body) (level : ℕ) (a b : Cell) → IsTreeCell params all level a → IsTreeCell params all level b → a.key ≡ b.key → a ≡ b
same_cell params all level a b is_a is_b key = λ i. record { key = key i; mass = mass i; centre = centre i; first = first i; count = count i; kids = kids i } where
  same : in_cell level a.key all ≡ in_cell level b.key all
  same = ap (λ k. in_cell level k all) key

  mass : a.mass ≡ b.mass
  mass = is_a.mass ∙ ap total_mass same ∙ sym is_b.mass

  centre : a.centre ≡ b.centre
  centre = is_a.centre ∙ ap centre_of_mass same ∙ sym is_b.centre

  first : a.first ≡ b.first
  first = is_a.first ∙ ap (first_body all) same ∙ sym is_b.first

  count : a.count ≡ b.count
  count = is_a.count ∙ ap length same ∙ sym is_b.count

  long : length (in_cell level a.key all) ≡ length (in_cell level b.key all)
  long = ap length same

  kids : a.kids ≡ b.kids
  kids =
      let deepest : level ≤ 21 = is_a.key.deepest in
      elim (cases_lt params.leaf (length (in_cell level a.key all))) [
        | inl many ↦ elim (cases_lt level 21) [
          | inl above ↦ is_a.divided many above ∙ ap (kids_of level) same ∙ sym (is_b.divided (omega (arith, long, many)) above)
          | inr deep ↦ is_a.leaf (inr (omega arith)) ∙ sym (is_b.leaf (inr (omega arith)))
        ]
        | inr few ↦ is_a.leaf (inl few) ∙ sym (is_b.leaf (inl (omega (arith, long, few))))
      ]

-- ---- the cells that hold a position, from the root down

-- how many bodies the cell at a level that holds a position has
abbrev count_at : List Body → At → ℕ → ℕ
count_at all p level = length (in_cell level (key_at level p) all)

count_falls : (all : List Body) (p : At) (level : ℕ) → count_at all p (level + 1) ≤ count_at all p level
count_falls all p level =
    let step = key_step_one level p in
    let cell = in_cell level (key_at level p) all in
    let octant : in_octant level cell (octant_at level p) ≡ in_cell (level + 1) (8 * key_at level p + octant_at level p) all = octant_of_cell level (key_at level p) (octant_at level p) all (octant_at-lt level p) in
    omega (arith, ap (λ k. length (in_cell (level + 1) k all)) step, ap length octant, length-in_octant-le level cell (octant_at level p))

counts_fall : (all : List Body) (p : At) (level more : ℕ) → count_at all p (level + more) ≤ count_at all p level
counts_fall all p level zero =
    let same : level + 0 ≡ level = omega arith in
    omega (arith, ap (count_at all p) same)
counts_fall all p level (suc more) =
    let same : level + suc more ≡ level + more + 1 = omega arith in
    omega (arith, ap (count_at all p) same, count_falls all p (level + more), counts_fall all p level more)

-- a cell of the tree that holds a position
record Holds (params : Params) (all : List Body) (level : ℕ) (cell : Cell) (p : At) : Type 0 where
  pub is : IsTreeCell params all level cell
  pub key : cell.key ≡ key_at level p

held_bodies : (params : Params) (all : List Body) (level : ℕ) (cell : Cell) (p : At) → Holds params all level cell p → 0 < count_at all p level
held_bodies params all level cell p holds = some (in_cell level (key_at level p) all) (λ none. holds.is.some (ap (λ k. in_cell level k all) holds.key ∙ none)) where
  some : (bs : List Body) → bs ≢ [] → 0 < length bs
  some [] none = absurd (none refl)
  some (b ∷ bs) _ = omega arith

parent_count : (params : Params) (all : List Body) (level : ℕ) (cell : Cell) (p : At) → Holds params all (level + 1) cell p → params.leaf < count_at all p level
parent_count params all level cell p holds =
    let parent = holds.is.parent (λ none. absurd (omega arith)) in
    let back : level + 1 - 1 ≡ level = omega arith in
    let key : cell.key / 8 ≡ key_at level p = omega (arith, holds.key, key_step_one level p, octant_at-lt level p) in
    let same : in_cell (level + 1 - 1) (cell.key / 8) all ≡ in_cell level (key_at level p) all = ap (λ l. in_cell l (cell.key / 8) all) back ∙ ap (λ k. in_cell level k all) key in
    omega (arith, parent, ap length same)

-- ---- it is found

Contains-cons : {X : Type 0} (x y : X) (xs : List X) → Contains xs y → Contains (x ∷ xs) y
Contains-cons x y xs (k, below, is) = (suc k, omega arith, is)

Contains-flat_map : {X Y : Type 0} (f : X → List Y) (xs : List X) (k : ℕ) (d : X) (y : Y) → k < length xs → Contains (f (get_or xs k d)) y → Contains (flat_map f xs) y
Contains-flat_map f [] k d y below within = absurd (omega arith)
Contains-flat_map f (x ∷ xs) zero d y below within = Contains-append_left (f x) (flat_map f xs) y within
Contains-flat_map f (x ∷ xs) (suc k) d y below within = Contains-append_right (f x) (flat_map f xs) y (Contains-flat_map f xs k d y (omega arith) within)

octants_more : (level : ℕ) (p : At) → octants_to (suc level) p ≡ octants_to level p ++ octant_at level p ∷ []
unfolding octants_to
octants_more level p = refl

octants_none : (p : At) → octants_to 0 p ≡ []
unfolding octants_to
octants_none p = refl

-- the first cell of the recursion is the cell itself
pub first_cell : (params : Params) (all : List Body) (depth : ℕ) (path : List ℕ) (b : Body) (bs : List Body) → (kids : ℕ) × (rest : List Cell) × (cells_to_depth params all depth path (b ∷ bs) ≡ cell_for all path (b ∷ bs) kids ∷ rest)
first_cell params all zero path b bs = (0, [], cells-deepest params all path b bs)
first_cell params all (suc depth) path b bs =
    elim (cases_lt params.leaf (length (b ∷ bs))) [
      | inl many ↦ (kids_of (deepest_level - 1 - depth) (b ∷ bs), octant_cells params all depth path (b ∷ bs), cells-divided params all depth path b bs many)
      | inr few ↦ (0, [], cells-leaf params all depth path b bs few)
    ]

found_first : (params : Params) (all : List Body) (level depth : ℕ) (path : List ℕ) (cell : Cell) (bodies : List Body) → IsTreeCell params all level cell → IsReached params all depth path bodies → cell.key ≡ key_of path → bodies ≢ [] → Contains (cells_to_depth params all depth path bodies) cell
found_first params all level depth path cell [] is reached key some = absurd (some refl)
found_first params all level depth path cell (b ∷ bs) is reached key some =
    let head = first_cell params all depth path b bs in
    let itself = cell_for all path (b ∷ bs) head.0 in
    let first : OfTree params all itself = All-head (OfTree params all) itself head.1 (All-same (OfTree params all) (itself ∷ head.1) (cells_to_depth params all depth path (b ∷ bs)) (sym head.2) (each_of_tree params all depth path (b ∷ bs) reached)) in
    let level_of : first.0 ≡ level = one_level first.0 level cell.key (subst (λ k. IsKeyAt first.0 k) (sym key) first.1.key) is.key in
    let same : itself ≡ cell = same_cell params all level itself cell (subst (λ l. IsTreeCell params all l itself) level_of first.1) is (sym key) in
    subst (λ l. Contains l cell) (sym head.2) (0, omega arith, same)

found : (params : Params) (all : List Body) (p : At) (level : ℕ) (cell : Cell) → Holds params all level cell p → (more depth j : ℕ) (path : List ℕ) (bodies : List Body) → j + more ≡ level → path ≡ octants_to j p → IsReached params all depth path bodies → Contains (cells_to_depth params all depth path bodies) cell
found params all p level cell holds zero depth j path bodies at to reached =
    let here : j ≡ level = omega arith in
    let key : cell.key ≡ key_of path = holds.key ∙ ap (λ l. key_at l p) (sym here) ∙ ap key_of (sym to) in
    let long : length path ≡ level = ap length to ∙ length-octants_to j p ∙ here in
    let same : bodies ≡ in_cell level cell.key all = reached.held ∙ ap (λ l. in_cell l (key_of path) all) long ∙ ap (λ k. in_cell level k all) (sym key) in
    found_first params all level depth path cell bodies holds.is reached key (λ none. holds.is.some (sym same ∙ none))
found params all p level cell holds (suc more) zero j path bodies at to reached =
    let long : length path ≡ j = ap length to ∙ length-octants_to j p in
    absurd (omega (arith, holds.is.key.deepest, reached.whole))
found params all p level cell holds (suc more) (suc depth) j path [] at to reached =
    let long : length path ≡ j = ap length to ∙ length-octants_to j p in
    let none : in_cell j (key_at j p) all ≡ [] = ap (λ l. in_cell l (key_at j p) all) (sym long) ∙ ap (λ k. in_cell (length path) k all) (ap key_of (sym to)) ∙ sym reached.held in
    absurd (omega (arith, ap length none, counts_fall all p j (suc more), ap (count_at all p) at, held_bodies params all level cell p holds))
found params all p level cell holds (suc more) (suc depth) j path (b ∷ bs) at to reached =
    let long : length path ≡ j = ap length to ∙ length-octants_to j p in
    let octant = octant_at j p in
    let below : octant < 8 = octant_at-lt j p in
    let whole : b ∷ bs ≡ in_cell j (key_at j p) all = reached.held ∙ ap (λ l. in_cell l (key_of path) all) long ∙ ap (λ k. in_cell j k all) (ap key_of to) in
    let last : j + more + 1 ≡ level = omega arith in
    let many : params.leaf < length (b ∷ bs) =
    omega (arith, ap length whole, counts_fall all p j more, parent_count params all (j + more) cell p (subst (λ l. Holds params all l cell p) (sym last) holds)) in
    let cells = λ (o : ℕ). cells_to_depth params all depth (path ++ o ∷ []) (in_octant (deepest_level - 1 - depth) (b ∷ bs) o) in
    let further : path ++ octant ∷ [] ≡ octants_to (suc j) p = ap (λ l. l ++ octant ∷ []) to ∙ sym (octants_more j p) in
    let within : Contains (cells octant) cell = found params all p level cell holds more depth (suc j) (path ++ octant ∷ []) (in_octant (deepest_level - 1 - depth) (b ∷ bs) octant) (omega arith) further (reached_octant params all depth path (b ∷ bs) octant reached many below) in
    subst (λ l. Contains l cell) (sym (cells-divided params all depth path b bs many))
    (Contains-cons (cell_for all path (b ∷ bs) (kids_of (deepest_level - 1 - depth) (b ∷ bs))) cell (octant_cells params all depth path (b ∷ bs))
    (Contains-flat_map cells octants octant 0 cell below (subst (λ o. Contains (cells o) cell) (sym (octant_number octant below)) within)))

-- ---- the tree's cells, exactly

pub root_reached : (params : Params) (all : List Body) → IsReached params all 21 [] all
root_reached params all = record { octants = All-nil (λ o. o < 8); whole = omega arith; held = sym (in_root all); parent = λ some. absurd (some refl) }

some_body : (P : Body → Type 0) (bs : List Body) → bs ≢ [] → All P bs → (b : Body) × P b
some_body P [] some each = absurd (some refl)
some_body P (b ∷ bs) some each = (b, All-head P b bs each)

pub found_in_tree : (params : Params) (all : List Body) (level : ℕ) (cell : Cell) → IsTreeCell params all level cell → Contains (cells_to_depth params all 21 [] all) cell
found_in_tree params all level cell is =
    let body = some_body (λ b. key_at level b.at ≡ cell.key) (in_cell level cell.key all) is.some (all_in_cell level cell.key all) in
    found params all body.0.at level cell (record { is = is; key = sym body.1 }) level 21 0 [] all (omega arith) (sym (octants_none body.0.at)) (root_reached params all)

pub of_tree : (params : Params) (all : List Body) (cell : Cell) → Contains (cells_to_depth params all 21 [] all) cell → OfTree params all cell
of_tree params all cell within =
    All-contains (OfTree params all) (cells_to_depth params all 21 [] all) cell (each_of_tree params all 21 [] all (root_reached params all)) within

pub at_its_level : (params : Params) (all : List Body) (level : ℕ) (cell : Cell) → Contains (cells_to_depth params all 21 [] all) cell → IsKeyAt level cell.key → IsTreeCell params all level cell
at_its_level params all level cell within at =
    let of = of_tree params all cell within in
    subst (λ l. IsTreeCell params all l cell) (one_level of.0 level cell.key of.1.key at) of.1

pub one_cell : (params : Params) (all : List Body) (a b : Cell) → Contains (cells_to_depth params all 21 [] all) a → Contains (cells_to_depth params all 21 [] all) b → a.key ≡ b.key → a ≡ b
one_cell params all a b within_a within_b key =
    let of = of_tree params all a within_a in
    same_cell params all of.0 a b of.1 (at_its_level params all of.0 b within_b (subst (λ k. IsKeyAt of.0 k) key of.1.key)) key
