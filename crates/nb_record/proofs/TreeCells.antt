-- The cells of a tree, one by one: each is that of the bodies with its key.
use Rattle.std.proofs.Common.{◌≡◌, ℕ, zero, suc, ◌+◌, ◌-◌, ◌*◌, ◌/◌, ◌<◌, ◌≤◌, cond, leb, List, [], ◌∷◌, ◌++◌, length, get_or, sym, ap, ◌∙◌, refl, inl, inr, arith}
use Rattle.std.specs.Prelude.{◌≢◌, ◌⊎◌, All}
use Rattle.std.specs.List.{flat_map}
use Rattle.std.proofs.lemmas.Bool.{cond-true, cond-false, le-leb, lt-leb, cases_lt}
use Rattle.std.proofs.lemmas.List.{length_push}
use Rattle.std.proofs.lemmas.List.Elements.{All-nil, All-cons, All-head, All-tail, All-append, All-same, All-push, All-weaker, All-from_get_or}
use Rattle.nb_model.specs.declared.body.Body.{Body}
use Rattle.nb_model.specs.declared.params.Params.{Params}
use Rattle.nb_model.specs.Limits.{deepest_level}
use Rattle.nb_model.specs.Octree.{in_octant, total_mass, centre_of_mass}
use Rattle.nb_model.specs.Gravity.{octants}
use Rattle.nb_key.specs.Morton.{key_of, AreOctants}
use Rattle.nb_key.proofs.Levels.{octants_are, key_of_push, key_of_parent}
use Rattle.nb_record.specs.declared.cell.Cell.{Cell}
use Rattle.nb_record.specs.Cells.{first_body, kids_of, cell_for, cells_to_depth, in_cell, IsTreeCell}
use Rattle.nb_record.proofs.Siblings.{octant_of_cell, octant_number}

-- ---- the recursion, one equation a way

pub cells-nil : (params : Params) (all : List Body) (depth : ℕ) (path : List ℕ) → cells_to_depth params all depth path [] ≡ []
unfolding cells_to_depth
cells-nil params all zero path = refl
cells-nil params all (suc depth) path = refl

pub cells-deepest : (params : Params) (all : List Body) (path : List ℕ) (b : Body) (bs : List Body) → cells_to_depth params all zero path (b ∷ bs) ≡ cell_for all path (b ∷ bs) 0 ∷ []
unfolding cells_to_depth
cells-deepest params all path b bs = refl

-- the cells of the octants of a cell with so many levels below it
abbrev pub octant_cells : Params → List Body → ℕ → List ℕ → List Body → List Cell
octant_cells params all depth path bodies =
    flat_map (λ octant. cells_to_depth params all depth (path ++ octant ∷ []) (in_octant (deepest_level - 1 - depth) bodies octant)) octants

cells-suc : (params : Params) (all : List Body) (depth : ℕ) (path : List ℕ) (b : Body) (bs : List Body) → cells_to_depth params all (suc depth) path (b ∷ bs) ≡ cond (leb (length (b ∷ bs)) params.leaf) (cell_for all path (b ∷ bs) 0 ∷ []) (cell_for all path (b ∷ bs) (kids_of (deepest_level - 1 - depth) (b ∷ bs)) ∷ octant_cells params all depth path (b ∷ bs))
unfolding cells_to_depth
cells-suc params all depth path b bs = refl

pub cells-leaf : (params : Params) (all : List Body) (depth : ℕ) (path : List ℕ) (b : Body) (bs : List Body) → length (b ∷ bs) ≤ params.leaf → cells_to_depth params all (suc depth) path (b ∷ bs) ≡ cell_for all path (b ∷ bs) 0 ∷ []
cells-leaf params all depth path b bs few =
    cells-suc params all depth path b bs
    ∙ cond-true (leb (length (b ∷ bs)) params.leaf) (cell_for all path (b ∷ bs) 0 ∷ []) (cell_for all path (b ∷ bs) (kids_of (deepest_level - 1 - depth) (b ∷ bs)) ∷ octant_cells params all depth path (b ∷ bs)) (le-leb (length (b ∷ bs)) params.leaf few)

pub cells-divided : (params : Params) (all : List Body) (depth : ℕ) (path : List ℕ) (b : Body) (bs : List Body) → params.leaf < length (b ∷ bs) → cells_to_depth params all (suc depth) path (b ∷ bs) ≡ cell_for all path (b ∷ bs) (kids_of (deepest_level - 1 - depth) (b ∷ bs)) ∷ octant_cells params all depth path (b ∷ bs)
cells-divided params all depth path b bs many =
    cells-suc params all depth path b bs
    ∙ cond-false (leb (length (b ∷ bs)) params.leaf) (cell_for all path (b ∷ bs) 0 ∷ []) (cell_for all path (b ∷ bs) (kids_of (deepest_level - 1 - depth) (b ∷ bs)) ∷ octant_cells params all depth path (b ∷ bs)) (lt-leb (length (b ∷ bs)) params.leaf many)

-- ---- over all octants

pub octants_small : AreOctants octants
octants_small = All-from_get_or (λ octant. octant < 8) octants 0 (λ i below. small i below) where
  small : (i : ℕ) → i < 8 → get_or octants i 0 < 8
  small i below = omega (arith, octant_number i below)

pub All-flat_map : {X Y : Type 0} (P : Y → Type 0) (f : X → List Y) (xs : List X) → All (λ x. All P (f x)) xs → All P (flat_map f xs)
All-flat_map P f [] each = All-nil P
All-flat_map P f (x ∷ xs) each =
    All-append P (f x) (flat_map f xs) (All-head (λ y. All P (f y)) x xs each) (All-flat_map P f xs (All-tail (λ y. All P (f y)) x xs each))

-- what holds of the cells of each octant
pub All-octant_cells : (P : Cell → Type 0) (params : Params) (all : List Body) (depth : ℕ) (path : List ℕ) (bodies : List Body) → ((octant : ℕ) → octant < 8 → All P (cells_to_depth params all depth (path ++ octant ∷ []) (in_octant (deepest_level - 1 - depth) bodies octant))) → All P (octant_cells params all depth path bodies)
All-octant_cells P params all depth path bodies each =
    let cells = λ (octant : ℕ). cells_to_depth params all depth (path ++ octant ∷ []) (in_octant (deepest_level - 1 - depth) bodies octant) in
    All-flat_map P cells octants (All-weaker (λ octant. octant < 8) (λ octant. All P (cells octant)) each octants octants_small)

-- ---- where the recursion stands

-- these are the bodies of the cell to which these octants lead, with so many levels below it
pub record IsReached (params : Params) (all : List Body) (depth : ℕ) (path : List ℕ) (bodies : List Body) : Type 0 where
  pub octants : AreOctants path
  pub whole : length path + depth ≡ 21
  pub held : bodies ≡ in_cell (length path) (key_of path) all
  pub parent : length path ≢ 0 → params.leaf < length (in_cell (length path - 1) (key_of path / 8) all)

pub reached_octant : (params : Params) (all : List Body) (depth : ℕ) (path : List ℕ) (bodies : List Body) (octant : ℕ) → IsReached params all (suc depth) path bodies → params.leaf < length bodies → octant < 8 → IsReached params all depth (path ++ octant ∷ []) (in_octant (deepest_level - 1 - depth) bodies octant)
reached_octant params all depth path bodies octant is many below =
    let level : deepest_level - 1 - depth ≡ length path = omega (arith, is.whole) in
    let long : length (path ++ octant ∷ []) ≡ length path + 1 = length_push path octant in
    let key : key_of (path ++ octant ∷ []) ≡ 8 * key_of path + octant = key_of_push path octant in
    let back : length (path ++ octant ∷ []) - 1 ≡ length path = omega arith in
    let whole : in_cell (length (path ++ octant ∷ []) - 1) (key_of (path ++ octant ∷ []) / 8) all ≡ bodies =
    ap (λ l. in_cell l (key_of (path ++ octant ∷ []) / 8) all) back ∙ ap (λ k. in_cell (length path) k all) (key_of_parent path octant below) ∙ sym is.held in
    record {
      octants = All-push (λ o. o < 8) path octant is.octants below;
      whole = omega (arith, is.whole);
      held = ap (λ l. in_octant l bodies octant) level
          ∙ ap (λ l. in_octant (length path) l octant) is.held
          ∙ octant_of_cell (length path) (key_of path) octant all below
          ∙ ap (λ l. in_cell l (8 * key_of path + octant) all) (sym long)
          ∙ ap (λ k. in_cell (length (path ++ octant ∷ [])) k all) (sym key);
      parent = λ _. omega (arith, ap length whole);
    }

-- the cell itself is one of the tree
cell_reached : (params : Params) (all : List Body) (depth : ℕ) (path : List ℕ) (bodies : List Body) (kids : ℕ) → IsReached params all depth path bodies → bodies ≢ [] → ((length bodies ≤ params.leaf) ⊎ (length path ≡ 21) → kids ≡ 0) → (params.leaf < length bodies → length path < 21 → kids ≡ kids_of (length path) bodies) → IsTreeCell params all (length path) (cell_for all path bodies kids)
cell_reached params all depth path bodies kids is some leaf divided =
    let count : length bodies ≡ length (in_cell (length path) (key_of path) all) = ap length is.held in
    record {
      key = octants_are path is.octants (omega (arith, is.whole));
      some = λ none. some (is.held ∙ none);
      parent = is.parent;
      mass = ap total_mass is.held;
      centre = ap centre_of_mass is.held;
      first = ap (first_body all) is.held;
      count = count;
      leaf = λ small. leaf (few small count);
      divided = λ many above. divided (omega arith) above ∙ ap (kids_of (length path)) is.held;
    } where
      few : (length (in_cell (length path) (key_of path) all) ≤ params.leaf) ⊎ (length path ≡ 21) → length bodies ≡ length (in_cell (length path) (key_of path) all) → (length bodies ≤ params.leaf) ⊎ (length path ≡ 21)
      few (inl small) same = inl (omega arith)
      few (inr deep) same = inr deep

-- ---- each cell is one of the tree

abbrev pub OfTree : Params → List Body → Cell → Type 0
OfTree params all cell = (level : ℕ) × IsTreeCell params all level cell

not_nil : {X : Type 0} (x : X) (xs : List X) → x ∷ xs ≢ []
not_nil x xs same = absurd (cc)

pub each_of_tree : (params : Params) (all : List Body) (depth : ℕ) (path : List ℕ) (bodies : List Body) → IsReached params all depth path bodies → All (OfTree params all) (cells_to_depth params all depth path bodies)
each_of_tree params all depth path [] is = All-same (OfTree params all) (cells_to_depth params all depth path []) [] (cells-nil params all depth path) (All-nil (OfTree params all))
each_of_tree params all zero path (b ∷ bs) is =
    let deep : length path ≡ 21 = omega (arith, is.whole) in
    All-same (OfTree params all) (cells_to_depth params all zero path (b ∷ bs)) (cell_for all path (b ∷ bs) 0 ∷ []) (cells-deepest params all path b bs)
    (All-cons (OfTree params all) (cell_for all path (b ∷ bs) 0) [] (length path, cell_reached params all zero path (b ∷ bs) 0 is (not_nil b bs) (λ _. refl) (λ _ above. absurd (omega arith))) (All-nil (OfTree params all)))
each_of_tree params all (suc depth) path (b ∷ bs) is =
    elim (cases_lt params.leaf (length (b ∷ bs))) [
      | inl many ↦
          let level : deepest_level - 1 - depth ≡ length path = omega (arith, is.whole) in
          let kids = kids_of (deepest_level - 1 - depth) (b ∷ bs) in
          let head = cell_reached params all (suc depth) path (b ∷ bs) kids is (not_nil b bs) (λ small. elim small [ inl few ↦ absurd (omega arith) | inr deep ↦ absurd (omega (arith, is.whole)) ]) (λ _ _. ap (λ l. kids_of l (b ∷ bs)) level) in
          All-same (OfTree params all) (cells_to_depth params all (suc depth) path (b ∷ bs)) (cell_for all path (b ∷ bs) kids ∷ octant_cells params all depth path (b ∷ bs)) (cells-divided params all depth path b bs many)
          (All-cons (OfTree params all) (cell_for all path (b ∷ bs) kids) (octant_cells params all depth path (b ∷ bs)) (length path, head)
          (All-octant_cells (OfTree params all) params all depth path (b ∷ bs) (λ octant below. each_of_tree params all depth (path ++ octant ∷ []) (in_octant (deepest_level - 1 - depth) (b ∷ bs) octant) (reached_octant params all depth path (b ∷ bs) octant is many below))))
      | inr few ↦
          let head = cell_reached params all (suc depth) path (b ∷ bs) 0 is (not_nil b bs) (λ _. refl) (λ many _. absurd (omega arith)) in
          All-same (OfTree params all) (cells_to_depth params all (suc depth) path (b ∷ bs)) (cell_for all path (b ∷ bs) 0 ∷ []) (cells-leaf params all depth path b bs few)
          (All-cons (OfTree params all) (cell_for all path (b ∷ bs) 0) [] (length path, head) (All-nil (OfTree params all)))
    ]
