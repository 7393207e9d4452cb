-- A set bit among a cell's kids is a cell of the tree.
use Rattle.std.proofs.Common.{◌≡◌, ℕ, ◌+◌, ◌-◌, ◌*◌, ◌/◌, ◌%◌, ◌^◌, ◌<◌, ◌≤◌, ◌↔◌, cond, eqb, leb, List, [], ◌∷◌, length, sym, ap, ◌∙◌, refl, subst, inl, inr, arith}
use Rattle.std.specs.Prelude.{◌≢◌, ◌⊎◌}
use Rattle.std.proofs.Math.Nat.{zero-div}
use Rattle.std.proofs.lemmas.Bool.{cond-true, cond-false, eq-eqb, ne_eqb, le-leb, lt-leb, cases_lt}
use Rattle.nb_model.specs.declared.body.Body.{Body}
use Rattle.nb_model.specs.declared.params.Params.{Params}
use Rattle.nb_model.specs.Octree.{total_mass, centre_of_mass}
use Rattle.nb_key.specs.Morton.{IsKeyAt}
use Rattle.nb_key.proofs.Levels.{child_at}
use Rattle.nb_record.specs.declared.cell.Cell.{Cell}
use Rattle.nb_record.specs.Cells.{first_body, kids_of, in_cell, IsTreeCell}
use Rattle.nb_record.proofs.Kids.{kid_is, some_kid}
use Rattle.nb_record.proofs.Siblings.{in_root, octant_of_cell}

-- the kids of a cell with these bodies
kids_at : Params → ℕ → List Body → ℕ
kids_at params level bodies = cond (leb (length bodies) params.leaf) 0 (cond (eqb level 21) 0 (kids_of level bodies))

kids_of_leaf : (params : Params) (level : ℕ) (bodies : List Body) → (length bodies ≤ params.leaf) ⊎ (level ≡ 21) → kids_at params level bodies ≡ 0
unfolding kids_at
kids_of_leaf params level bodies (inl few) = cond-true (leb (length bodies) params.leaf) 0 (cond (eqb level 21) 0 (kids_of level bodies)) (le-leb (length bodies) params.leaf few)
kids_of_leaf params level bodies (inr deep) =
    elim (cases_lt params.leaf (length bodies)) [
      | inl many ↦ cond-false (leb (length bodies) params.leaf) 0 (cond (eqb level 21) 0 (kids_of level bodies)) (lt-leb (length bodies) params.leaf many) ∙ cond-true (eqb level 21) 0 (kids_of level bodies) (eq-eqb level 21 deep)
      | inr few ↦ cond-true (leb (length bodies) params.leaf) 0 (cond (eqb level 21) 0 (kids_of level bodies)) (le-leb (length bodies) params.leaf few)
    ]

kids_of_divided : (params : Params) (level : ℕ) (bodies : List Body) → params.leaf < length bodies → level < 21 → kids_at params level bodies ≡ kids_of level bodies
unfolding kids_at
kids_of_divided params level bodies many above =
    cond-false (leb (length bodies) params.leaf) 0 (cond (eqb level 21) 0 (kids_of level bodies)) (lt-leb (length bodies) params.leaf many)
    ∙ cond-false (eqb level 21) 0 (kids_of level bodies) (ne_eqb level 21 (λ deep. absurd (omega arith)))

-- the cell at this level with this key
cell_at : Params → List Body → ℕ → ℕ → Cell
cell_at params all level key =
    let bodies = in_cell level key all in
    record {
      key = key;
      mass = total_mass bodies;
      centre = centre_of_mass bodies;
      first = first_body all bodies;
      count = length bodies;
      kids = kids_at params level bodies;
    }

key_of_cell_at : (params : Params) (all : List Body) (level key : ℕ) → (cell_at params all level key).key ≡ key
unfolding cell_at
key_of_cell_at params all level key = refl

cell_at_is : (params : Params) (all : List Body) (level key : ℕ) → IsKeyAt level key → in_cell level key all ≢ [] → (level ≢ 0 → params.leaf < length (in_cell (level - 1) (key / 8) all)) → IsTreeCell params all level (cell_at params all level key)
unfolding cell_at
cell_at_is params all level key is some parent = record {
  key = is;
  some = some;
  parent = parent;
  mass = refl;
  centre = refl;
  first = refl;
  count = refl;
  leaf = kids_of_leaf params level (in_cell level key all);
  divided = kids_of_divided params level (in_cell level key all);
}

-- ---- a leaf, or divided

pub record IsDivided (params : Params) (all : List Body) (level : ℕ) (cell : Cell) : Type 0 where
  pub many : params.leaf < length (in_cell level cell.key all)
  pub above : level < 21

leaf_or_divided : (params : Params) (all : List Body) (level : ℕ) (cell : Cell) → IsTreeCell params all level cell → ((length (in_cell level cell.key all) ≤ params.leaf) ⊎ (level ≡ 21)) ⊎ IsDivided params all level cell
leaf_or_divided params all level cell is =
    elim (cases_lt params.leaf (length (in_cell level cell.key all))) [
      | inl many ↦ elim (cases_lt level 21) [
        | inl above ↦ inr (record { many = many; above = above })
        | inr deep ↦ inl (inr (omega (arith, is.key.deepest)))
      ]
      | inr few ↦ inl (inl few)
    ]

some_kids : (level : ℕ) (bodies : List Body) → bodies ≢ [] → kids_of level bodies ≢ 0
some_kids level [] some = absurd (some refl)
some_kids level (b ∷ bs) some = some_kid level b bs

pub leaf_by_kids : (params : Params) (all : List Body) (level : ℕ) (cell : Cell) → IsTreeCell params all level cell → cell.kids ≡ 0 → (length (in_cell level cell.key all) ≤ params.leaf) ⊎ (level ≡ 21)
leaf_by_kids params all level cell is none =
    elim (leaf_or_divided params all level cell is) [
      | inl leaf ↦ leaf
      | inr divided ↦ absurd (some_kids level (in_cell level cell.key all) is.some (sym (is.divided divided.many divided.above) ∙ none))
    ]

pub divided_by_kids : (params : Params) (all : List Body) (level : ℕ) (cell : Cell) → IsTreeCell params all level cell → cell.kids ≢ 0 → IsDivided params all level cell
divided_by_kids params all level cell is some =
    elim (leaf_or_divided params all level cell is) [
      | inl leaf ↦ absurd (some (is.leaf leaf))
      | inr divided ↦ divided
    ]

pub leaf_is : (params : Params) (all : List Body) (level : ℕ) (cell : Cell) → IsTreeCell params all level cell → (cell.kids ≡ 0) ↔ ((cell.count ≤ params.leaf) ⊎ (level ≡ 21))
leaf_is params all level cell is = (λ none. into (leaf_by_kids params all level cell is none), λ leaf. is.leaf (back leaf)) where
  into : (length (in_cell level cell.key all) ≤ params.leaf) ⊎ (level ≡ 21) → (cell.count ≤ params.leaf) ⊎ (level ≡ 21)
  into (inl few) = inl (omega (arith, is.count))
  into (inr deep) = inr deep

  back : (cell.count ≤ params.leaf) ⊎ (level ≡ 21) → (length (in_cell level cell.key all) ≤ params.leaf) ⊎ (level ≡ 21)
  back (inl few) = inl (omega (arith, is.count))
  back (inr deep) = inr deep

-- ---- from the bit to the cell

some_bit : (kids octant : ℕ) → kids / 2 ^ octant % 2 ≡ 1 → kids ≢ 0
some_bit kids octant set none =
    let nothing : kids / 2 ^ octant ≡ 0 = ap (λ k. k / 2 ^ octant) none ∙ zero-div (2 ^ octant) in
    absurd (omega (arith, nothing, set))

kid_some : (params : Params) (all : List Body) (level : ℕ) (cell : Cell) (octant : ℕ) → IsTreeCell params all level cell → octant < 8 → IsDivided params all level cell → (cell.kids / 2 ^ octant % 2 ≡ 1) ↔ (in_cell (level + 1) (8 * cell.key + octant) all ≢ [])
kid_some params all level cell octant is below divided =
    let bodies = in_cell level cell.key all in
    let bit : cell.kids / 2 ^ octant % 2 ≡ kids_of level bodies / 2 ^ octant % 2 = ap (λ k. k / 2 ^ octant % 2) (is.divided divided.many divided.above) in
    let octant_some = kid_is level octant bodies below in
    let same = octant_of_cell level cell.key octant all below in
    (λ set none. octant_some.0 (sym bit ∙ set) (same ∙ none), λ some. bit ∙ octant_some.1 (λ none. some (sym same ∙ none)))

abbrev pub Kid : Params → List Body → ℕ → Cell → ℕ → Type 0
Kid params all level cell octant = (kid : Cell) × (IsTreeCell params all (level + 1) kid × (kid.key ≡ 8 * cell.key + octant))

kid_by_bit : (params : Params) (all : List Body) (level : ℕ) (cell : Cell) (octant : ℕ) → IsTreeCell params all level cell → octant < 8 → cell.kids / 2 ^ octant % 2 ≡ 1 → Kid params all level cell octant
kid_by_bit params all level cell octant is below set =
    let divided = divided_by_kids params all level cell is (some_bit cell.kids octant set) in
    let key = 8 * cell.key + octant in
    let at_key : IsKeyAt (level + 1) key = subst (λ l. IsKeyAt l key) (omega arith) (child_at level cell.key octant is.key divided.above below) in
    let back : level + 1 - 1 ≡ level = omega arith in
    let up : key / 8 ≡ cell.key = omega arith in
    let whole : in_cell (level + 1 - 1) (key / 8) all ≡ in_cell level cell.key all = ap (λ l. in_cell l (key / 8) all) back ∙ ap (λ k. in_cell level k all) up in (
      cell_at params all (level + 1) key,
      (
        cell_at_is params all (level + 1) key at_key ((kid_some params all level cell octant is below divided).0 set) (λ _. omega (arith, ap length whole, divided.many)),
        key_of_cell_at params all (level + 1) key,
      ),
    )

-- ---- from the cell to the bit

bit_by_kid : (params : Params) (all : List Body) (level : ℕ) (cell : Cell) (octant : ℕ) → IsTreeCell params all level cell → octant < 8 → Kid params all level cell octant → cell.kids / 2 ^ octant % 2 ≡ 1
bit_by_kid params all level cell octant is below (kid, (is_kid, key)) =
    let back : level + 1 - 1 ≡ level = omega arith in
    let up : kid.key / 8 ≡ cell.key = omega arith in
    let whole : in_cell (level + 1 - 1) (kid.key / 8) all ≡ in_cell level cell.key all = ap (λ l. in_cell l (kid.key / 8) all) back ∙ ap (λ k. in_cell level k all) up in
    let many : params.leaf < length (in_cell level cell.key all) = omega (arith, ap length whole, is_kid.parent (λ none. absurd (omega arith))) in
    let above : level < 21 = omega (arith, is_kid.key.deepest) in
    (kid_some params all level cell octant is below (record { many = many; above = above })).1 (λ none. is_kid.some (ap (λ k. in_cell (level + 1) k all) key ∙ none))

pub kid_of_tree : (params : Params) (all : List Body) (level : ℕ) (cell : Cell) (octant : ℕ) → IsTreeCell params all level cell → octant < 8 → (cell.kids / 2 ^ octant % 2 ≡ 1) ↔ Kid params all level cell octant
kid_of_tree params all level cell octant is below = (kid_by_bit params all level cell octant is below, bit_by_kid params all level cell octant is below)

-- ---- an octant without its bit

nothing_else : (bs : List Body) → (bs ≢ [] → ⊥) → bs ≡ []
nothing_else [] never = refl
nothing_else (b ∷ bs) never = absurd (never (λ none. absurd (cc)))

pub empty_octant : (params : Params) (all : List Body) (level : ℕ) (cell : Cell) (octant : ℕ) → IsTreeCell params all level cell → octant < 8 → cell.kids ≢ 0 → cell.kids / 2 ^ octant % 2 ≢ 1 → in_cell (level + 1) (8 * cell.key + octant) all ≡ []
empty_octant params all level cell octant is below some unset =
    nothing_else (in_cell (level + 1) (8 * cell.key + octant) all)
    (λ more. unset ((kid_some params all level cell octant is below (divided_by_kids params all level cell is some)).1 more))

-- ---- the root

pub root_of_tree : (params : Params) (all : List Body) → all ≢ [] → (root : Cell) × (IsTreeCell params all 0 root × (root.key ≡ 1))
root_of_tree params all some = (
  cell_at params all 0 1,
  (
    cell_at_is params all 0 1 (record { deepest = omega arith; least = omega arith; below = omega arith }) (λ none. some (sym (in_root all) ∙ none)) (λ deeper. absurd (deeper refl)),
    key_of_cell_at params all 0 1,
  ),
)
