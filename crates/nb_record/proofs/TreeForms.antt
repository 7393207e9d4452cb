-- The cells of a tree of valid bodies are of the form.
use Rattle.std.proofs.Common.{◌≡◌, ℕ, suc, ◌-◌, ◌*◌, ◌/◌, ◌^◌, ◌<◌, ◌≤◌, ◌==◌, not, List, [], ◌∷◌, length, sym, refl, subst, inl, inr, arith}
use Rattle.std.specs.Prelude.{◌≢◌, sum_by, All}
use Rattle.std.proofs.Math.Nat.{pow-suc, div-lt_iff_lt-mul}
use Rattle.std.proofs.lemmas.Bool.{cases_lt}
use Rattle.std.proofs.lemmas.Nat.{mul-le}
use Rattle.std.proofs.lemmas.List.Elements.{All-head, All-tail, All-filter, All-weaker}
use Rattle.std.proofs.lemmas.List.Sums.{sum_by-cons}
use Rattle.nb_model.specs.declared.body.Body.{Body}
use Rattle.nb_model.specs.declared.params.Params.{Params}
use Rattle.nb_model.specs.Octree.{total_mass, centre_of_mass}
use Rattle.nb_model.specs.Valid.{IsInBox, IsValidBody}
use Rattle.nb_model.specs.Leapfrog.{unescaped}
use Rattle.nb_model.proofs.Facts.{length-filter-le}
use Rattle.nb_key.specs.Morton.{key_at, IsKeyAt}
use Rattle.nb_key.proofs.Levels.{eight_mono}
use Rattle.nb_record.specs.declared.cell.Cell.{Cell}
use Rattle.nb_record.specs.Records.{IsCell}
use Rattle.nb_record.specs.Cells.{in_cell, tree_cells, IsTreeCell}
use Rattle.nb_record.proofs.Kids.{kids_of-lt}
use Rattle.nb_record.proofs.Ranges.{Inside, inside_box, range_within}
use Rattle.nb_record.proofs.TreeCells.{OfTree, each_of_tree}
use Rattle.nb_record.proofs.TreeFound.{root_reached}

-- ---- sums over valid bodies

mass_bounds : (bs : List Body) → All IsValidBody bs → (length bs ≤ total_mass bs) × (total_mass bs ≤ 2 ^ 32 * length bs)
mass_bounds [] each = (omega arith, omega arith)
mass_bounds (b ∷ bs) each =
    let valid : IsValidBody b = All-head IsValidBody b bs each in
    let rest = mass_bounds bs (All-tail IsValidBody b bs each) in
    let more = sum_by-cons (λ c. c.mass) b bs in
    (omega (arith, more, rest.0, valid.some_mass), omega (arith, more, rest.1, valid.mass))

moment_bound : (along : Body → ℕ) (bs : List Body) → All (λ b. along b < 2 ^ 40) bs → sum_by (λ b. b.mass * along b) bs ≤ (2 ^ 40 - 1) * total_mass bs
moment_bound along [] each = omega arith
moment_bound along (b ∷ bs) each =
    let small : along b < 2 ^ 40 = All-head (λ c. along c < 2 ^ 40) b bs each in
    let one : b.mass * along b ≤ b.mass * (2 ^ 40 - 1) = mul-le b.mass (along b) b.mass (2 ^ 40 - 1) (omega arith) (omega arith) in
    omega (arith, sum_by-cons (λ c. c.mass * along c) b bs, sum_by-cons (λ c. c.mass) b bs, one, moment_bound along bs (All-tail (λ c. along c < 2 ^ 40) b bs each))

-- a mean is within the bounds of what it is the mean of
mean_below : (along : Body → ℕ) (bs : List Body) → All (λ b. along b < 2 ^ 40) bs → 0 < total_mass bs → sum_by (λ b. b.mass * along b) bs / total_mass bs < 2 ^ 40
mean_below along bs each some = (div-lt_iff_lt-mul {y = 2 ^ 40} some).1 (omega (arith, moment_bound along bs each))

pub centre_in_box : (bs : List Body) → All IsValidBody bs → 0 < total_mass bs → IsInBox (centre_of_mass bs)
centre_in_box bs each some = record {
  x = mean_below (λ b. b.at.x) bs (All-weaker IsValidBody (λ b. b.at.x < 2 ^ 40) (λ b valid. valid.at.x) bs each) some;
  y = mean_below (λ b. b.at.y) bs (All-weaker IsValidBody (λ b. b.at.y < 2 ^ 40) (λ b valid. valid.at.y) bs each) some;
  z = mean_below (λ b. b.at.z) bs (All-weaker IsValidBody (λ b. b.at.z < 2 ^ 40) (λ b valid. valid.at.z) bs each) some;
}

-- ---- the form

some_length : (bs : List Body) → bs ≢ [] → 0 < length bs
some_length [] some = absurd (some refl)
some_length (b ∷ bs) some = omega arith

deepest_by_key : (level key : ℕ) → IsKeyAt level key → 8 ^ 21 ≤ key → level ≡ 21
deepest_by_key level key is deep =
    elim (cases_lt level 21) [
      | inl above ↦ absurd (omega (arith, is.below, eight_mono (suc level) 21 above, pow-suc 8 level))
      | inr from ↦ omega (arith, is.deepest)
    ]

kids_below : (params : Params) (all : List Body) (level : ℕ) (cell : Cell) → IsTreeCell params all level cell → cell.kids < 256
kids_below params all level cell is =
    let bodies = in_cell level cell.key all in
    elim (cases_lt params.leaf (length bodies)) [
      | inl many ↦ elim (cases_lt level 21) [
        | inl above ↦ omega (arith, is.divided many above, kids_of-lt level bodies)
        | inr deep ↦ omega (arith, is.leaf (inr (omega (arith, is.key.deepest))))
      ]
      | inr few ↦ omega (arith, is.leaf (inl few))
    ]

form_of_cell : (params : Params) (all : List Body) (level : ℕ) (cell : Cell) → All IsValidBody all → length all ≤ 2 ^ 24 → Inside all → IsTreeCell params all level cell → IsCell cell
form_of_cell params all level cell valid most stay is =
    let bodies = in_cell level cell.key all in
    let each : All IsValidBody bodies = All-filter (λ b. key_at level b.at == cell.key) IsValidBody all valid in
    let some = some_length bodies is.some in
    let mass = mass_bounds bodies each in
    let range = range_within level cell.key all is.key stay is.some in
    record {
      key = (level, is.key);
      some_mass = omega (arith, is.mass, mass.0, some);
      mass = omega (arith, is.mass, mass.1, range, most);
      centre = subst IsInBox (sym is.centre) (centre_in_box bodies each (omega (arith, mass.0, some)));
      first = omega (arith, is.first, range, some, most);
      some_bodies = omega (arith, is.count, some);
      count = omega (arith, is.count, range, most);
      kids = kids_below params all level cell is;
      deepest = λ deep. is.leaf (inr (deepest_by_key level cell.key is.key deep));
    }

pub tree_form : (params : Params) (bodies : List Body) → All IsValidBody bodies → length bodies ≤ 2 ^ 24 → All IsCell (tree_cells params bodies)
tree_form params bodies valid most =
    let all = unescaped bodies in
    let stays = λ (b : Body). not b.out in
    All-weaker (OfTree params all) IsCell
    (λ cell of. form_of_cell params all of.0 cell (All-filter stays IsValidBody bodies valid) (omega (arith, length-filter-le stays bodies, most)) (inside_box bodies) of.1)
    (tree_cells params bodies) (each_of_tree params all 21 [] all (root_reached params all))
