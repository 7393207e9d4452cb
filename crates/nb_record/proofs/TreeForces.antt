-- The force of a cell of a tree, told by what the cell says.
use Rattle.std.proofs.Common.{◌≡◌, ℕ, ◌+◌, ◌*◌, ◌≤◌, ◌==◌, ◌↔◌, Bool, true, false, not, ◌&&◌, List, [], ◌∷◌, map, sym, ap, ◌∙◌, refl, inl, inr}
use Rattle.std.specs.Prelude.{◌≢◌, ◌⊎◌, All}
use Rattle.std.proofs.lemmas.List.Elements.{All-head, All-filter}
use Rattle.nb_model.specs.declared.body.At.{At}
use Rattle.nb_model.specs.declared.body.Body.{Body}
use Rattle.nb_model.specs.declared.params.Params.{Params}
use Rattle.nb_model.specs.Valid.{IsInBox}
use Rattle.nb_model.specs.Vector.{vector_sum}
use Rattle.nb_model.specs.Octree.{in_octant, centre_of_mass}
use Rattle.nb_model.specs.Gravity.{pull, is_far, cell_holds, is_accepted, direct_sum, octants, force_on}
use Rattle.nb_model.proofs.Facts.{force_on-accepted, force_on-small_leaf, force_on-deepest_leaf, force_on-divided}
use Rattle.nb_key.specs.Morton.{key_at}
use Rattle.nb_key.proofs.Ranges.{same_cell}
use Rattle.nb_record.specs.declared.cell.Cell.{Cell}
use Rattle.nb_record.specs.Cells.{in_cell, IsTreeCell}
use Rattle.nb_record.proofs.Sorting.{either}
use Rattle.nb_record.proofs.Siblings.{octant_of_cell, all_in_cell}
use Rattle.nb_record.proofs.TreeKids.{leaf_by_kids, divided_by_kids}
use Rattle.nb_record.proofs.SameForces.{octants_agree}

-- ---- whether it is accepted

-- a cell holds a position that has its key
holds_by_key : (level key : ℕ) (p : At) (bodies : List Body) → level ≤ 21 → IsInBox p → All (λ b. IsInBox b.at) bodies → All (λ b. key_at level b.at ≡ key) bodies → bodies ≢ [] → (key_at level p ≡ key) ↔ (cell_holds level p bodies ≡ true)
holds_by_key level key p [] within in_p box each some = absurd (some refl)
holds_by_key level key p (b ∷ bs) within in_p box each some =
    let same = same_cell level p b.at within in_p (All-head (λ c. IsInBox c.at) b bs box) in
    let of_b : key_at level b.at ≡ key = All-head (λ c. key_at level c.at ≡ key) b bs each in
    (λ here. same.0 (here ∙ sym of_b), λ holds. same.1 holds ∙ of_b)

-- a cell of a tree, whose bodies are in the box, and a position of the box
pub record Meets (params : Params) (all : List Body) (p : At) (level : ℕ) (cell : Cell) : Type 0 where
  pub box : All (λ b. IsInBox b.at) all
  pub within : IsInBox p
  pub is : IsTreeCell params all level cell

held : (params : Params) (all : List Body) (p : At) (level : ℕ) (cell : Cell) → Meets params all p level cell → (key_at level p ≡ cell.key) ↔ (cell_holds level p (in_cell level cell.key all) ≡ true)
held params all p level cell meets =
    holds_by_key level cell.key p (in_cell level cell.key all) meets.is.key.deepest meets.within
    (All-filter (λ b. key_at level b.at == cell.key) (λ b. IsInBox b.at) all meets.box) (all_in_cell level cell.key all) meets.is.some

accepted : (params : Params) (all : List Body) (p : At) (level : ℕ) (cell : Cell) → Meets params all p level cell → key_at level p ≢ cell.key → is_far params p level cell.centre ≡ true → is_accepted params p level (in_cell level cell.key all) ≡ true
accepted params all p level cell meets away far =
    let bodies = in_cell level cell.key all in
    let outside : cell_holds level p bodies ≡ false = elim (either (cell_holds level p bodies)) [ inl holds ↦ absurd (away ((held params all p level cell meets).1 holds)) | inr not_held ↦ not_held ] in
    ap (λ t. not t && is_far params p level (centre_of_mass bodies)) outside ∙ ap (is_far params p level) (sym meets.is.centre) ∙ far

refused : (params : Params) (all : List Body) (p : At) (level : ℕ) (cell : Cell) → Meets params all p level cell → (key_at level p ≡ cell.key) ⊎ (is_far params p level cell.centre ≡ false) → is_accepted params p level (in_cell level cell.key all) ≡ false
refused params all p level cell meets (inl here) =
    ap (λ t. not t && is_far params p level (centre_of_mass (in_cell level cell.key all))) ((held params all p level cell meets).0 here)
refused params all p level cell meets (inr near) =
    let bodies = in_cell level cell.key all in
    ap (λ c. not (cell_holds level p bodies) && is_far params p level c) (sym meets.is.centre) ∙ ap (λ t. not (cell_holds level p bodies) && t) near ∙ and_false (not (cell_holds level p bodies)) where
      and_false : (t : Bool) → (t && false) ≡ false
      and_false true = refl
      and_false false = refl

-- ---- what it gives

pub force_taken : (params : Params) (all : List Body) (p : At) (level : ℕ) (cell : Cell) → Meets params all p level cell → key_at level p ≢ cell.key → is_far params p level cell.centre ≡ true → force_on params p level (in_cell level cell.key all) ≡ pull params p cell.mass cell.centre
force_taken params all p level cell meets away far =
    let bodies = in_cell level cell.key all in
    force_on-accepted params p level bodies meets.is.key.deepest meets.is.some (accepted params all p level cell meets away far)
    ∙ ap (λ m. pull params p m (centre_of_mass bodies)) (sym meets.is.mass)
    ∙ ap (λ c. pull params p cell.mass c) (sym meets.is.centre)

pub force_of_leaf : (params : Params) (all : List Body) (p : At) (level : ℕ) (cell : Cell) → Meets params all p level cell → (key_at level p ≡ cell.key) ⊎ (is_far params p level cell.centre ≡ false) → cell.kids ≡ 0 → force_on params p level (in_cell level cell.key all) ≡ direct_sum params p (in_cell level cell.key all)
force_of_leaf params all p level cell meets opened none =
    let bodies = in_cell level cell.key all in
    let no = refused params all p level cell meets opened in
    elim (leaf_by_kids params all level cell meets.is none) [
      | inl few ↦ force_on-small_leaf params p level bodies meets.is.key.deepest few meets.is.some no
      | inr deep ↦ force_on-deepest_leaf params p level bodies deep meets.is.some no
    ]

pub force_of_octants : (params : Params) (all : List Body) (p : At) (level : ℕ) (cell : Cell) → Meets params all p level cell → (key_at level p ≡ cell.key) ⊎ (is_far params p level cell.centre ≡ false) → cell.kids ≢ 0 → force_on params p level (in_cell level cell.key all) ≡ vector_sum (map (λ octant. force_on params p (level + 1) (in_cell (level + 1) (8 * cell.key + octant) all)) octants)
force_of_octants params all p level cell meets opened some =
    let bodies = in_cell level cell.key all in
    let divided = divided_by_kids params all level cell meets.is some in
    force_on-divided params p level bodies divided.above divided.many meets.is.some (refused params all p level cell meets opened)
    ∙ ap vector_sum (octants_agree (λ octant. force_on params p (level + 1) (in_octant level bodies octant)) (λ octant. force_on params p (level + 1) (in_cell (level + 1) (8 * cell.key + octant) all))
    (λ octant below. ap (force_on params p (level + 1)) (octant_of_cell level cell.key octant all below)))
