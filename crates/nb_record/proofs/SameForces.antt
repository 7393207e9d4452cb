-- A force doesn't depend on the order of the bodies that give it.
use Rattle.std.proofs.Common.{◌≡◌, ℕ, zero, suc, ◌+◌, ◌-◌, ◌*◌, ◌/◌, ◌<◌, ◌≤◌, Bool, true, false, cond, not, ◌&&◌, eqb, leb, List, [], ◌∷◌, length, map, get_or, sym, ap, ◌∙◌, refl, subst, arith}
use Rattle.std.specs.Prelude.{All, IsPermutation}
use Rattle.std.proofs.lemmas.Bool.{eqb-true}
use Rattle.std.proofs.lemmas.List.Elements.{All-head, All-filter, filter_passes}
use Rattle.std.proofs.lemmas.List.Sorted.{All-permutation, IsPermutation-map}
use Rattle.nb_model.specs.declared.body.At.{At}
use Rattle.nb_model.specs.declared.body.V3.{V3}
use Rattle.nb_model.specs.declared.body.Body.{Body}
use Rattle.nb_model.specs.declared.params.Params.{Params}
use Rattle.nb_model.specs.Limits.{deepest_level}
use Rattle.nb_model.specs.Valid.{IsInBox}
use Rattle.nb_model.specs.Vector.{vector_sum}
use Rattle.nb_model.specs.Octree.{cell_side, octant_at, in_octant, is_same_cell, total_mass, centre_of_mass}
use Rattle.nb_model.specs.Gravity.{pull, is_far, is_accepted, direct_sum, octants, cell_force, force_to_depth, force_on}
use Rattle.nb_model.specs.Leapfrog.{unescaped}
use Rattle.nb_key.specs.Morton.{key_at}
use Rattle.nb_key.proofs.Ranges.{same_cell}
use Rattle.nb_record.specs.Cells.{in_cell}
use Rattle.nb_record.proofs.VectorSums.{vector_sum-IsPermutation}
use Rattle.nb_record.proofs.Moves.{IsPermutation-filter}
use Rattle.nb_record.proofs.Siblings.{in_root, all_in_cell, key_step_one}
use Rattle.nb_record.proofs.SameTrees.{same_mass, same_centre, same_length, same_octant}

-- ---- bodies that pull one by one

pub same_direct_sum : (params : Params) (p : At) (xs ys : List Body) → IsPermutation xs ys → direct_sum params p xs ≡ direct_sum params p ys
same_direct_sum params p xs ys is =
    let by = λ (b : Body). pull params p b.mass b.at in
    vector_sum-IsPermutation (map by xs) (map by ys) (IsPermutation-map by xs ys is)

-- ---- a cell

-- all lie in one cell
abbrev InOneCell : ℕ → ℕ → List Body → Type 0
InOneCell level key bs = All (λ b. IsInBox b.at × (key_at level b.at ≡ key)) bs

three_true : (a b c : Bool) → (a && b && c) ≡ true → (a ≡ true) × (b ≡ true) × (c ≡ true)
three_true true true true e = (refl, refl, refl)
three_true true true false e = absurd (cc)
three_true true false c e = absurd (cc)
three_true false b c e = absurd (cc)

-- a cell holds a position by any of its bodies
same_holds : (level : ℕ) (p q r : At) → level ≤ 21 → IsInBox q → IsInBox r → key_at level q ≡ key_at level r → is_same_cell level p q ≡ is_same_cell level p r
same_holds level p q r within in_q in_r key =
    let side = cell_side level in
    let each = three_true (eqb (q.x / side) (r.x / side)) (eqb (q.y / side) (r.y / side)) (eqb (q.z / side) (r.z / side)) ((same_cell level q r within in_q in_r).0 key) in
    let x : q.x / side ≡ r.x / side = eqb-true (q.x / side) (r.x / side) each.0 in
    let y : q.y / side ≡ r.y / side = eqb-true (q.y / side) (r.y / side) each.1 in
    let z : q.z / side ≡ r.z / side = eqb-true (q.z / side) (r.z / side) each.2 in
    ap (λ n. eqb (p.x / side) n && eqb (p.y / side) (q.y / side) && eqb (p.z / side) (q.z / side)) x
    ∙ ap (λ n. eqb (p.x / side) (r.x / side) && eqb (p.y / side) n && eqb (p.z / side) (q.z / side)) y
    ∙ ap (λ n. eqb (p.x / side) (r.x / side) && eqb (p.y / side) (r.y / side) && eqb (p.z / side) n) z

same_choice : {s t : Bool} {v w x y : V3} → s ≡ t → v ≡ w → x ≡ y → cond s v x ≡ cond t w y
same_choice test first second = cc

same_cell_force : (params : Params) (p : At) (level key : ℕ) (xs ys : List Body) (v w : V3) → level ≤ 21 → InOneCell level key xs → IsPermutation xs ys → v ≡ w → cell_force params p level xs v ≡ cell_force params p level ys w
same_cell_force params p level key [] [] v w within one is opened = refl
same_cell_force params p level key [] (y ∷ ys) v w within one is opened = absurd (omega (arith, same_length [] (y ∷ ys) is))
same_cell_force params p level key (x ∷ xs) [] v w within one is opened = absurd (omega (arith, same_length (x ∷ xs) [] is))
same_cell_force params p level key (x ∷ xs) (y ∷ ys) v w within one is opened =
    let OneCell = λ (b : Body). IsInBox b.at × (key_at level b.at ≡ key) in
    let of_x : IsInBox x.at × (key_at level x.at ≡ key) = All-head OneCell x xs one in
    let of_y : IsInBox y.at × (key_at level y.at ≡ key) = All-head OneCell y ys (All-permutation OneCell (x ∷ xs) (y ∷ ys) is one) in
    let holds : is_same_cell level p x.at ≡ is_same_cell level p y.at = same_holds level p x.at y.at within of_x.0 of_y.0 (of_x.1 ∙ sym of_y.1) in
    let mass = same_mass (x ∷ xs) (y ∷ ys) is in
    let centre = same_centre (x ∷ xs) (y ∷ ys) is in
    let accepted : is_accepted params p level (x ∷ xs) ≡ is_accepted params p level (y ∷ ys) =
    ap (λ t. not t && is_far params p level (centre_of_mass (x ∷ xs))) holds ∙ ap (λ c. not (is_same_cell level p y.at) && is_far params p level c) centre in
    let pulls : pull params p (total_mass (x ∷ xs)) (centre_of_mass (x ∷ xs)) ≡ pull params p (total_mass (y ∷ ys)) (centre_of_mass (y ∷ ys)) =
    ap (λ m. pull params p m (centre_of_mass (x ∷ xs))) mass ∙ ap (λ c. pull params p (total_mass (y ∷ ys)) c) centre in
    same_choice accepted pulls opened

-- ---- all cells below

octant_in_one : (level key octant : ℕ) (bs : List Body) → octant < 8 → InOneCell level key bs → InOneCell (level + 1) (8 * key + octant) (in_octant level bs octant)
octant_in_one level key octant bs below one =
    let test = λ (b : Body). eqb (octant_at level b.at) octant in
    All-zip_with (λ b. IsInBox b.at × (key_at level b.at ≡ key)) (λ b. test b ≡ true) (λ b. IsInBox b.at × (key_at (level + 1) b.at ≡ 8 * key + octant))
    (λ b here passes. (here.0, key_step_one level b.at ∙ ap (λ k. 8 * k + octant_at level b.at) here.1 ∙ ap (λ o. 8 * key + o) (eqb-true (octant_at level b.at) octant passes)))
    (in_octant level bs octant) (All-filter test (λ b. IsInBox b.at × (key_at level b.at ≡ key)) bs one) (filter_passes test bs) where
      All-zip_with : (P Q R : Body → Type 0) → ((b : Body) → P b → Q b → R b) → (cs : List Body) → All P cs → All Q cs → All R cs
      All-zip_with P Q R both cs ps qs k d within = both (get_or cs k d) (ps k d within) (qs k d within)

force_suc : (params : Params) (p : At) (depth : ℕ) (bs : List Body) → force_to_depth params p (suc depth) bs ≡ cell_force params p (deepest_level - 1 - depth) bs (cond (leb (length bs) params.leaf) (direct_sum params p bs) (vector_sum (map (λ octant. force_to_depth params p depth (in_octant (deepest_level - 1 - depth) bs octant)) octants)))
unfolding force_to_depth
force_suc params p depth bs = refl

force_zero : (params : Params) (p : At) (bs : List Body) → force_to_depth params p 0 bs ≡ cell_force params p deepest_level bs (direct_sum params p bs)
unfolding force_to_depth
force_zero params p bs = refl

pub octants_agree : (f g : ℕ → V3) → ((octant : ℕ) → octant < 8 → f octant ≡ g octant) → map f octants ≡ map g octants
octants_agree f g same =
    λ i. same 0 (omega arith) i ∷ same 1 (omega arith) i ∷ same 2 (omega arith) i ∷ same 3 (omega arith) i ∷ same 4 (omega arith) i ∷ same 5 (omega arith) i ∷ same 6 (omega arith) i ∷ same 7 (omega arith) i ∷ []

same_force : (params : Params) (p : At) (depth level key : ℕ) (xs ys : List Body) → level + depth ≡ 21 → InOneCell level key xs → IsPermutation xs ys → force_to_depth params p depth xs ≡ force_to_depth params p depth ys
same_force params p zero level key xs ys whole one is =
    let deep : level ≡ 21 = omega arith in
    force_zero params p xs
    ∙ same_cell_force params p 21 key xs ys (direct_sum params p xs) (direct_sum params p ys) (omega arith) (subst (λ l. InOneCell l key xs) deep one) is (same_direct_sum params p xs ys is)
    ∙ sym (force_zero params p ys)
same_force params p (suc depth) level key xs ys whole one is =
    let at : deepest_level - 1 - depth ≡ level = omega arith in
    let force = λ (bs : List Body) (octant : ℕ). force_to_depth params p depth (in_octant level bs octant) in
    let forces = λ (bs : List Body). vector_sum (map (force bs) octants) in
    let octants_same : forces xs ≡ forces ys =
    ap vector_sum (octants_agree (force xs) (force ys)
    (λ octant below. same_force params p depth (level + 1) (8 * key + octant) (in_octant level xs octant) (in_octant level ys octant) (omega arith) (octant_in_one level key octant xs below one) (same_octant level xs ys octant is))) in
    let opened = λ (bs : List Body). cond (leb (length bs) params.leaf) (direct_sum params p bs) (forces bs) in
    let same : opened xs ≡ opened ys = same_choice (ap (λ n. leb n params.leaf) (same_length xs ys is)) (same_direct_sum params p xs ys is) octants_same in
    let by_level = λ (bs : List Body) (l : ℕ). cell_force params p l bs (cond (leb (length bs) params.leaf) (direct_sum params p bs) (vector_sum (map (λ octant. force_to_depth params p depth (in_octant l bs octant)) octants))) in
    force_suc params p depth xs
    ∙ ap (by_level xs) at
    ∙ same_cell_force params p level key xs ys (opened xs) (opened ys) (omega arith) one is same
    ∙ sym (ap (by_level ys) at)
    ∙ sym (force_suc params p depth ys)

-- ---- the bodies of a cell

pub same_force_of_cell : (params : Params) (p : At) (level key : ℕ) (xs ys : List Body) → level ≤ 21 → All (λ b. IsInBox b.at) xs → IsPermutation xs ys → force_on params p level (in_cell level key xs) ≡ force_on params p level (in_cell level key ys)
same_force_of_cell params p level key xs ys within box is =
    let test = λ (b : Body). eqb (key_at level b.at) key in
    let one : InOneCell level key (in_cell level key xs) =
    λ k d below. (All-filter test (λ b. IsInBox b.at) xs box k d below, all_in_cell level key xs k d below) in
    same_force params p (21 - level) level key (in_cell level key xs) (in_cell level key ys) (omega arith) one (IsPermutation-filter test xs ys is)

pub same_force_of_all : (params : Params) (p : At) (xs ys : List Body) → All (λ b. IsInBox b.at) xs → IsPermutation xs ys → force_on params p 0 (unescaped xs) ≡ force_on params p 0 (unescaped ys)
same_force_of_all params p xs ys box is =
    let stays = λ (b : Body). not b.out in
    let inside : All (λ b. IsInBox b.at) (unescaped xs) = All-filter stays (λ b. IsInBox b.at) xs box in
    ap (force_on params p 0) (sym (in_root (unescaped xs)))
    ∙ same_force_of_cell params p 0 1 (unescaped xs) (unescaped ys) (omega arith) inside (IsPermutation-filter stays xs ys is)
    ∙ ap (force_on params p 0) (in_root (unescaped ys))
