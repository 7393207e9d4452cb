-- The bodies of a cell, in the file of all bodies.
use Rattle.std.proofs.Common.{◌≡◌, ℕ, zero, suc, ◌+◌, ◌<◌, ◌≤◌, ◌↔◌, Bool, true, eqb, List, [], ◌∷◌, ◌++◌, length, take, drop, sym, ap, ◌∙◌, refl, subst, inl, inr, arith}
use Rattle.std.specs.Prelude.{filter, slice_get, sum_by, Contains}
use Rattle.std.proofs.lemmas.Bool.{eq-eqb}
use Rattle.std.proofs.lemmas.List.{length-drop, take-append-le, drop-append-le}
use Rattle.std.proofs.lemmas.List.Elements.{All-filter, All-contains, All-contains_itself}
use Rattle.std.proofs.lemmas.List.Sorted.{IsPermutation-sym, sum_by-IsPermutation}
use Rattle.nb_model.specs.declared.body.At.{At}
use Rattle.nb_model.specs.declared.body.Body.{Body}
use Rattle.nb_model.specs.declared.params.Params.{Params}
use Rattle.nb_model.specs.Octree.{total_mass}
use Rattle.nb_model.specs.Gravity.{direct_sum}
use Rattle.nb_model.specs.Leapfrog.{unescaped}
use Rattle.nb_key.specs.Morton.{key_at}
use Rattle.nb_record.specs.declared.cell.Cell.{Cell}
use Rattle.nb_record.specs.Order.{by_key, sorted_by}
use Rattle.nb_record.specs.Cells.{in_cell, IsTreeCell}
use Rattle.nb_record.proofs.Sorting.{either, permuted}
use Rattle.nb_record.proofs.Splits.{length-sorted_by, filter_yes, filter_no}
use Rattle.nb_record.proofs.Orders.{parts}
use Rattle.nb_record.proofs.Ranges.{inside_box, cell_range, range_within}
use Rattle.nb_record.proofs.Siblings.{all_in_cell}
use Rattle.nb_record.proofs.SameForces.{same_direct_sum}

-- ---- one body

read_front : (fs gs : List Body) (j : ℕ) → j < length fs → slice_get (fs ++ gs) j ≡ slice_get fs j
read_front [] gs j below = absurd (omega arith)
read_front (b ∷ fs) gs zero below = refl
read_front (b ∷ fs) gs (suc j) below = read_front fs gs j (omega arith)

pub read_unescaped : (bodies : List Body) (j : ℕ) → j < length (unescaped bodies) → slice_get (sorted_by by_key bodies) j ≡ slice_get (sorted_by by_key (unescaped bodies)) j
read_unescaped bodies j below =
    let out = filter (λ b. b.out) bodies in
    ap (λ l. slice_get l j) (parts bodies)
    ∙ read_front (sorted_by by_key (unescaped bodies)) (sorted_by by_key out) j (omega (arith, length-sorted_by by_key (unescaped bodies)))

kept : (p : Body → Bool) (b : Body) (bs : List Body) → p b ≡ true → Contains bs b → Contains (filter p bs) b
kept p b [] is (k, below, at) = absurd (omega arith)
kept p b (c ∷ cs) is (zero, below, at) = subst (λ l. Contains l b) (sym (filter_yes p c cs (ap p at ∙ is))) (0, omega arith, at)
kept p b (c ∷ cs) is (suc k, below, at) =
    let rest = kept p b cs is (k, omega arith, at) in
    elim (either (p c)) [
      | inl passes ↦ subst (λ l. Contains l b) (sym (filter_yes p c cs passes)) (suc rest.0, omega (arith, rest.1), rest.2)
      | inr fails ↦ subst (λ l. Contains l b) (sym (filter_no p c cs fails)) rest
    ]

pub member_of_cell : (level key : ℕ) (bodies : List Body) (b : Body) → Contains (in_cell level key bodies) b ↔ (Contains bodies b × (key_at level b.at ≡ key))
member_of_cell level key bodies b =
    let test = λ (c : Body). eqb (key_at level c.at) key in (
      λ within. (
        All-contains (Contains bodies) (in_cell level key bodies) b (All-filter test (Contains bodies) bodies (All-contains_itself bodies)) within,
        All-contains (λ c. key_at level c.at ≡ key) (in_cell level key bodies) b (all_in_cell level key bodies) within,
      ),
      λ both. kept test b bodies (eq-eqb (key_at level b.at) key both.1) both.0,
    )

-- ---- those of a cell of the tree

pub cell_within : (params : Params) (bodies : List Body) (level : ℕ) (cell : Cell) → IsTreeCell params (unescaped bodies) level cell → cell.first + cell.count ≤ length (unescaped bodies)
cell_within params bodies level cell is =
    omega (arith, is.first, is.count, range_within level cell.key (unescaped bodies) is.key (inside_box bodies) is.some)

pub cell_read : (params : Params) (bodies : List Body) (level : ℕ) (cell : Cell) → IsTreeCell params (unescaped bodies) level cell → take cell.count (drop cell.first (sorted_by by_key bodies)) ≡ sorted_by by_key (in_cell level cell.key (unescaped bodies))
cell_read params bodies level cell is =
    let all = unescaped bodies in
    let order = sorted_by by_key all in
    let out = sorted_by by_key (filter (λ b. b.out) bodies) in
    let within = cell_within params bodies level cell is in
    let long = length-sorted_by by_key all in
    ap (λ l. take cell.count (drop cell.first l)) (parts bodies)
    ∙ ap (take cell.count) (drop-append-le cell.first order out (omega (arith, within, long)))
    ∙ take-append-le cell.count (drop cell.first order) out (omega (arith, within, long, length-drop cell.first order))
    ∙ ap (λ n. take n (drop cell.first order)) is.count
    ∙ ap (λ n. take (length (in_cell level cell.key all)) (drop n order)) is.first
    ∙ cell_range level cell.key all is.key (inside_box bodies) is.some

pub cell_pulls : (params : Params) (bodies : List Body) (p : At) (level : ℕ) (cell : Cell) → IsTreeCell params (unescaped bodies) level cell → direct_sum params p (take cell.count (drop cell.first (sorted_by by_key bodies))) ≡ direct_sum params p (in_cell level cell.key (unescaped bodies))
cell_pulls params bodies p level cell is =
    let own = in_cell level cell.key (unescaped bodies) in
    ap (direct_sum params p) (cell_read params bodies level cell is)
    ∙ same_direct_sum params p (sorted_by by_key own) own (IsPermutation-sym own (sorted_by by_key own) (permuted by_key own))

pub cell_sums : (f : Body → ℕ) (params : Params) (bodies : List Body) (level : ℕ) (cell : Cell) → IsTreeCell params (unescaped bodies) level cell → sum_by f (take cell.count (drop cell.first (sorted_by by_key bodies))) ≡ sum_by f (in_cell level cell.key (unescaped bodies))
cell_sums f params bodies level cell is =
    let own = in_cell level cell.key (unescaped bodies) in
    ap (sum_by f) (cell_read params bodies level cell is) ∙ sum_by-IsPermutation f own (sorted_by by_key own) (permuted by_key own)

pub cell_weighs : (params : Params) (bodies : List Body) (level : ℕ) (cell : Cell) → IsTreeCell params (unescaped bodies) level cell → total_mass (take cell.count (drop cell.first (sorted_by by_key bodies))) ≡ cell.mass
cell_weighs params bodies level cell is = cell_sums (λ b. b.mass) params bodies level cell is ∙ sym is.mass
