-- Walks that are on their way over a tree: from their beginning to their end.
use Rattle.std.proofs.Common.{◌≡◌, ℕ, ◌+◌, List, [], ◌∷◌, ◌++◌, Option, None, length, sym, ap, ◌∙◌, refl, arith, subst}
use Rattle.std.specs.Prelude.{◌≢◌, All, Contains}
use Rattle.std.proofs.lemmas.List.{length-map, length_push, map-append}
use Rattle.std.proofs.lemmas.List.Sums.{sum_by-cons}
use Rattle.std.proofs.lemmas.List.Elements.{All-nil, All-cons, All-head, All-tail, All-push, All-map}
use Rattle.nb_model.specs.declared.body.At.{At}
use Rattle.nb_model.specs.declared.body.Body.{Body}
use Rattle.nb_model.specs.declared.params.Params.{Params}
use Rattle.nb_model.specs.Gravity.{force_on}
use Rattle.nb_model.specs.Leapfrog.{unescaped}
use Rattle.nb_model.specs.Octree.{total_mass}
use Rattle.nb_model.specs.Vector.{zero_vector, plus}
use Rattle.nb_host.specs.declared.page_name.PageName.{PageName}
use Rattle.nb_record.specs.declared.tree.Tree.{Tree}
use Rattle.nb_record.specs.Cells.{in_cell}
use Rattle.nb_record.specs.Tree.{IsTreeOf}
use Rattle.nb_record.proofs.Callers.{in_root, plus-zero, plus_comm, vector_sum-cons}
use Rattle.nb_walk.specs.declared.item.Item.{Item}
use Rattle.nb_walk.specs.declared.item.Item.TheVariants as item
use Rattle.nb_walk.specs.Items.{root_items, page_for, item_force, item_mass, remaining_force}
use Rattle.nb_walk.specs.Left.{IsItemOf}
use Rattle.nb_walk.specs.Page.{IsShown}
use Rattle.nb_walk.specs.Shown.{shown_for}
use Rattle.nb_walk.specs.Walk.{WalkValue, new_walk, IsSumInRange, IsWithin, IsWalkOn}
use Rattle.nb_walk.specs.Pool.{PooledWalk, unasked, all_unasked, with_walk, sums, AreSumsInRange, AreWithin, AreOn, AreFinished, SomeWaits, IsWanted, CanGoOn, Called, HaveForces, targets}
use Rattle.nb_walk.specs.Pool.Called.{New, Begun, Advanced}
use Rattle.nb_walk.proofs.KeyLevels.{root_level}
use Rattle.nb_walk.proofs.TreeItems.{root_is_item}

pub walk_begun : (params : Params) (bodies : List Body) (tree : Tree) (files : ℕ → List ℕ) (p : At) → IsTreeOf tree files params bodies → IsWalkOn params bodies tree (files tree.cells) (new_walk p)
walk_begun params bodies tree files p of_tree =
    let all = unescaped bodies in
    let root = item.Cell 1 0 in
    let force : item_force params bodies p root ≡ force_on params p 0 all = ap (λ l. force_on params p l (in_cell l 1 all)) root_level ∙ ap (force_on params p 0) (in_root all) in
    let mass : item_mass bodies root ≡ total_mass all = ap (λ l. total_mass (in_cell l 1 all)) root_level ∙ ap total_mass (in_root all) in
    let one = sum_by-cons (item_mass bodies) root [] in
    let own = of_tree.mass in
    record {
      sum =
          plus_comm zero_vector (remaining_force params bodies p root_items)
          ∙ plus-zero (remaining_force params bodies p root_items)
          ∙ vector_sum-cons (item_force params bodies p root) []
          ∙ plus-zero (item_force params bodies p root)
          ∙ force;
      mass = omega arith;
      items = All-cons (IsItemOf params bodies tree (files tree.cells)) root [] (root_is_item params bodies tree (files tree.cells) of_tree.table) (All-nil (IsItemOf params bodies tree (files tree.cells)));
    }

pub walk_finished : (params : Params) (bodies : List Body) (tree : Tree) (file : List ℕ) (w : WalkValue) → IsWalkOn params bodies tree file w → w.items ≡ [] → w.sum ≡ force_on params w.target 0 (unescaped bodies)
walk_finished params bodies tree file w on none =
    sym (plus-zero w.sum) ∙ ap (plus w.sum) (sym (ap (remaining_force params bodies w.target) none)) ∙ on.sum

-- ---- pools

still_all : (P : WalkValue → Type 0) (walks : List PooledWalk) → All (λ w. P w.walk) walks → All (λ w. P w.walk) (all_unasked walks)
still_all P walks all = All-map (λ w. P w.walk) (λ w. unasked w.walk) walks all

pub all_begun : (params : Params) (bodies : List Body) (tree : Tree) (files : ℕ → List ℕ) (p : At) (walks : List PooledWalk) → IsTreeOf tree files params bodies → AreOn params bodies tree (files tree.cells) walks → AreOn params bodies tree (files tree.cells) (with_walk p walks)
all_begun params bodies tree files p walks of_tree on =
    let P = λ (w : WalkValue). IsWalkOn params bodies tree (files tree.cells) w in
    All-push (λ w. P w.walk) (all_unasked walks) (unasked (new_walk p)) (still_all P walks on) (walk_begun params bodies tree files p of_tree)

pub begun_range : (params : Params) (p : At) (walks : List PooledWalk) → AreSumsInRange params walks → AreSumsInRange params (with_walk p walks)
begun_range params p walks range =
    All-push (λ w. IsSumInRange params w.walk) (all_unasked walks) (unasked (new_walk p)) (still_all (IsSumInRange params) walks range) (record { x = omega arith; y = omega arith; z = omega arith })

pub begun_within : (most : ℕ) (p : At) (walks : List PooledWalk) → AreWithin most walks → AreWithin most (with_walk p walks)
begun_within most p walks within =
    All-push (λ w. IsWithin most w.walk) (all_unasked walks) (unasked (new_walk p)) (still_all (IsWithin most) walks within) (omega arith)

-- a new pool's walks, of which there are none
pub none_within : (most : ℕ) → AreWithin most []
none_within most = All-nil (λ w. IsWithin most w.walk)

pub none_in_range : (params : Params) → AreSumsInRange params []
none_in_range params = All-nil (λ w. IsSumInRange params w.walk)

pub none_on : (params : Params) (bodies : List Body) (tree : Tree) (file : List ℕ) → AreOn params bodies tree file []
none_on params bodies tree file = All-nil (λ w. IsWalkOn params bodies tree file w.walk)

item_shown : (cells bodies : ℕ → Option (List ℕ)) (tree : Tree) (x : Item) (name : PageName) → page_for tree x ≡ name → IsShown cells bodies tree name → shown_for cells bodies tree x ≢ None
item_shown cells bodies tree (item.Cell key page) name is shown =
    let file : name.file ≡ tree.cells = ap (λ n. n.file) (sym is) in
    subst (λ n. cells n.page ≢ None) (sym is) (shown.as_cells file)
item_shown cells bodies tree (item.Bodies from count) name is shown =
    let file : name.file ≡ tree.bodies = ap (λ n. n.file) (sym is) in
    subst (λ n. bodies n.page ≢ None) (sym is) (shown.as_bodies file)

pub goes_on : (cells bodies : ℕ → Option (List ℕ)) (tree : Tree) (walks : List PooledWalk) (wants : List PageName) (name : PageName) → IsWanted tree walks wants → Contains wants name → IsShown cells bodies tree name → CanGoOn cells bodies tree walks
goes_on cells bodies tree walks wants name wanted there shown =
    let needed = (wanted.names name).0 there in
    record { item = needed.item; needed = needed.needed; shown = item_shown cells bodies tree needed.item name needed.page shown }

pub all_finished : (params : Params) (bodies : List Body) (tree : Tree) (file : List ℕ) (walks : List PooledWalk) → AreOn params bodies tree file walks → AreFinished walks → HaveForces params bodies walks
all_finished params bodies tree file [] on done = refl
all_finished params bodies tree file (w ∷ ws) on done =
    let here = walk_finished params bodies tree file w.walk (All-head (λ v. IsWalkOn params bodies tree file v.walk) w ws on) (All-head (λ v. v.walk.items ≡ []) w ws done) in
    let rest = all_finished params bodies tree file ws (All-tail (λ v. IsWalkOn params bodies tree file v.walk) w ws on) (All-tail (λ v. v.walk.items ≡ []) w ws done) in
    ap (λ s. s ∷ sums ws) here ∙ ap (λ l. force_on params w.walk.target 0 (unescaped bodies) ∷ l) rest

called_on : (params : Params) (bodies : List Body) (tree : Tree) (files : ℕ → List ℕ) → IsTreeOf tree files params bodies → (walks : List PooledWalk) → Called params bodies tree files walks → AreOn params bodies tree (files tree.cells) walks
called_on params bodies tree files of_tree walks New = none_on params bodies tree (files tree.cells)
called_on params bodies tree files of_tree walks (Begun target before within called) = all_begun params bodies tree files target before of_tree (called_on params bodies tree files of_tree before called)
called_on params bodies tree files of_tree walks (Advanced cells_shown bodies_shown old new shows advanced called) = (advanced (called_on params bodies tree files of_tree old called)).walks

pub called_finished : (params : Params) (bodies : List Body) (tree : Tree) (files : ℕ → List ℕ) (walks : List PooledWalk) → IsTreeOf tree files params bodies → Called params bodies tree files walks → AreFinished walks → HaveForces params bodies walks
called_finished params bodies tree files walks of_tree called done = all_finished params bodies tree (files tree.cells) walks (called_on params bodies tree files of_tree walks called) done

-- ---- what callers ask of a pool's lists

same_targets : (walks : List PooledWalk) → targets (all_unasked walks) ≡ targets walks
same_targets [] = refl
same_targets (w ∷ ws) = ap (λ l. w.walk.target ∷ l) (same_targets ws)

pub targets_begun : (p : At) (walks : List PooledWalk) → targets (with_walk p walks) ≡ targets walks ++ p ∷ []
targets_begun p walks = map-append (λ w. w.walk.target) (all_unasked walks) (unasked (new_walk p) ∷ []) ∙ ap (λ l. l ++ p ∷ []) (same_targets walks)

pub length_begun : (p : At) (walks : List PooledWalk) → length (with_walk p walks) ≡ length walks + 1
length_begun p walks = omega (arith, length_push (all_unasked walks) (unasked (new_walk p)), length-map walks (λ w. unasked w.walk))

-- where a walk waits, a name is wanted
pub some_wanted : (tree : Tree) (walks : List PooledWalk) (wants : List PageName) → SomeWaits walks → IsWanted tree walks wants → (name : PageName) × Contains wants name
some_wanted tree walks wants some wanted =
    let name = page_for tree some.item in
    (name, (wanted.names name).1 (record { item = some.item; needed = some.needed; page = refl }))
