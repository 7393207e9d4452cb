-- The walks of one pool, from their beginning to their kicks.
use Rattle.std.proofs.Common.{◌≡◌, ℕ, ◌+◌, ◌*◌, ◌<◌, ◌≤◌, ◌⊎◌, inl, inr, IsTrue, false, cond, List, [], length, Option, Some, sym, ap, ◌∙◌, arith}
use Rattle.std.specs.Prelude.{slice_get, All}
use Rattle.std.proofs.lemmas.List.{length-map}
use Rattle.std.proofs.lemmas.List.Elements.{All-map}
use Rattle.std.proofs.lemmas.Option.{none-some, same_Some}
use Rattle.nb_host.specs.Meaning.{HostModel}
use Rattle.nb_host.specs.declared.page_name.PageName.{PageName}
use Rattle.nb_model.specs.declared.body.At.{At}
use Rattle.nb_model.specs.declared.body.Body.{Body}
use Rattle.nb_model.specs.declared.params.Params.{Params}
use Rattle.nb_model.specs.Gravity.{force_on}
use Rattle.nb_model.specs.Leapfrog.{unescaped, half_kick}
use Rattle.nb_model.specs.Limits.{kick_limit, gm_limit}
use Rattle.nb_model.specs.Valid.{IsBelow}
use Rattle.nb_model.specs.Vector.{zero_vector}
use Rattle.nb_cache.specs.View.{CacheValue, seen}
use Rattle.nb_cache.specs.Writes.{Writes}
use Rattle.nb_record.specs.declared.tree.Tree.{Tree}
use Rattle.nb_record.specs.Tree.{IsTreeOf}
use Rattle.nb_walk.specs.declared.item.Item.{Item}
use Rattle.nb_walk.specs.declared.item.Item.TheVariants as item
use Rattle.nb_walk.specs.Items.{in_order, page_for}
use Rattle.nb_walk.specs.Pool.{PooledWalk, with_walk, targets, sums, AreSumsInRange, AreWithin, BlamesOne, HaveForces}
use Rattle.nb_walk.specs.Walk.{WalkValue}
use Rattle.nb_walk.proofs.Callers.{all_begun, begun_range, begun_within, targets_begun}
use Rattle.nb_force.specs.Groups.{AreBegun, GoTo, AreKicksFrom}
use Rattle.nb_force.proofs.Lists.{at_push, at_mapped}
use Rattle.nb_force.proofs.Views.{tree_before, reads_keep, in_order_present}

pub begun_more : (p : At) (walks : List PooledWalk) → AreBegun walks → AreBegun (with_walk p walks)
begun_more p walks begun = record {
  range = λ params. begun_range params p walks (begun.range params);
  within = λ most. begun_within most p walks (begun.within most);
  on = λ params bodies tree files of_tree. all_begun params bodies tree files p walks of_tree (begun.on params bodies tree files of_tree);
}

pub go_to_more : (bodies : List Body) (from n : ℕ) (walks : List PooledWalk) (b : Body) → GoTo bodies from walks → from + length walks ≡ n
    → slice_get (in_order bodies) n ≡ Some b → GoTo bodies from (with_walk b.at walks)
go_to_more bodies from n walks b so_far long there i target is body at =
    elim (at_push (targets walks) b.at i target (ap (λ l. slice_get l i) (sym (targets_begun b.at walks)) ∙ is)) [
      | inl before ↦ so_far i target before body at
      | inr last ↦
          let here : from + i ≡ n = omega (arith, last.0, length-map walks (λ (w : PooledWalk). w.walk.target), long) in
          let same : body ≡ b = same_Some body b (sym at ∙ ap (slice_get (in_order bodies)) here ∙ there) in
          last.1 ∙ ap (λ (x : Body). x.at) (sym same)
    ]

-- ---- the sums of walks that are finished

within_limit : (axis most taken : ℕ) → axis ≤ most → most < kick_limit → axis < kick_limit
within_limit axis most taken less small = omega arith

product_small : (grav taken mass : ℕ) → taken ≤ mass → grav * mass < gm_limit → grav * taken < kick_limit
product_small grav taken mass less small = grind arith

pub sums_below : (params : Params) (tree : Tree) (walks : List PooledWalk) → params.grav * tree.mass < gm_limit → AreSumsInRange params walks
    → AreWithin tree.mass walks → All (IsBelow kick_limit) (sums walks)
sums_below params tree walks small range within =
    All-map (IsBelow kick_limit) (λ (w : PooledWalk). w.walk.sum) walks
    (λ k d below.
    let is = range k d below in
    let most = product_small params.grav _ tree.mass (within k d below) small in
    record { x = within_limit _ _ 0 is.x most; y = within_limit _ _ 0 is.y most; z = within_limit _ _ 0 is.z most })

-- over a tree the sums are half kicks
kick_present : (params : Params) (bodies : List Body) (b : Body) → b.out ≡ false → force_on params b.at 0 (unescaped bodies) ≡ half_kick params bodies b
kick_present params bodies b is = ap (λ out. cond out zero_vector (force_on params b.at 0 (unescaped bodies))) (sym is)

pub sums_are_kicks : {H : Type 0} (m : HostModel H) (params : Params) (tree : Tree) (cache : CacheValue) (host : H) (from : ℕ) (walks : List PooledWalk)
    → (IsTrue m.tells → (bodies : List Body) → IsTreeOf tree (seen m cache host) params bodies → HaveForces params bodies walks)
    → (IsTrue m.tells → (bodies : List Body) → IsTreeOf tree (seen m cache host) params bodies → GoTo bodies from walks)
    → AreKicksFrom m params tree cache host from walks
sums_are_kicks m params tree cache host from walks forces go_to i kick is tells bodies of_tree b at =
    let force = λ (p : At). force_on params p 0 (unescaped bodies) in
    let target = at_mapped force (targets walks) i kick (ap (λ l. slice_get l i) (sym (forces tells bodies of_tree)) ∙ is) in
    let same : target.0 ≡ b.at = go_to tells bodies of_tree i target.0 target.1 b at in
    target.2 ∙ ap force same ∙ kick_present params bodies b (in_order_present bodies (from + i) b at)

go_to_same : (bodies : List Body) (from : ℕ) (old new : List PooledWalk) → targets new ≡ targets old → GoTo bodies from old → GoTo bodies from new
go_to_same bodies from old new same go_to i target is = go_to i target (ap (λ l. slice_get l i) (sym same) ∙ is)

-- the sums of walks that were begun and finished
pub finished_kicks : {H : Type 0} (m : HostModel H) (params : Params) (tree : Tree) (first second third : CacheValue) (one two three : H) (from : ℕ) (begun done : List PooledWalk)
    → Writes m [] first one second two → Writes m [] second two third three → targets done ≡ targets begun
    → (IsTrue m.tells → (bodies : List Body) → IsTreeOf tree (seen m second two) params bodies → HaveForces params bodies done)
    → (IsTrue m.tells → (others : Params) (bodies : List Body) → IsTreeOf tree (seen m first one) others bodies → GoTo bodies from begun)
    → AreKicksFrom m params tree third three from done
finished_kicks m params tree first second third one two three from begun done reads more same forces go_to =
    sums_are_kicks m params tree third three from done
    (λ tells bodies of_tree. forces tells bodies (tree_before (reads_keep tree more) tells of_tree))
    (λ tells bodies of_tree.
    go_to_same bodies from begun done same
    (go_to tells params bodies (tree_before (reads_keep tree reads) tells (tree_before (reads_keep tree more) tells of_tree))))

pub same_many : (old new : List PooledWalk) → targets new ≡ targets old → length new ≡ length old
same_many old new same =
    sym (length-map new (λ (w : PooledWalk). w.walk.target)) ∙ ap length same ∙ length-map old (λ (w : PooledWalk). w.walk.target)

-- ---- the page that a walk looks at

page_file : (tree : Tree) (x : Item) (name : PageName) → page_for tree x ≡ name → (name.file ≡ tree.bodies) ⊎ (name.file ≡ tree.cells)
page_file tree (item.Cell key page) name is = inr (ap (λ (n : PageName). n.file) (sym is))
page_file tree (item.Bodies from count) name is = inl (ap (λ (n : PageName). n.file) (sym is))

pub blamed_file : {cells bodies : ℕ → Option (List ℕ)} {tree : Tree} {walks : List WalkValue} {name : PageName} → BlamesOne cells bodies tree walks name
    → (name.file ≡ tree.bodies) ⊎ (name.file ≡ tree.cells)
blamed_file {tree = tree} {name = name} blames = page_file tree blames.item name blames.page
