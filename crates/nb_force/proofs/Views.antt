-- The tree's files, after calls that wrote others.
use Rattle.std.proofs.Common.{◌≡◌, ℕ, Bool, true, false, not, IsTrue, List, [], ◌∷◌, length, Some, refl, sym, ap, subst, ◌∙◌}
use Rattle.std.specs.Prelude.{◌≢◌, ◌<◌, slice_get}
use Rattle.std.proofs.lemmas.List.{length-map}
use Rattle.std.proofs.Math.Path.{fun_ext}
use Rattle.nb_host.specs.Meaning.{HostModel}
use Rattle.nb_model.specs.declared.body.Body.{Body}
use Rattle.nb_model.specs.declared.params.Params.{Params}
use Rattle.nb_model.specs.Leapfrog.{unescaped}
use Rattle.nb_cache.specs.View.{CacheValue, seen}
use Rattle.nb_cache.specs.Writes.{Writes}
use Rattle.nb_cache.proofs.Callers.{no_file, other_file}
use Rattle.nb_record.specs.declared.tree.Tree.{Tree}
use Rattle.nb_record.specs.Cells.{tree_cells}
use Rattle.nb_record.specs.Order.{by_key, sorted_by, HoldsBodies}
use Rattle.nb_record.specs.Table.{IsCellTable}
use Rattle.nb_record.specs.Tree.{IsTreeOf}
use Rattle.nb_record.proofs.Callers.{front, unescaped_sorted, length-sorted_by}
use Rattle.nb_walk.specs.Items.{in_order}
use Rattle.nb_force.specs.Kicks.{kicked_bodies, kicked_of}
use Rattle.nb_force.proofs.Lists.{at_kept, at_taken}

-- only the tree's two files make it
pub tree_there : {tree : Tree} {params : Params} {bodies : List Body} (files other : ℕ → List ℕ) → other tree.bodies ≡ files tree.bodies
    → other tree.cells ≡ files tree.cells → IsTreeOf tree files params bodies → IsTreeOf tree other params bodies
tree_there {tree = tree} {params = params} {bodies = bodies} files other same_bodies same_cells of_tree = record {
  distinct = of_tree.distinct;
  ordered = subst (λ file. HoldsBodies file (sorted_by by_key bodies)) (sym same_bodies) of_tree.ordered;
  bits = of_tree.bits;
  table = subst (λ file. IsCellTable file tree.bits tree.pages (tree_cells params bodies)) (sym same_cells) of_tree.table;
  count = of_tree.count;
  mass = of_tree.mass;
  nodes = of_tree.nodes;
}

-- over files that are told, the tree's two files stay
pub record KeepsTree {H : Type 0} (m : HostModel H) (tree : Tree) (old_cache : CacheValue) (old : H) (new_cache : CacheValue) (new : H) : Type 0 where
  pub bodies : IsTrue m.tells → seen m new_cache new tree.bodies ≡ seen m old_cache old tree.bodies
  pub cells : IsTrue m.tells → seen m new_cache new tree.cells ≡ seen m old_cache old tree.cells

module _ {H : Type 0} {m : HostModel H} {old_cache new_cache : CacheValue} {old new : H} where
  pub keeps_tree : (tree : Tree) {file : ℕ} → file ≢ tree.bodies → file ≢ tree.cells → Writes m (file ∷ []) old_cache old new_cache new
      → KeepsTree m tree old_cache old new_cache new
  keeps_tree tree no_bodies no_cells writes = record {
    bodies = λ tells. writes.view tells tree.bodies (other_file (λ is. no_bodies (sym is)));
    cells = λ tells. writes.view tells tree.cells (other_file (λ is. no_cells (sym is)));
  }

  pub reads_keep : (tree : Tree) → Writes m [] old_cache old new_cache new → KeepsTree m tree old_cache old new_cache new
  reads_keep tree writes = record {
    bodies = λ tells. writes.view tells tree.bodies (no_file tree.bodies);
    cells = λ tells. writes.view tells tree.cells (no_file tree.cells);
  }

  pub tree_after : {tree : Tree} {params : Params} {bodies : List Body} → KeepsTree m tree old_cache old new_cache new → IsTrue m.tells
      → IsTreeOf tree (seen m old_cache old) params bodies → IsTreeOf tree (seen m new_cache new) params bodies
  tree_after keeps tells of_tree = tree_there (seen m old_cache old) (seen m new_cache new) (keeps.bodies tells) (keeps.cells tells) of_tree

  pub tree_before : {tree : Tree} {params : Params} {bodies : List Body} → KeepsTree m tree old_cache old new_cache new → IsTrue m.tells
      → IsTreeOf tree (seen m new_cache new) params bodies → IsTreeOf tree (seen m old_cache old) params bodies
  tree_before keeps tells of_tree = tree_there (seen m new_cache new) (seen m old_cache old) (sym (keeps.bodies tells)) (sym (keeps.cells tells)) of_tree

  -- calls that write nothing leave each file
  pub same_seen : Writes m [] old_cache old new_cache new → IsTrue m.tells → seen m new_cache new ≡ seen m old_cache old
  same_seen writes tells = fun_ext (λ file. writes.view tells file (no_file file))

-- ---- the bodies of a tree

pub length-in_order : (bodies : List Body) → length (in_order bodies) ≡ length (unescaped bodies)
length-in_order bodies = length-sorted_by by_key (unescaped bodies)

pub length-kicked : (params : Params) (bodies : List Body) → length (kicked_bodies params bodies) ≡ length (unescaped bodies)
length-kicked params bodies = length-map (in_order bodies) (kicked_of params bodies) ∙ length-in_order bodies

-- the bodies in the box stand at the front
pub at_front : (bodies : List Body) (i : ℕ) (b : Body) → i < length (unescaped bodies) → slice_get (sorted_by by_key bodies) i ≡ Some b → slice_get (in_order bodies) i ≡ Some b
at_front bodies i b below is =
    ap (λ l. slice_get l i) (sym (front bodies)) ∙ at_taken (length (unescaped bodies)) (sorted_by by_key bodies) i below ∙ is

pub in_order_present : (bodies : List Body) (i : ℕ) (b : Body) → slice_get (in_order bodies) i ≡ Some b → b.out ≡ false
in_order_present bodies i b is =
    let kept = at_kept (λ (x : Body). not x.out) (sorted_by by_key bodies) i b (ap (λ l. slice_get l i) (unescaped_sorted bodies) ∙ is) in
    stayed b.out kept where
      stayed : (out : Bool) → not out ≡ true → out ≡ false
      stayed true stays = absurd (cc)
      stayed false stays = refl
