-- The tree of the bodies of a file, and a receiver that takes their half kicks.
use Rattle.std.proofs.Common.{◌≡◌, ℕ, suc, ◌*◌, ◌<◌, IsTrue, List, [], ◌∷◌, length, map, refl, ap, subst, ◌∙◌, arith}
use Rattle.nb_model.specs.declared.body.Body.{Body}
use Rattle.nb_model.specs.declared.params.Params.{Params}
use Rattle.nb_model.specs.Limits.{gm_limit}
use Rattle.nb_model.specs.Octree.{total_mass}
use Rattle.nb_model.proofs.Facts.{gm-unescaped}
use Rattle.nb_host.specs.Meaning.{HostModel}
use Rattle.nb_host.specs.declared.page_name.PageName.{PageName}
use Rattle.nb_cache.specs.View.{CacheValue, seen}
use Rattle.nb_record.specs.declared.tree.Tree.{Tree}
use Rattle.nb_record.specs.Order.{by_key, sorted_by, HaveDifferentIds, HoldsBodies}
use Rattle.nb_record.specs.Tree.{IsTreeOf}
use Rattle.nb_record.proofs.Callers.{permuted, sorted, same_mass, length-sorted_by}
use Rattle.nb_order.specs.declared.body_file.KickedBody.{KickedBody}
use Rattle.nb_tree.specs.Builds.{Builds}
use Rattle.nb_tree.specs.Refusals.{IsNoTree}
use Rattle.nb_force.specs.Kicks.{indexed_from}
use Rattle.nb_force.specs.Receiver.{HandedBody}

-- the tree of bodies with different ids
pub tree_of : (params : Params) (file count : ℕ) (before now : ℕ → List ℕ) (tree : Tree) (bodies : List Body) → Builds params file count before now tree
    → HoldsBodies (before file) (sorted_by by_key bodies) → HaveDifferentIds bodies → length bodies ≡ count → IsTreeOf tree now params bodies
tree_of params file count before now tree bodies builds holds different long =
    (builds bodies holds (sorted by_key bodies different) long).is

-- bodies that are light enough, with different ids, have one
pub never_no_tree : {H : Type 0} (m : HostModel H) (params : Params) (cache : CacheValue) (host : H) (file cells count : ℕ) (name : PageName) (bodies : List Body)
    → IsNoTree m params cache host file cells count name → HoldsBodies (seen m cache host file) (sorted_by by_key bodies) → HaveDifferentIds bodies
    → params.grav * total_mass bodies < gm_limit → length bodies ≡ count → IsTrue m.tells → ⊥
never_no_tree m params cache host file cells count name bodies none holds different gm long tells =
    let order = sorted_by by_key bodies in
    let heavy = none.listed tells order holds (length-sorted_by by_key bodies ∙ long) (sorted by_key bodies different) in
    let same : total_mass bodies ≡ total_mass order = same_mass bodies order (permuted by_key bodies) in
    let light = gm-unescaped params.grav order (subst (λ (n : ℕ). params.grav * n < gm_limit) same gm) in
    omega (arith, heavy, light)

-- the indexes of what a receiver takes aren't looked at
pub taken_list : (made : KickedBody → KickedBody) (from : ℕ) (list : List KickedBody)
    → map (λ (g : HandedBody). made g.kicked) (indexed_from from list) ≡ map made list
unfolding indexed_from
taken_list made from [] = refl
taken_list made from (k ∷ ks) = ap (λ l. made k ∷ l) (taken_list made (suc from) ks)
