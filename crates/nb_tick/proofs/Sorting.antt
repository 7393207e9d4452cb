-- The drifted bodies in Morton order, and why they can't be sorted.
use Rattle.std.proofs.Common.{ℕ, IsTrue, List, sym, arith, inl, inr}
use Rattle.nb_host.specs.Meaning.{HostModel}
use Rattle.nb_host.specs.declared.page_name.PageName.{PageName}
use Rattle.nb_model.specs.declared.params.Params.{Params}
use Rattle.nb_cache.specs.View.{CacheValue, seen}
use Rattle.nb_order.specs.Files.{IsSortedCopy}
use Rattle.nb_order.specs.Refusals.{IsSortRefused}
use Rattle.nb_record.specs.declared.tree.Tree.{Tree}
use Rattle.nb_record.specs.Order.{by_key}
use Rattle.nb_record.proofs.Callers.{sorted}
use Rattle.nb_tree.specs.Builds.{Builds}
use Rattle.nb_tree.specs.Refusals.{IsNoTree}
use Rattle.nb_tick.specs.Slots.{drifted_file, sorted_file, cell_file}
use Rattle.nb_tick.specs.Steps.{HasTreeOf, CantSort}
use Rattle.nb_tick.proofs.Trees.{never_no_tree}

module _ {H : Type 0} {m : HostModel H} {params : Params} {count : ℕ} {old_cache : CacheValue} {old : H} {name : PageName} where
  pub cant_reorder : IsSortRefused m by_key old_cache old drifted_file sorted_file count name → CantSort m params count old_cache old name
  cant_reorder unsorted = record {
    file = elim unsorted.file [ inl is ↦ (0, omega arith, sym is) | inr is ↦ (1, omega arith, sym is) ];
    cause = λ tells moved holds long different gm. unsorted.listed tells moved holds long different;
  }

  pub cant_build : {middle_cache : CacheValue} {middle : H} → (IsTrue m.tells → IsSortedCopy by_key count (seen m old_cache old drifted_file) (seen m middle_cache middle sorted_file))
      → IsNoTree m params middle_cache middle sorted_file cell_file count name → CantSort m params count old_cache old name
  cant_build {middle_cache = middle_cache} {middle = middle} copied none = record {
    file = elim none.file [ inl is ↦ (1, omega arith, sym is) | inr is ↦ (2, omega arith, sym is) ];
    cause = λ tells moved holds long different gm.
        never_no_tree m params middle_cache middle sorted_file cell_file count name moved none ((copied tells).bodies moved holds long) different gm long tells;
  }

-- what is built behind a sort
pub built_sorted : (params : Params) (count : ℕ) (drifted : List ℕ) (before now : ℕ → List ℕ) (tree : Tree)
    → IsSortedCopy by_key count drifted (before sorted_file) → Builds params sorted_file count before now tree → HasTreeOf params count drifted now tree
built_sorted params count drifted before now tree copy builds moved holds long different =
    let built = builds moved (copy.bodies moved holds long) (sorted by_key moved different) long in
    (built.is, built.padded)
