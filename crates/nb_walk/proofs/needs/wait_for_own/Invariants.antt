use Rattle.std.proofs.Common.{◌≡◌, length}
use Rattle.nb_walk.specs.declared.group.Own.{Own}
use Rattle.nb_walk.specs.Group.{own_items}
use Rattle.nb_walk.specs.Items.{last_item}
use Rattle.nb_walk.specs.Running.{Each}
use Rattle.nb_walk.proofs.needs.wait_for_own.Given as goal

abbrev pub invariant-loop-own : goal.invariant-loop-own
invariant-loop-own l = record {
  items : Each (λ (a : Own) (b : Own). b.items ≡ a.items) (length l.fn.owns) l.fn.owns l.owns;
  needs : Each (λ (a : Own) (b : Own). b.need ≡ last_item (own_items a)) l.own-index l.fn.owns l.owns;
}
