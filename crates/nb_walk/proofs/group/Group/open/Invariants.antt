use Rattle.std.proofs.Common.{◌≡◌, ◌+◌, ◌-◌, ◌≤◌, ◌++◌, length, drop}
use Rattle.std.specs.Prelude.{vec_capacity}
use Rattle.nb_model.specs.Gravity.{octants}
use Rattle.nb_walk.specs.Looks.{kid_items}
use Rattle.nb_walk.specs.Shared.{shared_by}
use Rattle.nb_walk.proofs.group.Group.open.Given as goal

abbrev pub invariant-loop-i : goal.invariant-loop-i
invariant-loop-i l = record {
  items : l.self.items.items ≡ l.fn.self.items.items ++ shared_by l.block l.walks (kid_items l.key l.kids (drop (8 - l.i) octants));
  free : length l.self.items.items + 8 ≤ vec_capacity l.self.items + l.i;
  capacity : vec_capacity l.fn.self.items ≤ vec_capacity l.self.items;
  tallies : l.self.tallies ≡ l.fn.self.tallies;
  owns : l.self.owns ≡ l.fn.self.owns;
  waits : l.self.waits ≡ l.fn.self.waits;
  room : l.self.room ≡ l.fn.self.room;
}
