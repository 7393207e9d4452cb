use Rattle.std.proofs.Common.{◌≡◌, ◌+◌, ◌-◌, ◌*◌, ◌≤◌, ◌++◌, length, drop}
use Rattle.nb_model.specs.Gravity.{octants}
use Rattle.nb_walk.specs.Angle.{level_of}
use Rattle.nb_walk.specs.Room.{HasRoom}
use Rattle.nb_walk.specs.Looks.{kid_items}
use Rattle.nb_walk.proofs.items.push_kids.Given as goal

abbrev pub invariant-loop-i : goal.invariant-loop-i
invariant-loop-i l = record {
  items : l.items.items ≡ l.fn.items.items ++ kid_items l.key l.kids (drop (8 - l.i) octants);
  room : HasRoom l.items.items;
  depth : length l.items.items ≤ 7 * level_of l.key + l.i;
}
