use Rattle.std.proofs.Common.{◌≡◌, ℕ, ◌-◌, ◌^◌, ◌<◌, ◌⊎◌, true, length}
use Rattle.nb_walk.specs.Part.{KeepsTally}
use Rattle.nb_walk.specs.Running.{Each, EachAt}
use Rattle.nb_walk.specs.Shared.{is_left_to}
use Rattle.nb_walk.proofs.Meetings.{Meeting, of_set}
use Rattle.nb_walk.proofs.Runs.{SameFrom}
use Rattle.nb_walk.proofs.meeting.meet_cell.Given as goal

abbrev pub invariant-loop-i : goal.invariant-loop-i
invariant-loop-i l = record {
  kept : Each (KeepsTally l.params l.most) (length l.fn.tallies) l.fn.tallies l.tallies;
  met : EachAt (Meeting l.params l.cell l.entry l.opened) l.i l.fn.tallies l.tallies;
  rest : SameFrom l.i l.fn.tallies l.tallies;
  below : l.opened < 2 ^ (l.i - l.first);
  some : (l.opened ≡ 0) ⊎ ((i : ℕ) × (i < length l.fn.tallies) × (is_left_to i (of_set l.entry l.opened) ≡ true));
}
