use Rattle.std.proofs.Common.{[], ◌∷◌, length}
use Rattle.nb_walk.specs.declared.term.Term.TheVariants as term
use Rattle.nb_walk.specs.Part.{KeepsTally}
use Rattle.nb_walk.specs.Running.{Each, EachAt}
use Rattle.nb_walk.proofs.Meetings.{Adding}
use Rattle.nb_walk.proofs.Runs.{SameFrom}
use Rattle.nb_walk.proofs.meeting.pull_each.Given as goal

abbrev pub invariant-loop-i : goal.invariant-loop-i
invariant-loop-i l = record {
  kept : Each (KeepsTally l.params l.most) (length l.fn.tallies) l.fn.tallies l.tallies;
  added : EachAt (Adding l.params l.entry (term.Cell l.mass l.centre ∷ [])) l.i l.fn.tallies l.tallies;
  rest : SameFrom l.i l.fn.tallies l.tallies;
}
