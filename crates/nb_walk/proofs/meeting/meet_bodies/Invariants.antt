use Rattle.std.proofs.Common.{length}
use Rattle.nb_walk.specs.Part.{KeepsTally}
use Rattle.nb_walk.specs.Running.{Each, EachAt}
use Rattle.nb_walk.specs.Taking.{page_terms}
use Rattle.nb_walk.proofs.Meetings.{Adding}
use Rattle.nb_walk.proofs.meeting.meet_bodies.Given as goal

abbrev pub invariant-loop-at : goal.invariant-loop-at
invariant-loop-at l = record {
  kept : Each (KeepsTally l.params l.most) (length l.fn.tallies) l.fn.tallies l.tallies;
  added : EachAt (Adding l.params l.entry (page_terms l.page l.from l.at)) (length l.fn.tallies) l.fn.tallies l.tallies;
}
