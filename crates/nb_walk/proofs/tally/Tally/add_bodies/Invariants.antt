use Rattle.std.proofs.Common.{◌≤◌, ◌*◌}
use Rattle.nb_walk.specs.Shown.{IsAtMost}
use Rattle.nb_walk.specs.Taking.{Adds, page_terms}
use Rattle.nb_walk.proofs.tally.Tally.add_bodies.Given as goal

abbrev pub invariant-loop-i : goal.invariant-loop-i
invariant-loop-i l = record {
  later : l.from ≤ l.i;
  added : Adds l.params (page_terms l.page l.from l.i) l.fn.self l.self;
  within : l.fn.self.taken ≤ l.most → l.self.taken ≤ l.most;
  range : IsAtMost (l.params.grav * l.self.taken) l.self.sum;
}
