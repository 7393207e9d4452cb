use Rattle.std.proofs.Common.{◌≡◌, ◌≤◌, ◌+◌, [], IsTrue}
use Rattle.std.specs.Option.{ForSome}
use Rattle.nb_format.specs.Images.{IsBeingWritten}
use Rattle.nb_format.specs.Writer.{last_added}
use Rattle.nb_cli.specs.Generator.{HasGenerated}
use Rattle.nb_cli.specs.Make.{made_bodies}
use Rattle.nb_cli.proofs.Making.{made_plan}
use Rattle.nb_cli.proofs.make_command.write_bodies.Given as goal

abbrev pub invariant-loop : goal.invariant-loop
invariant-loop g l = let m = g.H.Host.meaning in record {
  being : IsBeingWritten m [] (made_plan l.count) l.filling (made_bodies l.fn.seed l.counter) l.fn.host l.host;
  generated : HasGenerated l.fn.seed l.counter l.generator;
  last : ForSome (last_added l.filling) (λ id. id ≤ l.counter);
  faults : m.faults l.host ≡ m.faults l.fn.host;
  refused : (m.tally l.host).refused_says ≡ (m.tally l.fn.host).refused_says;
  synced : IsTrue m.tells → (m.tally l.host).syncs ≡ (m.tally l.fn.host).syncs + 2;
}
