use Rattle.std.proofs.Common.{◌≡◌, ◌-◌}
use Rattle.nb_host.specs.Crashes.{Stays}
use Rattle.nb_host.specs.Meaning.{Leads}
use Rattle.nb_format.specs.Reader.{count_of, read_count}
use Rattle.nb_engine.specs.Files.{init_file}
use Rattle.nb_engine.proofs.Callers.{HasGiven}
use Rattle.nb_cli.proofs.init_file.read_bodies.Given as goal

abbrev pub invariant-loop-bodies : goal.invariant-loop-bodies
invariant-loop-bodies g l = let m = g.H.Host.meaning in record {
  given : HasGiven m.tells ((m.contents l.initial.host).file init_file) l.initial.reader l.reader l.bodies.items;
  stays : Leads m Stays l.initial.host l.host;
  faults : m.faults l.host ≡ m.faults l.initial.host;
  tally : m.tally l.host ≡ m.tally l.initial.host;
}

abbrev pub decreases-loop-bodies : goal.decreases-loop-bodies
decreases-loop-bodies g l = count_of l.reader - read_count l.reader
