use Rattle.std.proofs.Common.{◌≡◌, ◌-◌, List}
use Rattle.nb_model.specs.declared.body.Body.{Body}
use Rattle.nb_host.specs.Crashes.{Stays}
use Rattle.nb_host.specs.Meaning.{Leads}
use Rattle.nb_format.specs.Reader.{count_of, read_count}
use Rattle.nb_engine.specs.Files.{init_file}
use Rattle.nb_engine.specs.Reading.{census_of}
use Rattle.nb_engine.proofs.Reading.{HasGiven}
use Rattle.nb_engine.proofs.init_file.survey.Given as goal

abbrev pub invariant-loop-body : goal.invariant-loop-body
invariant-loop-body g l = let m = g.H.Host.meaning in record {
  given : (bodies : List Body) × HasGiven m.tells ((m.contents l.initial.host).file init_file) l.initial.reader l.reader bodies
      × (l.census ≡ census_of bodies);
  stays : Leads m Stays l.initial.host l.host;
  faults : m.faults l.host ≡ m.faults l.initial.host;
  tally : m.tally l.host ≡ m.tally l.initial.host;
}

abbrev pub decreases-loop-body : goal.decreases-loop-body
decreases-loop-body g l = count_of l.reader - read_count l.reader
