use Rattle.std.proofs.Common.{◌≡◌, List}
use Rattle.nb_engine.specs.Files.{init_file}
use Rattle.nb_cli.specs.Make.{made_bodies}
use Rattle.nb_cli.specs.Generator.{HasGenerated}
use Rattle.nb_cli.proofs.ReadingBack.{HasReadBack}
use Rattle.nb_cli.proofs.demo_command.find_bodies.Given as goal

abbrev pub invariant-loop-index : goal.invariant-loop-index
invariant-loop-index g l = record {
  read : HasReadBack g.H.Host.meaning init_file l.initial.reader l.fn.host l.reader l.host (made_bodies l.fn.seed l.index);
  made : HasGenerated l.fn.seed l.index l.generator;
}
