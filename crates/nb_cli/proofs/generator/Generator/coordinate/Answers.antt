use Rattle.std.proofs.Common.{ap}
use Rattle.nb_cli.specs.Make.{coordinate_of}
use Rattle.nb_cli.proofs.Generating.{word_given, stream_left}
use Rattle.nb_cli.proofs.generator.Generator.coordinate.Goals as goal

pub returns-clause-value : goal.returns-clause-value
returns-clause-value c = λ state at. ap coordinate_of (word_given state c.next_u64.ensures at)

pub returns-clause-moved : goal.returns-clause-moved
returns-clause-moved c = λ state at. stream_left state c.next_u64.ensures at
