use Rattle.std.proofs.Common.{◌-◌}
use Rattle.nb_format.specs.Reader.{count_of, read_count}
use Rattle.nb_engine.proofs.SecondReadings.{HasCopied}
use Rattle.nb_engine.proofs.run_start.copy_bodies.Given as goal

abbrev pub invariant-loop-body : goal.invariant-loop-body
invariant-loop-body g l =
    HasCopied g.H.Host.meaning l.fn.reader l.fn.cache l.fn.host l.reader l.census l.cache l.host

abbrev pub decreases-loop-body : goal.decreases-loop-body
decreases-loop-body g l = count_of l.reader - read_count l.reader
