use Rattle.std.proofs.Common.{drop}
use Rattle.nb_cache.proofs.Flushing.{Flushes}
use Rattle.nb_cache.proofs.cache.Cache.flush.Given as goal

abbrev pub invariant-loop-name : goal.invariant-loop-name
invariant-loop-name g l = Flushes g.H.Host.meaning l.fn.self l.fn.host (drop l.name-index l.name-items) l.self l.host
