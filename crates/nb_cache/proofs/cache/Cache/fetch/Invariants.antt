use Rattle.std.proofs.Common.{take}
use Rattle.nb_cache.proofs.Fetching.{Fetches}
use Rattle.nb_cache.proofs.cache.Cache.fetch.Given as goal

abbrev pub invariant-loop-name : goal.invariant-loop-name
invariant-loop-name g l = Fetches g.H.Host.meaning l.fn.self l.fn.host (take l.name-index l.names) l.self l.host
