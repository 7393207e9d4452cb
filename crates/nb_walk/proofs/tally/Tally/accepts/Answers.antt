use Rattle.std.proofs.Common.{sym}
use Rattle.nb_walk.proofs.KeyLevels.{level_is}
use Rattle.nb_walk.proofs.tally.Tally.accepts.Goals as goal

pub accepts_at-requires-clause-level : goal.accepts_at-requires-clause-level
accepts_at-requires-clause-level c = sym (level_is c.level.result c.key-key.result c.level.ensures)
