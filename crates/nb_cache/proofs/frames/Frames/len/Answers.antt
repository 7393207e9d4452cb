use Rattle.std.proofs.Common.{vec_len, vec_capacity}
use Rattle.nb_cache.proofs.Residents.{sound_now}
use Rattle.nb_cache.proofs.frames.Frames.len.Goals as goal

pub returns-clause-sound : goal.returns-clause-sound
returns-clause-sound c =
    sound_now c.self.inside.resident (vec_len c.self.inside.spare) (vec_capacity c.self.inside.spare) c.args.self.now c.self.view_is c.len.ensures.valid c.self.invariant
