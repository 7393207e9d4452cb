use Rattle.std.proofs.Common.{vec_len, vec_capacity, ap, ◌∙◌}
use Rattle.std.specs.Option.{option_map}
use Rattle.nb_cache.proofs.Residents.{last_name}
use Rattle.nb_cache.proofs.frames.Frames.last.Goals as goal

pub returns-in-Some : goal.returns-in-Some
returns-in-Some c =
    ap (option_map (λ e. e.0)) c.in-Some.ensures
    ∙ last_name c.self.inside.resident (vec_len c.self.inside.spare) (vec_capacity c.self.inside.spare) c.args.self.now c.self.view_is

pub returns-in-None : goal.returns-in-None
returns-in-None c =
    ap (option_map (λ e. e.0)) c.in-None.ensures
    ∙ last_name c.self.inside.resident (vec_len c.self.inside.spare) (vec_capacity c.self.inside.spare) c.args.self.now c.self.view_is
