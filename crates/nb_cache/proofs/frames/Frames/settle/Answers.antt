use Rattle.std.proofs.Common.{◌∙◌, vec_len, vec_capacity, ap, is_some, refl, sym}
use Rattle.nb_cache.specs.Stock.{Stock}
use Rattle.nb_cache.proofs.Counting.{settled_frames}
use Rattle.nb_cache.proofs.Residents.{settled_held, settled_none, settled_places}
use Rattle.nb_cache.proofs.frames.Frames.settle.Goals as goal

pub returns-in_default-clause-held : goal.returns-in_default-clause-held
returns-in_default-clause-held c =
    ap (λ (s : Stock). s.held) c.self.view_is
    ∙ sym (settled_none c.self.inside.resident (vec_len c.self.inside.spare) (vec_capacity c.self.inside.spare) c.args.self.now c.self.view_is c.args.name
    (ap is_some (sym c.in_default.ensures.value)))

pub invariant_of-self-2 : goal.invariant_of-self-2
invariant_of-self-2 c =
    settled_places c.self.inside.resident (vec_len c.self.inside.spare) (vec_capacity c.self.inside.spare) c.args.self.now c.self.view_is c.args.name
    c.in-Some.frame.now _ (sym c.in-Some.ensures.value) refl refl c.len.ensures.valid c.self.invariant

pub returns-clause-held : goal.returns-clause-held
returns-clause-held c =
    settled_held c.self.inside.resident (vec_len c.self.inside.spare) (vec_capacity c.self.inside.spare) c.args.self.now c.self.view_is c.args.name
    c.in-Some.frame.now _ (sym c.in-Some.ensures.value) refl refl c.len.ensures.valid

pub returns-clause-frames : goal.returns-clause-frames
returns-clause-frames c = λ n frames.
    settled_frames c.self.inside.resident (vec_len c.self.inside.spare) (vec_capacity c.self.inside.spare) c.args.self.now c.self.view_is n frames c.args.name
    c.self.inside.resident _
