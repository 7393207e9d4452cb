use Rattle.std.proofs.Common.{Some, None, ◌∙◌, sym, arith, vec_len, vec_capacity, refl}
use Rattle.nb_cache.proofs.Counting.{gone_frames}
use Rattle.nb_cache.proofs.Residents.{sound_now, gone_names, gone_held, gone_places}
use Rattle.nb_cache.proofs.frames.Frames.forget.Goals as goal

pub returns-in_default-clause-resident : goal.returns-in_default-clause-resident
returns-in_default-clause-resident c =
    gone_names c.self.inside.resident (vec_len c.self.inside.spare) (vec_capacity c.self.inside.spare) c.args.self.now c.self.view_is c.args.name
    c.pop-gone.new.self c.pop-gone.ensures.entries c.len.ensures.valid

pub returns-in_default-clause-held : goal.returns-in_default-clause-held
returns-in_default-clause-held c =
    gone_held c.self.inside.resident (vec_len c.self.inside.spare) (vec_capacity c.self.inside.spare) c.args.self.now c.self.view_is c.args.name
    c.pop-gone.new.self c.pop-gone.ensures.entries c.len.ensures.valid

pub returns-in_default-clause-sound : goal.returns-in_default-clause-sound
returns-in_default-clause-sound c =
    sound_now c.pop-gone.new.self 0 0 _ refl c.len-2.ensures.valid
    (gone_places c.self.inside.resident (vec_len c.self.inside.spare) (vec_capacity c.self.inside.spare) c.args.self.now c.self.view_is c.args.name
    c.pop-gone.new.self c.pop-gone.ensures.entries c.len.ensures.valid c.self.invariant)

pub returns-in-Some-clause-resident : goal.returns-in-Some-clause-resident
returns-in-Some-clause-resident c =
    gone_names c.self.inside.resident (vec_len c.self.inside.spare) (vec_capacity c.self.inside.spare) c.args.self.now c.self.view_is c.args.name
    c.pop-gone.new.self c.pop-gone.ensures.entries c.len.ensures.valid

pub returns-in-Some-clause-held : goal.returns-in-Some-clause-held
returns-in-Some-clause-held c =
    gone_held c.self.inside.resident (vec_len c.self.inside.spare) (vec_capacity c.self.inside.spare) c.args.self.now c.self.view_is c.args.name
    c.pop-gone.new.self c.pop-gone.ensures.entries c.len.ensures.valid

pub returns-in-Some-clause-sound : goal.returns-in-Some-clause-sound
returns-in-Some-clause-sound c =
    sound_now c.pop-gone.new.self 0 0 _ refl c.len-2.ensures.valid
    (gone_places c.self.inside.resident (vec_len c.self.inside.spare) (vec_capacity c.self.inside.spare) c.args.self.now c.self.view_is c.args.name
    c.pop-gone.new.self c.pop-gone.ensures.entries c.len.ensures.valid c.self.invariant)

pub returns-in-Some-clause-frames : goal.returns-in-Some-clause-frames
returns-in-Some-clause-frames c =
    gone_frames c.self.inside.resident (vec_len c.self.inside.spare) (vec_capacity c.self.inside.spare) c.args.self.now c.self.view_is _ c.requires c.args.name c.pop-gone.new.self c.pop-gone.ensures.entries (Some c.in-Some.frame) (sym c.in-Some.is ∙ c.pop-gone.ensures.value) (vec_len c.put_away.new.spare)
    (vec_capacity c.put_away.new.spare) c.put_away.ensures.count c.put_away.ensures.room

pub returns-in_default-clause-frames : goal.returns-in_default-clause-frames
returns-in_default-clause-frames c =
    gone_frames c.self.inside.resident (vec_len c.self.inside.spare) (vec_capacity c.self.inside.spare) c.args.self.now c.self.view_is _ c.requires c.args.name c.pop-gone.new.self c.pop-gone.ensures.entries None (sym c.in_default.is ∙ c.pop-gone.ensures.value) (vec_len c.self.inside.spare)
    (vec_capacity c.self.inside.spare) (omega arith) (omega arith)

pub invariant_of-self : goal.invariant_of-self
invariant_of-self c =
    gone_places c.self.inside.resident (vec_len c.self.inside.spare) (vec_capacity c.self.inside.spare) c.args.self.now c.self.view_is c.args.name
    c.pop-gone.new.self c.pop-gone.ensures.entries c.len.ensures.valid c.self.invariant

pub invariant_of-self-in_default : goal.invariant_of-self-in_default
invariant_of-self-in_default c =
    gone_places c.self.inside.resident (vec_len c.self.inside.spare) (vec_capacity c.self.inside.spare) c.args.self.now c.self.view_is c.args.name
    c.pop-gone.new.self c.pop-gone.ensures.entries c.len.ensures.valid c.self.invariant
