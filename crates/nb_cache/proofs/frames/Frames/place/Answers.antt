use Rattle.std.proofs.Common.{Contains, Some, None, vec_len, vec_capacity, refl, sym, subst, ◌∙◌, arith}
use Rattle.lru.specs.LruCache.{LruCache}
use Rattle.nb_host.specs.declared.page_name.PageName.{PageName}
use Rattle.nb_cache.specs.Stock.{held_of}
use Rattle.nb_cache.specs.Sound.{AreResident}
use Rattle.nb_cache.specs.declared.frame.Frame.{Frame}
use Rattle.nb_cache.proofs.Counting.{put_frames}
use Rattle.nb_cache.proofs.Residents.{sound_now, put_names, put_held, put_places}
use Rattle.nb_cache.proofs.frames.Frames.place.Goals as goal

pub returns-in_default-clause-resident : goal.returns-in_default-clause-resident
returns-in_default-clause-resident c =
    put_names c.self.inside.resident (vec_len c.self.inside.spare) (vec_capacity c.self.inside.spare) c.args.self.now c.self.view_is c.args.name
    c.push.new.self c.args.frame c.in-Ok.ensures.entries c.len.ensures.valid c.len-in-Ok.ensures.valid

pub returns-in_default-clause-held : goal.returns-in_default-clause-held
returns-in_default-clause-held c =
    put_held c.self.inside.resident (vec_len c.self.inside.spare) (vec_capacity c.self.inside.spare) c.args.self.now c.self.view_is c.args.name
    c.push.new.self c.args.frame c.in-Ok.ensures.entries c.len.ensures.valid c.len-in-Ok.ensures.valid

pub returns-in_default-clause-sound : goal.returns-in_default-clause-sound
returns-in_default-clause-sound c =
    sound_now c.push.new.self 0 0 _ refl c.len-in-Ok.ensures.valid
    (put_places c.self.inside.resident (vec_len c.self.inside.spare) (vec_capacity c.self.inside.spare) c.args.self.now c.self.view_is c.args.name
    c.push.new.self c.args.frame c.in-Ok.ensures.entries c.len.ensures.valid c.len-in-Ok.ensures.valid c.requires.name c.self.invariant)

pub returns-in-Some-clause-resident : goal.returns-in-Some-clause-resident
returns-in-Some-clause-resident c =
    put_names c.self.inside.resident (vec_len c.self.inside.spare) (vec_capacity c.self.inside.spare) c.args.self.now c.self.view_is c.args.name
    c.push.new.self c.args.frame c.in-Ok.ensures.entries c.len.ensures.valid c.len-in-Ok.ensures.valid

pub returns-in-Some-clause-held : goal.returns-in-Some-clause-held
returns-in-Some-clause-held c =
    put_held c.self.inside.resident (vec_len c.self.inside.spare) (vec_capacity c.self.inside.spare) c.args.self.now c.self.view_is c.args.name
    c.push.new.self c.args.frame c.in-Ok.ensures.entries c.len.ensures.valid c.len-in-Ok.ensures.valid

pub returns-in-Some-clause-sound : goal.returns-in-Some-clause-sound
returns-in-Some-clause-sound c =
    sound_now c.push.new.self 0 0 _ refl c.len-in-Ok.ensures.valid
    (put_places c.self.inside.resident (vec_len c.self.inside.spare) (vec_capacity c.self.inside.spare) c.args.self.now c.self.view_is c.args.name
    c.push.new.self c.args.frame c.in-Ok.ensures.entries c.len.ensures.valid c.len-in-Ok.ensures.valid c.requires.name c.self.invariant)

pub returns-in-Some-clause-frames : goal.returns-in-Some-clause-frames
returns-in-Some-clause-frames c =
    put_frames c.self.inside.resident (vec_len c.self.inside.spare) (vec_capacity c.self.inside.spare) c.args.self.now c.self.view_is _ c.requires.frames c.args.name c.push.new.self c.args.frame c.in-Ok.ensures.entries
    c.len.ensures.valid (Some (c.in-Some.field-0-0, c.in-Some.frame)) (sym c.in-Some.is ∙ c.in-Ok.ensures.old)
    (vec_len c.put_away.new.spare) (vec_capacity c.put_away.new.spare) c.put_away.ensures.count c.put_away.ensures.room

pub returns-in_default-clause-frames : goal.returns-in_default-clause-frames
returns-in_default-clause-frames c =
    put_frames c.self.inside.resident (vec_len c.self.inside.spare) (vec_capacity c.self.inside.spare) c.args.self.now c.self.view_is _ c.requires.frames c.args.name c.push.new.self c.args.frame c.in-Ok.ensures.entries
    c.len.ensures.valid None (sym c.in_default.is ∙ c.in-Ok.ensures.old)
    (vec_len c.self.inside.spare) (vec_capacity c.self.inside.spare) (omega arith) (omega arith)

pub returns-in-Err-clause-sound : goal.returns-in-Err-clause-sound
returns-in-Err-clause-sound c =
    subst (λ (l : LruCache PageName Frame). AreResident l.cap (held_of l.entries)) (sym c.in-Err.ensures.err)
    (sound_now c.self.inside.resident 0 0 _ refl c.len.ensures.valid c.self.invariant)

pub invariant_of-self : goal.invariant_of-self
invariant_of-self c =
    put_places c.self.inside.resident (vec_len c.self.inside.spare) (vec_capacity c.self.inside.spare) c.args.self.now c.self.view_is c.args.name
    c.push.new.self c.args.frame c.in-Ok.ensures.entries c.len.ensures.valid c.len-in-Ok.ensures.valid c.requires.name c.self.invariant

pub invariant_of-self-in_default : goal.invariant_of-self-in_default
invariant_of-self-in_default c =
    put_places c.self.inside.resident (vec_len c.self.inside.spare) (vec_capacity c.self.inside.spare) c.args.self.now c.self.view_is c.args.name
    c.push.new.self c.args.frame c.in-Ok.ensures.entries c.len.ensures.valid c.len-in-Ok.ensures.valid c.requires.name c.self.invariant

pub invariant_of-self-in-Err : goal.invariant_of-self-in-Err
invariant_of-self-in-Err c = λ h has.
    c.self.invariant h (subst (λ (l : LruCache PageName Frame). Contains (held_of l.entries) h) c.in-Err.ensures.err has)
