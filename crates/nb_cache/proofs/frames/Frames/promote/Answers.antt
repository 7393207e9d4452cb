use Rattle.std.proofs.Common.{vec_len, vec_capacity, refl, sym, ◌∙◌}
use Rattle.nb_cache.proofs.Residents.{sound_now, resident_found, found_resident, promoted_names, promoted_absent, promoted_held, promoted_places}
use Rattle.nb_cache.proofs.Counting.{promoted_frames}
use Rattle.nb_cache.proofs.frames.Frames.promote.Goals as goal

pub returns-clause-found : goal.returns-clause-found
returns-clause-found c = (
  λ found.
      resident_found c.self.inside.resident (vec_len c.self.inside.spare) (vec_capacity c.self.inside.spare) c.args.self.now c.self.view_is c.args.name
      (sym c.promote-found.ensures.value ∙ found),
  λ has.
      c.promote-found.ensures.value
      ∙ found_resident c.self.inside.resident (vec_len c.self.inside.spare) (vec_capacity c.self.inside.spare) c.args.self.now c.self.view_is c.args.name has,
)

pub returns-clause-absent : goal.returns-clause-absent
returns-clause-absent c = λ absent.
    promoted_absent c.self.inside.resident (vec_len c.self.inside.spare) (vec_capacity c.self.inside.spare) c.args.self.now c.self.view_is c.args.name
    c.promote-found.new.self c.promote-found.ensures.entries (sym c.promote-found.ensures.value ∙ absent)

pub returns-clause-resident : goal.returns-clause-resident
returns-clause-resident c = λ found.
    promoted_names c.self.inside.resident (vec_len c.self.inside.spare) (vec_capacity c.self.inside.spare) c.args.self.now c.self.view_is c.args.name
    c.promote-found.new.self c.promote-found.ensures.entries c.len.ensures.valid c.len-2.ensures.valid
    (sym c.promote-found.ensures.value ∙ found)

pub returns-clause-moved : goal.returns-clause-moved
returns-clause-moved c = λ found.
    promoted_held c.self.inside.resident (vec_len c.self.inside.spare) (vec_capacity c.self.inside.spare) c.args.self.now c.self.view_is c.args.name
    c.promote-found.new.self c.promote-found.ensures.entries c.len.ensures.valid
    (sym c.promote-found.ensures.value ∙ found)

pub invariant_of-self : goal.invariant_of-self
invariant_of-self c =
    promoted_places c.self.inside.resident (vec_len c.self.inside.spare) (vec_capacity c.self.inside.spare) c.args.self.now c.self.view_is c.args.name
    c.promote-found.new.self c.promote-found.ensures.entries c.self.invariant

pub returns-clause-sound : goal.returns-clause-sound
returns-clause-sound c =
    sound_now c.promote-found.new.self 0 0 _ refl c.len-2.ensures.valid
    (promoted_places c.self.inside.resident (vec_len c.self.inside.spare) (vec_capacity c.self.inside.spare) c.args.self.now c.self.view_is c.args.name
    c.promote-found.new.self c.promote-found.ensures.entries c.self.invariant)

pub returns-clause-frames : goal.returns-clause-frames
returns-clause-frames c = λ n frames.
    promoted_frames c.self.inside.resident (vec_len c.self.inside.spare) (vec_capacity c.self.inside.spare) c.args.self.now c.self.view_is n frames c.args.name c.promote-found.new.self c.promote-found.ensures.entries
