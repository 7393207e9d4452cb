use Rattle.std.proofs.Common.{Some, option_map, vec_len, vec_capacity, ap, refl, sym, subst, ◌∙◌, is_some, ℕ, List, Contains}
use Rattle.nb_cache.proofs.Residents.{resident_found, found_resident, lent_page, page_shown, sound_now}
use Rattle.nb_cache.specs.declared.frame.Frame.{Frame}
use Rattle.nb_cache.proofs.frames.Frames.lent.Goals as goal

pub returns-in-Some-clause-resident : goal.returns-in-Some-clause-resident
returns-in-Some-clause-resident c = (
  λ _. resident_found c.self.inside.resident (vec_len c.self.inside.spare) (vec_capacity c.self.inside.spare) c.args.self.now c.self.view_is c.args.name
      (ap is_some (sym c.in-Some.ensures)),
  λ _. refl,
)

pub returns-in-Some-clause-held : goal.returns-in-Some-clause-held
returns-in-Some-clause-held c = (
  c.in-Some.frame.now.dirty,
  subst (λ (bytes : List ℕ). Contains c.args.self.now.held
      (record { name = c.args.name; bytes = bytes; dirty = c.in-Some.frame.now.dirty }))
      (sym c.deref.ensures.value)
      (lent_page c.self.inside.resident (vec_len c.self.inside.spare) (vec_capacity c.self.inside.spare) c.args.self.now c.self.view_is c.args.name
      c.in-Some.frame.now (sym c.in-Some.ensures)),
)

pub returns-in-Some-clause-sound : goal.returns-in-Some-clause-sound
returns-in-Some-clause-sound c = sound_now c.self.inside.resident (vec_len c.self.inside.spare) (vec_capacity c.self.inside.spare) c.args.self.now c.self.view_is c.len.ensures.valid c.self.invariant

pub returns-in-None-clause-sound : goal.returns-in-None-clause-sound
returns-in-None-clause-sound c = sound_now c.self.inside.resident (vec_len c.self.inside.spare) (vec_capacity c.self.inside.spare) c.args.self.now c.self.view_is c.len.ensures.valid c.self.invariant

pub returns-in-None-clause-resident : goal.returns-in-None-clause-resident
returns-in-None-clause-resident c = (
  λ resident. (cc),
  λ has. ap is_some c.in-None.ensures
      ∙ found_resident c.self.inside.resident (vec_len c.self.inside.spare) (vec_capacity c.self.inside.spare) c.args.self.now c.self.view_is c.args.name has,
)

pub returns-in-Some-clause-shown : goal.returns-in-Some-clause-shown
returns-in-Some-clause-shown c =
    ap Some c.deref.ensures.value
    ∙ ap (option_map (λ (f : Frame). f.bytes.items)) c.in-Some.ensures
    ∙ page_shown c.self.inside.resident (vec_len c.self.inside.spare) (vec_capacity c.self.inside.spare) c.args.self.now c.self.view_is c.args.name

pub returns-in-None-clause-shown : goal.returns-in-None-clause-shown
returns-in-None-clause-shown c =
    ap (option_map (λ (f : Frame). f.bytes.items)) c.in-None.ensures
    ∙ page_shown c.self.inside.resident (vec_len c.self.inside.spare) (vec_capacity c.self.inside.spare) c.args.self.now c.self.view_is c.args.name
