use Rattle.std.proofs.Common.{ℕ, Bool, List, true, Contains, vec_len, vec_capacity, sym, subst, ap, is_some}
use Rattle.nb_cache.proofs.Residents.{lent_page, none_waits, rests_then}
use Rattle.nb_cache.proofs.frames.Frames.dirty.Goals as goal
use Rattle.nb_cache.proofs.frames.Frames.dirty.Goals.{in_default-via-in-Some+else-frame, in_default-via-in_default}

pub returns-in-Some-clause-held : goal.returns-in-Some-clause-held
returns-in-Some-clause-held c =
    subst (λ (bytes : List ℕ). Contains c.args.self.now.held (record { name = c.args.name; bytes = bytes; dirty = true }))
    (sym c.deref.ensures.value)
    (subst (λ (w : Bool). Contains c.args.self.now.held
    (record { name = c.args.name; bytes = c.in-Some.frame.now.bytes.items; dirty = w })) c.if-frame.true
    (lent_page c.self.inside.resident (vec_len c.self.inside.spare) (vec_capacity c.self.inside.spare) c.args.self.now c.self.view_is c.args.name
    c.in-Some.frame.now (sym c.in-Some.ensures)))

pub returns-in_default-clause-none : goal.returns-in_default-clause-none
returns-in_default-clause-none c = λ _ waits. elim c.in_default.branch [
  | in_default-via-in-Some+else-frame w ↦
      rests_then c.self.inside.resident (vec_len c.self.inside.spare) (vec_capacity c.self.inside.spare) c.args.self.now c.self.view_is c.args.name
      w.in-Some.frame.now c.len.ensures.valid c.self.invariant (sym w.in-Some.ensures) w.if-frame.false waits
  | in_default-via-in_default w ↦
      none_waits c.self.inside.resident (vec_len c.self.inside.spare) (vec_capacity c.self.inside.spare) c.args.self.now c.self.view_is c.args.name
      (ap is_some (sym w.in_default.ensures)) waits
]
