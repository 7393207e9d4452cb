use Rattle.std.proofs.Common.{ℕ, ◌+◌, ◌<◌, get_or}
use Rattle.nb_model.specs.declared.body.Body.{Body}
use Rattle.nb_fixed.proofs.tests.ids_rise.Given as goal

abbrev pub invariant-loop-i : goal.invariant-loop-i
invariant-loop-i l = (k : ℕ) (d : Body) → k + 1 < l.i → (get_or l.bodies k d).id < (get_or l.bodies (k + 1) d).id
