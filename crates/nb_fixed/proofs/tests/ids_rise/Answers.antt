use Rattle.std.proofs.Common.{◌+◌, false, pos, arith}
use Rattle.std.proofs.lemmas.List.{length-map, get_or-map}
use Rattle.nb_model.specs.declared.body.Body.{Body}
use Rattle.nb_fixed.proofs.tests.ids_rise.Goals as goal

pub returns : goal.returns
returns c = λ _ k within.
    let bodies = c.args.bodies.now in
    let id = λ (b : Body). b.id in
    let none : Body = record { id = 0; mass = 0; out = false; at = record { x = 0; y = 0; z = 0 }; v = record { x = pos 0; y = pos 0; z = pos 0 } } in
    let long = length-map bodies id in
    omega (arith, get_or-map id bodies k none 0 (omega arith), get_or-map id bodies (k + 1) none 0 (omega arith), c.loop-i.invariant k none (omega arith))
