use Rattle.std.proofs.Common.{◌≡◌, ◌∙◌, ap, arith}
use Rattle.std.proofs.lemmas.List.{take_at}
use Rattle.std.proofs.lemmas.List.Elements.{All-same}
use Rattle.nb_model.specs.Leapfrog.{kick, drift, step}
use Rattle.nb_model.specs.Valid.{IsBodyAfterKick}
use Rattle.nb_model.proofs.Facts.{All-kick, drift-kick_valid, step_valid}
use Rattle.nb_fixed.proofs.leapfrog.plain_tick.Goals as goal

pub drift-requires : goal.drift-requires
drift-requires c =
    let params = c.args.params.now in
    let way = c.args.way in
    let bodies = c.args.bodies.now.items in
    let kicked : c.deref_mut.result.now ≡ kick params way bodies = c.deref_mut.ensures.value ∙ c.in_ok-drifted.ensures ∙ ap (kick params way) c.deref.ensures.value in
    All-same IsBodyAfterKick c.deref_mut.result.now (kick params way bodies) kicked (All-kick params way bodies c.requires.valid)

pub kick-requires-2-clause-valid : goal.kick-requires-2-clause-valid
kick-requires-2-clause-valid c =
    let params = c.args.params.now in
    let way = c.args.way in
    let bodies = c.args.bodies.now.items in
    let kicked : c.deref_mut.result.now ≡ kick params way bodies = c.deref_mut.ensures.value ∙ c.in_ok-drifted.ensures ∙ ap (kick params way) c.deref.ensures.value in
    let whole : c.deref-2.result.now ≡ c.drift.new.bodies = c.deref-2.ensures.value ∙ take_at c.drift.new.bodies _ c.in_ok-drifted.drifted.len (omega arith) in
    let drifted : c.deref-2.result.now ≡ drift params way (kick params way bodies) = whole ∙ c.drift.ensures ∙ ap (drift params way) kicked in
    rw drifted (drift-kick_valid params way bodies c.requires.valid)

pub returns-clause-stays_valid : goal.returns-clause-stays_valid
returns-clause-stays_valid c =
    let params = c.args.params.now in
    let way = c.args.way in
    let bodies = c.args.bodies.now.items in
    let kicked : c.deref_mut.result.now ≡ kick params way bodies = c.deref_mut.ensures.value ∙ c.in_ok-drifted.ensures ∙ ap (kick params way) c.deref.ensures.value in
    let whole : c.deref-2.result.now ≡ c.drift.new.bodies = c.deref-2.ensures.value ∙ take_at c.drift.new.bodies _ c.in_ok-drifted.drifted.len (omega arith) in
    let drifted : c.deref-2.result.now ≡ drift params way (kick params way bodies) = whole ∙ c.drift.ensures ∙ ap (drift params way) kicked in
    let stepped : c.in_ok-kicked.kicked.items ≡ step params way bodies = c.in_ok-kicked.ensures ∙ ap (kick params way) drifted in
    rw stepped (step_valid params way bodies c.requires.valid)
