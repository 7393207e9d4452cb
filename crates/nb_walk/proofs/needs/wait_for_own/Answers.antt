use Rattle.std.proofs.Common.{◌≡◌, ◌<◌, length, get_or, ap, ◌∙◌, refl, arith}
use Rattle.nb_walk.specs.Group.{own_items}
use Rattle.nb_walk.specs.Items.{last_item}
use Rattle.nb_walk.proofs.Waits.{items_one, needs_one}
use Rattle.nb_walk.proofs.needs.wait_for_own.Goals as goal

pub loop-own-init : goal.loop-own-init
loop-own-init c = record {
  items = λ k d below. refl;
  needs = λ k d below. absurd (omega arith);
}

pub loop-own-preserved : goal.loop-own-preserved
loop-own-preserved c =
    let old = c.args.owns.now in
    let now = c.loop-own.owns in
    let i = c.loop-own.own-index in
    let r = c.own-item.result in
    let inv = c.loop-own.invariant in
    let within : i < length now = omega arith in
    let inside : i < length old = omega arith in
    let read : c.as_slice.result.now ≡ own_items (get_or old i r) = c.as_slice.ensures.value ∙ ap (λ s. s.items) (inv.items i r inside) in
    let last : c.copied-own.result ≡ last_item (own_items (get_or old i r)) = c.copied-own.ensures ∙ c.last.ensures.value ∙ ap last_item read in
    record {
      items = items_one old now i r c.copied-own.result within inv.items;
      needs = needs_one old now i r c.copied-own.result within inv.needs inside last;
    }

pub returns-clause-items : goal.returns-clause-items
returns-clause-items c = c.loop-own.invariant.items

pub returns-clause-needs : goal.returns-clause-needs
returns-clause-needs c = λ i d below. c.loop-own.invariant.needs i d (omega arith)
