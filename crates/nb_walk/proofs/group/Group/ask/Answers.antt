use Rattle.std.proofs.Common.{◌≡◌, ◌<◌, ◌++◌, length, get_or, sym, ap, ◌∙◌, arith, subst}
use Rattle.std.specs.Prelude.{All}
use Rattle.std.specs.Vec.{with_items}
use Rattle.std.proofs.lemmas.List.{with_items_is}
use Rattle.nb_walk.specs.declared.group.Own.{Own}
use Rattle.nb_walk.specs.Group.{own_items, HasNeed, MayBeGiven}
use Rattle.nb_walk.specs.Room.{HasRoom}
use Rattle.nb_walk.specs.Running.{Each}
use Rattle.nb_walk.proofs.Waits.{has_need, rooms_kept}
use Rattle.nb_walk.proofs.group.Group.ask.Goals as goal

pub returns-clause-group : goal.returns-clause-group
returns-clause-group c =
    let g = c.args.self.now in
    let new = c.wait_for_shared.new.owns in
    let was = c.requires.group in
    let first = with_items g.owns c.wait_for_own.new.owns in
    let asked : first.items ≡ c.wait_for_own.new.owns = with_items_is g.owns c.wait_for_own.new.owns (omega arith) in
    let written : (with_items first new).items ≡ new = with_items_is first new (omega arith) in
    let long : length new ≡ length g.owns.items = omega arith in
    let between : c.deref_mut-2.result.now ≡ c.wait_for_own.new.owns = c.deref_mut-2.ensures.value ∙ asked in
    let each : Each (λ (a : Own) (b : Own). b.items ≡ a.items) (length g.owns.items) g.owns.items new = λ i d below.
    let given = c.wait_for_shared.ensures.given i d (omega arith) in
    let own = c.wait_for_own.ensures.items i d (omega arith) in
    given.items ∙ ap (λ l. (get_or l i d).items) between ∙ own ∙ ap (λ l. (get_or l i d).items) c.deref_mut.ensures.value in
    record {
      owns = ap length written ∙ long ∙ was.owns;
      tallies = was.tallies;
      rooms = subst (All (λ o. HasRoom (own_items o))) (sym written) (rooms_kept g.owns.items new long each was.rooms);
      small = was.small;
      shared = was.shared;
      few = was.few;
      items = was.items;
      waits = was.waits;
    }

pub returns-clause-needs : goal.returns-clause-needs
returns-clause-needs c = λ empty i d below.
    let g = c.args.self.now in
    let es = c.deref.result.now in
    let a = c.deref_mut.result.now in
    let b = c.wait_for_own.new.owns in
    let new = c.wait_for_shared.new.owns in
    let was = c.requires.group in
    let first = with_items g.owns b in
    let asked : first.items ≡ b = with_items_is g.owns b (omega arith) in
    let written : (with_items first new).items ≡ new = with_items_is first new (omega arith) in
    let between : c.deref_mut-2.result.now ≡ b = c.deref_mut-2.ensures.value ∙ asked in
    let inside : i < length a = let owns = was.owns in omega arith in
    let within : i < length c.deref_mut-2.result.now = let owns = was.owns in omega arith in
    let given : MayBeGiven es i (get_or b i d) (get_or new i d) = subst (λ l. MayBeGiven es i (get_or l i d) (get_or new i d)) between (c.wait_for_shared.ensures.given i d within) in
    let need : HasNeed i es (get_or new i d) =
    has_need i es (get_or a i d) (get_or b i d) (get_or new i d) (c.wait_for_own.ensures.items i d inside) (c.wait_for_own.ensures.needs i d inside) given (c.wait_for_shared.ensures.none i d within) in
    subst (λ l. HasNeed i (g.items.items ++ g.waits.items) (get_or l i d)) (sym written)
    (subst (λ l. HasNeed i l (get_or new i d)) (c.deref.ensures.value ∙ ap (λ l. l ++ g.waits.items) (sym empty)) need)
