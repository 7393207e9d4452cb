use Rattle.std.proofs.Common.{◌≡◌, ℕ, ◌<◌, [], ◌∷◌, ◌++◌, append-nil, is_ok, length, sym, ap, ◌∙◌, refl, subst, arith, vec_len}
use Rattle.std.specs.Prelude.{All, vec_capacity}
use Rattle.std.specs.Vec.{with_items}
use Rattle.std.proofs.lemmas.List.{with_items_is, length-append}
use Rattle.nb_walk.specs.declared.group.Own.{Own}
use Rattle.nb_walk.specs.declared.shared.SharedItem.{SharedItem}
use Rattle.nb_walk.specs.Group.{own_items, SharesOut}
use Rattle.nb_walk.specs.Room.{HasRoom, IsItemInRange}
use Rattle.nb_walk.specs.Running.{EachAt}
use Rattle.nb_walk.specs.Shared.{is_left_to, items_of, IsShared}
use Rattle.nb_walk.proofs.HandingOut.{rest_of, hands_out, group_with, shared_rest}
use Rattle.nb_walk.proofs.Outcomes.{pushed_on}
use Rattle.nb_walk.proofs.SharedLooks.{all_one, all_none}
use Rattle.nb_walk.proofs.Sharing.{items_of_append, items_of_other}
use Rattle.nb_walk.proofs.group.Group.hand_out.Goals as goal

pub returns-then-others-ne0-clause-group : goal.returns-then-others-ne0-clause-group
returns-then-others-ne0-clause-group c =
    let old = c.args.self.now in
    let e = c.args.entry in
    let group = c.requires.group in
    let out = c.share_out-others in
    let others = out.result in
    let xs = out.new.owns in
    let same = c.deref_mut.ensures.value in
    let long = ap length same in
    let written = with_items_is old.owns xs (omega (arith, old.owns.ok.0, long, out.ensures.count)) in
    let count : length (with_items old.owns xs).items ≡ length old.owns.items = omega (arith, ap length written, out.ensures.count, long) in
    let rooms = subst (All (λ o. HasRoom (own_items o))) (sym written) out.ensures.rooms in
    let R : ℕ → Own → Own → Type 0 = λ i. SharesOut e.item (is_left_to i e) (is_left_to i (rest_of e others)) in
    let shares = subst (λ l. EachAt R (length l) l (with_items old.owns xs).items) same (subst (EachAt R (length c.deref_mut.result.now) c.deref_mut.result.now) (sym written) out.ensures.shares) in
    let free : vec_len old.waits < vec_capacity old.waits = omega (arith, c.requires.room, group.waits, old.waits.ok.0, length-append old.items.items old.waits.items) in
    let pushed = pushed_on old.waits c.push.new.self (rest_of e others) (is_ok c.push.result) c.push.ensures.items c.push.ensures.succeeds free in
    let shared = shared_rest e others (length c.deref_mut.result.now) (length old.tallies.items) (omega (arith, long, group.owns)) c.if-others-ne0.true out.ensures.some in
    group_with old _ (rest_of e others ∷ []) group refl refl refl count rooms pushed (all_one (λ (s : SharedItem). IsItemInRange s.item) (rest_of e others) c.requires.small) (all_one (IsShared (length old.tallies.items)) (rest_of e others) shared)
    c.push.ensures.capacity (omega (arith, c.requires.room))

pub returns-then-others-ne0-clause-hands : goal.returns-then-others-ne0-clause-hands
returns-then-others-ne0-clause-hands c =
    let old = c.args.self.now in
    let e = c.args.entry in
    let group = c.requires.group in
    let out = c.share_out-others in
    let others = out.result in
    let xs = out.new.owns in
    let same = c.deref_mut.ensures.value in
    let long = ap length same in
    let written = with_items_is old.owns xs (omega (arith, old.owns.ok.0, long, out.ensures.count)) in
    let count : length (with_items old.owns xs).items ≡ length old.owns.items = omega (arith, ap length written, out.ensures.count, long) in
    let rooms = subst (All (λ o. HasRoom (own_items o))) (sym written) out.ensures.rooms in
    let R : ℕ → Own → Own → Type 0 = λ i. SharesOut e.item (is_left_to i e) (is_left_to i (rest_of e others)) in
    let shares = subst (λ l. EachAt R (length l) l (with_items old.owns xs).items) same (subst (EachAt R (length c.deref_mut.result.now) c.deref_mut.result.now) (sym written) out.ensures.shares) in
    let free : vec_len old.waits < vec_capacity old.waits = omega (arith, c.requires.room, group.waits, old.waits.ok.0, length-append old.items.items old.waits.items) in
    let pushed = pushed_on old.waits c.push.new.self (rest_of e others) (is_ok c.push.result) c.push.ensures.items c.push.ensures.succeeds free in
    hands_out old e others _ group refl refl shares (λ i. ap (items_of i) pushed ∙ items_of_append i old.waits.items (rest_of e others ∷ []))

pub returns-else-others-ne0-clause-group : goal.returns-else-others-ne0-clause-group
returns-else-others-ne0-clause-group c =
    let old = c.args.self.now in
    let e = c.args.entry in
    let group = c.requires.group in
    let out = c.share_out-others in
    let others = out.result in
    let xs = out.new.owns in
    let same = c.deref_mut.ensures.value in
    let long = ap length same in
    let written = with_items_is old.owns xs (omega (arith, old.owns.ok.0, long, out.ensures.count)) in
    let count : length (with_items old.owns xs).items ≡ length old.owns.items = omega (arith, ap length written, out.ensures.count, long) in
    let rooms = subst (All (λ o. HasRoom (own_items o))) (sym written) out.ensures.rooms in
    let R : ℕ → Own → Own → Type 0 = λ i. SharesOut e.item (is_left_to i e) (is_left_to i (rest_of e others)) in
    let shares = subst (λ l. EachAt R (length l) l (with_items old.owns xs).items) same (subst (EachAt R (length c.deref_mut.result.now) c.deref_mut.result.now) (sym written) out.ensures.shares) in
    group_with old _ [] group refl refl refl count rooms (sym (append-nil old.waits.items)) (all_none (λ (s : SharedItem). IsItemInRange s.item)) (all_none (IsShared (length old.tallies.items)))
    (omega arith) (omega (arith, c.requires.room))

pub returns-else-others-ne0-clause-hands : goal.returns-else-others-ne0-clause-hands
returns-else-others-ne0-clause-hands c =
    let old = c.args.self.now in
    let e = c.args.entry in
    let group = c.requires.group in
    let out = c.share_out-others in
    let others = out.result in
    let xs = out.new.owns in
    let same = c.deref_mut.ensures.value in
    let long = ap length same in
    let written = with_items_is old.owns xs (omega (arith, old.owns.ok.0, long, out.ensures.count)) in
    let count : length (with_items old.owns xs).items ≡ length old.owns.items = omega (arith, ap length written, out.ensures.count, long) in
    let rooms = subst (All (λ o. HasRoom (own_items o))) (sym written) out.ensures.rooms in
    let R : ℕ → Own → Own → Type 0 = λ i. SharesOut e.item (is_left_to i e) (is_left_to i (rest_of e others)) in
    let shares = subst (λ l. EachAt R (length l) l (with_items old.owns xs).items) same (subst (EachAt R (length c.deref_mut.result.now) c.deref_mut.result.now) (sym written) out.ensures.shares) in
    let none = c.if-others-ne0.false in
    hands_out old e others _ group refl refl shares
    (λ i. sym (append-nil (items_of i old.waits.items)) ∙ ap (λ l. items_of i old.waits.items ++ l) (sym (items_of_other i (rest_of e others) (out.ensures.none none i))))
