-- Shared items, and the block of walks that has one left.
use Rattle.std.proofs.Common.{◌≡◌, ℕ, suc, ◌+◌, ◌-◌, ◌*◌, ◌/◌, ◌%◌, ◌^◌, ◌<◌, ◌≤◌, Bool, true, false, eqb, List, [], ◌∷◌, ◌++◌, length, get_or, set, length-set, sym, ap, ◌∙◌, refl, arith, subst, inl, inr}
use Rattle.std.specs.Prelude.{◌≢◌, ◌⊎◌, ◌==◌, ◌&&◌, if◌then◌else◌, All}
use Rattle.std.proofs.Math.Nat.{pow-suc}
use Rattle.std.proofs.lemmas.Bool.{and_parts, cases_lt, cond-true, cond-false, eq-eqb, ne_eqb, eqb-true}
use Rattle.std.proofs.lemmas.List.Elements.{All-nil, All-set}
use Rattle.nb_walk.specs.declared.group.Own.{Own}
use Rattle.nb_walk.specs.declared.item.Item.{Item}
use Rattle.nb_walk.specs.declared.shared.SharedItem.{SharedItem}
use Rattle.nb_walk.specs.Group.{own_items, SharesOut}
use Rattle.nb_walk.specs.Room.{IsItemInRange, HasRoom}
use Rattle.nb_walk.specs.Running.{EachAt}
use Rattle.nb_walk.specs.Shared.{in_set, is_left_to, IsShared}
use Rattle.nb_walk.proofs.Bits.{in_none, in_above, is_below}
use Rattle.nb_walk.proofs.Courses.{empty_list}
use Rattle.nb_walk.proofs.Rooms.{room_push}
use Rattle.nb_walk.proofs.Runs.{any_default, SameFrom, each_more, each_stays, each_all, same_more, same_later}

-- ---- a walk and its block

pub left_block : (i : ℕ) (e : SharedItem) → is_left_to i e ≡ true → (e.block ≡ i / 64) × (in_set e.walks (i % 64) ≡ true)
left_block i e is =
    let both = and_parts (eqb e.block (i / 64)) (in_set e.walks (i % 64)) is in
    (eqb-true e.block (i / 64) both.0, both.1)

pub left_in : (i : ℕ) (e : SharedItem) → e.block ≡ i / 64 → is_left_to i e ≡ in_set e.walks (i % 64)
left_in i e same = ap (λ t. t && in_set e.walks (i % 64)) (eq-eqb e.block (i / 64) same)

pub left_out : (i : ℕ) (e : SharedItem) → e.block ≢ i / 64 → is_left_to i e ≡ false
left_out i e other = ap (λ t. t && in_set e.walks (i % 64)) (ne_eqb e.block (i / 64) other)

-- the block has a walk
pub block_within : (count : ℕ) (e : SharedItem) → IsShared count e → e.block * 64 < count
block_within count e shared =
    let below = shared.below shared.walk shared.has in
    let block = (left_block shared.walk e shared.has).0 in
    omega arith

-- ---- an item that is shared out

room_one : (x : Item) → IsItemInRange x → HasRoom (x ∷ [])
room_one x small = room_push [] x (record { each = λ i y is. absurd (cc); small = All-nil IsItemInRange }) small (omega arith)

module _ (e : SharedItem) where
  -- the same with another set of walks
  abbrev pub rest : ℕ → SharedItem
  rest walks = record { item = e.item; block = e.block; walks = walks }

  abbrev pub Shares : ℕ → ℕ → Own → Own → Type 0
  Shares others i = SharesOut e.item (is_left_to i e) (is_left_to i (rest others))

  stays_out : (has others : Bool) (o : Own) → has ≡ false → others ≡ false → SharesOut e.item has others o o
  stays_out has others o none same = record {
    takes = λ is. absurd (cc);
    holds = λ some. (refl, same ∙ sym none);
    other = λ is. (refl, same);
  }

  -- up to walk i: the owns before and after, and the set of the others
  pub record SharedOut (old now : List Own) (i others : ℕ) : Type 0 where
    pub count : length now ≡ length old
    pub rooms : All (λ o. HasRoom (own_items o)) now
    pub below : others < 2 ^ (i - e.block * 64)
    pub shares : EachAt (Shares others) i old now
    pub same : SameFrom i old now
    pub some : (others ≡ 0) ⊎ ((j : ℕ) × (is_left_to j (rest others) ≡ true))

  outside : (others j : ℕ) (o : Own) → e.block ≢ j / 64 → Shares others j o o
  outside others j o other = stays_out (is_left_to j e) (is_left_to j (rest others)) o (left_out j e other) (left_out j (rest others) other)

  pub out_none : (owns : List Own) (i : ℕ) → i ≡ e.block * 64 → All (λ o. HasRoom (own_items o)) owns → SharedOut owns owns i 0
  out_none owns i first rooms = record {
    count = refl;
    rooms = rooms;
    below = let none : i - e.block * 64 ≡ 0 = omega arith in subst (λ n. 0 < 2 ^ n) (sym none) (omega arith);
    shares = λ j d before. outside 0 j (get_or owns j d) (λ is. (omega arith));
    same = λ j d from. refl;
    some = inl refl;
  }

  -- ---- the turn of walk i

  module _ (old now : List Own) (i others : ℕ) (first : e.block * 64 ≤ i) (last : i < e.block * 64 + 64) (out : SharedOut old now i others) where
    block : e.block ≡ i / 64
    block = omega arith

    place : i % 64 ≡ i - e.block * 64
    place = omega arith

    more_below : others < 2 ^ (i + 1 - e.block * 64)
    more_below =
        let next : i + 1 - e.block * 64 ≡ suc (i - e.block * 64) = omega arith in
        let twice = ap (λ n. 2 ^ n) next ∙ pow-suc 2 (i - e.block * 64) in
        let below = out.below in
        omega arith

    not_yet : is_left_to i (rest others) ≡ false
    not_yet = left_in i (rest others) block ∙ in_above others (i - e.block * 64) (i % 64) out.below (omega arith)

    own_same : (d : Own) → get_or now i d ≡ get_or old i d
    own_same d = out.same i d (omega arith)

    -- it hasn't the item left
    pub out_pass : in_set e.walks (i - e.block * 64) ≡ false → SharedOut old now (i + 1) others
    out_pass none =
        let not_left : is_left_to i e ≡ false = left_in i e block ∙ ap (in_set e.walks) place ∙ none in
        record {
          count = out.count;
          rooms = out.rooms;
          below = more_below;
          shares = each_stays (Shares others) old now i out.shares
              (λ d. subst (λ o. Shares others i (get_or old i d) o) (sym (own_same d)) (stays_out (is_left_to i e) (is_left_to i (rest others)) (get_or old i d) not_left not_yet));
          same = same_later old now i out.same;
          some = out.some;
        }

    -- it takes the item for its own
    pub out_take : (o d : Own) → in_set e.walks (i - e.block * 64) ≡ true → i < length now → IsItemInRange e.item → length (own_items (get_or now i d)) ≡ 0 → own_items o ≡ own_items (get_or now i d) ++ e.item ∷ []
        → SharedOut old (set now i o) (i + 1) others
    out_take o d has within small none pushed =
        let empty = empty_list (own_items (get_or now i d)) none in
        let own : own_items o ≡ e.item ∷ [] = pushed ∙ ap (λ l. l ++ e.item ∷ []) empty in
        let room = subst HasRoom (sym own) (room_one e.item small) in
        let left : is_left_to i e ≡ true = left_in i e block ∙ ap (in_set e.walks) place ∙ has in
        record {
          count = length-set now i o ∙ out.count;
          rooms = All-set (λ p. HasRoom (own_items p)) now i o room out.rooms;
          below = more_below;
          shares = each_more (Shares others) old now i o out.shares within
              (λ f. record {
                takes = λ is before. (own, not_yet);
                holds = λ some. absurd (some (ap own_items (sym (own_same f) ∙ any_default now i f d within) ∙ empty));
                other = λ is. absurd (cc);
              });
          same = same_more old now i o out.same;
          some = out.some;
        }

    -- it is among the others
    pub out_keep : (more : ℕ) (d : Own) → in_set e.walks (i - e.block * 64) ≡ true → i < length now → length (own_items (get_or now i d)) ≢ 0
        → ((j : ℕ) → in_set more j ≡ (if j == i - e.block * 64 then true else in_set others j)) → more < 2 ^ (i - e.block * 64 + 1) → SharedOut old now (i + 1) more
    out_keep more d has within some sets few =
        let left : is_left_to i e ≡ true = left_in i e block ∙ ap (in_set e.walks) place ∙ has in
        let next : i - e.block * 64 + 1 ≡ i + 1 - e.block * 64 = omega arith in
        let now_left : is_left_to i (rest more) ≡ true = left_in i (rest more) block ∙ ap (in_set more) place ∙ sets (i - e.block * 64) ∙ cond-true (eqb (i - e.block * 64) (i - e.block * 64)) true (in_set others (i - e.block * 64)) (eq-eqb (i - e.block * 64) (i - e.block * 64) refl) in
        record {
          count = out.count;
          rooms = out.rooms;
          below = subst (λ n. more < 2 ^ n) next few;
          shares = each_stays (Shares more) old now i
              (λ j d before. subst (λ t. SharesOut e.item (is_left_to j e) t (get_or old j d) (get_or now j d)) (sym (other_left j before)) (out.shares j d before))
              (λ f. subst (λ o. Shares more i (get_or old i f) o) (sym (own_same f)) (record {
                takes = λ is empty. absurd (some (ap length (ap own_items (any_default now i d f within ∙ own_same f) ∙ empty)));
                holds = λ full. (refl, now_left ∙ sym left);
                other = λ is. absurd (cc);
              }));
          same = same_later old now i out.same;
          some = inr (i, now_left);
        }
      where
        other_left : (j : ℕ) → j < i → is_left_to j (rest more) ≡ is_left_to j (rest others)
        other_left j before = by_block (cases_lt j (e.block * 64)) where
          by_block : (j < e.block * 64) ⊎ (e.block * 64 ≤ j) → is_left_to j (rest more) ≡ is_left_to j (rest others)
          by_block (inl outside_) =
              let other : e.block ≢ j / 64 = λ is. (omega arith) in
              left_out j (rest more) other ∙ sym (left_out j (rest others) other)
          by_block (inr inside) =
              let same_block : e.block ≡ j / 64 = omega arith in
              let other : j % 64 ≢ i - e.block * 64 = omega arith in
              left_in j (rest more) same_block ∙ sets (j % 64) ∙ cond-false (eqb (j % 64) (i - e.block * 64)) true (in_set others (j % 64)) (ne_eqb (j % 64) (i - e.block * 64) other)
              ∙ sym (left_in j (rest others) same_block)

  -- ---- all of them

  module _ (old now : List Own) (end others : ℕ) (shared : IsShared (length old) e) (out : SharedOut old now end others) where
    pub out_each : (end ≡ length old) ⊎ (e.block * 64 + 64 ≤ end) → EachAt (Shares others) (length old) old now
    out_each (inl all) = λ j d below. out.shares j d (omega arith)
    out_each (inr past) = each_all (Shares others) old now end (length old) out.shares out.same
        (λ j d from below. outside others j (get_or old j d) (λ is. (omega arith)))

    pub out_some : end ≤ length old → end ≤ e.block * 64 + 64 → (others ≡ 0) ⊎ IsShared (length old) (rest others)
    out_some within few = elim out.some [
      | inl none ↦ inl none
      | inr one ↦ inr (record {
        walk = one.0;
        has = one.1;
        below = λ i is.
            let at = left_block i (rest others) is in
            let place = is_below others (end - e.block * 64) (i % 64) out.below at.1 in
            let block = at.0 in
            omega arith;
      })
    ]

  pub out_nobody : (others i : ℕ) → others ≡ 0 → is_left_to i (rest others) ≡ false
  out_nobody others i none = by (cases_eq i) where
    by : (e.block ≡ i / 64) ⊎ (e.block ≢ i / 64) → is_left_to i (rest others) ≡ false
    by (inl same) = left_in i (rest others) same ∙ ap (λ n. in_set n (i % 64)) none ∙ in_none (i % 64)
    by (inr other) = left_out i (rest others) other

    cases_eq : (i : ℕ) → (e.block ≡ i / 64) ⊎ (e.block ≢ i / 64)
    cases_eq i = elim (cases_lt e.block (i / 64)) [
      | inl before ↦ inr (omega arith)
      | inr from ↦ elim (cases_lt (i / 64) e.block) [ inl behind ↦ inr (omega arith) | inr there ↦ inl (omega arith) ]
    ]
