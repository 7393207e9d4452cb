-- The room that a walk's items need.
use Rattle.std.proofs.Common.{◌≡◌, ℕ, zero, suc, ◌+◌, ◌-◌, ◌*◌, ◌/◌, ◌%◌, ◌^◌, ◌<◌, ◌≤◌, cond, eqb, List, [], ◌∷◌, ◌++◌, length, drop, Some, sym, ap, ◌∙◌, refl, arith, subst, inl, inr}
use Rattle.std.specs.Prelude.{◌≢◌, ◌⊎◌, slice_get}
use Rattle.std.proofs.Math.Nat.{pow-suc}
use Rattle.std.proofs.lemmas.List.{length_push}
use Rattle.std.proofs.lemmas.List.Elements.{All-push, All-pop}
use Rattle.std.proofs.lemmas.Option.{slice_get_within}
use Rattle.nb_model.specs.Gravity.{octants}
use Rattle.nb_key.specs.Morton.{IsKey}
use Rattle.std.proofs.lemmas.Bool.{cases_lt}
use Rattle.nb_key.proofs.Levels.{eight_mono, eight_pos, child_is, level_above}
use Rattle.nb_record.specs.declared.cell.Cell.{Cell}
use Rattle.nb_record.specs.Records.{IsCell}
use Rattle.nb_walk.specs.declared.item.Item.{Item}
use Rattle.nb_walk.specs.declared.item.Item.TheVariants as item
use Rattle.nb_walk.specs.Angle.{level_of}
use Rattle.nb_walk.specs.Items.{last_item}
use Rattle.nb_walk.specs.Room.{item_level, IsItemInRange, HasRoom}
use Rattle.nb_walk.specs.Looks.{kid_items}
use Rattle.nb_walk.proofs.KeyLevels.{its_level, child_level, level_most}

-- ---- one item more

at_end : (xs : List Item) (x : Item) → slice_get (xs ++ x ∷ []) (length xs) ≡ Some x
at_end [] x = refl
at_end (a ∷ xs) x = at_end xs x

pub last_pushed : (xs : List Item) (x : Item) → last_item (xs ++ x ∷ []) ≡ Some x
last_pushed xs x =
    let long : length (xs ++ x ∷ []) - 1 ≡ length xs = omega (arith, length_push xs x) in
    ap (slice_get (xs ++ x ∷ [])) long ∙ at_end xs x

before_end : (xs : List Item) (x : Item) (i : ℕ) → i < length xs → slice_get (xs ++ x ∷ []) i ≡ slice_get xs i
before_end [] x i within = absurd (omega arith)
before_end (a ∷ xs) x zero within = refl
before_end (a ∷ xs) x (suc i) within = before_end xs x i (omega arith)

found_pushed : (xs : List Item) (x y : Item) (i : ℕ) → slice_get (xs ++ x ∷ []) i ≡ Some y → (slice_get xs i ≡ Some y) ⊎ ((i ≡ length xs) × (x ≡ y))
found_pushed [] x y zero is = inr (refl, (cc))
found_pushed [] x y (suc i) is = absurd (cc)
found_pushed (a ∷ xs) x y zero is = inl is
found_pushed (a ∷ xs) x y (suc i) is =
    elim (found_pushed xs x y i is) [ inl before ↦ inl before | inr end ↦ inr (ap suc end.0, end.1) ]

pub room_push : (xs : List Item) (x : Item) → HasRoom xs → IsItemInRange x → length xs ≤ 7 * item_level x → HasRoom (xs ++ x ∷ [])
room_push xs x room small depth = record {
  each = λ i y is. elim (found_pushed xs x y i is) [
    | inl before ↦ room.each i y before
    | inr end ↦ subst (λ z. i ≤ 7 * item_level z) end.1 (subst (λ n. n ≤ 7 * item_level x) (sym end.0) depth)
  ];
  small = All-push IsItemInRange xs x room.small small;
}

pub room_front : (xs : List Item) (x : Item) → HasRoom (xs ++ x ∷ []) → HasRoom xs
room_front xs x room = record {
  each = λ i y is. room.each i y (before_end xs x i (slice_get_within xs i y is) ∙ is);
  small = (All-pop IsItemInRange (xs ++ x ∷ []) xs (Some x) refl room.small).0;
}

pub room_depth : (xs : List Item) (x : Item) → HasRoom (xs ++ x ∷ []) → length xs ≤ 7 * item_level x
room_depth xs x room = room.each (length xs) x (at_end xs x)

pub room_small : (xs : List Item) (x : Item) → HasRoom (xs ++ x ∷ []) → IsItemInRange x
room_small xs x room = (All-pop IsItemInRange (xs ++ x ∷ []) xs (Some x) refl room.small).1

-- ---- the octants of a cell

pub not_deepest : (key : ℕ) → IsKey key → level_of key < 21 → key < 8 ^ 21
not_deepest key is above =
    let at = its_level key is in
    let more = eight_mono (suc (level_of key)) 21 (omega arith) in
    let power = pow-suc 8 (level_of key) in
    let some = eight_pos (level_of key) in
    let below = at.below in
    omega arith

pub kid_next : (key kids i : ℕ) → i < 8 → kid_items key kids (drop (8 - (i + 1)) octants) ≡ kid_items key kids (drop (8 - i) octants) ++ cond (eqb (kids / 2 ^ (7 - i) % 2) 1) (item.Cell (8 * key + (7 - i)) 0 ∷ []) []
unfolding kid_items
kid_next key kids zero below = refl
kid_next key kids (suc zero) below = refl
kid_next key kids (suc (suc zero)) below = refl
kid_next key kids (suc (suc (suc zero))) below = refl
kid_next key kids (suc (suc (suc (suc zero)))) below = refl
kid_next key kids (suc (suc (suc (suc (suc zero))))) below = refl
kid_next key kids (suc (suc (suc (suc (suc (suc zero)))))) below = refl
kid_next key kids (suc (suc (suc (suc (suc (suc (suc zero))))))) below = refl
kid_next key kids (suc (suc (suc (suc (suc (suc (suc (suc i)))))))) below = absurd (omega arith)

pub no_kids : (key kids : ℕ) → kid_items key kids [] ≡ []
unfolding kid_items
no_kids key kids = refl

pub room_kid : (xs : List Item) (key octant i : ℕ) → HasRoom xs → IsKey key → level_of key < 21 → octant < 8 → i < 8 → length xs ≤ 7 * level_of key + i → HasRoom (xs ++ item.Cell (8 * key + octant) 0 ∷ [])
room_kid xs key octant i room is above below turn depth =
    let deeper = child_level key octant is above below in
    room_push xs (item.Cell (8 * key + octant) 0) room (child_is key octant is (not_deepest key is above) below, omega arith) (omega (arith, deeper))

-- an opened cell leaves room for what is below it
pub depth_free : (n key : ℕ) → IsKey key → n ≤ 7 * level_of key → n < 148
depth_free n key is depth = let most = level_most key is in omega arith

pub room_bodies : (xs : List Item) (cell : Cell) (first count : ℕ) → HasRoom xs → length xs ≤ 7 * level_of cell.key → IsCell cell → first ≡ cell.first → count ≡ cell.count → HasRoom (xs ++ item.Bodies first count ∷ [])
room_bodies xs cell first count room depth is same_first same_count =
    let most = level_most cell.key is.key in
    let low = is.first in
    let some = is.some_bodies in
    let few = is.count in
    room_push xs (item.Bodies first count) room (omega arith, omega arith) (omega arith)

pub divided_level : (cell : Cell) (kids : ℕ) → IsCell cell → kids ≡ cell.kids → kids ≢ 0 → level_of cell.key < 21
divided_level cell kids is same some =
    level_above (level_of cell.key) cell.key (its_level cell.key is.key)
    (elim (cases_lt cell.key (8 ^ 21)) [ inl above ↦ above | inr deep ↦ absurd (some (same ∙ is.deepest deep)) ])
