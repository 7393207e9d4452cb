-- The level that a key tells is its level.
use Rattle.std.proofs.Common.{◌≡◌, ℕ, zero, suc, ◌+◌, ◌*◌, ◌/◌, ◌^◌, ◌<◌, ◌≤◌, ltb, eqb, Bool, true, false, not, ◌&&◌, ◌||◌, ◌↔◌, IsTrue, sym, ap, ◌∙◌, refl, arith, subst}
use Rattle.std.proofs.Math.Nat.{pow-suc}
use Rattle.std.proofs.lemmas.Bool.{cond-true, cond-false, lt-ltb, le-ltb, eq-eqb, ne_eqb}
use Rattle.nb_model.specs.declared.body.At.{At}
use Rattle.nb_model.specs.declared.params.Params.{Params}
use Rattle.nb_model.specs.Gravity.{is_far}
use Rattle.nb_key.specs.Morton.{key_at, IsKeyAt, IsKey}
use Rattle.nb_key.proofs.Levels.{eight_pos, child_at}
use Rattle.nb_walk.specs.Angle.{level_from, level_of, by_angle}

from_zero : (n key : ℕ) → key < 8 → level_from n key ≡ 0
unfolding level_from
from_zero zero key small = refl
from_zero (suc n) key small = cond-true (ltb key 8) 0 (suc (level_from n (key / 8))) (lt-ltb key 8 small)

from_suc : (n key : ℕ) → 8 ≤ key → level_from (suc n) key ≡ suc (level_from n (key / 8))
unfolding level_from
from_suc n key large = cond-false (ltb key 8) 0 (suc (level_from n (key / 8))) (le-ltb key 8 large)

level_from_is : (n level key : ℕ) → level ≤ n → 8 ^ level ≤ key → key < 2 * 8 ^ level → level_from n key ≡ level
level_from_is n zero key within least below = from_zero n key (omega arith)
level_from_is zero (suc level) key within least below = absurd (omega arith)
level_from_is (suc n) (suc level) key within least below =
    let power = pow-suc 8 level in
    let some = eight_pos level in
    from_suc n key (omega arith) ∙ ap suc (level_from_is n level (key / 8) (omega arith) (omega arith) (omega arith))

pub level_is : (level key : ℕ) → IsKeyAt level key → level_of key ≡ level
level_is level key at = level_from_is 21 level key at.deepest at.least at.below

pub its_level : (key : ℕ) → IsKey key → IsKeyAt (level_of key) key
its_level key (level, at) = subst (λ l. IsKeyAt l key) (sym (level_is level key at)) at

pub level_most : (key : ℕ) → IsKey key → level_of key ≤ 21
level_most key is = (its_level key is).deepest

pub root_level : level_of 1 ≡ 0
root_level = from_zero 21 1 (omega arith)

-- a key's children are a level deeper
pub child_level : (key octant : ℕ) → IsKey key → level_of key < 21 → octant < 8 → level_of (8 * key + octant) ≡ suc (level_of key)
child_level key octant is above below = level_is (suc (level_of key)) (8 * key + octant) (child_at (level_of key) key octant (its_level key is) above below)

-- the answer of the opening criterion, by the test whether the cell holds the target
not_or : (inside far test : Bool) → inside ≡ test → not (inside || not far) ≡ not test && far
not_or true far test is = ap (λ t. not t && far) is
not_or false true test is = ap (λ t. not t && true) is
not_or false false test is = ap (λ t. not t && false) is

pub same_test : (inside : Bool) (a b : ℕ) → (IsTrue inside ↔ (a ≡ b)) → inside ≡ eqb a b
same_test true a b holds = sym (eq-eqb a b (holds.0 refl))
same_test false a b holds = sym (ne_eqb a b (λ e. let no = holds.1 e in cc))

pub criterion_is : (params : Params) (p : At) (level key : ℕ) (centre : At) (inside : Bool) → IsKeyAt level key
    → (IsTrue inside ↔ (key_at level p ≡ key)) → not (inside || not (is_far params p level centre)) ≡ by_angle params p key centre
criterion_is params p level key centre inside at holds =
    let test = eqb (key_at level p) key in
    let same = same_test inside (key_at level p) key holds in
    not_or inside (is_far params p level centre) test same
    ∙ ap (λ l. not (eqb (key_at l p) key) && is_far params p l centre) (sym (level_is level key at))
