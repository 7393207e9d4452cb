-- The level of a key: its leading zeros tell it.
use Rattle.std.proofs.Common.{◌≡◌, ℕ, zero, suc, ◌+◌, ◌-◌, ◌*◌, ◌/◌, ◌%◌, ◌^◌, ◌<◌, ◌≤◌, sym, ap, ◌∙◌, refl, arith, subst, inl, inr, List, [], ◌∷◌, ◌++◌, length}
use Rattle.std.specs.Prelude.{◌≢◌, fold, All}
use Rattle.std.proofs.Math.Nat.{pow-suc, pow-le-pow_right}
use Rattle.std.proofs.lemmas.Bool.{cases_lt}
use Rattle.std.proofs.lemmas.Nat.{leading_top, mod_below}
use Rattle.std.proofs.lemmas.List.{length_push}
use Rattle.std.proofs.lemmas.List.Sums.{fold_push}
use Rattle.std.proofs.lemmas.List.Elements.{All-nil, All-head, All-tail, All-push}
use Rattle.std.specs.Int.Count.{leading_unique}
use lib.Count.{count_leading_zeros}
use Rattle.nb_key.specs.Morton.{key_of, IsKey, IsKeyAt}
use Rattle.nb_key.proofs.Spreads.{eight_pow}

-- a key's number has its place bit as its first
pub zeros_of_level : (level key : ℕ) → IsKeyAt level key → count_leading_zeros 64 key ≡ 63 - 3 * level
zeros_of_level level key is =
    let deep : level ≤ 21 = is.deepest in
    let most : key < 2 ^ suc (3 * level) = omega (arith, is.below, eight_pow level, pow-suc 2 (3 * level)) in
    let least : 2 ^ suc (3 * level) ≤ 2 * key + 1 = omega (arith, is.least, eight_pow level, pow-suc 2 (3 * level)) in
    sym (leading_unique 64 key (63 - 3 * level) (suc (3 * level)) (omega arith) most least)

pub level_of_zeros : (key : ℕ) → 0 < key → key < 2 ^ 64 → count_leading_zeros 64 key % 3 ≡ 0 → IsKey key
level_of_zeros key some fits whole =
    let top = leading_top 64 key some fits in
    let level = top.0 / 3 in
    let triple : 3 * level ≡ top.0 = omega (arith, top.1) in
    let pow : 8 ^ level ≡ 2 ^ top.0 = eight_pow level ∙ ap (λ e. 2 ^ e) triple in
    let deep : level ≤ 21 = omega (arith, top.1) in
    let least : 8 ^ level ≤ key = omega (arith, pow, top.2) in
    let below : key < 2 * 8 ^ level = omega (arith, pow, top.3, pow-suc 2 top.0) in
    (level, record { deepest = deep; least = least; below = below })

pub eight_mono : (a b : ℕ) → a ≤ b → 8 ^ a ≤ 8 ^ b
eight_mono a b below = pow-le-pow_right (omega arith) below

pub eight_pos : (n : ℕ) → 0 < 8 ^ n
eight_pos n = omega (arith, eight_mono 0 n (omega arith))

not_below : (a b key : ℕ) → IsKeyAt a key → IsKeyAt b key → a < b → ⊥
not_below a b key is_a is_b below = omega (arith, is_a.below, is_b.least, eight_mono (suc a) b below, pow-suc 8 a)

pub one_level : (a b key : ℕ) → IsKeyAt a key → IsKeyAt b key → a ≡ b
one_level a b key is_a is_b =
    elim (cases_lt a b) [
      | inl below ↦ absurd (not_below a b key is_a is_b below)
      | inr from ↦ elim (cases_lt b a) [
        | inl above ↦ absurd (not_below b a key is_b is_a above)
        | inr to ↦ omega arith
      ]
    ]

-- ---- the root, a child, a parent

pub root_is : IsKey 1
root_is = (0, record { deepest = omega arith; least = omega arith; below = omega arith })

pub child_at : (level key octant : ℕ) → IsKeyAt level key → level < 21 → octant < 8 → IsKeyAt (suc level) (8 * key + octant)
child_at level key octant is above one = record {
  deepest = omega arith;
  least = omega (arith, is.least, pow-suc 8 level);
  below = omega (arith, is.below, pow-suc 8 level);
}

pub level_above : (level key : ℕ) → IsKeyAt level key → key < 8 ^ 21 → level < 21
level_above level key is small =
    elim (cases_lt level 21) [
      | inl below ↦ below
      | inr from ↦ absurd (omega (arith, is.least, eight_mono 21 level from))
    ]

pub child_is : (key octant : ℕ) → IsKey key → key < 8 ^ 21 → octant < 8 → IsKey (8 * key + octant)
child_is key octant (level, is) small one = (suc level, child_at level key octant is (level_above level key is small) one)

pub key_fits : (key : ℕ) → IsKey key → key < 2 ^ 64
key_fits key (level, is) = omega (arith, is.below, eight_mono level 21 is.deepest)

parent_at : (level key : ℕ) → IsKeyAt level key → key ≢ 1 → IsKey (key / 8)
parent_at zero key is other = absurd (other (omega (arith, is.least, is.below)))
parent_at (suc level) key is other =
    (level, record { deepest = omega (arith, is.deepest); least = omega (arith, is.least, pow-suc 8 level); below = omega (arith, is.below, pow-suc 8 level) })

pub parent_is : (key : ℕ) → IsKey key → key ≢ 1 → IsKey (key / 8)
parent_is key (level, is) other = parent_at level key is other

-- ---- a list of octants

key_from : ℕ → List ℕ → ℕ
key_from key octants = fold (λ key octant. 8 * key + octant) key octants

octants_from : (octants : List ℕ) (level key : ℕ) → All (λ octant. octant < 8) octants → IsKeyAt level key → level + length octants ≤ 21 → IsKeyAt (level + length octants) (fold (λ key octant. 8 * key + octant) key octants)
octants_from [] level key each is within = subst (λ l. IsKeyAt l key) (omega arith) is
octants_from (o ∷ os) level key each is within =
    let first : o < 8 = All-head (λ octant. octant < 8) o os each in
    let rest = All-tail (λ octant. octant < 8) o os each in
    let more = octants_from os (suc level) (8 * key + o) rest (child_at level key o is (omega arith) first) (omega arith) in
    subst (λ l. IsKeyAt l (fold (λ key octant. 8 * key + octant) (8 * key + o) os)) (omega arith) more

pub octants_are : (octants : List ℕ) → All (λ octant. octant < 8) octants → length octants ≤ 21 → IsKeyAt (length octants) (key_of octants)
octants_are octants each within =
    subst (λ l. IsKeyAt l (key_of octants)) (omega arith)
    (octants_from octants 0 1 each (record { deepest = omega arith; least = omega arith; below = omega arith }) (omega arith))

-- ---- as the code reads them

pub read_level : (key : ℕ) → IsKey key → IsKeyAt (21 - count_leading_zeros 64 key / 3) key
read_level key (level, is) =
    let deep : level ≤ 21 = is.deepest in
    let same : level ≡ 21 - count_leading_zeros 64 key / 3 = omega (arith, zeros_of_level level key is) in
    subst (λ l. IsKeyAt l key) same is

pub no_key : (key : ℕ) → count_leading_zeros 64 key % 3 ≢ 0 → IsKey key → ⊥
no_key key uneven (level, is) =
    let deep : level ≤ 21 = is.deepest in
    uneven (omega (arith, zeros_of_level level key is))

pub child_fits : (key octant : ℕ) → IsKey key → key < 8 ^ 21 → octant < 8 → 8 * key + octant < 2 ^ 64
child_fits key octant is small one = key_fits (8 * key + octant) (child_is key octant is small one)

-- ---- a key has a list of octants

pub key_of_push : (octants : List ℕ) (octant : ℕ) → key_of (octants ++ octant ∷ []) ≡ 8 * key_of octants + octant
key_of_push octants octant = fold_push (λ key o. 8 * key + o) 1 octants octant

pub key_of_parent : (octants : List ℕ) (octant : ℕ) → octant < 8 → key_of (octants ++ octant ∷ []) / 8 ≡ key_of octants
key_of_parent octants octant one =
    let push = key_of_push octants octant in
    omega (arith, push)

pub octants_of : (level key : ℕ) → IsKeyAt level key → (octants : List ℕ) × (All (λ octant. octant < 8) octants × (length octants ≡ level) × (key_of octants ≡ key))
octants_of zero key is = ([], (All-nil (λ octant. octant < 8), refl, omega (arith, is.least, is.below)))
octants_of (suc level) key is =
    let above : IsKeyAt level (key / 8) = record { deepest = omega (arith, is.deepest); least = omega (arith, is.least, pow-suc 8 level); below = omega (arith, is.below, pow-suc 8 level) } in
    let octants = octants_of level (key / 8) above in
    let last : key % 8 < 8 = mod_below key 8 (omega arith) in
    let push = key_of_push octants.0 (key % 8) in
    (octants.0 ++ key % 8 ∷ [], (All-push (λ octant. octant < 8) octants.0 (key % 8) octants.1.0 last, omega (arith, length_push octants.0 (key % 8), octants.1.1), omega (arith, push, octants.1.2)))

-- ---- a key has one list of octants

-- a key behind which so many octants follow
key_bounds : (octants : List ℕ) (level key : ℕ) → All (λ octant. octant < 8) octants → 8 ^ level ≤ key → key < 2 * 8 ^ level → (8 ^ (level + length octants) ≤ key_from key octants) × (key_from key octants < 2 * 8 ^ (level + length octants))
unfolding key_from
key_bounds [] level key each least below =
    let same : 8 ^ (level + 0) ≡ 8 ^ level = ap (λ l. 8 ^ l) (omega arith) in
    (omega (arith, same), omega (arith, same))
key_bounds (o ∷ os) level key each least below =
    let first : o < 8 = All-head (λ octant. octant < 8) o os each in
    let rest = All-tail (λ octant. octant < 8) o os each in
    let power = pow-suc 8 level in
    let more = key_bounds os (suc level) (8 * key + o) rest (omega (arith, power)) (omega (arith, power)) in
    let same : 8 ^ (suc level + length os) ≡ 8 ^ (level + suc (length os)) = ap (λ l. 8 ^ l) (omega arith) in
    (omega (arith, same, more.0), omega (arith, same, more.1))

one_power : (a b key : ℕ) → 8 ^ a ≤ key → key < 2 * 8 ^ a → 8 ^ b ≤ key → key < 2 * 8 ^ b → a ≡ b
one_power a b key least_a below_a least_b below_b =
    elim (cases_lt a b) [
      | inl below ↦ absurd (omega (arith, eight_mono (suc a) b below, pow-suc 8 a))
      | inr from ↦ elim (cases_lt b a) [
        | inl above ↦ absurd (omega (arith, eight_mono (suc b) a above, pow-suc 8 b))
        | inr to ↦ omega arith
      ]
    ]

-- as many octants behind two keys
same_from : (a b : List ℕ) (j k : ℕ) → All (λ octant. octant < 8) a → All (λ octant. octant < 8) b → length a ≡ length b → key_from j a ≡ key_from k b → (j ≡ k) × (a ≡ b)
unfolding key_from
same_from [] [] j k each_a each_b long same = (same, refl)
same_from [] (p ∷ ps) j k each_a each_b long same = absurd (omega arith)
same_from (o ∷ os) [] j k each_a each_b long same = absurd (omega arith)
same_from (o ∷ os) (p ∷ ps) j k each_a each_b long same =
    let first_a : o < 8 = All-head (λ octant. octant < 8) o os each_a in
    let first_b : p < 8 = All-head (λ octant. octant < 8) p ps each_b in
    let rest = same_from os ps (8 * j + o) (8 * k + p) (All-tail (λ octant. octant < 8) o os each_a) (All-tail (λ octant. octant < 8) p ps each_b) (omega arith) same in
    let octant : o ≡ p = omega (arith, rest.0) in
    (omega (arith, rest.0), λ i. octant i ∷ rest.1 i)

pub same_octants : (a b : List ℕ) → All (λ octant. octant < 8) a → All (λ octant. octant < 8) b → key_of a ≡ key_of b → a ≡ b
unfolding key_from
same_octants a b each_a each_b same =
    let left = key_bounds a 0 1 each_a (omega arith) (omega arith) in
    let right = key_bounds b 0 1 each_b (omega arith) (omega arith) in
    let long : 0 + length a ≡ 0 + length b = one_power (0 + length a) (0 + length b) (key_of a) left.0 left.1 (subst (λ n. 8 ^ (0 + length b) ≤ n) (sym same) right.0) (subst (λ n. n < 2 * 8 ^ (0 + length b)) (sym same) right.1) in
    (same_from a b 1 1 each_a each_b (omega arith) same).1
