-- The positions of a cell are a range of keys, and positions of one key lie in one cell.
use Rattle.std.proofs.Common.{◌≡◌, ℕ, zero, suc, ◌+◌, ◌-◌, ◌*◌, ◌/◌, ◌%◌, ◌^◌, ◌<◌, ◌≤◌, ◌↔◌, Bool, true, false, ◌&&◌, eqb, sym, ap, ◌∙◌, refl, arith}
use Rattle.std.specs.Prelude.{IsTrue}
use Rattle.std.proofs.Math.Nat.{div-mul-le_self, lt-div-mul-add, div-eq_of_lt-le, add-mul, mul_assoc, one-mul}
use Rattle.std.proofs.lemmas.Bool.{eqb-true, eq-eqb}
use Rattle.std.proofs.lemmas.Nat.{pow-add, mul-le, one_shl}
use Rattle.nb_model.specs.declared.body.At.{At}
use Rattle.nb_model.specs.Valid.{IsInBox}
use Rattle.nb_model.specs.Octree.{half_at, octant_at, is_same_cell}
use Rattle.nb_model.proofs.Facts.{half_at-lt, octant_at-lt}
use Rattle.nb_key.specs.Morton.{octants_to, key_at, morton_key, IsKeyAt, first_key, last_key}
use Rattle.nb_key.proofs.Spreads.{eight_pow}
use Rattle.nb_key.proofs.Levels.{eight_pos}
use Rattle.nb_key.proofs.Paths.{halves, key_step, key_above}

-- the numbers with a quotient are a range
pub interval : (n m k : ℕ) → 0 < m → (n / m ≡ k) ↔ ((k * m ≤ n) × (n ≤ (k + 1) * m - 1))
interval n m k some = (into, back) where
  more : (k + 1) * m ≡ k * m + m
  more = add-mul k 1 m ∙ ap (λ t. k * m + t) (one-mul m)

  into : n / m ≡ k → (k * m ≤ n) × (n ≤ (k + 1) * m - 1)
  into is =
      let same : n / m * m ≡ k * m = ap (λ q. q * m) is in
      (omega (arith, same, div-mul-le_self n m), omega (arith, same, more, lt-div-mul-add {a = n} {b = m} some))

  back : (k * m ≤ n) × (n ≤ (k + 1) * m - 1) → n / m ≡ k
  back (from, to) = div-eq_of_lt-le {k = k} m {m = n} from (omega (arith, more))

pub in_range : (level key : ℕ) (p : At) → IsKeyAt level key → (key_at level p ≡ key) ↔ ((first_key level key ≤ morton_key p) × (morton_key p ≤ last_key level key))
in_range level key p is =
    let deep : level ≤ 21 = is.deepest in
    let above = key_above (21 - level) level p (omega arith) in
    let range = interval (morton_key p) (8 ^ (21 - level)) key (eight_pos (21 - level)) in
    (λ same. range.0 (sym above ∙ same), λ within. above ∙ range.1 within)

-- ---- one key, one cell

-- two positions agree on each axis down to a level
record Agree (level : ℕ) (p q : At) : Type 0 where
  pub x : p.x / 2 ^ (40 - level) ≡ q.x / 2 ^ (40 - level)
  pub y : p.y / 2 ^ (40 - level) ≡ q.y / 2 ^ (40 - level)
  pub z : p.z / 2 ^ (40 - level) ≡ q.z / 2 ^ (40 - level)

-- two numbers in the eights
same_halves : (a b c d e f : ℕ) → a < 2 → b < 2 → c < 2 → d < 2 → e < 2 → f < 2 → 4 * a + 2 * b + c ≡ 4 * d + 2 * e + f → (a ≡ d) × (b ≡ e) × (c ≡ f)
same_halves a b c d e f la lb lc ld le lf same = (omega arith, omega arith, omega arith)

axis_agrees : (level x y : ℕ) → level < 21 → x / 2 ^ (40 - level) ≡ y / 2 ^ (40 - level) → half_at level x ≡ half_at level y → x / 2 ^ (40 - suc level) ≡ y / 2 ^ (40 - suc level)
axis_agrees level x y above whole half =
    let left = halves level x above in
    let right = halves level y above in
    let quotient : x / 2 ^ (40 - suc level) / 2 ≡ y / 2 ^ (40 - suc level) / 2 = left.0 ∙ whole ∙ sym right.0 in
    let rest : x / 2 ^ (40 - suc level) % 2 ≡ y / 2 ^ (40 - suc level) % 2 = left.1 ∙ half ∙ sym right.1 in
    omega (arith, quotient, rest)

axis_agreed : (level x y : ℕ) → level < 21 → x / 2 ^ (40 - suc level) ≡ y / 2 ^ (40 - suc level) → (x / 2 ^ (40 - level) ≡ y / 2 ^ (40 - level)) × (half_at level x ≡ half_at level y)
axis_agreed level x y above same =
    let left = halves level x above in
    let right = halves level y above in
    (sym left.0 ∙ ap (λ t. t / 2) same ∙ right.0, sym left.1 ∙ ap (λ t. t % 2) same ∙ right.1)

box_quotient : (x y : ℕ) → x < 2 ^ 40 → y < 2 ^ 40 → x / 2 ^ (40 - 0) ≡ y / 2 ^ (40 - 0)
box_quotient x y within_x within_y = omega arith

agree_from_key : (level : ℕ) (p q : At) → level ≤ 21 → IsInBox p → IsInBox q → key_at level p ≡ key_at level q → Agree level p q
agree_from_key zero p q within in_p in_q same =
    record { x = box_quotient p.x q.x in_p.x in_q.x; y = box_quotient p.y q.y in_p.y in_q.y; z = box_quotient p.z q.z in_p.z in_q.z }
agree_from_key (suc level) p q within in_p in_q same =
    let above : level < 21 = omega arith in
    let low_p = octant_at-lt level p in
    let low_q = octant_at-lt level q in
    let step_p = key_step level p in
    let step_q = key_step level q in
    let key : key_at level p ≡ key_at level q = omega (arith, same, step_p, step_q, low_p, low_q) in
    let octant : octant_at level p ≡ octant_at level q = omega (arith, same, step_p, step_q, low_p, low_q) in
    let agree = agree_from_key level p q (omega arith) in_p in_q key in
    let half = same_halves (half_at level p.x) (half_at level p.y) (half_at level p.z) (half_at level q.x) (half_at level q.y) (half_at level q.z) (half_at-lt level p.x) (half_at-lt level p.y) (half_at-lt level p.z) (half_at-lt level q.x) (half_at-lt level q.y) (half_at-lt level q.z) octant in
    record {
      x = axis_agrees level p.x q.x above agree.x half.0;
      y = axis_agrees level p.y q.y above agree.y half.1;
      z = axis_agrees level p.z q.z above agree.z half.2;
    }

key_of_root : (p q : At) → key_at 0 p ≡ key_at 0 q
unfolding octants_to
key_of_root p q = refl

key_from_agree : (level : ℕ) (p q : At) → level ≤ 21 → Agree level p q → key_at level p ≡ key_at level q
key_from_agree zero p q within agree = key_of_root p q
key_from_agree (suc level) p q within agree =
    let above : level < 21 = omega arith in
    let x = axis_agreed level p.x q.x above agree.x in
    let y = axis_agreed level p.y q.y above agree.y in
    let z = axis_agreed level p.z q.z above agree.z in
    let key = key_from_agree level p q (omega arith) (record { x = x.0; y = y.0; z = z.0 }) in
    omega (arith, key, key_step level p, key_step level q, x.1, y.1, z.1)

three_true : (a b c : Bool) → (a && b && c) ≡ true → (a ≡ true) × (b ≡ true) × (c ≡ true)
three_true true true true e = (refl, refl, refl)
three_true true true false e = absurd (cc)
three_true true false c e = absurd (cc)
three_true false b c e = absurd (cc)

all_three : (a b c : Bool) → a ≡ true → b ≡ true → c ≡ true → (a && b && c) ≡ true
all_three a b c x y z = rw (x, y, z) refl

agree_is_same : (level : ℕ) (p q : At) → Agree level p q ↔ IsTrue (is_same_cell level p q)
agree_is_same level p q = (into, back) where
  into : Agree level p q → IsTrue (is_same_cell level p q)
  into agree =
      all_three (eqb (p.x / 2 ^ (40 - level)) (q.x / 2 ^ (40 - level))) (eqb (p.y / 2 ^ (40 - level)) (q.y / 2 ^ (40 - level))) (eqb (p.z / 2 ^ (40 - level)) (q.z / 2 ^ (40 - level)))
      (eq-eqb (p.x / 2 ^ (40 - level)) (q.x / 2 ^ (40 - level)) agree.x) (eq-eqb (p.y / 2 ^ (40 - level)) (q.y / 2 ^ (40 - level)) agree.y) (eq-eqb (p.z / 2 ^ (40 - level)) (q.z / 2 ^ (40 - level)) agree.z)

  back : IsTrue (is_same_cell level p q) → Agree level p q
  back same =
      let each = three_true (eqb (p.x / 2 ^ (40 - level)) (q.x / 2 ^ (40 - level))) (eqb (p.y / 2 ^ (40 - level)) (q.y / 2 ^ (40 - level))) (eqb (p.z / 2 ^ (40 - level)) (q.z / 2 ^ (40 - level))) same in
      record {
        x = eqb-true (p.x / 2 ^ (40 - level)) (q.x / 2 ^ (40 - level)) each.0;
        y = eqb-true (p.y / 2 ^ (40 - level)) (q.y / 2 ^ (40 - level)) each.1;
        z = eqb-true (p.z / 2 ^ (40 - level)) (q.z / 2 ^ (40 - level)) each.2;
      }

pub same_cell : (level : ℕ) (p q : At) → level ≤ 21 → IsInBox p → IsInBox q → (key_at level p ≡ key_at level q) ↔ IsTrue (is_same_cell level p q)
same_cell level p q within in_p in_q =
    let same = agree_is_same level p q in
    (λ key. same.0 (agree_from_key level p q within in_p in_q key), λ cell. key_from_agree level p q within (same.1 cell))

-- ---- as the code shifts

-- the keys at the deepest level under a cell fit
pub range_fits : (level key : ℕ) → IsKeyAt level key → (key + 1) * 8 ^ (21 - level) ≤ 2 ^ 64
range_fits level key is =
    let deep : level ≤ 21 = is.deepest in
    let whole : level + (21 - level) ≡ 21 = omega arith in
    let eights : 8 ^ level * 8 ^ (21 - level) ≡ 8 ^ 21 = sym (pow-add 8 level (21 - level)) ∙ ap (λ e. 8 ^ e) whole in
    let bound : (key + 1) * 8 ^ (21 - level) ≤ 2 * 8 ^ level * 8 ^ (21 - level) = mul-le (key + 1) (8 ^ (21 - level)) (2 * 8 ^ level) (8 ^ (21 - level)) (omega (arith, is.below)) (omega arith) in
    omega (arith, bound, eights, mul_assoc 2 (8 ^ level) (8 ^ (21 - level)))

one_more : (key m : ℕ) → (key + 1) * m ≡ key * m + m
one_more key m = add-mul key 1 m ∙ ap (λ t. key * m + t) (one-mul m)

bits_are : (level bits : ℕ) → bits ≡ 3 * (21 - level) → 2 ^ bits ≡ 8 ^ (21 - level)
bits_are level bits is = ap (λ e. 2 ^ e) is ∙ sym (eight_pow (21 - level))

pub first_is : (level key bits : ℕ) → IsKeyAt level key → bits ≡ 3 * (21 - level) → key * 2 ^ bits % 2 ^ 64 ≡ first_key level key
first_is level key bits is below =
    let pow = bits_are level bits below in
    let same : key * 2 ^ bits ≡ key * 8 ^ (21 - level) = ap (λ m. key * m) pow in
    let fits : key * 2 ^ bits < 2 ^ 64 = omega (arith, same, range_fits level key is, one_more key (8 ^ (21 - level)), eight_pos (21 - level)) in
    omega (arith, same, fits)

pub last_is : (level key bits : ℕ) → IsKeyAt level key → bits ≡ 3 * (21 - level) → (first_key level key + (1 * 2 ^ bits % 2 ^ 64 - 1) ≡ last_key level key) × (first_key level key + (1 * 2 ^ bits % 2 ^ 64 - 1) < 2 ^ 64)
last_is level key bits is below =
    let pow = bits_are level bits below in
    let one = one_shl bits 64 (omega arith) in
    let more = one_more key (8 ^ (21 - level)) in
    let some = eight_pos (21 - level) in
    (omega (arith, pow, one, more, some), omega (arith, pow, one, more, some, range_fits level key is))

-- a key's number by a shift of the deepest: the cell, or the range
pub held : (level key bits : ℕ) (p : At) → IsKeyAt level key → bits ≡ 3 * (21 - level) → IsTrue (eqb (morton_key p / 2 ^ bits) key) ↔ (key_at level p ≡ key)
held level key bits p is below =
    let pow = bits_are level bits below in
    let deep : level ≤ 21 = is.deepest in
    let above : key_at level p ≡ morton_key p / 2 ^ bits = key_above (21 - level) level p (omega arith) ∙ ap (λ m. morton_key p / m) (sym pow) in
    (λ test. above ∙ eqb-true (morton_key p / 2 ^ bits) key test, λ same. eq-eqb (morton_key p / 2 ^ bits) key (sym above ∙ same))

pub held_range : (level key bits : ℕ) (p : At) → IsKeyAt level key → bits ≡ 3 * (21 - level) → IsTrue (eqb (morton_key p / 2 ^ bits) key) ↔ ((first_key level key ≤ morton_key p) × (morton_key p ≤ last_key level key))
held_range level key bits p is below =
    let cell = held level key bits p is below in
    let range = in_range level key p is in
    (λ test. range.0 (cell.0 test), λ within. cell.1 (range.1 within))

pub held_same : (level key bits : ℕ) (p q : At) → IsKeyAt level key → bits ≡ 3 * (21 - level) → IsInBox p → IsInBox q → key_at level q ≡ key → IsTrue (eqb (morton_key p / 2 ^ bits) key) ↔ IsTrue (is_same_cell level p q)
held_same level key bits p q is below in_p in_q of_q =
    let cell = held level key bits p is below in
    let same = same_cell level p q is.deepest in_p in_q in
    (λ test. same.0 (cell.0 test ∙ sym of_q), λ one. cell.1 (same.1 one ∙ of_q))
