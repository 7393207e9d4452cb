-- Nine lists of a record's field lengths, end to end, and the offsets at which each stands.
use Rattle.std.proofs.Common.{◌≡◌, ℕ, ◌+◌, List, [], ◌++◌, length, take, drop, refl, sym, ap, ◌∙◌, append_assoc, arith, length-append}
use Rattle.std.proofs.lemmas.List.{take_at, drop_at, take_all, append-nil}
use Rattle.std.proofs.Math.Seq.{take-add}

abbrev pub nine : (a b c d e f g h i : List ℕ) → List ℕ
nine a b c d e f g h i = a ++ b ++ c ++ d ++ e ++ f ++ (g ++ h ++ i)

-- the lengths of the fields of a record
pub record HaveLengths (a b c d e f g h i : List ℕ) : Type 0 where
  pub id : length a ≡ 8
  pub mass : length b ≡ 4
  pub flag : length c ≡ 4
  pub x : length d ≡ 8
  pub y : length e ≡ 8
  pub z : length f ≡ 8
  pub vx : length g ≡ 8
  pub vy : length h ≡ 8
  pub vz : length i ≡ 8

-- each of them at its offset in a list
pub record StandIn (w a b c d e f g h i : List ℕ) : Type 0 where
  pub id : take 8 w ≡ a
  pub mass : take 4 (drop 8 w) ≡ b
  pub flag : take 4 (drop 12 w) ≡ c
  pub x : take 8 (drop 16 w) ≡ d
  pub y : take 8 (drop 24 w) ≡ e
  pub z : take 8 (drop 32 w) ≡ f
  pub vx : take 8 (drop 40 w) ≡ g
  pub vy : take 8 (drop 48 w) ≡ h
  pub vz : take 8 (drop 56 w) ≡ i

-- one part, between what stands before and after it
part : (p q r w : List ℕ) (m n : ℕ) → w ≡ p ++ (q ++ r) → length p ≡ m → length q ≡ n → take n (drop m w) ≡ q
part p q r w m n is before long =
    ap (λ (x : List ℕ). take n (drop m x)) is ∙ ap (take n) (drop_at p (q ++ r) m before) ∙ take_at q r n long

pub nine_stand : (a b c d e f g h i : List ℕ) → HaveLengths a b c d e f g h i → StandIn (nine a b c d e f g h i) a b c d e f g h i
nine_stand a b c d e f g h i long =
    let w = nine a b c d e f g h i in
    record {
      id = part [] a (b ++ (c ++ (d ++ (e ++ (f ++ (g ++ (h ++ i))))))) w 0 8 (simp append_assoc) refl long.id;
      mass = part a b (c ++ (d ++ (e ++ (f ++ (g ++ (h ++ i)))))) w 8 4 (simp append_assoc) long.id long.mass;
      flag = part (a ++ b) c (d ++ (e ++ (f ++ (g ++ (h ++ i))))) w 12 4 (simp append_assoc) (simp length-append (omega arith)) long.flag;
      x = part (a ++ b ++ c) d (e ++ (f ++ (g ++ (h ++ i)))) w 16 8 (simp append_assoc) (simp length-append (omega arith)) long.x;
      y = part (a ++ b ++ c ++ d) e (f ++ (g ++ (h ++ i))) w 24 8 (simp append_assoc) (simp length-append (omega arith)) long.y;
      z = part (a ++ b ++ c ++ d ++ e) f (g ++ (h ++ i)) w 32 8 (simp append_assoc) (simp length-append (omega arith)) long.z;
      vx = part (a ++ b ++ c ++ d ++ e ++ f) g (h ++ i) w 40 8 (simp append_assoc) (simp length-append (omega arith)) long.vx;
      vy = part (a ++ b ++ c ++ d ++ e ++ f ++ g) h i w 48 8 (simp append_assoc) (simp length-append (omega arith)) long.vy;
      vz = part (a ++ b ++ c ++ d ++ e ++ f ++ g ++ h) i [] w 56 8 (simp (append_assoc, append-nil)) (simp length-append (omega arith)) long.vz;
    }

-- nine lists put one after the other, each behind what the one before has put
pub nine_put : (a b c d e f g h i w : List ℕ) → take 64 w ≡ a ++ b ++ c ++ d ++ e ++ f ++ g ++ h ++ i → length w ≡ 64 → w ≡ nine a b c d e f g h i
nine_put a b c d e f g h i w put long = sym (take_all 64 w (omega arith)) ∙ put ∙ simp append_assoc

pub nine_from_stand : (a b c d e f g h i w : List ℕ) → length w ≡ 64 → StandIn w a b c d e f g h i → w ≡ nine a b c d e f g h i
nine_from_stand a b c d e f g h i w long at =
    nine_put a b c d e f g h i w
    (take-add 56 8 w ∙ rw (take-add 48 8 w, take-add 40 8 w, take-add 32 8 w, take-add 24 8 w, take-add 16 8 w, take-add 12 4 w, take-add 8 4 w, at.id, at.mass, at.flag, at.x, at.y, at.z, at.vx, at.vy, at.vz) refl)
    long

-- one more field behind those that were put
pub put_more : (old new done field bytes : List ℕ) (at n : ℕ) → take at old ≡ done → take (at + length field) new ≡ take at old ++ field
    → field ≡ bytes → length bytes ≡ n → take (at + n) new ≡ done ++ bytes
put_more old new done field bytes at n before put is long =
    ap (λ (k : ℕ). take (at + k) new) (sym (ap length is ∙ long)) ∙ put ∙ rw (before, is) refl
