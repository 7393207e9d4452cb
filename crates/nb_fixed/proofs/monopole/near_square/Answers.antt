use Rattle.std.proofs.Common.{◌≡◌, ℕ, ◌*◌, ◌^◌, ◌≤◌, unsigned_abs, refl, arith}
use Rattle.std.proofs.lemmas.Nat.{mul-le}
use Rattle.nb_fixed.proofs.monopole.near_square.Goals.{then-x-ge-NEAR-via-then-x-ge-NEAR, then-x-ge-NEAR-via-else-x-ge-NEAR+then-y-ge-NEAR, then-x-ge-NEAR-via-else-x-ge-NEAR+else-y-ge-NEAR+then-z-ge-NEAR, then-x-ge-NEAR-via-else-x-ge-NEAR+else-y-ge-NEAR+else-z-ge-NEAR+then-soft-ge-NEAR}
use Rattle.nb_fixed.proofs.monopole.near_square.Goals as goal

square_far : (n m : ℕ) → m ≡ n → 2 ^ 30 ≤ m → 2 ^ 60 ≤ n * n
square_far n m is far = omega (arith, mul-le (2 ^ 30) (2 ^ 30) n n (omega arith) (omega arith))

pub returns-then-x-ge-NEAR-clause-far : goal.returns-then-x-ge-NEAR-clause-far
returns-then-x-ge-NEAR-clause-far c = λ _.
    let x : c.unsigned_abs-x.result ≡ unsigned_abs c.args.d.now.x = grind arith in
    let y : c.unsigned_abs-y.result ≡ unsigned_abs c.args.d.now.y = grind arith in
    let z : c.unsigned_abs-z.result ≡ unsigned_abs c.args.d.now.z = grind arith in
    elim c.then-x-ge-NEAR.branch [
      | then-x-ge-NEAR-via-then-x-ge-NEAR w ↦ omega (arith, square_far (unsigned_abs c.args.d.now.x) c.unsigned_abs-x.result x w.if-x-ge-NEAR.true)
      | then-x-ge-NEAR-via-else-x-ge-NEAR+then-y-ge-NEAR w ↦ omega (arith, square_far (unsigned_abs c.args.d.now.y) c.unsigned_abs-y.result y w.if-y-ge-NEAR.true)
      | then-x-ge-NEAR-via-else-x-ge-NEAR+else-y-ge-NEAR+then-z-ge-NEAR w ↦ omega (arith, square_far (unsigned_abs c.args.d.now.z) c.unsigned_abs-z.result z w.if-z-ge-NEAR.true)
      | then-x-ge-NEAR-via-else-x-ge-NEAR+else-y-ge-NEAR+else-z-ge-NEAR+then-soft-ge-NEAR w ↦ omega (arith, square_far c.args.soft c.args.soft refl w.if-soft-ge-NEAR.true)
    ]
