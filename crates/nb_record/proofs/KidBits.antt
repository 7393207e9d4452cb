-- A number with a bit for each octant that isn't empty, and no other, is the kids of a cell.
use Rattle.std.proofs.Common.{◌≡◌, ℕ, ◌/◌, ◌%◌, ◌^◌, ◌<◌, ◌↔◌, List, [], sym, ◌∙◌, inl, inr, arith}
use Rattle.std.specs.Prelude.{◌≢◌}
use Rattle.std.proofs.lemmas.Bool.{cases_eq}
use Rattle.std.proofs.lemmas.Nat.{mod_below}
use Rattle.std.proofs.lemmas.Nat.Bits.{same_from_bits_below}
use Rattle.nb_model.specs.declared.body.Body.{Body}
use Rattle.nb_model.specs.Octree.{in_octant}
use Rattle.nb_record.specs.Cells.{kids_of}
use Rattle.nb_record.proofs.Kids.{kid_is, kids_of-lt}

same_bit : (a b : ℕ) (P : Type 0) → a < 2 → b < 2 → (a ≡ 1) ↔ P → (b ≡ 1) ↔ P → a ≡ b
same_bit a b P small_a small_b of_a of_b =
    elim (cases_eq a 1) [
      | inl set ↦ set ∙ sym (of_b.1 (of_a.0 set))
      | inr unset ↦ elim (cases_eq b 1) [
        | inl other ↦ absurd (unset (of_a.1 (of_b.0 other)))
        | inr also ↦ both_zero a b small_a small_b unset also
      ]
    ] where
      both_zero : (m n : ℕ) → m < 2 → n < 2 → m ≢ 1 → n ≢ 1 → m ≡ n
      both_zero m n small_m small_n other also = omega arith

pub kids_by_bits : (level n : ℕ) (bodies : List Body) → n < 256 → ((octant : ℕ) → octant < 8 → (n / 2 ^ octant % 2 ≡ 1) ↔ (in_octant level bodies octant ≢ [])) → n ≡ kids_of level bodies
kids_by_bits level n bodies small bits =
    same_from_bits_below 8 n (kids_of level bodies) small (kids_of-lt level bodies)
    (λ octant below. same_bit (n / 2 ^ octant % 2) (kids_of level bodies / 2 ^ octant % 2) (in_octant level bodies octant ≢ []) (mod_below (n / 2 ^ octant) 2 (omega arith)) (mod_below (kids_of level bodies / 2 ^ octant) 2 (omega arith)) (bits octant below) (kid_is level octant bodies below))
