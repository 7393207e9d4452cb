-- A check of a header answers the page exactly where its header is of the form.
use Rattle.std.proofs.Common.{◌≡◌, ℕ, ◌<◌, ◌↔◌, Bool, true, false, cond, not, ◌||◌, eqb, ltb, leb, List, Ok, Err, arith, refl}
use Rattle.std.specs.Prelude.{◌≢◌, Result}
use Rattle.std.proofs.lemmas.Bool.{eqb-true, eq-eqb, leb-true, le-leb}
use Rattle.std.proofs.lemmas.Bool.Decides.{nat_tests}
use Rattle.nb_record.specs.declared.header.PageError.{PageError}
use Rattle.nb_record.specs.declared.header.PageError.TheVariants.{Number, Count, Next}
use Rattle.nb_record.specs.declared.sizes.TheConstants.{BODIES_PER_PAGE, CELLS_PER_PAGE}
use Rattle.nb_record.specs.Fields.{u64_at}
use Rattle.nb_record.specs.Pages.{read_cell_page, read_body_page, IsCellPage, IsBodyPage}

-- the four tests of a header
abbrev Tests : Bool → Bool → Bool → Bool → List ℕ → Result (List ℕ) PageError
Tests number count next zeros bytes = cond (not number) (Err Number) (cond (not count) (Err Count) (cond (not next) (Err Next) (cond (not zeros) (Err Next) (Ok bytes))))

all_pass : (number count next zeros : Bool) (bytes : List ℕ) → Tests number count next zeros bytes ≡ Ok bytes → (number ≡ true) × (count ≡ true) × (next ≡ true) × (zeros ≡ true)
all_pass true true true true bytes is = (refl, refl, refl, refl)
all_pass true true true false bytes is = absurd (cc)
all_pass true true false zeros bytes is = absurd (cc)
all_pass true false next zeros bytes is = absurd (cc)
all_pass false count next zeros bytes is = absurd (cc)

pass_all : (number count next zeros : Bool) (bytes : List ℕ) → number ≡ true → count ≡ true → next ≡ true → zeros ≡ true → Tests number count next zeros bytes ≡ Ok bytes
pass_all number count next zeros bytes a b c d = rw (a, b, c, d) refl

next_is : (page next : ℕ) → (eqb next 0 || ltb page next) ≡ true → next ≢ 0 → page < next
next_is page next is = grind (arith, nat_tests)

is_next_true : (page next : ℕ) → (next ≢ 0 → page < next) → (eqb next 0 || ltb page next) ≡ true
is_next_true page next is = grind (arith, nat_tests)

pub cells_checked : (page : ℕ) (bytes : List ℕ) → (read_cell_page page bytes ≡ Ok bytes) ↔ IsCellPage page bytes
cells_checked page bytes = (into, back) where
  into : read_cell_page page bytes ≡ Ok bytes → IsCellPage page bytes
  into is =
      let each = all_pass (eqb (u64_at 0 bytes) page) (leb (u64_at 8 bytes) CELLS_PER_PAGE) (eqb (u64_at 16 bytes) 0 || ltb page (u64_at 16 bytes)) (eqb (u64_at 24 bytes) 0) bytes is in
      record { number = eqb-true (u64_at 0 bytes) page each.0; count = leb-true (u64_at 8 bytes) CELLS_PER_PAGE each.1; next = next_is page (u64_at 16 bytes) each.2; zeros = eqb-true (u64_at 24 bytes) 0 each.3 }

  back : IsCellPage page bytes → read_cell_page page bytes ≡ Ok bytes
  back is =
      pass_all (eqb (u64_at 0 bytes) page) (leb (u64_at 8 bytes) CELLS_PER_PAGE) (eqb (u64_at 16 bytes) 0 || ltb page (u64_at 16 bytes)) (eqb (u64_at 24 bytes) 0) bytes
      (eq-eqb (u64_at 0 bytes) page is.number) (le-leb (u64_at 8 bytes) CELLS_PER_PAGE is.count) (is_next_true page (u64_at 16 bytes) is.next) (eq-eqb (u64_at 24 bytes) 0 is.zeros)

pub bodies_checked : (page : ℕ) (bytes : List ℕ) → (read_body_page page bytes ≡ Ok bytes) ↔ IsBodyPage page bytes
bodies_checked page bytes = (into, back) where
  into : read_body_page page bytes ≡ Ok bytes → IsBodyPage page bytes
  into is =
      let each = all_pass (eqb (u64_at 0 bytes) page) (leb (u64_at 8 bytes) BODIES_PER_PAGE) (eqb (u64_at 16 bytes) 0) (eqb (u64_at 24 bytes) 0) bytes is in
      record { number = eqb-true (u64_at 0 bytes) page each.0; count = leb-true (u64_at 8 bytes) BODIES_PER_PAGE each.1; next = eqb-true (u64_at 16 bytes) 0 each.2; zeros = eqb-true (u64_at 24 bytes) 0 each.3 }

  back : IsBodyPage page bytes → read_body_page page bytes ≡ Ok bytes
  back is =
      pass_all (eqb (u64_at 0 bytes) page) (leb (u64_at 8 bytes) BODIES_PER_PAGE) (eqb (u64_at 16 bytes) 0) (eqb (u64_at 24 bytes) 0) bytes
      (eq-eqb (u64_at 0 bytes) page is.number) (le-leb (u64_at 8 bytes) BODIES_PER_PAGE is.count) (eq-eqb (u64_at 16 bytes) 0 is.next) (eq-eqb (u64_at 24 bytes) 0 is.zeros)
