-- What the first byte that ends a line makes of a text, and how the values come from line to line.
use Rattle.std.proofs.Common.{◌≡◌, ℕ, ◌+◌, ◌<◌, ◌≤◌, Bool, not, nat_le, ◌&&◌, if◌then◌else◌, Some, None, List, [], ◌∷◌, length, take, drop, arith, ◌⊎◌, inl, inr}
use Rattle.std.specs.List.{position, position_or_len}
use Rattle.std.proofs.lemmas.Bool.Decides.{nat_tests}
use Rattle.std.proofs.lemmas.List.Sums.{prefix_len-le-length, fails_before_first}
use Rattle.std.proofs.lemmas.List.Splits.{slice_split_first, slice_split_none}
use Rattle.nb_format.specs.ParamsText.{is_line_end, lines_of}

-- p passes first at index i
pub record IsFirstIndex {X : Type 0} (p : X → Bool) (xs : List X) (i : ℕ) : Type 0 where
  pub index : position_or_len p xs ≡ i
  pub within : i < length xs

pub IsFirstIndex-position : {X : Type 0} (p : X → Bool) (xs : List X) (i : ℕ) → Some i ≡ position p xs → IsFirstIndex p xs i
IsFirstIndex-position p xs i e = record { index = grind (arith, nat_tests); within = grind (arith, nat_tests) }

pub position_or_len-none : {X : Type 0} (p : X → Bool) (xs : List X) → None ≡ position p xs → position_or_len p xs ≡ length xs
position_or_len-none p xs e = let least = prefix_len-le-length (λ x. not (p x)) xs in grind (arith, nat_tests)

pub lines_of-some : (text : List ℕ) (i : ℕ) → Some i ≡ position is_line_end text → lines_of text ≡ take i text ∷ lines_of (drop (i + 1) text)
lines_of-some text i e =
    let is = IsFirstIndex-position is_line_end text i e in
    let index : position_or_len is_line_end text ≡ i = is.index in
    let within : position_or_len is_line_end text < length text = omega (arith, is.index, is.within) in
    let split = slice_split_first is_line_end text 0 within in
    rw index at split

pub lines_of-none : (text : List ℕ) → None ≡ position is_line_end text → lines_of text ≡ text ∷ []
lines_of-none text e =
    let none = position_or_len-none is_line_end text e in
    slice_split_none is_line_end text (λ k d within. fails_before_first is_line_end text k d (omega (arith, none)))

-- a value that is not between the bounds of its range
pub value-out_of_range : (b : Bool) (least v greatest value : ℕ) → v ≡ value → b ≡ (nat_le least value && nat_le value greatest)
    → ((least ≤ v) × (greatest < v)) ⊎ (v < least) → None ≡ (if b then Some value else None)
value-out_of_range b least v greatest value same e (inl h) = let above = h.1 in grind (arith, nat_tests)
value-out_of_range b least v greatest value same e (inr h) = grind (arith, nat_tests)
