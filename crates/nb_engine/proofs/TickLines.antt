-- The line of a tick by two of its bytes: its only line feed is its last byte, and its only `k` is its fourth. So no line
-- of a tick begins within another.
use Rattle.std.proofs.Common.{◌≡◌, ◌≢◌, ℕ, zero, suc, ◌+◌, ◌-◌, ◌%◌, ◌^◌, ◌<◌, ◌≤◌, true, not, eqb, ◌⊎◌, inl, inr, List, [], ◌∷◌, ◌++◌, length, get_or, take, drop, refl, sym, ap, ◌∙◌, arith, append_assoc, append-nil, length-append, take-append-drop, codes}
use Rattle.std.specs.Prelude.{decimal}
use Rattle.std.specs.List.{All, list_all}
use Rattle.std.proofs.Math.ListN.{get_or-append}
use Rattle.std.proofs.Math.Seq.{get_or-append_seam}
use Rattle.std.proofs.lemmas.Bool.{cases_eq, cases_lt}
use Rattle.std.proofs.lemmas.Fmt.{decimal_by_steps}
use Rattle.std.proofs.lemmas.List.{get_or-append-add}
use Rattle.std.proofs.lemmas.List.Elements.{All-nil, All-append}
use Rattle.std.proofs.lemmas.List.Sums.{AllPass-from_list_all}
use Rattle.nb_format.specs.Lines.{tick_line}
use Rattle.nb_format.specs.LineEnds.{IsOneLine}

-- the bytes of a line of a tick by which two of them are told apart
pub record IsTickLine (line : List ℕ) : Type 0 where
  pub long : 3 < length line
  pub fourth : get_or line 3 0 ≡ 107
  pub only_fourth : (i : ℕ) → i < length line → get_or line i 0 ≡ 107 → i ≡ 3
  pub last : get_or line (length line - 1) 0 ≡ 10
  pub only_last : (i : ℕ) → i < length line → get_or line i 0 ≡ 10 → i + 1 ≡ length line

-- a byte that two parts of a text lack stands between them alone
only_between : (byte : ℕ) (front rest : List ℕ) → All (λ b. b ≢ byte) front → All (λ b. b ≢ byte) rest
    → (i : ℕ) → i < length (front ++ byte ∷ rest) → get_or (front ++ byte ∷ rest) i 0 ≡ byte → i ≡ length front
only_between byte front rest none_before none_behind i within is =
    elim (cases_lt i (length front)) [
      | inl before ↦ absurd (none_before i 0 before (sym (get_or-append front (byte ∷ rest) 0 i before) ∙ is))
      | inr from ↦ elim (cases_eq i (length front)) [
        | inl here ↦ here
        | inr apart ↦
            let m = i - (length front + 1) in
            let at : i ≡ length front + suc m = omega arith in
            let there = ap (λ n. get_or (front ++ byte ∷ rest) n 0) at ∙ get_or-append-add front (byte ∷ rest) (suc m) 0 in
            absurd (none_behind m 0 (omega (arith, length-append front (byte ∷ rest))) (sym there ∙ is))
      ]
    ]

-- ---- that the line of a tick has them

k_is_other : (m : ℕ) → m < 10 → All (λ b. b ≢ 107) ((48 + m) ∷ [])
k_is_other m small zero d below = λ same. omega arith
k_is_other m small (suc i) d below = absurd (omega arith)

no_k-decimal : (n : ℕ) → n < 2 ^ 64 → All (λ b. b ≢ 107) (decimal n)
no_k-decimal n fits =
    decimal_by_steps (λ m text. All (λ b. b ≢ 107) text) (λ m small. k_is_other m small)
    (λ m text more lacks. All-append (λ b. b ≢ 107) text ((48 + m % 10) ∷ []) lacks (k_is_other (m % 10) (omega arith)))
    n fits

no_k-literal : (text : List ℕ) → list_all (λ b. not (eqb b 107)) text ≡ true → All (λ b. b ≢ 107) text
no_k-literal text none i d below same =
    let test = AllPass-from_list_all (λ b. not (eqb b 107)) text none i d below in
    let test_k : not (eqb 107 107) ≡ true = rw same at test in absurd (cc)

grouped : (a b c d e f g : List ℕ) → a ++ b ++ c ++ d ++ e ++ f ++ g ≡ a ++ (b ++ (c ++ (d ++ (e ++ (f ++ g)))))
grouped a b c d e f g = simp append_assoc refl

-- what stands behind the `k`
abbrev behind_k : ℕ → ℕ → ℕ → List ℕ
behind_k k time gone =
    codes " " ++ (decimal k ++ (codes " time " ++ (decimal time ++ (codes " out " ++ (decimal gone ++ codes "\n")))))

line_by_k : (k time gone : ℕ) → tick_line k time gone ≡ codes "tic" ++ 107 ∷ behind_k k time gone
unfolding tick_line
line_by_k k time gone =
    grouped (codes "tick ") (decimal k) (codes " time ") (decimal time) (codes " out ") (decimal gone) (codes "\n")

behind_literal : (text rest : List ℕ) → list_all (λ b. not (eqb b 107)) text ≡ true → All (λ b. b ≢ 107) rest
    → All (λ b. b ≢ 107) (text ++ rest)
behind_literal text rest none = All-append (λ b. b ≢ 107) text rest (no_k-literal text none)

behind_number : (n : ℕ) (rest : List ℕ) → n < 2 ^ 64 → All (λ b. b ≢ 107) rest → All (λ b. b ≢ 107) (decimal n ++ rest)
behind_number n rest fits = All-append (λ b. b ≢ 107) (decimal n) rest (no_k-decimal n fits)

no_k-behind : (k time gone : ℕ) → k < 2 ^ 64 → time < 2 ^ 64 → gone < 2 ^ 64 → All (λ b. b ≢ 107) (behind_k k time gone)
no_k-behind k time gone few_k few_time few_gone =
    let last = behind_number gone (codes "\n") few_gone (no_k-literal (codes "\n") refl) in
    let from_gone = decimal gone ++ codes "\n" in
    let from_out = codes " out " ++ from_gone in
    let from_time = decimal time ++ from_out in
    let from_word = codes " time " ++ from_time in
    let second = behind_number time from_out few_time (behind_literal (codes " out ") from_gone refl last) in
    let first = behind_number k from_word few_k (behind_literal (codes " time ") from_time refl second) in
    behind_literal (codes " ") (decimal k ++ from_word) refl first

pub tick_line-is : (k time gone : ℕ) → k < 2 ^ 64 → time < 2 ^ 64 → gone < 2 ^ 64 → IsOneLine (tick_line k time gone)
    → IsTickLine (tick_line k time gone)
tick_line-is k time gone few_k few_time few_gone one =
    let line = tick_line k time gone in
    let front = one.0 in
    let rest = behind_k k time gone in
    let by_k = line_by_k k time gone in
    let length_by_k = ap length by_k ∙ length-append (codes "tic") (107 ∷ rest) in
    let length_by_feed = ap length one.1 ∙ length-append front (10 ∷ []) in
    let end : length line - 1 ≡ length front = omega (arith, length_by_feed) in
    record {
      long = omega (arith, length_by_k);
      fourth = ap (λ l. get_or l 3 0) by_k;
      only_fourth = λ i within is.
          only_between 107 (codes "tic") rest (no_k-literal (codes "tic") refl)
          (no_k-behind k time gone few_k few_time few_gone) i
          (omega (arith, ap length by_k)) (sym (ap (λ l. get_or l i 0) by_k) ∙ is);
      last = ap (λ i. get_or line i 0) end ∙ ap (λ l. get_or l (length front) 0) one.1 ∙ get_or-append_seam front 10 [] 0;
      only_last = λ i within is.
          let there = only_between 10 front [] one.2 (All-nil (λ b. b ≢ 10)) i (omega (arith, ap length one.1))
          (sym (ap (λ l. get_or l i 0) one.1) ∙ is) in
          omega (arith, there, length_by_feed);
    }

-- ---- two ways of a text as two parts

pub split_either : (a b c d : List ℕ) → a ++ b ≡ c ++ d
    → ((part : List ℕ) × (c ≡ a ++ part) × (b ≡ part ++ d)) ⊎ ((part : List ℕ) × (a ≡ c ++ part) × (d ≡ part ++ b))
split_either [] b c d same = inl (c, refl, same)
split_either (x ∷ a) b [] d same = inr (x ∷ a, refl, sym same)
split_either (x ∷ a) b (y ∷ c) d same =
    let first : x ≡ y = cc in
    let rest : a ++ b ≡ c ++ d = cc in
    elim (split_either a b c d rest) [
      | inl at ↦ inl (at.0, ap (λ t. y ∷ t) at.1 ∙ ap (λ z. z ∷ (a ++ at.0)) (sym first), at.2)
      | inr at ↦ inr (at.0, ap (λ t. x ∷ t) at.1 ∙ ap (λ z. z ∷ (c ++ at.0)) first, at.2)
    ]

-- ---- a line of a tick in the first bytes of another

-- the bytes that begin with the first bytes of a line
pub whole_line : (n : ℕ) (line front rest : List ℕ) → take n line ≡ front ++ rest → line ≡ front ++ (rest ++ drop n line)
whole_line n line front rest first =
    sym (take-append-drop n line) ∙ ap (λ l. l ++ drop n line) first ∙ append_assoc front rest (drop n line)

byte_at : (line front rest : List ℕ) (i : ℕ) → line ≡ front ++ rest → i < length front → get_or line i 0 ≡ get_or front i 0
byte_at line front rest i is within = ap (λ l. get_or l i 0) is ∙ get_or-append front rest 0 i within

-- where a line feed is the last of them, they are the line
all_of_it : (n : ℕ) (line front rest : List ℕ) → IsTickLine line → take n line ≡ front ++ rest → 1 ≤ length front
    → get_or front (length front - 1) 0 ≡ 10 → length front ≡ length line
all_of_it n line front rest is first some feed =
    let whole = whole_line n line front rest first in
    let long = ap length whole ∙ length-append front (rest ++ drop n line) in
    let last = length front - 1 in
    let at = is.only_last last (omega (arith, long)) (byte_at line front (rest ++ drop n line) last whole (omega arith) ∙ feed) in
    omega (arith, at)

-- at its begin
pub same_line : (n : ℕ) (line other behind : List ℕ) → IsTickLine line → IsTickLine other
    → take n line ≡ other ++ behind → line ≡ other
same_line n line other behind is other_is first =
    let whole = whole_line n line other behind first in
    let long = all_of_it n line other behind is first (omega (arith, other_is.long)) other_is.last in
    let none : length (behind ++ drop n line) ≡ 0 = omega (
      arith,
      long,
      ap length whole,
      length-append other (behind ++ drop n line),
    ) in
    whole ∙ ap (λ l. other ++ l) (empty (behind ++ drop n line) none) ∙ append-nil other
  where
    empty : (l : List ℕ) → length l ≡ 0 → l ≡ []
    empty [] none = refl
    empty (x ∷ l) none = absurd (omega arith)

-- behind a line feed
pub none_behind_feed : (n : ℕ) (line front other behind : List ℕ) → IsTickLine line → IsTickLine other
    → take n line ≡ front ++ (other ++ behind) → 1 ≤ length front → get_or front (length front - 1) 0 ≡ 10 → ⊥
none_behind_feed n line front other behind is other_is first some feed =
    let whole = whole_line n line front (other ++ behind) first in
    let long = all_of_it n line front (other ++ behind) is first some feed in
    let rest = length-append (other ++ behind) (drop n line) in
    omega (
      arith,
      long,
      ap length whole,
      length-append front (other ++ behind ++ drop n line),
      rest,
      length-append other behind,
      other_is.long,
    )

-- with its last bytes alone
pub none_cut : (n : ℕ) (line front part other behind : List ℕ) → IsTickLine line → IsTickLine other → other ≡ front ++ part
    → take n line ≡ part ++ behind → 1 ≤ length front → 1 ≤ length part → ⊥
none_cut n line front part other behind is other_is cut first some_front some_part =
    let end = length part - 1 in
    let size = ap length cut ∙ length-append front part in
    let at : length other - 1 ≡ length front + end = omega (arith, size) in
    let feed : get_or part end 0 ≡ 10 =
    sym (ap (λ l. get_or l (length front + end) 0) cut ∙ get_or-append-add front part end 0)
    ∙ sym (ap (λ i. get_or other i 0) at) ∙ other_is.last in
    let long = all_of_it n line part behind is first some_part feed in
    let whole = whole_line n line part behind first in
    let k : get_or part 3 0 ≡ 107 = sym (byte_at line part (behind ++ drop n line) 3 whole
    (omega (arith, long, is.long))) ∙ is.fourth in
    let there : get_or other (length front + 3) 0 ≡ 107 =
    ap (λ l. get_or l (length front + 3) 0) cut ∙ get_or-append-add front part 3 0 ∙ k in
    let third = other_is.only_fourth (length front + 3) (omega (arith, size, long, is.long)) there in
    omega (arith, third)
