-- The canonical lines are read back.
use Rattle.std.proofs.Common.{◌≡◌, ℕ, Option, None, ◌+◌, ◌-◌, ◌^◌, ◌<◌, ◌≤◌, Bool, true, false, not, nat_lt, if◌then◌else◌, Some, Result, Ok, Err, List, [], ◌∷◌, ◌++◌, length, get_or, refl, sym, ap, ◌∙◌, arith, lit<, lit≤, length-append, append_assoc}
use Rattle.std.specs.Prelude.{slice_set, codes}
use Rattle.std.specs.List.{prefix_len, suffix_len, All, list_all, All}
use Rattle.std.specs.Fmt.{decimal}
use Rattle.std.proofs.lemmas.Bool.Decides.{nat_tests}
use Rattle.std.proofs.Math.Seq.{take-length}
use Rattle.std.proofs.lemmas.List.{get_or-append-add, get_or_append_left}
use Rattle.std.proofs.lemmas.List.Sums.{prefix_len-drop_no, suffix_len-take_no, AllPass-from_list_all}
use Rattle.std.proofs.lemmas.List.Elements.{All-append}
use Rattle.std.proofs.lemmas.List.Splits.{slice_split_at}
use Rattle.std.proofs.lemmas.Fmt.{digits_decimal, digits_value-decimal, decimal_nonempty, length-decimal-le}
use Rattle.nb_model.specs.declared.edge.Edge.{Edge}
use Rattle.nb_model.specs.declared.edge.Edge.TheVariants.{Open, Wrap}
use Rattle.nb_model.specs.declared.params.Params.{Params}
use Rattle.nb_model.specs.Valid.{AreInRange}
use Rattle.nb_format.specs.declared.params_error.ParamsError.{ParamsError}
use Rattle.nb_format.specs.declared.params_error.ParamsError.TheVariants as refused
use Rattle.nb_format.specs.declared.params_line.Line.TheVariants.{Setting}
use Rattle.nb_format.specs.declared.params_reader.Values.{Values}
use Rattle.nb_format.specs.Digits.{is_digit, is_number, decimal_value}
use Rattle.nb_format.specs.ParamsText.{is_blank, is_line_end, trimmed, name_at, edge_text, number_setting, setting_of, content_of, line_of, lines_of, no_values, is_read, is_in_range, with_line, with_lines, result_and_then, params_from, params_of, most_text, canonical_text, text_without_edge}
use Rattle.nb_format.proofs.Numerals.{are_numerals, IsNumber, is_number-IsNumber}

not-true : (a : Bool) → not a ≡ true → a ≡ false
not-true true e = sym e
not-true false e = refl

-- a number as a canonical line has it
pub record IsDecimal (value : ℕ) (text : List ℕ) : Type 0 where
  pub number : IsNumber text
  pub value_of : decimal_value text ≡ value

IsDecimal-decimal : (n : ℕ) → n < 2 ^ 64 → IsDecimal n (decimal n)
IsDecimal-decimal n fits = record {
  number = record { some = decimal_nonempty n fits; short = length-decimal-le 20 n (lit< tt) (omega arith) fits; digits = digits_decimal are_numerals n fits };
  value_of = digits_value-decimal are_numerals n fits;
}

-- a text that neither begins nor ends with a blank
pub record IsTrimmed (text : List ℕ) : Type 0 where
  pub some : 0 < length text
  pub first : is_blank (get_or text 0 0) ≡ false
  pub last : is_blank (get_or text (length text - 1) 0) ≡ false

trimmed-same : (text : List ℕ) → IsTrimmed text → trimmed text ≡ text
trimmed-same text is =
    let no_front : prefix_len is_blank text ≡ 0 = prefix_len-drop_no is_blank text 0 0 is.some is.first in
    let no_back : suffix_len is_blank text ≡ 0 = rw take-length at (suffix_len-take_no is_blank text (length text) 0 is.some (omega arith) is.last) in
    let whole : length text - 0 ≡ length text = omega arith in
    rw (no_front, no_back, whole) (take-length text)

trimmed-space : (text : List ℕ) → IsTrimmed text → trimmed (32 ∷ text) ≡ text
trimmed-space text is =
    let no_front : prefix_len is_blank text ≡ 0 = prefix_len-drop_no is_blank text 0 0 is.some is.first in
    let no_back : suffix_len is_blank text ≡ 0 = rw take-length at (suffix_len-take_no is_blank text (length text) 0 is.some (omega arith) is.last) in
    let whole : length text - 0 ≡ length text = omega arith in
    rw (no_front, no_back, whole) (take-length text)

digit-at : (text : List ℕ) (k d : ℕ) → list_all is_digit text ≡ true → k < length text → is_digit (get_or text k d) ≡ true
digit-at text k d digits below = AllPass-from_list_all is_digit text digits k d below

is_blank-digit : (c : ℕ) → is_digit c ≡ true → is_blank c ≡ false
is_blank-digit c digit = grind (arith, nat_tests)

is_line_end-digit : (c : ℕ) → is_digit c ≡ true → is_line_end c ≡ false
is_line_end-digit c digit = grind (arith, nat_tests)

IsTrimmed-number : (text : List ℕ) → IsNumber text → IsTrimmed text
IsTrimmed-number text is = record {
  some = is.some;
  first = is_blank-digit (get_or text 0 0) (digit-at text 0 0 is.digits is.some);
  last = is_blank-digit (get_or text (length text - 1) 0) (digit-at text (length text - 1) 0 is.digits (let some = is.some in omega arith));
}

-- what stands before the value in a canonical line
record IsFront (which : ℕ) (front : List ℕ) : Type 0 where
  some : 0 < length front
  first : is_blank (get_or front 0 0) ≡ false
  one_line : list_all (λ c. not (is_line_end c)) front ≡ true
  says : (text : List ℕ) → content_of (front ++ text) ≡ number_setting (Some which) (trimmed (32 ∷ text))

line_of-canonical : (which value : ℕ) (front text : List ℕ) → IsFront which front → IsDecimal value text → line_of (front ++ text) ≡ Setting which value
line_of-canonical which value front text is number =
    let trimmed_text = IsTrimmed-number text number.number in
    let some = is.some in
    let some_text = trimmed_text.some in
    let long = length-append front text in
    let last : get_or (front ++ text) (length (front ++ text) - 1) 0 ≡ get_or text (length text - 1) 0 =
    (let e : length (front ++ text) - 1 ≡ length front + (length text - 1) = omega (arith, long) in rw e (get_or-append-add front text (length text - 1) 0)) in
    let whole : IsTrimmed (front ++ text) = record {
      some = omega (arith, long);
      first = rw (get_or_append_left front text 0 0 is.some) is.first;
      last = rw last trimmed_text.last;
    } in
    let is_one = is_number-IsNumber text number.number in
    rw (trimmed-same (front ++ text) whole, is.says text, trimmed-space text trimmed_text, is_one, number.value_of) refl

lines_of-canonical : (which value : ℕ) (front text rest : List ℕ) → IsFront which front → IsDecimal value text
    → lines_of (((front ++ text) ++ 10 ∷ []) ++ rest) ≡ (front ++ text) ∷ lines_of rest
lines_of-canonical which value front text rest is number =
    let front_line : All (λ c. is_line_end c ≡ false) front =
    λ k d below. not-true _ (AllPass-from_list_all (λ c. not (is_line_end c)) front is.one_line k d below) in
    let text_line : All (λ c. is_line_end c ≡ false) text =
    λ k d below. is_line_end-digit (get_or text k d) (digit-at text k d number.number.digits below) in
    rw append_assoc (slice_split_at is_line_end (front ++ text) 10 rest (All-append (λ c. is_line_end c ≡ false) front text front_line text_line) refl)

kept : (read fits : Bool) (values : Values) (number : ℕ) → read ≡ false → fits ≡ true
    → (if read then Err (refused.Twice number) else (if fits then Ok values else Err (refused.Range number))) ≡ Ok values
kept true fits values number new in_range = cc
kept false true values number new in_range = refl
kept false false values number new in_range = cc

-- a canonical line gives its value
read_back : (which value : ℕ) (front text rest : List ℕ) (number : ℕ) (values : Values) → IsFront which front → IsDecimal value text
    → is_read values.numbers which ≡ false → is_in_range which value ≡ true
    → with_lines number values (lines_of (((front ++ text) ++ 10 ∷ []) ++ rest))
    ≡ with_lines (number + 1) (record values { numbers = slice_set values.numbers which (Some value) }) (lines_of rest)
read_back which value front text rest number values is is_number new in_range =
    let next : Values → Result Values ParamsError = λ more. with_lines (number + 1) more (lines_of rest) in
    ap (with_lines number values) (lines_of-canonical which value front text rest is is_number)
    ∙ (ap (λ line. result_and_then next (with_line number values line)) (line_of-canonical which value front text is is_number)
    ∙ ap (result_and_then next) (kept (is_read values.numbers which) (is_in_range which value) (record values { numbers = slice_set values.numbers which (Some value) }) number new in_range))

length-line : (front text rest : List ℕ) (n : ℕ) → length front ≤ 12 → length text ≤ 20 → length rest ≤ n → length (((front ++ text) ++ 10 ∷ []) ++ rest) ≤ n + 33
length-line front text rest n short few rest_few = simp length-append (omega arith)

-- what stands before the value of this parameter
abbrev front_of : ℕ → List ℕ
front_of which = name_at which ++ codes " = "

-- the line of this parameter, before what follows it
abbrev line_before : ℕ → List ℕ → List ℕ → List ℕ
line_before which text rest = ((front_of which ++ text) ++ 10 ∷ []) ++ rest

IsFront-grav : IsFront 0 (front_of 0)
unfolding setting_of
IsFront-grav = record { some = lit< tt; first = refl; one_line = refl; says = λ text. refl }

IsFront-theta_num : IsFront 1 (front_of 1)
unfolding setting_of
IsFront-theta_num = record { some = lit< tt; first = refl; one_line = refl; says = λ text. refl }

IsFront-theta_den : IsFront 2 (front_of 2)
unfolding setting_of
IsFront-theta_den = record { some = lit< tt; first = refl; one_line = refl; says = λ text. refl }

IsFront-soft : IsFront 3 (front_of 3)
unfolding setting_of
IsFront-soft = record { some = lit< tt; first = refl; one_line = refl; says = λ text. refl }

IsFront-leaf : IsFront 4 (front_of 4)
unfolding setting_of
IsFront-leaf = record { some = lit< tt; first = refl; one_line = refl; says = λ text. refl }

IsFront-every : IsFront 5 (front_of 5)
unfolding setting_of
IsFront-every = record { some = lit< tt; first = refl; one_line = refl; says = λ text. refl }

-- each value that a run may have is in its parameter's range
grav-in_range : (value : ℕ) → value < 2 ^ 60 → is_in_range 0 value ≡ true
grav-in_range value few = grind (arith, nat_tests)

theta_num-in_range : (value : ℕ) → value ≤ 32768 → is_in_range 1 value ≡ true
theta_num-in_range value few = grind (arith, nat_tests)

theta_den-in_range : (value : ℕ) → 1 ≤ value → value ≤ 32768 → is_in_range 2 value ≡ true
theta_den-in_range value some few = grind (arith, nat_tests)

soft-in_range : (value : ℕ) → 1 ≤ value → value < 2 ^ 40 → is_in_range 3 value ≡ true
soft-in_range value some few = grind (arith, nat_tests)

leaf-in_range : (value : ℕ) → 1 ≤ value → value ≤ 32 → is_in_range 4 value ≡ true
leaf-in_range value some few = grind (arith, nat_tests)

every-in_range : (value : ℕ) → 1 ≤ value → value ≤ 2 ^ 40 → is_in_range 5 value ≡ true
every-in_range value some few = grind (arith, nat_tests)

if-short : (long : Bool) (r : Result Params ParamsError) → long ≡ false → (if long then Err refused.Long else r) ≡ r
if-short true r short = cc
if-short false r short = refl

-- a text that isn't too long is read
short_text : (text : List ℕ) → length text ≤ most_text → params_of text ≡ result_and_then params_from (with_lines 1 no_values (lines_of text))
short_text text short = if-short (nat_lt most_text (length text)) (result_and_then params_from (with_lines 1 no_values (lines_of text))) (grind (arith, nat_tests))

-- the six numbers were read, and this of the edge
abbrev six_values : Params → Option Edge → Values
six_values params edge = record {
  numbers = Some params.grav ∷ Some params.theta_num ∷ Some params.theta_den ∷ Some params.soft ∷ Some params.leaf ∷ Some params.every ∷ [];
  edge = edge;
}

-- the lines of six texts that spell the values of the six, before what follows them
six_lines : (params : Params) (grav theta_num theta_den soft leaf every rest : List ℕ) → AreInRange params
    → IsDecimal params.grav grav → IsDecimal params.theta_num theta_num → IsDecimal params.theta_den theta_den
    → IsDecimal params.soft soft → IsDecimal params.leaf leaf → IsDecimal params.every every → length rest ≤ 33
    → params_of (line_before 0 grav (line_before 1 theta_num (line_before 2 theta_den (line_before 3 soft (line_before 4 leaf (line_before 5 every rest))))))
    ≡ result_and_then params_from (with_lines 7 (six_values params None) (lines_of rest))
six_lines params grav theta_num theta_den soft leaf every rest are is_grav is_theta_num is_theta_den is_soft is_leaf is_every few =
    let text5 = line_before 5 every rest in
    let text4 = line_before 4 leaf text5 in
    let text3 = line_before 3 soft text4 in
    let text2 = line_before 2 theta_den text3 in
    let text1 = line_before 1 theta_num text2 in
    let text0 = line_before 0 grav text1 in
    let values1 : Values = record no_values { numbers = slice_set no_values.numbers 0 (Some params.grav) } in
    let values2 : Values = record values1 { numbers = slice_set values1.numbers 1 (Some params.theta_num) } in
    let values3 : Values = record values2 { numbers = slice_set values2.numbers 2 (Some params.theta_den) } in
    let values4 : Values = record values3 { numbers = slice_set values3.numbers 3 (Some params.soft) } in
    let values5 : Values = record values4 { numbers = slice_set values4.numbers 4 (Some params.leaf) } in
    let read : with_lines 1 no_values (lines_of text0) ≡ with_lines 7 (six_values params None) (lines_of rest) =
    (read_back 0 params.grav (front_of 0) grav text1 1 no_values IsFront-grav is_grav refl (grav-in_range params.grav are.grav)
    ∙ (read_back 1 params.theta_num (front_of 1) theta_num text2 2 values1 IsFront-theta_num is_theta_num refl (theta_num-in_range params.theta_num are.theta_num)
    ∙ (read_back 2 params.theta_den (front_of 2) theta_den text3 3 values2 IsFront-theta_den is_theta_den refl (theta_den-in_range params.theta_den are.some_theta_den are.theta_den)
    ∙ (read_back 3 params.soft (front_of 3) soft text4 4 values3 IsFront-soft is_soft refl (soft-in_range params.soft are.some_soft are.soft)
    ∙ (read_back 4 params.leaf (front_of 4) leaf text5 5 values4 IsFront-leaf is_leaf refl (leaf-in_range params.leaf are.some_leaf are.leaf)
    ∙ read_back 5 params.every (front_of 5) every rest 6 values5 IsFront-every is_every refl (every-in_range params.every are.some_every are.every)))))) in
    let length5 : length text5 ≤ 66 = length-line (front_of 5) every rest 33 (lit≤ tt) is_every.number.short few in
    let length4 : length text4 ≤ 99 = length-line (front_of 4) leaf text5 66 (lit≤ tt) is_leaf.number.short length5 in
    let length3 : length text3 ≤ 132 = length-line (front_of 3) soft text4 99 (lit≤ tt) is_soft.number.short length4 in
    let length2 : length text2 ≤ 165 = length-line (front_of 2) theta_den text3 132 (lit≤ tt) is_theta_den.number.short length3 in
    let length1 : length text1 ≤ 198 = length-line (front_of 1) theta_num text2 165 (lit≤ tt) is_theta_num.number.short length2 in
    let length0 : length text0 ≤ 231 = length-line (front_of 0) grav text1 198 (lit≤ tt) is_grav.number.short length1 in
    short_text text0 (omega (arith, length0)) ∙ ap (result_and_then params_from) read

-- the six canonical lines, before what follows them
canonical-before : (params : Params) (rest : List ℕ) → AreInRange params → length rest ≤ 33
    → params_of (line_before 0 (decimal params.grav) (line_before 1 (decimal params.theta_num) (line_before 2 (decimal params.theta_den)
    (line_before 3 (decimal params.soft) (line_before 4 (decimal params.leaf) (line_before 5 (decimal params.every) rest))))))
    ≡ result_and_then params_from (with_lines 7 (six_values params None) (lines_of rest))
canonical-before params rest are few =
    six_lines params (decimal params.grav) (decimal params.theta_num) (decimal params.theta_den) (decimal params.soft) (decimal params.leaf) (decimal params.every) rest are
    (IsDecimal-decimal params.grav (omega (arith, are.grav)))
    (IsDecimal-decimal params.theta_num (omega (arith, are.theta_num)))
    (IsDecimal-decimal params.theta_den (omega (arith, are.theta_den)))
    (IsDecimal-decimal params.soft (omega (arith, are.soft)))
    (IsDecimal-decimal params.leaf (omega (arith, are.leaf)))
    (IsDecimal-decimal params.every (omega (arith, are.every))) few

-- the canonical line of the edge, as the last one of a text
abbrev edge_line : Edge → List ℕ
edge_line edge = (codes "edge = " ++ edge_text edge ++ 10 ∷ []) ++ []

-- the line of the edge is read back
edge-back : (params : Params) (edge : Edge) → with_lines 7 (six_values params None) (lines_of (edge_line edge)) ≡ Ok (six_values params (Some edge))
unfolding setting_of
edge-back params Open = refl
edge-back params Wrap = refl

length-edge_line : (edge : Edge) → length (edge_line edge) ≤ 33
length-edge_line Open = lit≤ tt
length-edge_line Wrap = lit≤ tt

-- the canonical text is read back
pub params_of-canonical : (params : Params) → AreInRange params → params_of (canonical_text params) ≡ Ok params
params_of-canonical params are =
    canonical-before params (edge_line params.edge) are (length-edge_line params.edge)
    ∙ ap (result_and_then params_from) (edge-back params params.edge)

-- the six lines without that of the edge are read as those of an open box
pub params_of-without_edge : (params : Params) → AreInRange params → params_of (text_without_edge params) ≡ Ok (record params { edge = Open })
params_of-without_edge params are = canonical-before params [] are (lit≤ tt)
