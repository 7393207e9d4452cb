-- Each said line is one line, and a tick's line tells one tick only.
use Rattle.std.proofs.Common.{◌≡◌, ◌≢◌, ℕ, zero, suc, ◌+◌, ◌%◌, ◌^◌, ◌<◌, ◌≤◌, true, not, List, [], ◌∷◌, ◌++◌, drop, refl, sym, ap, ◌∙◌, arith, append_assoc, codes}
use Rattle.std.specs.Prelude.{decimal}
use Rattle.std.specs.List.{All, list_all}
use Rattle.std.proofs.lemmas.List.Elements.{All-append}
use Rattle.std.proofs.lemmas.List.Sums.{AllPass-from_list_all}
use Rattle.std.proofs.lemmas.Fmt.{decimal_injective, decimal_by_steps_wide}
use Rattle.nb_model.specs.declared.edge.Edge.{Edge}
use Rattle.nb_model.specs.declared.edge.Edge.TheVariants.{Open, Wrap}
use Rattle.nb_model.specs.declared.params.Params.{Params}
use Rattle.nb_model.specs.Valid.{AreInRange}
use Rattle.nb_format.specs.ParamsText.{is_line_end, edge_text, canonical_line}
use Rattle.nb_format.specs.LineEnds.{IsOneLine}
use Rattle.nb_format.specs.declared.params_error.ParamsError.TheVariants as refused
use Rattle.nb_format.specs.Lines.{tick_line, params_text}

-- a text lacks a byte
pub record Lacks (byte : ℕ) (text : List ℕ) : Type 0 where
  pub each : All (λ b. b ≢ byte) text

lacks-one : (byte b : ℕ) → b ≢ byte → All (λ c. c ≢ byte) (b ∷ [])
lacks-one byte b other zero d below = other
lacks-one byte b other (suc k) d below = absurd (omega arith)

-- a number lacks each byte below the digits
pub lacks-decimal : (byte n : ℕ) → byte < 48 → n < 2 ^ 128 → Lacks byte (decimal n)
lacks-decimal byte n low few = record {
  each =
      decimal_by_steps_wide (λ m text. All (λ b. b ≢ byte) text) (λ m small. lacks-one byte (48 + m) (λ same. omega arith))
      (λ m text more lacks. All-append (λ b. b ≢ byte) text ((48 + m % 10) ∷ []) lacks (lacks-one byte (48 + m % 10) (λ same. omega arith)))
      n (omega arith);
}

-- a literal without a line end
pub literal : (text : List ℕ) → list_all (λ b. not (is_line_end b)) text ≡ true → Lacks 10 text
literal text none = record {
  each = λ k d below same.
      let test = AllPass-from_list_all (λ b. not (is_line_end b)) text none k d below in
      let test_end : not (is_line_end 10) ≡ true = rw same at test in absurd (cc);
}

-- a front of a line, with a number behind it
pub number : {front : List ℕ} → Lacks 10 front → (n : ℕ) → n < 2 ^ 128 → Lacks 10 (front ++ decimal n)
number {front} lacks n few = record { each = All-append (λ b. b ≢ 10) front (decimal n) lacks.each (lacks-decimal 10 n (omega arith) few).each }

-- a front of a line, with a literal behind it
pub word : {front : List ℕ} → Lacks 10 front → (text : List ℕ) → list_all (λ b. not (is_line_end b)) text ≡ true → Lacks 10 (front ++ text)
word {front} lacks text none = record { each = All-append (λ b. b ≢ 10) front text lacks.each (literal text none).each }

-- a line
pub ends : {front : List ℕ} → Lacks 10 front → IsOneLine (front ++ 10 ∷ [])
ends {front} lacks = (front, refl, lacks.each)

-- a line whose last piece is a literal
pub ends_word : {front : List ℕ} → Lacks 10 front → (text : List ℕ) → list_all (λ b. not (is_line_end b)) text ≡ true → IsOneLine (front ++ (text ++ 10 ∷ []))
ends_word {front} lacks text none = (front ++ text, sym (append_assoc front text (10 ∷ [])), (word lacks text none).each)

-- two texts that lack a byte, before that byte
same-before : (byte : ℕ) (a b s t : List ℕ) → All (λ c. c ≢ byte) a → All (λ c. c ≢ byte) b → a ++ byte ∷ s ≡ b ++ byte ∷ t → (a ≡ b) × (s ≡ t)
same-before byte [] [] s t lacks_a lacks_b same = (refl, cc)
same-before byte [] (y ∷ b) s t lacks_a lacks_b same = let first : y ≡ byte = cc in absurd (lacks_b 0 y (omega arith) first)
same-before byte (x ∷ a) [] s t lacks_a lacks_b same = let first : x ≡ byte = cc in absurd (lacks_a 0 x (omega arith) first)
same-before byte (x ∷ a) (y ∷ b) s t lacks_a lacks_b same =
    let first : x ≡ y = cc in
    let rest = same-before byte a b s t (λ k d below. lacks_a (suc k) d (omega arith)) (λ k d below. lacks_b (suc k) d (omega arith)) (cc) in
    (rw (first, rest.0) refl, rest.1)

-- two numbers before a byte below the digits
same-number : (byte m n : ℕ) (s t : List ℕ) → byte < 48 → m < 2 ^ 64 → n < 2 ^ 64 → decimal m ++ byte ∷ s ≡ decimal n ++ byte ∷ t → (m ≡ n) × (s ≡ t)
same-number byte m n s t low few_m few_n same =
    let both = same-before byte (decimal m) (decimal n) s t (lacks-decimal byte m low (omega arith)).each (lacks-decimal byte n low (omega arith)).each same in
    (decimal_injective m n few_m few_n both.0, both.1)

grouped : (a b c d e f g : List ℕ) → a ++ b ++ c ++ d ++ e ++ f ++ g ≡ a ++ (b ++ (c ++ (d ++ (e ++ (f ++ g)))))
grouped a b c d e f g = simp append_assoc refl

-- what stands behind the first blank of a tick's line, and behind the numbers that follow
abbrev behind_tick : ℕ → List ℕ
behind_tick out = decimal out ++ 10 ∷ []

abbrev behind_number : ℕ → ℕ → List ℕ
behind_number time out = decimal time ++ 32 ∷ (codes "out " ++ behind_tick out)

abbrev behind_word : ℕ → ℕ → ℕ → List ℕ
behind_word k time out = decimal k ++ 32 ∷ (codes "time " ++ behind_number time out)

tick_line-grouped : (k time out : ℕ) → tick_line k time out ≡ codes "tick " ++ behind_word k time out
unfolding tick_line
tick_line-grouped k time out = grouped (codes "tick ") (decimal k) (codes " time ") (decimal time) (codes " out ") (decimal out) (codes "\n")

-- a tick's line tells one tick only
pub same-tick : (k time out l when gone : ℕ) → k < 2 ^ 64 → time < 2 ^ 64 → out < 2 ^ 64 → l < 2 ^ 64 → when < 2 ^ 64 → gone < 2 ^ 64
    → tick_line k time out ≡ tick_line l when gone → (k ≡ l) × (time ≡ when) × (out ≡ gone)
same-tick k time out l when gone few_k few_time few_out few_l few_when few_gone same =
    let all : codes "tick " ++ behind_word k time out ≡ codes "tick " ++ behind_word l when gone = sym (tick_line-grouped k time out) ∙ same ∙ tick_line-grouped l when gone in
    let first = same-number 32 k l (codes "time " ++ behind_number time out) (codes "time " ++ behind_number when gone) (omega arith) few_k few_l (ap (drop 5) all) in
    let second = same-number 32 time when (codes "out " ++ behind_tick out) (codes "out " ++ behind_tick gone) (omega arith) few_time few_when (ap (drop 5) first.1) in
    let third = same-number 10 out gone [] [] (omega arith) few_out few_gone (ap (drop 4) second.1) in
    (first.0, second.0, third.0)

edge-line : (edge : Edge) → IsOneLine (codes "edge = " ++ edge_text edge ++ 10 ∷ [])
edge-line Open = ends (literal (codes "edge = open") refl)
edge-line Wrap = ends (literal (codes "edge = wrap") refl)

pub canonical-one_line : (params : Params) → AreInRange params → (which : ℕ) → which ≤ 6 → IsOneLine (canonical_line params which)
canonical-one_line params are zero within = ends (number (literal (codes "grav = ") refl) params.grav (omega (arith, are.grav)))
canonical-one_line params are (suc zero) within = ends (number (literal (codes "theta_num = ") refl) params.theta_num (omega (arith, are.theta_num)))
canonical-one_line params are (suc (suc zero)) within = ends (number (literal (codes "theta_den = ") refl) params.theta_den (omega (arith, are.theta_den)))
canonical-one_line params are (suc (suc (suc zero))) within = ends (number (literal (codes "soft = ") refl) params.soft (omega (arith, are.soft)))
canonical-one_line params are (suc (suc (suc (suc zero)))) within = ends (number (literal (codes "leaf = ") refl) params.leaf (omega (arith, are.leaf)))
canonical-one_line params are (suc (suc (suc (suc (suc zero))))) within = ends (number (literal (codes "every = ") refl) params.every (omega (arith, are.every)))
canonical-one_line params are (suc (suc (suc (suc (suc (suc zero)))))) within = edge-line params.edge
canonical-one_line params are (suc (suc (suc (suc (suc (suc (suc which))))))) within = absurd (omega arith)

pub missing-one_line : (which : ℕ) → which ≤ 6 → IsOneLine (params_text (refused.Missing which))
unfolding params_text
missing-one_line zero within = ends (literal (codes "nbody: params: grav is missing") refl)
missing-one_line (suc zero) within = ends (literal (codes "nbody: params: theta_num is missing") refl)
missing-one_line (suc (suc zero)) within = ends (literal (codes "nbody: params: theta_den is missing") refl)
missing-one_line (suc (suc (suc zero))) within = ends (literal (codes "nbody: params: soft is missing") refl)
missing-one_line (suc (suc (suc (suc zero)))) within = ends (literal (codes "nbody: params: leaf is missing") refl)
missing-one_line (suc (suc (suc (suc (suc zero))))) within = ends (literal (codes "nbody: params: every is missing") refl)
missing-one_line (suc (suc (suc (suc (suc (suc zero)))))) within = ends (literal (codes "nbody: params: edge is missing") refl)
missing-one_line (suc (suc (suc (suc (suc (suc (suc which))))))) within = absurd (omega arith)

-- a flaw of one body of a snapshot
pub flawed-one_line : (flaw : List ℕ) (i : ℕ) → list_all (λ b. not (is_line_end b)) flaw ≡ true → i < 2 ^ 128
    → IsOneLine (codes "nbody: snapshot: " ++ (flaw ++ decimal i) ++ codes "\n")
flawed-one_line flaw i none few =
    let lacks = (number (literal flaw none) i few).each in
    ends {front = codes "nbody: snapshot: " ++ (flaw ++ decimal i)} (record {
      each = All-append (λ b. b ≢ 10) (codes "nbody: snapshot: ") (flaw ++ decimal i) (literal (codes "nbody: snapshot: ") refl).each lacks;
    })
