-- Each line that a run, `once` or `show` says beside those of ticks has a byte that stands in no line of a tick.
use Rattle.std.proofs.Common.{◌≡◌, ℕ, zero, suc, ◌+◌, ◌-◌, ◌%◌, ◌^◌, ◌<◌, Bool, true, false, eqb, not, inl, inr, List, [], ◌∷◌, ◌++◌, length, get_or, refl, sym, ap, subst, ◌∙◌, arith, length-append, codes, decimal}
use Rattle.std.specs.List.{All, list_all, list_any}
use Rattle.std.proofs.Math.ListN.{get_or-append}
use Rattle.std.proofs.lemmas.Bool.{cases_lt}
use Rattle.std.proofs.lemmas.Fmt.{decimal_by_steps, decimal_by_steps_wide}
use Rattle.std.proofs.lemmas.List.{get_or-append-add, append-nil}
use Rattle.std.proofs.lemmas.List.Elements.{All-append}
use Rattle.std.proofs.lemmas.List.FromFn.{get_or-range_with_len}
use Rattle.std.proofs.lemmas.List.Sums.{AllPass-from_list_all}
use Rattle.nb_model.specs.declared.edge.Edge.{Edge}
use Rattle.nb_model.specs.declared.edge.Edge.TheVariants.{Open, Wrap}
use Rattle.nb_model.specs.declared.params.Params.{Params}
use Rattle.nb_model.specs.Valid.{AreInRange}
use Rattle.nb_format.specs.Lines.{started_line, tick_line, done_line, folder_line, once_line, made_line, demo_line}
use Rattle.nb_format.specs.ParamsText.{edge_text, canonical_text}
use Rattle.nb_engine.specs.Acknowledged.{IsForeignByte, IsOtherText}

-- ---- texts whose bytes pass a test

-- Each digit passes a test, and so does each byte of a text.
record Passes (test : ℕ → Bool) (text : List ℕ) : Type 0 where
  digits : list_all test (codes "0123456789") ≡ true
  each : All (λ b. test b ≡ true) text

literal : (test : ℕ → Bool) (text : List ℕ) → list_all test (codes "0123456789") ≡ true → list_all test text ≡ true
    → Passes test text
literal test text digits pass = record { digits = digits; each = AllPass-from_list_all test text pass }

-- a front of a line, with a literal behind it
word : {test : ℕ → Bool} {front : List ℕ} → Passes test front → (text : List ℕ) → list_all test text ≡ true
    → Passes test (front ++ text)
word {test} {front} passes text pass = record {
  digits = passes.digits;
  each = All-append (λ b. test b ≡ true) front text passes.each (AllPass-from_list_all test text pass);
}

-- a front of a line, with a number behind it
number : {test : ℕ → Bool} {front : List ℕ} → Passes test front → (n : ℕ) → n < 2 ^ 64 → Passes test (front ++ decimal n)
number {test} {front} passes n fits = record {
  digits = passes.digits;
  each = All-append (λ b. test b ≡ true) front (decimal n) passes.each
      (decimal_by_steps (λ m text. All (λ b. test b ≡ true) text) digit
      (λ m text more pass. All-append (λ b. test b ≡ true) text ((48 + m % 10) ∷ []) pass (digit (m % 10) (omega arith)))
      n fits);
} where
  digit : (m : ℕ) → m < 10 → All (λ b. test b ≡ true) ((48 + m) ∷ [])
  digit m small zero d below =
      subst (λ b. test b ≡ true) (get_or-range_with_len 48 10 m 0 small)
      (AllPass-from_list_all test (codes "0123456789") passes.digits m 0 small)
  digit m small (suc i) d below = absurd (omega arith)

-- a front of a line, with a sum behind it, which may be above 2 ^ 64
wide_number : {test : ℕ → Bool} {front : List ℕ} → Passes test front → (n : ℕ) → n < 10 ^ 64 → Passes test (front ++ decimal n)
wide_number {test} {front} passes n fits = record {
  digits = passes.digits;
  each = All-append (λ b. test b ≡ true) front (decimal n) passes.each
      (decimal_by_steps_wide (λ m text. All (λ b. test b ≡ true) text) digit
      (λ m text more pass. All-append (λ b. test b ≡ true) text ((48 + m % 10) ∷ []) pass (digit (m % 10) (omega arith)))
      n fits);
} where
  digit : (m : ℕ) → m < 10 → All (λ b. test b ≡ true) ((48 + m) ∷ [])
  digit m small zero d below =
      subst (λ b. test b ≡ true) (get_or-range_with_len 48 10 m 0 small)
      (AllPass-from_list_all test (codes "0123456789") passes.digits m 0 small)
  digit m small (suc i) d below = absurd (omega arith)

-- ---- the bytes of the lines of ticks

abbrev is_tick_byte : ℕ → Bool
is_tick_byte b = list_any (eqb b) (codes "tick time out\n0123456789")

tick_passes : (k time gone : ℕ) → k < 2 ^ 64 → time < 2 ^ 64 → gone < 2 ^ 64 → Passes is_tick_byte (tick_line k time gone)
unfolding tick_line
tick_passes k time gone few_k few_time few_gone =
    word (number (word (number (word (number (literal is_tick_byte (codes "tick ") refl refl) k few_k)
    (codes " time ") refl) time few_time) (codes " out ") refl) gone few_gone) (codes "\n") refl

foreign_byte : (byte : ℕ) → is_tick_byte byte ≡ false → IsForeignByte byte
foreign_byte byte outside = record {
  nowhere = λ k time gone few_k few_time few_gone i d within same.
      let passes = (tick_passes k time gone few_k few_time few_gone).each i d within in
      let both = sym (subst (λ b. is_tick_byte b ≡ true) same passes) ∙ outside in absurd (cc);
}

-- ---- texts of other lines

abbrev is_no_feed : ℕ → Bool
is_no_feed b = not (eqb b 10)

-- the begin of a line
begin : (text : List ℕ) → list_all is_no_feed text ≡ true → Passes is_no_feed text
begin text pass = literal is_no_feed text refl pass

-- a line with a byte at this place that stands in no line of a tick
ends : {front : List ℕ} → Passes is_no_feed front → (place : ℕ) → place < length front
    → is_tick_byte (get_or front place 0) ≡ false → IsOtherText (front ++ 10 ∷ [])
ends {front} passes place before outside = record {
  each = λ end within feed.
      let no_feed = λ (i : ℕ) (below : i < length front) (same : get_or (front ++ 10 ∷ []) i 0 ≡ 10).
      none (get_or front i 0) (passes.each i 0 below) (sym (get_or-append front (10 ∷ []) 0 i below) ∙ same) in
      elim (cases_lt end (length front)) [
        | inl inside ↦ absurd (no_feed end inside feed)
        | inr last ↦ record {
          place = place;
          before = omega (arith, last);
          foreign = subst IsForeignByte (sym (get_or-append front (10 ∷ []) 0 place before))
              (foreign_byte (get_or front place 0) outside);
          within = λ i from below same.
              no_feed i (omega (arith, within, below, length-append front (10 ∷ []))) same;
        }
      ];
} where
  none : (b : ℕ) → is_no_feed b ≡ true → b ≡ 10 → ⊥
  none b pass same = let both : is_no_feed 10 ≡ true = rw same at pass in absurd (cc)

-- one text behind another
pub append_is_other : {a b : List ℕ} → IsOtherText a → IsOtherText b → IsOtherText (a ++ b)
append_is_other {a} {b} first second = record {
  each = λ end within feed.
      elim (cases_lt end (length a)) [
        | inl inside ↦
            let has = first.each end inside (sym (get_or-append a b 0 end inside) ∙ feed) in
            record {
              place = has.place;
              before = has.before;
              foreign = subst IsForeignByte (sym (get_or-append a b 0 has.place (omega (arith, has.before, inside))))
                  has.foreign;
              within = λ i from below same.
                  has.within i from below (sym (get_or-append a b 0 i (omega (arith, below, inside))) ∙ same);
            }
        | inr beyond ↦
            let at : length a + (end - length a) ≡ end = omega (arith, beyond) in
            let has = second.each (end - length a) (omega (arith, beyond, within, length-append a b))
            (sym (get_or-append-add a b (end - length a) 0) ∙ ap (λ i. get_or (a ++ b) i 0) at ∙ feed) in
            record {
              place = length a + has.place;
              before = omega (arith, has.before, beyond);
              foreign = subst IsForeignByte (sym (get_or-append-add a b has.place 0)) has.foreign;
              within = λ i from below same.
                  let here : length a + (i - length a) ≡ i = omega (arith, from) in
                  has.within (i - length a) (omega (arith, from)) (omega (arith, from, below))
                  (sym (get_or-append-add a b (i - length a) 0) ∙ ap (λ m. get_or (a ++ b) m 0) here ∙ same);
            }
      ];
}

-- ---- the lines of a run, of `once`, `show`, `make` and `demo`

pub once_is_other : (time ticks out : ℕ) → time < 2 ^ 64 → ticks < 2 ^ 64 → out < 2 ^ 64
    → IsOtherText (once_line time ticks out)
unfolding once_line
once_is_other time ticks out few_time few_ticks few_out =
    ends (number (word (number (word (number (begin (codes "once time ") refl) time few_time) (codes " ticks ") refl)
    ticks few_ticks) (codes " out ") refl) out few_out) 1 (omega arith) refl

pub started_is_other : (bodies time : ℕ) → bodies < 2 ^ 64 → time < 2 ^ 64 → IsOtherText (started_line bodies time)
unfolding started_line
started_is_other bodies time few_bodies few_time =
    ends (number (word (number (begin (codes "started bodies ") refl) bodies few_bodies) (codes " time ") refl)
    time few_time) 0 (omega arith) refl

pub done_is_other : (time ticks out : ℕ) → time < 2 ^ 64 → ticks < 2 ^ 64 → out < 2 ^ 64
    → IsOtherText (done_line time ticks out)
unfolding done_line
done_is_other time ticks out few_time few_ticks few_out =
    ends (number (word (number (word (number (begin (codes "done time ") refl) time few_time) (codes " ticks ") refl)
    ticks few_ticks) (codes " out ") refl) out few_out) 0 (omega arith) refl

pub folder_is_other : (time ticks target bodies out : ℕ) → time < 2 ^ 64 → ticks < 2 ^ 64 → target < 2 ^ 64
    → bodies < 2 ^ 64 → out < 2 ^ 64 → IsOtherText (folder_line time ticks target bodies out)
unfolding folder_line
folder_is_other time ticks target bodies out few_time few_ticks few_target few_bodies few_out =
    ends (number (word (number (word (number (word (number (word (number (begin (codes "folder time ") refl) time few_time)
    (codes " ticks ") refl) ticks few_ticks) (codes " target ") refl) target few_target) (codes " bodies ") refl)
    bodies few_bodies) (codes " out ") refl) out few_out) 0 (omega arith) refl

pub made_is_other : (bodies : ℕ) → bodies < 2 ^ 64 → IsOtherText (made_line bodies)
unfolding made_line
made_is_other bodies few = ends (number (begin (codes "made bodies ") refl) bodies few) 1 (omega arith) refl

pub demo_is_other : (bodies out sum : ℕ) → bodies < 2 ^ 64 → out < 2 ^ 64 → sum < 10 ^ 64 → IsOtherText (demo_line bodies out sum)
unfolding demo_line
demo_is_other bodies out sum few_bodies few_out few_sum =
    ends (wide_number (word (number (word (number (begin (codes "demo bodies ") refl) bodies few_bodies) (codes " out ") refl)
    out few_out) (codes " sum ") refl) sum few_sum) 0 (omega arith) refl

-- ---- the lines of the parameters

edge_is_other : (edge : Edge) → IsOtherText (codes "edge = " ++ edge_text edge ++ 10 ∷ [])
edge_is_other Open = ends (begin (codes "edge = open") refl) 1 (omega arith) refl
edge_is_other Wrap = ends (begin (codes "edge = wrap") refl) 1 (omega arith) refl

value_is_other : (name : List ℕ) (value place : ℕ) → list_all is_no_feed name ≡ true → value < 2 ^ 64 → place < length name
    → is_tick_byte (get_or name place 0) ≡ false → IsOtherText (name ++ decimal value ++ 10 ∷ [])
value_is_other name value place pass few before outside =
    ends (number (begin name pass) value few) place (omega (arith, length-append name (decimal value)))
    (ap is_tick_byte (get_or-append name (decimal value) 0 place before) ∙ outside)

pub params_are_other : (params : Params) → AreInRange params → IsOtherText (canonical_text params)
params_are_other params are =
    append_is_other (value_is_other (codes "grav = ") params.grav 0 refl (omega (arith, are.grav)) (omega arith) refl)
    (append_is_other (value_is_other (codes "theta_num = ") params.theta_num 1 refl (omega (arith, are.theta_num)) (omega arith)
    refl)
    (append_is_other (value_is_other (codes "theta_den = ") params.theta_den 1 refl (omega (arith, are.theta_den)) (omega arith)
    refl)
    (append_is_other (value_is_other (codes "soft = ") params.soft 0 refl (omega (arith, are.soft)) (omega arith) refl)
    (append_is_other (value_is_other (codes "leaf = ") params.leaf 0 refl (omega (arith, are.leaf)) (omega arith) refl)
    (append_is_other (value_is_other (codes "every = ") params.every 1 refl (omega (arith, are.every)) (omega arith) refl)
    (subst IsOtherText (sym (append-nil (codes "edge = " ++ edge_text params.edge ++ 10 ∷ [])))
    (edge_is_other params.edge)))))))
