-- What is said of a text whose lines each have a byte that stands in no line of a tick acknowledges no tick.
use Rattle.std.proofs.Common.{◌≡◌, ◌≢◌, ℕ, ◌+◌, ◌-◌, ◌^◌, ◌<◌, ◌≤◌, inl, inr, All, List, [], ◌∷◌, ◌++◌, length, get_or, take, drop, refl, sym, ap, ◌∙◌, arith, append_assoc, append-nil, length-append, codes, decimal}
use Rattle.std.proofs.Math.ListN.{get_or-append}
use Rattle.std.proofs.lemmas.Bool.{cases_lt}
use Rattle.std.proofs.lemmas.List.{get_or-append-add}
use Rattle.nb_format.specs.Lines.{tick_line}
use Rattle.nb_engine.specs.Acknowledged.{EndsLine, Acknowledges, IsAcknowledgedUpTo, IsForeignByte, HasForeignByte, IsOtherText}
use Rattle.nb_engine.proofs.TickLines.{split_either, whole_line}
use Rattle.nb_engine.proofs.Told.{last_feed, told_earlier}

-- what tells a line of a tick from other lines
record LacksForeign (line : List ℕ) : Type 0 where
  some : 1 ≤ length line
  ends : EndsLine line
  lacks : (byte : ℕ) → IsForeignByte byte → All (λ b. b ≢ byte) line

tick_ends : (k time gone : ℕ) → (1 ≤ length (tick_line k time gone)) × EndsLine (tick_line k time gone)
unfolding tick_line
tick_ends k time gone =
    (omega arith, inr (codes "tick " ++ decimal k ++ codes " time " ++ decimal time ++ codes " out " ++ decimal gone, refl))

tick_lacks : (k time gone : ℕ) → k < 2 ^ 64 → time < 2 ^ 64 → gone < 2 ^ 64 → LacksForeign (tick_line k time gone)
tick_lacks k time gone few_k few_time few_gone =
    let both = tick_ends k time gone in
    record {
      some = both.0;
      ends = both.1;
      lacks = λ byte foreign. foreign.nowhere k time gone few_k few_time few_gone;
    }

last_byte : (line : List ℕ) → EndsLine line → 1 ≤ length line → get_or line (length line - 1) 0 ≡ 10
last_byte line ends some = last_feed [] line line ends refl some

-- from a place on a list has the first bytes of a text
abbrev HasFrom : List ℕ → ℕ → List ℕ → ℕ → Type 0
HasFrom whole place text n = (i : ℕ) → i < n → get_or whole (place + i) 0 ≡ get_or text i 0

has_from : (whole said part rest text : List ℕ) → whole ≡ said ++ part → text ≡ part ++ rest
    → HasFrom whole (length said) text (length part)
has_from whole said part rest text is text_is i below =
    ap (λ l. get_or l (length said + i) 0) is ∙ get_or-append-add said part i 0 ∙ sym (get_or-append part rest 0 i below)
    ∙ sym (ap (λ l. get_or l i 0) text_is)

-- Two lines that end at one place: the one with a foreign byte isn't one without, which would begin behind that byte,
none_behind : (before line text : List ℕ) (from end : ℕ) → EndsLine before → LacksForeign line
    → HasFrom (before ++ line) from text (end + 1) → from + (end + 1) ≡ length before + length line
    → (has : HasForeignByte text end) → from + has.place < length before → ⊥
none_behind before line text from end begins is bytes size has early =
    let last = length before - 1 in
    let i = last - from in
    let there : from + i ≡ last = omega (arith, early) in
    let inside : i < end = omega (arith, early, size, is.some) in
    let feed = get_or-append before line 0 last (omega (arith, early)) ∙ last_byte before begins (omega (arith, early)) in
    has.within i (omega (arith, early)) inside
    (sym (bytes i (omega (arith, inside))) ∙ ap (λ m. get_or (before ++ line) m 0) there ∙ feed)

-- or have it.
none_holds : (before line text : List ℕ) (from end : ℕ) → LacksForeign line
    → HasFrom (before ++ line) from text (end + 1) → from + (end + 1) ≡ length before + length line
    → (has : HasForeignByte text end) → length before ≤ from + has.place → ⊥
none_holds before line text from end is bytes size has late =
    let i = from + has.place - length before in
    let there : length before + i ≡ from + has.place = omega (arith, late) in
    is.lacks (get_or text has.place 0) has.foreign i 0 (omega (arith, late, size, has.before))
    (sym (get_or-append-add before line i 0) ∙ ap (λ m. get_or (before ++ line) m 0) there
    ∙ bytes has.place (omega (arith, has.before)))

-- So no line of a tick ends within such a text.
none_ends : (said part rest text before line : List ℕ) (end : ℕ) → length part ≡ end + 1 → IsOtherText text
    → text ≡ part ++ rest → EndsLine before → LacksForeign line → before ++ line ≡ said ++ part → ⊥
none_ends said part rest text before line end long other text_is begins is same =
    let from = length said in
    let bytes = has_from (before ++ line) said part rest text same text_is in
    let bytes_to : HasFrom (before ++ line) from text (end + 1) = λ i below. bytes i (omega (arith, long, below)) in
    let size : from + (end + 1) ≡ length before + length line = omega (
      arith,
      long,
      length-append before line,
      ap length same,
      length-append said part,
    ) in
    let last = length line - 1 in
    let at : from + end ≡ length before + last = omega (arith, size, is.some) in
    let feed = sym (bytes_to end (omega arith)) ∙ ap (λ i. get_or (before ++ line) i 0) at
    ∙ get_or-append-add before line last 0 ∙ last_byte line is.ends is.some in
    let has = other.each end (omega (arith, long, ap length text_is, length-append part rest)) feed in
    elim (cases_lt (from + has.place) (length before)) [
      | inl early ↦ none_behind before line text from end begins is bytes_to size has early
      | inr late ↦ none_holds before line text from end is bytes_to size has late
    ]

-- One that ends no later than what was said before was told before.
told_before : (n j : ℕ) (said text : List ℕ) (told : Acknowledges (said ++ take n text) j) (part : List ℕ) → IsOtherText text
    → told.before ++ tick_line j told.time told.gone ≡ said ++ part → take n text ≡ part ++ told.behind → Acknowledges said j
told_before n j said text told [] other at first =
    let line = tick_line j told.time told.gone in
    told_earlier said (take n text) j told line [] (sym (append-nil said) ∙ sym at) (sym (append-nil line))
told_before n j said text told (x ∷ part) other at first =
    absurd (none_ends said (x ∷ part) (told.behind ++ drop n text) text told.before (tick_line j told.time told.gone)
    (length part) (omega arith) other (whole_line n text (x ∷ part) told.behind first) told.begins
    (tick_lacks j told.time told.gone told.tick told.time_fits told.gone_fits) at)

pub told_other : (k n : ℕ) (said text : List ℕ) → IsOtherText text → IsAcknowledgedUpTo k said → IsAcknowledgedUpTo k (said ++ take n text)
told_other k n said text other up j told =
    let line = tick_line j told.time told.gone in
    let there = told.there ∙ sym (append_assoc told.before line told.behind) in
    elim (split_either said (take n text) (told.before ++ line) told.behind there) [
      | inl at ↦ up j (told_before n j said text told at.0 other at.1 at.2)
      | inr at ↦
          let holds = at.1 ∙ append_assoc told.before line at.0 in
          up j (told_earlier said (take n text) j told (line ++ at.0) at.0 holds refl)
    ]
