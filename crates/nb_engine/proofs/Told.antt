-- Which ticks are acknowledged by what is said.
use Rattle.std.proofs.Common.{◌≡◌, ℕ, ◌+◌, ◌-◌, ◌^◌, ◌<◌, ◌≤◌, ◌⊎◌, inl, inr, List, [], ◌∷◌, ◌++◌, length, get_or, take, sym, ap, ◌∙◌, arith, append-nil, length-append}
use Rattle.std.proofs.Math.Seq.{get_or-append_seam}
use Rattle.std.proofs.lemmas.List.{get_or-append-add}
use Rattle.nb_format.specs.Lines.{tick_line}
use Rattle.nb_format.specs.LineEnds.{IsOneLine}
use Rattle.nb_engine.specs.Acknowledged.{EndsLine, Acknowledges, IsAcknowledgedUpTo}
use Rattle.nb_engine.proofs.TickLines.{IsTickLine, tick_line-is, split_either, same_line, none_behind_feed, none_cut}

-- what is known of the lines of ticks
abbrev pub TicksAreLines : Type 0
TicksAreLines = (k time out : ℕ) → k < 2 ^ 128 → time < 2 ^ 128 → out < 2 ^ 128 → IsOneLine (tick_line k time out)

abbrev pub EachTellsOne : Type 0
EachTellsOne = (k time out l when gone : ℕ) → k < 2 ^ 64 → time < 2 ^ 64 → out < 2 ^ 64 → l < 2 ^ 64 → when < 2 ^ 64
    → gone < 2 ^ 64
    → tick_line k time out ≡ tick_line l when gone → (k ≡ l) × (time ≡ when) × (out ≡ gone)

acknowledging : TicksAreLines → (said : List ℕ) (j : ℕ) (told : Acknowledges said j)
    → IsTickLine (tick_line j told.time told.gone)
acknowledging lines said j told =
    tick_line-is j told.time told.gone told.tick told.time_fits told.gone_fits
    (lines j told.time told.gone (omega (arith, told.tick)) (omega (arith, told.time_fits)) (omega (arith, told.gone_fits)))

pub none_told : TicksAreLines → (k : ℕ) → IsAcknowledgedUpTo k []
none_told lines k j told =
    let line = tick_line j told.time told.gone in
    let is = acknowledging lines [] j told in
    absurd (omega (
      arith,
      ap length told.there,
      length-append told.before (line ++ told.behind),
      length-append line told.behind,
      is.long,
    ))

pub told_more : (i k : ℕ) (said : List ℕ) → i ≤ k → IsAcknowledgedUpTo i said → IsAcknowledgedUpTo k said
told_more i k said less up j told = omega (arith, less, up j told)

-- the last byte of a text that ends a line, of which the last bytes aren't none
pub last_feed : (said part before : List ℕ) → EndsLine before → before ≡ said ++ part → 1 ≤ length part
    → get_or part (length part - 1) 0 ≡ 10
last_feed said part before (inl none) is some =
    absurd (omega (arith, ap length none, ap length is, length-append said part))
last_feed said part before (inr end) is some =
    let front = end.0 in
    let same = sym is ∙ end.1 in
    let size = sym (length-append said part) ∙ ap length same ∙ length-append front (10 ∷ []) in
    let at : length said + (length part - 1) ≡ length front = omega (arith, size) in
    sym (get_or-append-add said part (length part - 1) 0) ∙ ap (λ l. get_or l (length said + (length part - 1)) 0) same
    ∙ ap (λ i. get_or (front ++ 10 ∷ []) i 0) at ∙ get_or-append_seam front 10 [] 0

-- a line that begins behind what was said before is the line that is said
begins_behind : (n : ℕ) (line other said part before behind : List ℕ) → IsTickLine line → IsTickLine other → EndsLine before
    → before ≡ said ++ part → take n line ≡ part ++ (other ++ behind) → line ≡ other
begins_behind n line other said [] before behind is other_is ends at first = same_line n line other behind is other_is first
begins_behind n line other said (x ∷ part) before behind is other_is ends at first =
    absurd (none_behind_feed n line (x ∷ part) other behind is other_is first (omega arith)
    (last_feed said (x ∷ part) before ends at (omega arith)))

-- One that begins in what was said before ends there, or is the line that is said.
begins_before : (n : ℕ) (line other front part behind : List ℕ) → IsTickLine line → IsTickLine other → other ≡ front ++ part
    → take n line ≡ part ++ behind → (line ≡ other) ⊎ (front ≡ other ++ [])
begins_before n line other [] part behind is other_is cut first =
    inl (same_line n line other behind is other_is (first ∙ ap (λ l. l ++ behind) (sym cut)))
begins_before n line other (x ∷ front) [] behind is other_is cut first =
    inr (sym (append-nil other ∙ cut ∙ append-nil (x ∷ front)))
begins_before n line other (x ∷ front) (y ∷ part) behind is other_is cut first =
    absurd (none_cut n line (x ∷ front) (y ∷ part) other behind is other_is cut first (omega arith) (omega arith))

-- a line that ends within what was said before
pub told_earlier : (said more : List ℕ) (j : ℕ) (told : Acknowledges (said ++ more) j) (part rest : List ℕ) → said
    ≡ told.before ++ part
    → part ≡ tick_line j told.time told.gone ++ rest → Acknowledges said j
told_earlier said more j told part rest at holds = record {
  time = told.time;
  gone = told.gone;
  before = told.before;
  behind = rest;
  begins = told.begins;
  tick = told.tick;
  time_fits = told.time_fits;
  gone_fits = told.gone_fits;
  there = at ∙ ap (λ l. told.before ++ l) holds;
}

-- What is told by one line more, perhaps in part, was told before, or is its tick.
told_by : TicksAreLines → (line said : List ℕ) (n j : ℕ) → IsTickLine line → (told : Acknowledges (said ++ take n line) j)
    → Acknowledges said j ⊎ (line ≡ tick_line j told.time told.gone)
told_by lines line said n j is told =
    let other = tick_line j told.time told.gone in
    let other_is = acknowledging lines (said ++ take n line) j told in
    elim (split_either said (take n line) told.before (other ++ told.behind) told.there) [
      | inl at ↦ inr (begins_behind n line other said at.0 told.before told.behind is other_is told.begins at.1 at.2)
      | inr at ↦ elim (split_either other told.behind at.0 (take n line) at.2) [
        | inl inner ↦ inl (told_earlier said (take n line) j told at.0 inner.0 at.1 inner.1)
        | inr inner ↦ elim (begins_before n line other at.0 inner.0 told.behind is other_is inner.1 inner.2) [
          | inl same ↦ inr same
          | inr all ↦ inl (told_earlier said (take n line) j told at.0 [] at.1 all)
        ]
      ]
    ]

pub told_line : TicksAreLines → EachTellsOne → (k time gone n : ℕ) (said : List ℕ) → k < 2 ^ 64 → time < 2 ^ 64 → gone < 2 ^ 64
    → IsAcknowledgedUpTo k said → IsAcknowledgedUpTo k (said ++ take n (tick_line k time gone))
told_line lines one k time gone n said few_k few_time few_gone up j told =
    let line = tick_line k time gone in
    let is = tick_line-is k time gone few_k few_time few_gone (lines k time gone (omega arith) (omega arith) (omega arith)) in
    elim (told_by lines line said n j is told) [
      | inl before ↦ up j before
      | inr same ↦
          let both = one k time gone j told.time told.gone few_k few_time few_gone told.tick told.time_fits told.gone_fits same in
          omega (arith, both.0)
    ]
