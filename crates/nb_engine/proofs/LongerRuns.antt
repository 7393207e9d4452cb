-- A run with one leg more: what it was up to the end of the last leg.
use Rattle.std.proofs.Common.{◌≡◌, ◌≢◌, ℕ, ◌+◌, ◌-◌, ◌^◌, ◌<◌, ◌≤◌, inl, inr, List, [], ◌∷◌, ◌++◌, length, take, replicate, sym, ap, ◌∙◌, arith, append-nil, append_assoc, length-append}
use Rattle.std.specs.Int.{abs_diff}
use Rattle.std.proofs.Math.Seq.{take-append_seam}
use Rattle.std.proofs.lemmas.Bool.{cases_lt}
use Rattle.std.proofs.lemmas.List.{take-append-le, take_all, length-replicate}
use Rattle.std.proofs.lemmas.List.Elements.{All-push}
use Rattle.nb_model.specs.declared.way.Way.TheVariants.{Forward, Back}
use Rattle.nb_model.specs.Leapfrog.{steps}
use Rattle.nb_model.specs.Legs.{directions_to, directions, time_by, EachMoves}
use Rattle.nb_model.specs.Limits.{most_ticks}
use Rattle.nb_engine.specs.Histories.{Run, state_at, time_at, IsDueAfter, run_length, IsRun}

-- the target of the last leg, or the time at the begin where there is no leg
abbrev pub end_of : ℕ → List ℕ → ℕ
end_of begin [] = begin
end_of begin (target ∷ legs) = end_of target legs

-- the run with one leg more
abbrev pub longer : ℕ → Run → Run
longer target run = record run { legs = run.legs ++ target ∷ [] }

pub length-directions_to : (from to : ℕ) → length (directions_to from to) ≡ abs_diff from to
length-directions_to from to =
    omega (
      arith,
      length-append (replicate (to - from) Forward) (replicate (from - to) Back),
      length-replicate (to - from) Forward,
      length-replicate (from - to) Back,
    )

directions-longer : (begin target : ℕ) (legs : List ℕ)
    → directions begin (legs ++ target ∷ []) ≡ directions begin legs ++ directions_to (end_of begin legs) target
directions-longer begin target [] = append-nil (directions_to begin target)
directions-longer begin target (leg ∷ legs) =
    ap (λ ways. directions_to begin leg ++ ways) (directions-longer leg target legs)
    ∙ sym (append_assoc (directions_to begin leg) (directions leg legs) (directions_to (end_of leg legs) target))

length-longer : (begin target : ℕ) (legs : List ℕ)
    → length (directions begin (legs ++ target ∷ [])) ≡ length (directions begin legs) + abs_diff (end_of begin legs) target
length-longer begin target legs =
    let last = directions_to (end_of begin legs) target in
    omega (
      arith,
      ap length (directions-longer begin target legs),
      length-append (directions begin legs) last,
      length-directions_to (end_of begin legs) target,
    )

leads-longer : (begin target : ℕ) (legs : List ℕ) → EachMoves begin legs → target ≢ end_of begin legs
    → EachMoves begin (legs ++ target ∷ [])
leads-longer begin target [] each apart = (apart, tt)
leads-longer begin target (leg ∷ legs) each apart = (each.0, leads-longer leg target legs each.1 apart)

pub run-longer : (target : ℕ) (run : Run) → IsRun run → target < 2 ^ 64 → target ≢ end_of run.begin run.legs
    → run_length run + abs_diff (end_of run.begin run.legs) target ≤ most_ticks → IsRun (longer target run)
run-longer target run is fits apart few = record {
  bodies = is.bodies;
  legs = record {
    each = leads-longer run.begin target run.legs is.legs.each apart;
    targets = All-push (λ t. t < 2 ^ 64) run.legs target is.legs.targets fits;
    count = omega (arith, length-longer run.begin target run.legs);
  };
}

-- ---- up to the end of the last leg

take-longer : (target : ℕ) (run : Run) (k : ℕ) → k ≤ run_length run
    → take k (directions run.begin (run.legs ++ target ∷ [])) ≡ take k (directions run.begin run.legs)
take-longer target run k within =
    ap (take k) (directions-longer run.begin target run.legs)
    ∙ take-append-le k (directions run.begin run.legs) (directions_to (end_of run.begin run.legs) target) within

pub state-longer : (target : ℕ) (run : Run) (k : ℕ) → k ≤ run_length run → state_at (longer target run) k ≡ state_at run k
state-longer target run k within = ap (λ ways. steps run.params ways run.bodies) (take-longer target run k within)

pub time-longer : (target : ℕ) (run : Run) (k : ℕ) → k ≤ run_length run → time_at (longer target run) k ≡ time_at run k
time-longer target run k within = ap (time_by run.begin) (take-longer target run k within)

-- what is due in a run is due in the longer one
pub due-longer : (target : ℕ) (run : Run) (k : ℕ) → IsDueAfter run k → IsDueAfter (longer target run) k
due-longer target run k is = record {
  some = is.some;
  within = omega (arith, is.within, length-longer run.begin target run.legs);
  due = elim is.due [
    | inl every ↦ inl every
    | inr ends ↦ inr (elim (cases_lt (length run.legs) ends.0) [
      | inl all ↦ (
        length run.legs,
        ends.1
            ∙ ap (λ legs. length (directions run.begin legs))
            (take_all ends.0 run.legs (omega arith) ∙ sym (take-append_seam run.legs (target ∷ []))),
      )
      | inr some ↦ (
        ends.0,
        ends.1
            ∙ ap (λ legs. length (directions run.begin legs)) (sym (take-append-le ends.0 run.legs (target ∷ []) some)),
      )
    ])
  ];
}

-- and so is what is due in the longer one, up to the end of the last leg
pub due-shorter : (target : ℕ) (run : Run) (k : ℕ) → target ≢ end_of run.begin run.legs → k ≤ run_length run
    → IsDueAfter (longer target run) k → IsDueAfter run k
due-shorter target run k apart within is = record {
  some = is.some;
  within = within;
  due = elim is.due [
    | inl every ↦ inl every
    | inr ends ↦ inr (elim (cases_lt (length run.legs) ends.0) [
      | inl beyond ↦
          let all = run.legs ++ target ∷ [] in
          let whole = take_all ends.0 all (omega (arith, length-append run.legs (target ∷ []))) in
          absurd (omega (
            arith,
            ends.1,
            ap (λ legs. length (directions run.begin legs)) whole,
            length-longer run.begin target run.legs,
          ))
      | inr some ↦
          (ends.0, ends.1 ∙ ap (λ legs. length (directions run.begin legs)) (take-append-le ends.0 run.legs (target ∷ []) some))
    ])
  ];
}
