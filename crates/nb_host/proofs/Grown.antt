-- A file that grows by zeros up to the end of a range and then takes the bytes there is a file overwritten.
use Rattle.std.proofs.Common.{◌≡◌, ℕ, ◌+◌, ◌-◌, ◌<◌, ◌≤◌, List, [], ◌∷◌, ◌++◌, length, take, drop, replicate, refl, sym, ap, ◌∙◌, inl, inr, arith}
use Rattle.std.proofs.lemmas.Bool.{cases_lt}
use Rattle.std.proofs.lemmas.Grind.{common_steps}
use Rattle.std.proofs.Math.Seq.{take-append-add}
use Rattle.std.proofs.lemmas.List.{take_at, take_all, take-replicate}
use Rattle.nb_host.specs.Image.{overwritten}

take-grown : (at k : ℕ) (file : List ℕ) → at ≤ length file + k
    → take at (file ++ replicate k 0) ≡ take at file ++ replicate (at - length file) 0
take-grown at k file reached =
    elim (cases_lt at (length file)) [
      | inl within ↦ grind (arith, common_steps)
      | inr past ↦
          let further = at - length file in
          let sum : at ≡ length file + further = omega arith in
          ap (λ (n : ℕ). take n (file ++ replicate k 0)) sum ∙ take-append-add file (replicate k 0) further
          ∙ ap (λ (rest : List ℕ). file ++ rest) (take-replicate further k 0 (omega arith))
          ∙ ap (λ (front : List ℕ). front ++ replicate further 0) (sym (take_all at file past))
    ]

drop-grown : (end : ℕ) (file : List ℕ) → drop end (file ++ replicate (end - length file) 0) ≡ drop end file
drop-grown end file =
    elim (cases_lt end (length file)) [
      | inl within ↦ grind (arith, common_steps)
      | inr past ↦ grind (arith, common_steps)
    ]

grown-overwritten : (at b : ℕ) (bytes file : List ℕ)
    → let grown = file ++ replicate (at + length (b ∷ bytes) - length file) 0 in
    take at grown ++ (b ∷ bytes) ++ drop (at + length (b ∷ bytes)) grown ≡ overwritten at (b ∷ bytes) file
grown-overwritten at b bytes file =
    let front = take-grown at (at + length (b ∷ bytes) - length file) file (omega arith) in
    let rest = drop-grown (at + length (b ∷ bytes)) file in
    rw (front, rest) refl

-- the same of a vector whose items were replaced from their beginning on
pub written_back : (at count : ℕ) (bytes file grown new : List ℕ) → 0 < length bytes
    → grown ≡ file ++ replicate (at + length bytes - length file) 0
    → new ≡ take at grown ++ bytes ++ drop (at + length bytes) grown
    → length new ≡ count → take count (new ++ drop (length new) grown) ≡ overwritten at bytes file
written_back at count [] file grown new some grows replaces counts = absurd (omega arith)
written_back at count (b ∷ bytes) file grown new some grows replaces counts =
    take_at new (drop (length new) grown) count counts ∙ replaces
    ∙ rw grows (grown-overwritten at b bytes file)
