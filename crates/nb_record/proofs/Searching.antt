-- The search for a key, record by record.
use Rattle.std.proofs.Common.{◌≡◌, ℕ, zero, suc, ◌+◌, ◌-◌, ◌<◌, ◌≤◌, List, Some, None, eqb, sym, ap, ◌∙◌, refl, inl, inr, arith}
use Rattle.std.specs.Prelude.{◌≢◌}
use Rattle.std.proofs.lemmas.Bool.{cond-true, cond-false, eq-eqb, ne_eqb, cases_eq}
use Rattle.std.proofs.lemmas.Option.{same_Some}
use Rattle.nb_record.specs.Fields.{u64_at}
use Rattle.nb_record.specs.Records.{cell_record}
use Rattle.nb_record.specs.Looking.{find_key}

find_here_suc : (n i key : ℕ) (bytes : List ℕ) → u64_at 0 (cell_record i bytes) ≡ key → find_key (suc n) i key bytes ≡ Some i
unfolding find_key
find_here_suc n i key bytes here = cond-true (eqb (u64_at 0 (cell_record i bytes)) key) (Some i) (find_key n (suc i) key bytes) (eq-eqb (u64_at 0 (cell_record i bytes)) key here)

find_on_suc : (n i key : ℕ) (bytes : List ℕ) → u64_at 0 (cell_record i bytes) ≢ key → find_key (suc n) i key bytes ≡ find_key n (suc i) key bytes
unfolding find_key
find_on_suc n i key bytes other = cond-false (eqb (u64_at 0 (cell_record i bytes)) key) (Some i) (find_key n (suc i) key bytes) (ne_eqb (u64_at 0 (cell_record i bytes)) key other)

pub find_here : (count i key : ℕ) (bytes : List ℕ) → i < count → u64_at 0 (cell_record i bytes) ≡ key → find_key (count - i) i key bytes ≡ Some i
find_here count i key bytes more here =
    let some : count - i ≡ suc (count - suc i) = omega arith in
    ap (λ n. find_key n i key bytes) some ∙ find_here_suc (count - suc i) i key bytes here

pub find_on : (count i key : ℕ) (bytes : List ℕ) → i < count → u64_at 0 (cell_record i bytes) ≢ key → find_key (count - i) i key bytes ≡ find_key (count - (i + 1)) (i + 1) key bytes
find_on count i key bytes more other =
    let some : count - i ≡ suc (count - suc i) = omega arith in
    let next : suc i ≡ i + 1 = omega arith in
    ap (λ n. find_key n i key bytes) some ∙ find_on_suc (count - suc i) i key bytes other ∙ ap (λ j. find_key (count - j) j key bytes) next

pub find_end : (count i key : ℕ) (bytes : List ℕ) → count ≤ i → find_key (count - i) i key bytes ≡ None
unfolding find_key
find_end count i key bytes all =
    let none : count - i ≡ 0 = omega arith in
    ap (λ n. find_key n i key bytes) none

-- ---- what a search says

find_none_of_none : (i key : ℕ) (bytes : List ℕ) → find_key 0 i key bytes ≡ None
unfolding find_key
find_none_of_none i key bytes = refl

pub find_some : (n i key : ℕ) (bytes : List ℕ) (j : ℕ) → find_key n i key bytes ≡ Some j → (i ≤ j) × (j < i + n) × (u64_at 0 (cell_record j bytes) ≡ key)
find_some zero i key bytes j is =
    let none = find_none_of_none i key bytes in
    absurd (cc)
find_some (suc n) i key bytes j is =
    elim (cases_eq (u64_at 0 (cell_record i bytes)) key) [
      | inl here ↦
          let same : i ≡ j = same_Some i j (sym (find_here_suc n i key bytes here) ∙ is) in
          (omega arith, omega arith, ap (λ k. u64_at 0 (cell_record k bytes)) (sym same) ∙ here)
      | inr other ↦
          let rest = find_some n (suc i) key bytes j (sym (find_on_suc n i key bytes other) ∙ is) in
          (omega (arith, rest.0), omega (arith, rest.1), rest.2)
    ]

pub find_first : (n i key : ℕ) (bytes : List ℕ) (j : ℕ) → find_key n i key bytes ≡ Some j → (k : ℕ) → i ≤ k → k < j → u64_at 0 (cell_record k bytes) ≢ key
find_first zero i key bytes j is k from before =
    let none = find_none_of_none i key bytes in
    absurd (cc)
find_first (suc n) i key bytes j is k from before =
    elim (cases_eq (u64_at 0 (cell_record i bytes)) key) [
      | inl here ↦
          let same : i ≡ j = same_Some i j (sym (find_here_suc n i key bytes here) ∙ is) in
          absurd (omega arith)
      | inr other ↦ elim (cases_eq i k) [
        | inl first ↦ λ here. other (ap (λ l. u64_at 0 (cell_record l bytes)) first ∙ here)
        | inr later ↦ find_first n (suc i) key bytes j (sym (find_on_suc n i key bytes other) ∙ is) k (omega arith) before
      ]
    ]

pub find_none : (n i key : ℕ) (bytes : List ℕ) → find_key n i key bytes ≡ None → (k : ℕ) → i ≤ k → k < i + n → u64_at 0 (cell_record k bytes) ≢ key
find_none zero i key bytes is k from to = absurd (omega arith)
find_none (suc n) i key bytes is k from to =
    elim (cases_eq (u64_at 0 (cell_record i bytes)) key) [
      | inl here ↦
          let some = find_here_suc n i key bytes here in
          absurd (cc)
      | inr other ↦ elim (cases_eq i k) [
        | inl first ↦ λ here. other (ap (λ l. u64_at 0 (cell_record l bytes)) first ∙ here)
        | inr later ↦ find_none n (suc i) key bytes (sym (find_on_suc n i key bytes other) ∙ is) k (omega arith) (omega arith)
      ]
    ]

pub find_lacks : (n i key : ℕ) (bytes : List ℕ) → ((k : ℕ) → i ≤ k → k < i + n → u64_at 0 (cell_record k bytes) ≢ key) → find_key n i key bytes ≡ None
find_lacks zero i key bytes lacks = find_none_of_none i key bytes
find_lacks (suc n) i key bytes lacks =
    find_on_suc n i key bytes (lacks i (omega arith) (omega arith)) ∙ find_lacks n (suc i) key bytes (λ k from to. lacks k (omega arith) (omega arith))
