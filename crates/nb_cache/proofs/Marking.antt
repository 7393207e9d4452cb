-- The files that are marked.
use Rattle.std.proofs.Common.{◌≡◌, ◌≢◌, ℕ, zero, suc, ◌+◌, ◌-◌, ◌<◌, ◌≤◌, ◌⊎◌, ◌↔◌, inl, inr, Bool, true, false, List, [], ◌∷◌, length, filter, set, get_or, refl, sym, ap, subst, ◌∙◌, arith, Contains, get_or-set_same, get_or-set_other}
use Rattle.lru.proofs.Splits.{Contains-head, Contains-tail, Contains-cons, Contains-nil}
use Rattle.nb_cache.specs.Marks.{marked_files}
use Rattle.nb_cache.proofs.Fitting.{same_or}

-- what passes a test
Contains-filter : (test : ℕ → Bool) (xs : List ℕ) (x : ℕ) → Contains (filter test xs) x
    → Contains xs x × (test x ≡ true)
Contains-filter test [] x has = absurd (Contains-nil x has)
Contains-filter test (y ∷ xs) x has = (elim (test y) as (λ b. test y ≡ b → Contains (y ∷ xs) x × (test x ≡ true)) [
  | true ↦ λ here. elim (Contains-cons y (filter test xs) x (rw here at has)) [
    | inl same ↦ (subst (Contains (y ∷ xs)) same (Contains-head y xs), subst (λ z. test z ≡ true) same here)
    | inr there ↦ let one = Contains-filter test xs x there in (Contains-tail y xs x one.0, one.1)
  ]
  | false ↦ λ here. let one = Contains-filter test xs x (rw here at has) in (Contains-tail y xs x one.0, one.1)
]) refl

filter-Contains : (test : ℕ → Bool) (xs : List ℕ) (x : ℕ) → Contains xs x → test x ≡ true
    → Contains (filter test xs) x
filter-Contains test [] x has passes = absurd (Contains-nil x has)
filter-Contains test (y ∷ xs) x has passes = (elim (test y) as (λ b. test y ≡ b → Contains (filter test (y ∷ xs)) x) [
  | true ↦ λ here. rw here (elim (Contains-cons y xs x has) [
    | inl same ↦ subst (Contains (y ∷ filter test xs)) same (Contains-head y (filter test xs))
    | inr there ↦ Contains-tail y (filter test xs) x (filter-Contains test xs x there passes)
  ])
  | false ↦ λ here. rw here (elim (Contains-cons y xs x has) [
    | inl same ↦ let two : false ≡ true = sym here ∙ ap test same ∙ passes in (cc)
    | inr there ↦ filter-Contains test xs x there passes
  ])
]) refl

abbrev files : List ℕ
files = 3 ∷ 4 ∷ 5 ∷ 6 ∷ 7 ∷ []

-- the files that go through a cache are those from 3 to 7
from_files : (file : ℕ) → Contains files file → 3 ≤ file
from_files file has = elim (Contains-cons 3 (4 ∷ 5 ∷ 6 ∷ 7 ∷ []) file has) [
  | inl is ↦ omega (arith, is)
  | inr more ↦ elim (Contains-cons 4 (5 ∷ 6 ∷ 7 ∷ []) file more) [
    | inl is ↦ omega (arith, is)
    | inr more ↦ elim (Contains-cons 5 (6 ∷ 7 ∷ []) file more) [
      | inl is ↦ omega (arith, is)
      | inr more ↦ elim (Contains-cons 6 (7 ∷ []) file more) [
        | inl is ↦ omega (arith, is)
        | inr more ↦ elim (Contains-cons 7 [] file more) [
          | inl is ↦ omega (arith, is)
          | inr none ↦ absurd (Contains-nil file none)
        ]
      ]
    ]
  ]
]

to_files : (file : ℕ) → 3 ≤ file → file ≤ 7 → Contains files file
to_files file least greatest =
    let back : 3 + (file - 3) ≡ file = omega (arith, least) in
    subst (Contains files) back (at (file - 3) (omega (arith, greatest)))
  where
    at : (n : ℕ) → n < 5 → Contains files (3 + n)
    at zero few = (0, omega arith, refl)
    at (suc zero) few = (1, omega arith, refl)
    at (suc (suc zero)) few = (2, omega arith, refl)
    at (suc (suc (suc zero))) few = (3, omega arith, refl)
    at (suc (suc (suc (suc zero)))) few = (4, omega arith, refl)
    at (suc (suc (suc (suc (suc n))))) few = absurd (omega (arith, few))

-- whether a file has its mark
abbrev is_marked : List Bool → ℕ → Bool
is_marked marks file = get_or marks (file - 3) false

module _ (marks : List Bool) (all : length marks ≡ 5) (file : ℕ) (least : 3 ≤ file) (greatest : file ≤ 7) where
  other_place : (other : ℕ) → 3 ≤ other → other ≢ file → (other - 3) ≢ (file - 3)
  other_place other from apart same = apart (omega (arith, least, from, same))

  pub marked : (other : ℕ) → (Contains (marked_files (set marks (file - 3) true)) other
      ↔ ((other ≡ file) ⊎ Contains (marked_files marks) other))
  marked other = (there, back)
    where
      there : Contains (marked_files (set marks (file - 3) true)) other
          → (other ≡ file) ⊎ Contains (marked_files marks) other
      there has =
          let one = Contains-filter (is_marked (set marks (file - 3) true)) files other has in
          elim (same_or other file) [
            | inl same ↦ inl same
            | inr apart ↦ inr (filter-Contains (is_marked marks) files other one.0
                (sym (get_or-set_other marks (file - 3) (other - 3) true false (other_place other (from_files other one.0) apart))
                ∙ one.1))
          ]

      itself : other ≡ file → Contains (marked_files (set marks (file - 3) true)) other
      itself same =
          subst (Contains (marked_files (set marks (file - 3) true))) (sym same)
          (filter-Contains (is_marked (set marks (file - 3) true)) files file (to_files file least greatest)
          (get_or-set_same marks (file - 3) true false (omega (arith, all, greatest))))

      before : Contains (marked_files marks) other → Contains (marked_files (set marks (file - 3) true)) other
      before has =
          let one = Contains-filter (is_marked marks) files other has in
          elim (same_or other file) [
            | inl same ↦ itself same
            | inr apart ↦ filter-Contains (is_marked (set marks (file - 3) true)) files other one.0
                (get_or-set_other marks (file - 3) (other - 3) true false
                (other_place other (from_files other one.0) apart)
                ∙ one.1)
          ]

      back : (other ≡ file) ⊎ Contains (marked_files marks) other
          → Contains (marked_files (set marks (file - 3) true)) other
      back (inl same) = itself same
      back (inr has) = before has

  pub unmarked : (other : ℕ) → (Contains (marked_files (set marks (file - 3) false)) other
      ↔ (Contains (marked_files marks) other × (other ≢ file)))
  unmarked other = (there, back)
    where
      there : Contains (marked_files (set marks (file - 3) false)) other
          → Contains (marked_files marks) other × (other ≢ file)
      there has =
          let one = Contains-filter (is_marked (set marks (file - 3) false)) files other has in
          elim (same_or other file) [
            | inl same ↦
                let gone : get_or (set marks (file - 3) false) (other - 3) false ≡ false =
                ap (λ n. get_or (set marks (file - 3) false) (n - 3) false) same
                ∙ get_or-set_same marks (file - 3) false false (omega (arith, all, greatest)) in
                let two : false ≡ true = sym gone ∙ one.1 in (cc)
            | inr apart ↦ (
              filter-Contains (is_marked marks) files other one.0
                  (sym (get_or-set_other marks (file - 3) (other - 3) false false (other_place other (from_files other one.0) apart))
                  ∙ one.1),
              apart,
            )
          ]

      back : Contains (marked_files marks) other × (other ≢ file)
          → Contains (marked_files (set marks (file - 3) false)) other
      back both =
          let one = Contains-filter (is_marked marks) files other both.0 in
          filter-Contains (is_marked (set marks (file - 3) false)) files other one.0
          (get_or-set_other marks (file - 3) (other - 3) false false (other_place other (from_files other one.0) both.1)
          ∙ one.1)
