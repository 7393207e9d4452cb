-- The elements of a list, one after the other, before and after.
use Rattle.std.proofs.Common.{◌≡◌, ℕ, zero, suc, ◌+◌, ◌<◌, ◌≤◌, List, [], ◌∷◌, length, get_or, set, get_or-set_other, get_or-set_same, sym, ◌∙◌, refl, arith, subst, inl, inr}
use Rattle.std.specs.Prelude.{◌≢◌}
use Rattle.std.proofs.lemmas.Bool.{cases_lt}
use Rattle.nb_walk.specs.Running.{EachAt}

-- ---- one element of a list at a time

pub each_none : {A : Type 0} (R : ℕ → A → A → Type 0) (old now : List A) → EachAt R 0 old now
each_none R old now k d below = absurd (omega arith)

pub each_more : {A : Type 0} (R : ℕ → A → A → Type 0) (old now : List A) (i : ℕ) (w : A) → EachAt R i old now → i < length now → ((d : A) → R i (get_or old i d) w) → EachAt R (i + 1) old (set now i w)
each_more R old now i w each within own k d below = elim (cases_lt k i) [
  | inl before ↦
      let other : k ≢ i = omega arith in
      subst (R k (get_or old k d)) (sym (get_or-set_other now i k w d other)) (each k d before)
  | inr from ↦
      let same : k ≡ i = omega arith in
      subst (λ j. R j (get_or old j d) (get_or (set now i w) j d)) (sym same) (subst (R i (get_or old i d)) (sym (get_or-set_same now i w d within)) (own d))
]

-- the same without a change of the list
pub each_stays : {A : Type 0} (R : ℕ → A → A → Type 0) (old now : List A) (i : ℕ) → EachAt R i old now → ((d : A) → R i (get_or old i d) (get_or now i d)) → EachAt R (i + 1) old now
each_stays R old now i each own k d below = elim (cases_lt k i) [
  | inl before ↦ each k d before
  | inr from ↦
      let same : k ≡ i = omega arith in
      subst (λ j. R j (get_or old j d) (get_or now j d)) (sym same) (own d)
]

-- from an index on the elements are as they were
abbrev pub SameFrom : {A : Type 0} → ℕ → List A → List A → Type 0
SameFrom {A} from old now = (k : ℕ) (d : A) → from ≤ k → get_or now k d ≡ get_or old k d

pub same_more : {A : Type 0} (old now : List A) (i : ℕ) (w : A) → SameFrom i old now → SameFrom (i + 1) old (set now i w)
same_more old now i w same k d from =
    let other : k ≢ i = omega arith in
    get_or-set_other now i k w d other ∙ same k d (omega arith)

pub same_later : {A : Type 0} (old now : List A) (i : ℕ) → SameFrom i old now → SameFrom (i + 1) old now
same_later old now i same k d from = same k d (omega arith)

pub each_all : {A : Type 0} (R : ℕ → A → A → Type 0) (old now : List A) (i n : ℕ) → EachAt R i old now → SameFrom i old now → ((k : ℕ) (d : A) → i ≤ k → k < n → R k (get_or old k d) (get_or old k d)) → EachAt R n old now
each_all R old now i n each same still k d below = elim (cases_lt k i) [
  | inl before ↦ each k d before
  | inr from ↦ subst (R k (get_or old k d)) (sym (same k d from)) (still k d from below)
]

-- ---- an element that is there

pub any_default : {A : Type 0} (xs : List A) (i : ℕ) (d e : A) → i < length xs → get_or xs i d ≡ get_or xs i e
any_default [] i d e within = absurd (omega arith)
any_default (x ∷ xs) zero d e within = refl
any_default (x ∷ xs) (suc i) d e within = any_default xs i d e (omega arith)

-- the element at the index of the loop, before its turn
pub item_at : {A : Type 0} (old now : List A) (i : ℕ) (e : A) → i < length now → SameFrom i old now → (d : A) → get_or now i e ≡ get_or old i d
item_at old now i e within same d = any_default now i e d within ∙ same i d (omega arith)

-- where a change keeps a relation, one change more keeps it
pub each_set : {A : Type 0} (R : A → A → Type 0) (old now : List A) (n i : ℕ) (w : A) → EachAt (λ k. R) n old now → i < length now → ((d : A) → R (get_or old i d) w) → EachAt (λ k. R) n old (set now i w)
each_set R old now n i w each within own k d below = elim (cases_lt k i) [
  | inl before ↦
      let other : k ≢ i = omega arith in
      subst (R (get_or old k d)) (sym (get_or-set_other now i k w d other)) (each k d below)
  | inr from ↦ elim (cases_lt i k) [
    | inl behind ↦
        let other : k ≢ i = omega arith in
        subst (R (get_or old k d)) (sym (get_or-set_other now i k w d other)) (each k d below)
    | inr there ↦
        let same : k ≡ i = omega arith in
        subst (λ j. R (get_or old j d) (get_or (set now i w) j d)) (sym same) (subst (R (get_or old i d)) (sym (get_or-set_same now i w d within)) (own d))
  ]
]
