-- A cell whose bodies all lie in one of its octants gives what that octant gives: the other octants are empty.
use Rattle.std.proofs.Common.{◌≡◌, ◌≢◌, ℕ, zero, suc, ◌+◌, ◌-◌, ◌<◌, ◌≤◌, ◌==◌, Bool, true, false, List, [], ◌∷◌, map, take, refl, ap, sym, ◌∙◌, arith}
use Rattle.std.specs.List.{filter, list_all}
use Rattle.std.proofs.lemmas.Bool.{cond-true, cond-false, and_parts, eqb-true, ne_eqb}
use Rattle.std.proofs.lemmas.Int.{ints}
use Rattle.nb_model.specs.declared.body.At.{At}
use Rattle.nb_model.specs.declared.body.V3.{V3}
use Rattle.nb_model.specs.declared.body.Body.{Body}
use Rattle.nb_model.specs.declared.params.Params.{Params}
use Rattle.nb_model.specs.Vector.{zero_vector, plus, vector_sum}
use Rattle.nb_model.specs.Octree.{octant_at, in_octant}
use Rattle.nb_model.specs.Gravity.{octants, force_on}
use Rattle.nb_model.proofs.Facts.{same_vector}
use Rattle.nb_model.proofs.Facts.{octant_forces, force_on-nil, octant_forces_more, octant_forces_all}

filter-all : {X : Type 0} (p : X → Bool) (xs : List X) → list_all p xs ≡ true → filter p xs ≡ xs
filter-all p [] all = refl
filter-all p (x ∷ xs) all =
    let both = and_parts (p x) (list_all p xs) all in
    cond-true (p x) (x ∷ filter p xs) (filter p xs) both.0 ∙ ap (λ ys. x ∷ ys) (filter-all p xs both.1)

filter-none : {X : Type 0} (p q : X → Bool) → ((x : X) → p x ≡ true → q x ≡ false) → (xs : List X) → list_all p xs ≡ true → filter q xs ≡ []
filter-none p q other [] all = refl
filter-none p q other (x ∷ xs) all =
    let both = and_parts (p x) (list_all p xs) all in
    cond-false (q x) (x ∷ filter q xs) (filter q xs) (other x both.0) ∙ filter-none p q other xs both.1

other_octant : (n o k : ℕ) → o ≢ k → (n == o) ≡ true → (n == k) ≡ false
other_octant n o k other same = ne_eqb n k (λ e. other (sym (eqb-true n o same) ∙ e))

in_octant-other : (level : ℕ) (bodies : List Body) (o k : ℕ) → list_all (λ b. octant_at level b.at == o) bodies ≡ true → o ≢ k → in_octant level bodies k ≡ []
in_octant-other level bodies o k all other =
    filter-none (λ b. octant_at level b.at == o) (λ b. octant_at level b.at == k) (λ b same. other_octant (octant_at level b.at) o k other same) bodies all

plus-zero : (v : V3) → plus v zero_vector ≡ v
plus-zero v = same_vector (plus v zero_vector) v (omega (arith, ints)) (omega (arith, ints)) (omega (arith, ints))

zero-plus : (v : V3) → plus zero_vector v ≡ v
zero-plus v = same_vector (plus zero_vector v) v (omega (arith, ints)) (omega (arith, ints)) (omega (arith, ints))

-- what the first i octants give
abbrev first_forces : Params → At → ℕ → List Body → ℕ → V3
first_forces params p level bodies i =
    vector_sum (map (λ octant. force_on params p (level + 1) (in_octant level bodies octant)) (take i octants))

force_on-other : (params : Params) (p : At) (level : ℕ) (bodies : List Body) (o k : ℕ) → list_all (λ b. octant_at level b.at == o) bodies ≡ true → o ≢ k → force_on params p (level + 1) (in_octant level bodies k) ≡ zero_vector
force_on-other params p level bodies o k all other =
    ap (λ part. force_on params p (level + 1) part) (in_octant-other level bodies o k all other) ∙ force_on-nil params p (level + 1)

first_forces-before : (params : Params) (p : At) (level : ℕ) (bodies : List Body) (o : ℕ) → list_all (λ b. octant_at level b.at == o) bodies ≡ true → o < 8 → (i : ℕ) → i ≤ o → first_forces params p level bodies i ≡ zero_vector
first_forces-before params p level bodies o all bound zero low = refl
first_forces-before params p level bodies o all bound (suc i) low =
    let one : suc i ≡ i + 1 = omega arith in
    let other : o ≢ i = omega arith in
    let before = first_forces-before params p level bodies o all bound i (omega arith) in
    ap (first_forces params p level bodies) one ∙ octant_forces_more params p level bodies i (omega arith) ∙ ap (λ v. plus v (force_on params p (level + 1) (in_octant level bodies i))) before ∙ ap (plus zero_vector) (force_on-other params p level bodies o i all other)

-- the octant that holds them, and then each one after it
first_forces-here : (params : Params) (p : At) (level : ℕ) (bodies : List Body) (o : ℕ) → list_all (λ b. octant_at level b.at == o) bodies ≡ true → o < 8 → first_forces params p level bodies (o + 1) ≡ force_on params p (level + 1) bodies
first_forces-here params p level bodies o all bound =
    let before = first_forces-before params p level bodies o all bound o (omega arith) in
    octant_forces_more params p level bodies o bound ∙ ap (λ v. plus v (force_on params p (level + 1) (in_octant level bodies o))) before ∙ zero-plus (force_on params p (level + 1) (in_octant level bodies o)) ∙ ap (λ part. force_on params p (level + 1) part) (filter-all (λ b. octant_at level b.at == o) bodies all)

first_forces-next : (params : Params) (p : At) (level : ℕ) (bodies : List Body) (o i : ℕ) → list_all (λ b. octant_at level b.at == o) bodies ≡ true → o < i → i < 8 → first_forces params p level bodies (i + 1) ≡ first_forces params p level bodies i
first_forces-next params p level bodies o i all passed bound =
    let other : o ≢ i = omega arith in
    octant_forces_more params p level bodies i bound ∙ ap (plus (first_forces params p level bodies i)) (force_on-other params p level bodies o i all other) ∙ plus-zero (first_forces params p level bodies i)

first_forces-after : (params : Params) (p : At) (level : ℕ) (bodies : List Body) (o : ℕ) → list_all (λ b. octant_at level b.at == o) bodies ≡ true → (n : ℕ) → o + 1 + n ≤ 8 → first_forces params p level bodies (o + 1 + n) ≡ force_on params p (level + 1) bodies
first_forces-after params p level bodies o all zero bound =
    let none : o + 1 + 0 ≡ o + 1 = omega arith in
    ap (first_forces params p level bodies) none ∙ first_forces-here params p level bodies o all (omega arith)
first_forces-after params p level bodies o all (suc n) bound =
    let one : o + 1 + suc n ≡ o + 1 + n + 1 = omega arith in
    ap (first_forces params p level bodies) one ∙ first_forces-next params p level bodies o (o + 1 + n) all (omega arith) (omega arith) ∙ first_forces-after params p level bodies o all n (omega arith)

pub octant_forces-one : (params : Params) (p : At) (level : ℕ) (bodies : List Body) (o : ℕ) → o < 8 → list_all (λ b. octant_at level b.at == o) bodies ≡ true → octant_forces params p level bodies ≡ force_on params p (level + 1) bodies
octant_forces-one params p level bodies o bound all =
    let last : 8 ≡ o + 1 + (7 - o) = omega arith in
    sym (octant_forces_all params p level bodies 8 (omega arith)) ∙ ap (first_forces params p level bodies) last ∙ first_forces-after params p level bodies o all (7 - o) (omega arith)
