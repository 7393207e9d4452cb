-- Files of bodies as lists of bodies with their kicks.
use Rattle.std.proofs.Common.{◌≡◌, ℕ, zero, suc, ◌+◌, ◌<◌, List, [], ◌∷◌, ◌++◌, ◌⊎◌, length, map, Some, refl, sym, ap, subst, ◌∙◌, inl, inr, arith}
use Rattle.std.specs.Prelude.{All, slice_get}
use Rattle.std.proofs.lemmas.List.{length-map, map-append}
use Rattle.std.proofs.lemmas.List.Elements.{All-nil, All-cons}
use Rattle.std.proofs.lemmas.Option.{same_Some, slice_get_within}
use Rattle.nb_model.specs.declared.body.V3.{V3}
use Rattle.nb_model.specs.declared.body.Body.{Body}
use Rattle.nb_model.specs.Limits.{kick_limit}
use Rattle.nb_model.specs.Valid.{IsBelow}
use Rattle.nb_record.specs.Order.{record_of, HoldsBodies, HoldsKickedBodies}
use Rattle.nb_record.specs.Records.{kick_of}
use Rattle.nb_order.specs.Files.{IsPushed, IsBodyAt}
use Rattle.nb_order.specs.declared.body_file.KickedBody.{KickedBody}
use Rattle.nb_tick.specs.Steps.{without_kicks, HoldsList}

pub length-without_kicks : (list : List KickedBody) → length (without_kicks list) ≡ length list
length-without_kicks list = length-map list (λ k. k.body)

-- ---- the list that a file holds

kick_there : (file : List ℕ) (i j : ℕ) → i ≡ j → kick_of (record_of file i) ≡ kick_of (record_of file j)
kick_there file i j same = ap (λ (n : ℕ). kick_of (record_of file n)) same

-- these bodies, each with the kick of the record of its number, from this number on
unfoldable pub kicks_from : List ℕ → ℕ → List Body → List KickedBody
kicks_from file j [] = []
kicks_from file j (b ∷ bs) = record { body = b; kick = kick_of (record_of file j) } ∷ kicks_from file (suc j) bs

pub without_kicks-kicks_from : (file : List ℕ) (j : ℕ) (bodies : List Body) → without_kicks (kicks_from file j bodies) ≡ bodies
unfolding kicks_from
without_kicks-kicks_from file j [] = refl
without_kicks-kicks_from file j (b ∷ bs) = ap (λ l. b ∷ l) (without_kicks-kicks_from file (suc j) bs)

kick-kicks_from : (file : List ℕ) (j : ℕ) (bodies : List Body) (i : ℕ) (k : KickedBody) → slice_get (kicks_from file j bodies) i ≡ Some k
    → kick_of (record_of file (j + i)) ≡ k.kick
unfolding kicks_from
kick-kicks_from file j [] i k is = absurd (cc)
kick-kicks_from file j (b ∷ bs) zero k is =
    kick_there file (j + 0) j (omega arith)
    ∙ ap (λ (one : KickedBody). one.kick) (same_Some (record { body = b; kick = kick_of (record_of file j) }) k is)
kick-kicks_from file j (b ∷ bs) (suc i) k is =
    kick_there file (j + suc i) (suc j + i) (omega arith) ∙ kick-kicks_from file (suc j) bs i k is

All-kicks_from : (P : V3 → Type 0) (file : List ℕ) (j : ℕ) (bodies : List Body) → ((i : ℕ) → i < length bodies → P (kick_of (record_of file (j + i))))
    → All (λ k. P k.kick) (kicks_from file j bodies)
unfolding kicks_from
All-kicks_from P file j [] each = All-nil (λ (k : KickedBody). P k.kick)
All-kicks_from P file j (b ∷ bs) each =
    All-cons (λ (k : KickedBody). P k.kick) (record { body = b; kick = kick_of (record_of file j) }) (kicks_from file (suc j) bs)
    (subst P (kick_there file (j + 0) j (omega arith)) (each 0 (omega arith)))
    (All-kicks_from P file (suc j) bs (λ i below. subst P (kick_there file (j + suc i) (suc j + i) (omega arith)) (each (suc i) (omega arith))))

kicks_from-known : (file : List ℕ) (kick : Body → V3) (j : ℕ) (bodies : List Body)
    → ((i : ℕ) (b : Body) → slice_get bodies i ≡ Some b → kick_of (record_of file (j + i)) ≡ kick b)
    → kicks_from file j bodies ≡ map (λ b. record { body = b; kick = kick b }) bodies
unfolding kicks_from
kicks_from-known file kick j [] each = refl
kicks_from-known file kick j (b ∷ bs) each =
    let here : kick_of (record_of file j) ≡ kick b = kick_there file j (j + 0) (omega arith) ∙ each 0 b refl in
    let rest = kicks_from-known file kick (suc j) bs
    (λ i c at. kick_there file (suc j + i) (j + suc i) (omega arith) ∙ each (suc i) c at) in
    λ t. record { body = b; kick = here t } ∷ rest t

-- the bodies that a file holds, each with its kick
abbrev pub held_list : List ℕ → List Body → List KickedBody
held_list file bodies = kicks_from file 0 bodies

pub held_list-holds : (file : List ℕ) (bodies : List Body) → HoldsBodies file bodies → HoldsList file (held_list file bodies)
held_list-holds file bodies holds = record {
  bodies = subst (HoldsBodies file) (sym (without_kicks-kicks_from file 0 bodies)) holds;
  kicks = λ j k is. kick_there file j (0 + j) (omega arith) ∙ kick-kicks_from file 0 bodies j k is;
}

pub held_list-range : (file : List ℕ) (bodies : List Body) → HoldsBodies file bodies → All (λ k. IsBelow kick_limit k.kick) (held_list file bodies)
held_list-range file bodies holds =
    All-kicks_from (IsBelow kick_limit) file 0 bodies
    (λ i below. subst (IsBelow kick_limit) (kick_there file i (0 + i) (omega arith)) (holds.records i below).kick)

pub held_list-known : (file : List ℕ) (kick : Body → V3) (bodies : List Body) → HoldsKickedBodies file kick bodies
    → held_list file bodies ≡ map (λ b. record { body = b; kick = kick b }) bodies
held_list-known file kick bodies holds =
    kicks_from-known file kick 0 bodies (λ i b is. kick_there file (0 + i) i (omega arith) ∙ holds.kicks i b is)

-- ---- a file with one body more

pushed_cases : (list : List KickedBody) (k one : KickedBody) (j : ℕ) → slice_get (list ++ k ∷ []) j ≡ Some one
    → (slice_get list j ≡ Some one) × (j < length list) ⊎ ((j ≡ length list) × (k ≡ one))
pushed_cases [] k one zero is = inr (refl, same_Some k one is)
pushed_cases [] k one (suc j) is = absurd (cc)
pushed_cases (x ∷ list) k one zero is = inl (is, omega arith)
pushed_cases (x ∷ list) k one (suc j) is = elim (pushed_cases list k one j is) [
  | inl before ↦ inl (before.0, omega (arith, before.1))
  | inr last ↦ inr (ap suc last.0, last.1)
]

pub list_pushed : (old new : List ℕ) (list : List KickedBody) (body : Body) (kick : V3) → HoldsList old list
    → IsPushed (without_kicks list) body kick old new → HoldsList new (list ++ record { body = body; kick = kick } ∷ [])
list_pushed old new list body kick holds pushed =
    let more : KickedBody = record { body = body; kick = kick } in
    let long = length-without_kicks list in
    record {
      bodies = subst (HoldsBodies new) (sym (map-append (λ (k : KickedBody). k.body) list (more ∷ []))) pushed.holds;
      kicks = λ j k is. elim (pushed_cases list more k j is) [
        | inl before ↦
            ap (λ (bytes : List ℕ). kick_of bytes) (pushed.records j (omega (arith, before.1, long))) ∙ holds.kicks j k before.0
        | inr last ↦
            kick_there new j (length (without_kicks list)) (last.0 ∙ sym long) ∙ pushed.last ∙ ap (λ (one : KickedBody). one.kick) last.1
      ];
    }

-- ---- a body that was read

pub same_body : (list : List KickedBody) (j : ℕ) (k : KickedBody) (b : Body) → slice_get list j ≡ Some k → slice_get (without_kicks list) j ≡ Some b → k.body ≡ b
same_body [] j k b at is = absurd (cc)
same_body (x ∷ xs) zero k b at is = ap (λ (one : KickedBody). one.body) (sym (same_Some x k at)) ∙ same_Some x.body b is
same_body (x ∷ xs) (suc j) k b at is = same_body xs j k b at is

pub read_one : (file : List ℕ) (list : List KickedBody) (j : ℕ) (body : Body) (kick : V3) (k : KickedBody) → HoldsList file list
    → IsBodyAt file j body kick → slice_get list j ≡ Some k → k ≡ record { body = body; kick = kick }
read_one file list j body kick k holds is at =
    let within : j < length (without_kicks list) = omega (arith, slice_get_within list j k at, length-without_kicks list) in
    let one : k.body ≡ body = same_body list j k _ at (holds.bodies.held j within) ∙ sym is.body_is in
    let two : k.kick ≡ kick = sym (holds.kicks j k at) ∙ sym is.kick_is in
    λ t. record { body = one t; kick = two t }
