-- A sum of vectors depends on no order, and its parts are sums of their own.
use Rattle.std.proofs.Common.{◌≡◌, ℤ, pos, ◌+ℤ◌, List, [], ◌∷◌, ◌++◌, sym, ap, ◌∙◌, refl, arith}
use Rattle.std.specs.Prelude.{fold, IsPermutation}
use Rattle.std.proofs.lemmas.Int.{ints}
use Rattle.nb_model.specs.declared.body.V3.{V3}
use Rattle.nb_model.specs.Vector.{zero_vector, plus, vector_sum}
use Rattle.nb_model.proofs.Facts.{same_vector}
use Rattle.nb_record.proofs.Moves.{permutation_keeps}

-- ---- one axis

none_first : (a : ℤ) → pos 0 +ℤ a ≡ a
none_first a = omega (arith, ints)

none_last : (a : ℤ) → a +ℤ pos 0 ≡ a
none_last a = omega (arith, ints)

swapped : (a b : ℤ) → a +ℤ b ≡ b +ℤ a
swapped a b = omega (arith, ints)

regrouped : (a b c : ℤ) → (a +ℤ b) +ℤ c ≡ a +ℤ (b +ℤ c)
regrouped a b c = omega (arith, ints)

-- ---- the three together

pub plus-zero : (a : V3) → plus a zero_vector ≡ a
plus-zero a = same_vector (plus a zero_vector) a (none_last a.x) (none_last a.y) (none_last a.z)

zero-plus : (a : V3) → plus zero_vector a ≡ a
zero-plus a = same_vector (plus zero_vector a) a (none_first a.x) (none_first a.y) (none_first a.z)

pub plus_comm : (a b : V3) → plus a b ≡ plus b a
plus_comm a b = same_vector (plus a b) (plus b a) (swapped a.x b.x) (swapped a.y b.y) (swapped a.z b.z)

pub plus_assoc : (a b c : V3) → plus (plus a b) c ≡ plus a (plus b c)
plus_assoc a b c = same_vector (plus (plus a b) c) (plus a (plus b c)) (regrouped a.x b.x c.x) (regrouped a.y b.y c.y) (regrouped a.z b.z c.z)

-- ---- sums

sum_from : (a : V3) (vs : List V3) → fold plus a vs ≡ plus a (vector_sum vs)
sum_from a [] = sym (plus-zero a)
sum_from a (v ∷ vs) =
    sum_from (plus a v) vs
    ∙ plus_assoc a v (vector_sum vs)
    ∙ ap (λ w. plus a (plus w (vector_sum vs))) (sym (zero-plus v))
    ∙ ap (plus a) (sym (sum_from (plus zero_vector v) vs))

pub vector_sum-cons : (v : V3) (vs : List V3) → vector_sum (v ∷ vs) ≡ plus v (vector_sum vs)
vector_sum-cons v vs = sum_from (plus zero_vector v) vs ∙ ap (λ w. plus w (vector_sum vs)) (zero-plus v)

pub vector_sum-append : (vs ws : List V3) → vector_sum (vs ++ ws) ≡ plus (vector_sum vs) (vector_sum ws)
vector_sum-append [] ws = sym (zero-plus (vector_sum ws))
vector_sum-append (v ∷ vs) ws =
    vector_sum-cons v (vs ++ ws)
    ∙ ap (plus v) (vector_sum-append vs ws)
    ∙ sym (plus_assoc v (vector_sum vs) (vector_sum ws))
    ∙ ap (λ s. plus s (vector_sum ws)) (sym (vector_sum-cons v vs))

exchanged : (v w s : V3) → plus v (plus w s) ≡ plus w (plus v s)
exchanged v w s = sym (plus_assoc v w s) ∙ ap (λ t. plus t s) (plus_comm v w) ∙ plus_assoc w v s

pub vector_sum-IsPermutation : (vs ws : List V3) → IsPermutation vs ws → vector_sum vs ≡ vector_sum ws
vector_sum-IsPermutation vs ws is =
    permutation_keeps (λ fs gs. vector_sum fs ≡ vector_sum gs)
    (record {
      same = λ fs. refl;
      join = λ fs gs hs one other. one ∙ other;
      more = λ v fs gs one. vector_sum-cons v fs ∙ ap (plus v) one ∙ sym (vector_sum-cons v gs);
      exchange = λ v w fs. vector_sum-cons v (w ∷ fs) ∙ ap (plus v) (vector_sum-cons w fs) ∙ exchanged v w (vector_sum fs) ∙ ap (plus w) (sym (vector_sum-cons v fs)) ∙ sym (vector_sum-cons w (v ∷ fs));
    })
    vs ws is
