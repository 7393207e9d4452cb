-- The pulls that a walk has taken.
use Rattle.std.proofs.Common.{◌≡◌, ℕ, zero, suc, ◌+◌, ◌-◌, ◌*◌, ◌/◌, ◌^◌, ◌<◌, ◌≤◌, ◌↔◌, eqb, ℤ, ◌+ℤ◌, List, [], ◌∷◌, ◌++◌, take, drop, Some, sym, ap, ◌∙◌, refl, arith, subst}
use Rattle.std.specs.Prelude.{unsigned_abs, sum_by, IsTrue, slice_get}
use Rattle.std.proofs.Math.Nat.{mul-le-mul_right}
use Rattle.std.proofs.lemmas.Int.{ints}
use Rattle.std.proofs.lemmas.List.{map-append}
use Rattle.std.proofs.lemmas.List.Sums.{sum_by-append, sum_by-cons}
use Rattle.nb_model.specs.declared.body.At.{At}
use Rattle.nb_model.specs.declared.body.V3.{V3}
use Rattle.nb_model.specs.declared.body.Body.{Body}
use Rattle.nb_model.specs.declared.params.Params.{Params}
use Rattle.nb_model.specs.Limits.{gm_limit}
use Rattle.nb_model.specs.Valid.{IsBelow}
use Rattle.nb_model.specs.Vector.{plus}
use Rattle.nb_model.specs.Gravity.{pull}
use Rattle.nb_model.proofs.Facts.{pull_bound}
use Rattle.nb_key.specs.Morton.{key_at, morton_key, IsKeyAt}
use Rattle.nb_key.proofs.Ranges.{held}
use Rattle.nb_record.specs.Pages.{record_count}
use Rattle.nb_record.specs.Records.{body_record, body_of, bodies_of}
use Rattle.nb_record.proofs.Callers.{body_at, plus-zero, plus_assoc}
use Rattle.nb_walk.specs.declared.tally.Tally.{Tally}
use Rattle.nb_walk.specs.declared.term.Term.{Term}
use Rattle.nb_walk.specs.declared.term.Term.TheVariants as term
use Rattle.nb_walk.specs.Terms.{body_terms, term_mass, term_pull, pulls}
use Rattle.nb_walk.specs.Shown.{IsAtMost}
use Rattle.nb_walk.specs.Taking.{Adds, page_terms}
use Rattle.nb_walk.proofs.Pulling.{pulls-append, pulls_one}

-- whether a cell holds the target, by the target's own key
pub target_held : (level key number bits deep : ℕ) (p : At) → IsKeyAt level key → number ≡ key → deep ≡ morton_key p → bits ≡ 3 * (21 - level) → IsTrue (eqb (deep / 2 ^ bits) number) ↔ (key_at level p ≡ key)
target_held level key number bits deep p is same deepest below =
    subst (λ d. IsTrue (eqb (d / 2 ^ bits) number) ↔ (key_at level p ≡ key)) (sym deepest)
    (subst (λ n. IsTrue (eqb (morton_key p / 2 ^ bits) n) ↔ (key_at level p ≡ key)) (sym same) (held level key bits p is below))

-- ---- ranges

times_two : (g a b : ℕ) → g * (a + b) ≡ g * a + g * b
times_two g a b = grind arith

pub gm_two : (g a b most : ℕ) → a + b ≤ most → g * a + g * b ≤ g * most
gm_two g a b most within =
    let less = mul-le-mul_right g within in
    let left : (a + b) * g ≡ g * a + g * b = swap (a + b) g ∙ times_two g a b in
    omega (arith, left, swap most g)
  where
    swap : (m n : ℕ) → m * n ≡ n * m
    swap m n = grind arith

sum_size : (a b : ℤ) (m n : ℕ) → unsigned_abs a ≤ m → unsigned_abs b ≤ n → unsigned_abs (a +ℤ b) ≤ m + n
sum_size a b m n p q = omega (arith, ints)

pub at_most : (params : Params) (p : At) (mass taken : ℕ) (c : At) (v : V3) → IsAtMost (params.grav * taken) v → IsAtMost (params.grav * (taken + mass)) (plus v (pull params p mass c))
at_most params p mass taken c v old =
    let own = pull_bound params p mass c in
    let q = pull params p mass c in
    let both = times_two params.grav taken mass in
    subst (λ n. IsAtMost n (plus v q)) (sym both) (record {
      x = sum_size v.x q.x (params.grav * taken) (params.grav * mass) old.x own.x;
      y = sum_size v.y q.y (params.grav * taken) (params.grav * mass) old.y own.y;
      z = sum_size v.z q.z (params.grav * taken) (params.grav * mass) old.z own.z;
    })

-- and the sum and a pull are in the range of a sum of two
pub below_limit : (g taken most : ℕ) (v : V3) → taken ≤ most → g * most < gm_limit → IsAtMost (g * taken) v → IsBelow gm_limit v
below_limit g taken most v less limit size =
    let more = gm_two g taken 0 most (omega arith) in
    let none : g * 0 ≡ 0 = omega arith in
    let x = size.x in let y = size.y in let z = size.z in
    record { x = omega arith; y = omega arith; z = omega arith }

pub pull_below_limit : (params : Params) (p : At) (mass most : ℕ) (c : At) → mass ≤ most → params.grav * most < gm_limit → IsBelow gm_limit (pull params p mass c)
pull_below_limit params p mass most c less limit =
    let own = pull_bound params p mass c in
    below_limit params.grav mass most (pull params p mass c) less limit (record { x = own.x; y = own.y; z = own.z })

-- ---- terms that are added

pub adds_none : (params : Params) (a : Tally) → Adds params [] a a
adds_none params a = record { target = refl; key = refl; sum = sym (plus-zero a.sum); taken = omega arith }

pub adds_one : (params : Params) (t : Term) (a b : Tally) → b.target ≡ a.target → b.key ≡ a.key → b.sum ≡ plus a.sum (term_pull params a.target t) → b.taken ≡ a.taken + term_mass t → Adds params (t ∷ []) a b
adds_one params t a b target key sum taken = record {
  target = target;
  key = key;
  sum = sum ∙ ap (plus a.sum) (sym (pulls_one params a.target t));
  taken = let one = sum_by-cons term_mass t [] in omega arith;
}

-- a body is added by its mass at its position
pub adds_body : (params : Params) (b : Body) (mass : ℕ) (a c : Tally) → mass ≡ b.mass → Adds params (term.Cell mass b.at ∷ []) a c → Adds params (term.Body b ∷ []) a c
adds_body params b mass a c same added = subst (λ m. Adds params (term.Cell m b.at ∷ []) a c → Adds params (term.Body b ∷ []) a c) (sym same) core added where
  core : Adds params (term.Cell b.mass b.at ∷ []) a c → Adds params (term.Body b ∷ []) a c
  core added = record {
    target = added.target;
    key = added.key;
    sum = added.sum;
    taken = added.taken;
  }

pub adds_more : (params : Params) (xs ys : List Term) (a b c : Tally) → Adds params xs a b → Adds params ys b c → Adds params (xs ++ ys) a c
adds_more params xs ys a b c first then_ = record {
  target = then_.target ∙ first.target;
  key = then_.key ∙ first.key;
  sum =
      then_.sum
      ∙ ap (λ v. plus v (pulls params b.target ys)) first.sum
      ∙ ap (λ p. plus (plus a.sum (pulls params a.target xs)) (pulls params p ys)) first.target
      ∙ plus_assoc a.sum (pulls params a.target xs) (pulls params a.target ys)
      ∙ ap (plus a.sum) (sym (pulls-append params a.target xs ys));
  taken = let both = sum_by-append term_mass xs ys in let one = first.taken in let two = then_.taken in omega arith;
}

-- ---- the bodies of a page

take_next : {X : Type 0} (xs : List X) (n : ℕ) (x : X) → slice_get xs n ≡ Some x → take (n + 1) xs ≡ take n xs ++ x ∷ []
take_next [] n x is = absurd (cc)
take_next (y ∷ ys) zero x is = let same : y ≡ x = cc in ap (λ z. z ∷ []) same
take_next (y ∷ ys) (suc n) x is = ap (λ m. take m (y ∷ ys)) (turned n) ∙ ap (λ l. y ∷ l) (take_next ys n x is) where
  turned : (n : ℕ) → suc n + 1 ≡ suc (n + 1)
  turned n = omega arith

at_dropped : {X : Type 0} (xs : List X) (k n : ℕ) → slice_get (drop k xs) n ≡ slice_get xs (k + n)
at_dropped xs zero n = ap (slice_get xs) (omega arith)
at_dropped [] (suc k) n = refl
at_dropped (x ∷ xs) (suc k) n = at_dropped xs k n ∙ ap (slice_get (x ∷ xs)) (turned k n) where
  turned : (k n : ℕ) → suc (k + n) ≡ suc k + n
  turned k n = omega arith

pub no_bodies : (bytes : List ℕ) (from : ℕ) → page_terms bytes from from ≡ []
no_bodies bytes from =
    let none : from - from ≡ 0 = omega arith in
    ap (λ n. body_terms (take n (drop from (bodies_of bytes)))) none

pub next_body : (bytes : List ℕ) (from i : ℕ) (b : Body) → from ≤ i → i < record_count bytes → b ≡ body_of (body_record i bytes) → page_terms bytes from (i + 1) ≡ page_terms bytes from i ++ term.Body b ∷ []
next_body bytes from i b later within is =
    let bodies = bodies_of bytes in
    let more : i + 1 - from ≡ (i - from) + 1 = omega arith in
    let index : from + (i - from) ≡ i = omega arith in
    let there : slice_get (drop from bodies) (i - from) ≡ Some b = at_dropped bodies from (i - from) ∙ ap (slice_get bodies) index ∙ body_at bytes i within ∙ ap (λ c. Some c) (sym is) in
    ap (λ n. body_terms (take n (drop from bodies))) more
    ∙ ap body_terms (take_next (drop from bodies) (i - from) b there)
    ∙ map-append (λ c. term.Body c) (take (i - from) (drop from bodies)) (b ∷ [])

fewer_weigh : (xs : List Body) (n m : ℕ) → n ≤ m → sum_by term_mass (body_terms (take n xs)) ≤ sum_by term_mass (body_terms (take m xs))
fewer_weigh xs zero m less = omega arith
fewer_weigh [] (suc n) m less = omega arith
fewer_weigh (x ∷ xs) (suc n) zero less = absurd (omega arith)
fewer_weigh (x ∷ xs) (suc n) (suc m) less =
    let rest = fewer_weigh xs n m (omega arith) in
    let left = sum_by-cons term_mass (term.Body x) (body_terms (take n xs)) in
    let right = sum_by-cons term_mass (term.Body x) (body_terms (take m xs)) in
    omega arith

pub front_weighs : (bytes : List ℕ) (from i end : ℕ) → i ≤ end → sum_by term_mass (page_terms bytes from i) ≤ sum_by term_mass (page_terms bytes from end)
front_weighs bytes from i end before = fewer_weigh (drop from (bodies_of bytes)) (i - from) (end - from) (omega arith)
