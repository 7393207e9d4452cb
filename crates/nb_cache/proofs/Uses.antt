-- The list of resident names after several uses, one after the other.
use Rattle.std.proofs.Common.{◌≡◌, ℕ, zero, suc, ◌≤◌, inl, inr, Bool, true, false, not, cond, ◌||◌, List, [], ◌∷◌, ◌++◌, length, take, reverse, Some, slice_get, refl, sym, ap, subst, ◌∙◌, arith}
use Rattle.std.proofs.lemmas.Bool.Decides.{nat_tests}
use Rattle.std.proofs.lemmas.List.{reverse-append, take_all, length-take}
use Rattle.std.proofs.lemmas.List.Elements.{filter-append}
use Rattle.std.proofs.lemmas.List.Folds.{list_any-append}
use Rattle.std.proofs.lemmas.Map.Keys.{IsDistinct-head, IsDistinct-tail}
use Rattle.std.specs.List.{AllByRecursion, IsDistinct, list_any}
use Rattle.nb_host.specs.declared.page_name.PageName.{PageName}
use Rattle.nb_host.specs.Page.{same_page, IsBefore, IsRising}
use Rattle.nb_cache.specs.Names.{without, used}
use Rattle.nb_host.proofs.Callers.{same_page_eq}

-- none of the names is this one
abbrev pub Lacks : PageName → List PageName → Type 0
Lacks k names = AllByRecursion (λ n. same_page k n ≡ false) names

pub without_lacking : (k : PageName) (names : List PageName) → Lacks k names → without (k ∷ []) names ≡ names
without_lacking k [] lacks = refl
without_lacking k (n ∷ names) lacks = rw lacks.0 (ap (λ l. n ∷ l) (without_lacking k names lacks.1))

Lacks-append : (k : PageName) (xs ys : List PageName) → Lacks k xs → Lacks k ys → Lacks k (xs ++ ys)
Lacks-append k [] ys left right = right
Lacks-append k (x ∷ xs) ys left right = (left.0, Lacks-append k xs ys left.1 right)

Lacks-reverse : (k : PageName) (names : List PageName) → Lacks k names → Lacks k (reverse names)
Lacks-reverse k [] lacks = tt
Lacks-reverse k (n ∷ names) lacks =
    subst (Lacks k) (sym (reverse-append (n ∷ []) names))
    (Lacks-append k (reverse names) (n ∷ []) (Lacks-reverse k names lacks.1) (lacks.0, tt))

-- the first names lack this one, so what is left of them doesn't change
take-lacking : (n : ℕ) (k : PageName) (names : List PageName) → Lacks k (take n names)
    → take n (without (k ∷ []) names) ≡ take n names
take-lacking zero k names lacks = refl
take-lacking (suc n) k [] lacks = refl
take-lacking (suc n) k (m ∷ names) lacks =
    rw lacks.0 (ap (λ l. m ∷ l) (take-lacking n k names lacks.1))

-- a name that comes once goes: it makes no difference whether the list is cut before
take-without : (n : ℕ) (k : PageName) (names : List PageName) → IsDistinct same_page (take (suc n) names)
    → take n (without (k ∷ []) (take (suc n) names)) ≡ take n (without (k ∷ []) names)
take-without zero k names distinct = refl
take-without (suc n) k [] distinct = refl
take-without (suc n) k (m ∷ names) distinct = (elim (same_page k m) as (λ y. same_page k m ≡ y → take (suc n) (without (k ∷ []) (m ∷ take (suc n) names)) ≡ take (suc n) (without (k ∷ []) (m ∷ names))) [
  | true ↦ λ here.
      let apart = subst (λ j. Lacks j (take (suc n) names)) (sym (same_page_eq k m here))
      (IsDistinct-head same_page m (take (suc n) names) distinct) in
      rw here (ap (λ l. take (suc n) l) (without_lacking k (take (suc n) names) apart)
      ∙ take_all (suc n) (take (suc n) names) (omega (arith, length-take (suc n) names)) ∙ sym (take-lacking (suc n) k names apart))
  | false ↦ λ here.
      rw here (ap (λ l. m ∷ l)
      (take-without n k names (IsDistinct-tail same_page m (take (suc n) names) distinct)))
]) refl

-- one name goes after the others
one_more : (a b : Bool) (k n : PageName) (some rest : List PageName) → without (k ∷ []) some ≡ rest
    → same_page k n ≡ b
    → without (k ∷ []) (cond (not a) (n ∷ some) some) ≡ cond (not (a || (b || false))) (n ∷ rest) rest
one_more true b k n some rest same here = same
one_more false true k n some rest same here = rw here same
one_more false false k n some rest same here = rw here (ap (λ l. n ∷ l) same)

without_more : (done : List PageName) (k : PageName) (old : List PageName)
    → without (k ∷ []) (without done old) ≡ without (done ++ k ∷ []) old
without_more done k [] = refl
without_more done k (n ∷ old) =
    one_more (list_any (λ g. same_page g n) done) (same_page k n) k n (without done old)
    (without (done ++ k ∷ []) old) (without_more done k old) refl
    ∙ ap (λ b. cond (not b) (n ∷ without (done ++ k ∷ []) old) (without (done ++ k ∷ []) old))
    (sym (list_any-append (λ g. same_page g n) done (k ∷ [])))

-- one use after others
pub used_next : (pages : ℕ) (done : List PageName) (k : PageName) (old : List PageName) → Lacks k done
    → IsDistinct same_page (used pages done old)
    → used pages (k ∷ []) (used pages done old) ≡ used pages (done ++ k ∷ []) old
used_next zero done k old lacks distinct = refl
used_next (suc n) done k old lacks distinct =
    let all = reverse done ++ without done old in
    let rest : without (k ∷ []) all ≡ reverse done ++ without (done ++ k ∷ []) old =
    filter-append _ (reverse done) (without done old)
    ∙ ap (λ l. l ++ without (k ∷ []) (without done old)) (without_lacking k (reverse done) (Lacks-reverse k done lacks))
    ∙ ap (λ l. reverse done ++ l) (without_more done k old) in
    ap (λ l. k ∷ l) (take-without n k all distinct ∙ ap (λ l. take n l) rest)
    ∙ ap (λ l. take (suc n) (l ++ without (done ++ k ∷ []) old)) (sym (reverse-append done (k ∷ [])))

-- the names before one in a rising list are others
before_apart : (n k : PageName) → IsBefore n k → same_page k n ≡ false
before_apart n k before = elim before [
  | inl file ↦ grind (arith, nat_tests)
  | inr page ↦ grind (arith, nat_tests)
]

at_rising : (n : PageName) (names : List PageName) (i : ℕ) (k : PageName) → AllByRecursion (IsBefore n) names
    → slice_get names i ≡ Some k → IsBefore n k
at_rising n [] i k all there = (cc)
at_rising n (m ∷ names) zero k all there = let same : m ≡ k = cc in subst (IsBefore n) same all.0
at_rising n (m ∷ names) (suc i) k all there = at_rising n names i k all.1 there

pub rising_apart : (names : List PageName) (i : ℕ) (k : PageName) → IsRising names → slice_get names i ≡ Some k
    → Lacks k (take i names)
rising_apart names zero k rising there = tt
rising_apart [] (suc i) k rising there = (cc)
rising_apart (n ∷ names) (suc i) k rising there = (
  before_apart n k (at_rising n names i k rising.0 there),
  rising_apart names i k rising.1 there,
)

-- no name yet
without_none : (old : List PageName) → without [] old ≡ old
without_none [] = refl
without_none (n ∷ old) = ap (λ l. n ∷ l) (without_none old)

pub used_none : (pages : ℕ) (old : List PageName) → length old ≤ pages → old ≡ used pages [] old
used_none pages old few = sym (ap (λ l. take pages l) (without_none old) ∙ take_all pages old few)
