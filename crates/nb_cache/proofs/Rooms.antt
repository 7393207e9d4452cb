-- Which page leaves.
use Rattle.std.proofs.Common.{◌≡◌, ℕ, zero, suc, ◌-◌, ◌<◌, ◌≤◌, ◌⊎◌, inl, inr, true, false, List, [], ◌∷◌, length, drop, Some, None, slice_get, refl, sym, ap, subst, ◌∙◌, arith, Contains}
use Rattle.std.proofs.lemmas.List.{drop_all, length-map}
use Rattle.lru.proofs.Splits.{Contains-head, Contains-tail, Contains-cons, Contains-nil}
use Rattle.nb_host.specs.Page.{same_page}
use Rattle.nb_host.specs.declared.page_name.PageName.{PageName}
use Rattle.nb_host.proofs.Callers.{same_page_apart}
use Rattle.nb_cache.specs.Names.{held_without, with_clean, SparesDirty}
use Rattle.nb_cache.specs.Sound.{AreResident}
use Rattle.nb_cache.specs.View.{Held, held_names}
use Rattle.nb_cache.proofs.Fitting.{name_there}
use Rattle.nb_cache.proofs.Forgetting.{is_some_last}
use Rattle.nb_cache.proofs.Laying.{settled_has, settled_names}
use Rattle.nb_cache.proofs.Overlays.{Lacks, there_or_lacks, without_lacking}

length_without : (k : PageName) (held : List Held) → length (held_without k held) ≤ length held
length_without k [] = omega arith
length_without k (g ∷ held) = (elim (same_page k g.name) as (λ y. same_page k g.name ≡ y → length (held_without k (g ∷ held)) ≤ length (g ∷ held)) [
  | true ↦ λ here. rw here (let rest = length_without k held in omega (arith, rest))
  | false ↦ λ other. rw other (let rest = length_without k held in omega (arith, rest))
]) refl

shorter : (k : PageName) (held : List Held) (h : Held) → Contains held h → h.name ≡ k
    → length (held_without k held) < length held
shorter k [] h has named = absurd (Contains-nil h has)
shorter k (g ∷ held) h has named = (elim (same_page k g.name) as (λ y. same_page k g.name ≡ y → length (held_without k (g ∷ held)) < length (g ∷ held)) [
  | true ↦ λ here. rw here (let rest = length_without k held in omega (arith, rest))
  | false ↦ λ other. rw other (elim (Contains-cons g held h has) [
    | inl same ↦ absurd (same_page_apart k g.name other (sym named ∙ ap (λ (f : Held). f.name) (sym same)))
    | inr there ↦ let rest = shorter k held h there named in omega (arith, rest)
  ])
]) refl

none_leaves : (name : PageName) (pages : ℕ) (held : List Held) → length (held_without name held) ≤ pages - 1 → SparesDirty name pages held
none_leaves name pages held few = record {
  leaves = λ h has.
      absurd (Contains-nil h (subst (λ l. Contains l h) (drop_all (pages - 1) (held_without name held) few) has));
}

pub room_few : (name : PageName) (pages : ℕ) (held : List Held) → length (held_names held) < pages → SparesDirty name pages held
room_few name pages held few =
    none_leaves name pages held (omega (arith, few, length-map held (λ (h : Held). h.name), length_without name held))

pub room_resident : (name : PageName) (pages : ℕ) (held : List Held) → AreResident pages held → Contains (held_names held) name
    → SparesDirty name pages held
room_resident name pages held sound has =
    let one = named held has in
    none_leaves name pages held
    (omega (arith, sound.bound, length-map held (λ (h : Held). h.name), shorter name held one.0 one.1 one.2))
  where
    named : (held : List Held) → Contains (held_names held) name → (h : Held) × Contains held h × (h.name ≡ name)
    named [] has = absurd (Contains-nil name has)
    named (h ∷ held) has = elim (Contains-cons h.name (held_names held) name has) [
      | inl same ↦ (h, Contains-head h held, same)
      | inr there ↦ let one = named held there in (one.0, Contains-tail h held one.0 one.1, one.2)
    ]

-- no page is the last
pub room_none : (name : PageName) (pages : ℕ) (held : List Held) → 0 < pages
    → None ≡ slice_get (held_names held) (length (held_names held) - 1) → SparesDirty name pages held
room_none name pages held positive none = elim (some (length (held_names held))) [
  | inl zero_long ↦ room_few name pages held (omega (arith, zero_long, positive))
  | inr more ↦ absurd (is_some_last (held_names held) more (sym none))
]
  where
    some : (n : ℕ) → (n ≡ 0) ⊎ (0 < n)
    some n = grind arith

last_only : (held : List Held) (last : PageName) (h : Held)
    → Some last ≡ slice_get (held_names held) (length (held_names held) - 1) → Contains (drop (length held - 1) held) h
    → h.name ≡ last
last_only [] last h is has = absurd (Contains-nil h has)
last_only (x ∷ []) last h is has = elim (Contains-cons x [] h has) [
  | inl same ↦ let name : h.name ≡ x.name = ap (λ (f : Held). f.name) (sym same) in name ∙ sym (some_same is)
  | inr none ↦ absurd (Contains-nil h none)
]
  where
    some_same : {a b : PageName} → Some a ≡ Some b → a ≡ b
    some_same same = (cc)
last_only (x ∷ y ∷ ys) last h is has =
    let names : length (held_names (x ∷ y ∷ ys)) - 1 ≡ suc (length (held_names (y ∷ ys)) - 1) = omega arith in
    let helds : length (x ∷ y ∷ ys) - 1 ≡ suc (length (y ∷ ys) - 1) = omega arith in
    last_only (y ∷ ys) last h (is ∙ ap (λ i. slice_get (held_names (x ∷ y ∷ ys)) i) names)
    (subst (λ i. Contains (drop i (x ∷ y ∷ ys)) h) helds has)

-- the last page was written
pub room_settled : (name : PageName) (pages : ℕ) (old new : List Held) (last : PageName) → AreResident pages old
    → pages ≤ length (held_names old) → (Contains (held_names old) name → ⊥)
    → Some last ≡ slice_get (held_names old) (length (held_names old) - 1) → new ≡ with_clean last old → SparesDirty name pages new
room_settled name pages old new last sound full absent is settles = record {
  leaves = λ h has.
      let lacks : Lacks name (with_clean last old) = elim (there_or_lacks name (with_clean last old)) [
        | inl one ↦ absurd (absent (subst (Contains (held_names old)) one.2
            (subst (λ l. Contains l one.0.name) (settled_names last old) (name_there (with_clean last old) one.0 one.1))))
        | inr lacks ↦ lacks
      ] in
      let whole : held_without name new ≡ with_clean last old =
      ap (held_without name) settles ∙ without_lacking name (with_clean last old) lacks in
      let long : pages - 1 ≡ length (with_clean last old) - 1 =
      omega (
        arith,
        full,
        sound.bound,
        length-map (with_clean last old) (λ (g : Held). g.name),
        ap (λ l. length l) (settled_names last old),
      ) in
      let there : Contains (drop (length (with_clean last old) - 1) (with_clean last old)) h =
      subst (λ n. Contains (drop n (with_clean last old)) h) long (subst (λ l. Contains (drop (pages - 1) l) h) whole has) in
      let named : h.name ≡ last =
      last_only (with_clean last old) last h
      (is ∙ ap (λ l. slice_get l (length l - 1)) (sym (settled_names last old))) there in
      elim (settled_has last old h (within (length (with_clean last old) - 1) (with_clean last old) h there)) [
        | inl one ↦ absurd (same_page_apart last h.name one.1 (sym named))
        | inr one ↦ ap (λ (g : Held). g.dirty) one.3
      ];
}
  where
    within : (n : ℕ) (xs : List Held) (h : Held) → Contains (drop n xs) h → Contains xs h
    within zero xs h has = has
    within (suc n) [] h has = absurd (Contains-nil h has)
    within (suc n) (x ∷ xs) h has = Contains-tail x xs h (within n xs h has)
