-- Where walks wait.
use Rattle.std.proofs.Common.{◌≡◌, ℕ, suc, ◌+◌, ◌-◌, ◌<◌, Bool, true, false, not, List, [], ◌∷◌, ◌++◌, length, get_or, set, get_or-set_other, get_or-set_same, Option, None, Some, sym, ap, ◌∙◌, refl, arith, subst, inl, inr}
use Rattle.std.specs.Prelude.{◌≢◌, ◌⊎◌, All}
use Rattle.std.specs.Option.{is_some}
use Rattle.std.proofs.lemmas.Bool.Decides.{eqb_tells}
use Rattle.std.proofs.lemmas.List.{get_or_default}
use Rattle.std.proofs.lemmas.List.Elements.{All-contains, All-contains_itself, Contains-append_right}
use Rattle.std.proofs.lemmas.Option.{slice_get-get_or, slice_get_within, get_or_from_slice_get}
use Rattle.nb_walk.specs.declared.group.Own.{Own}
use Rattle.nb_walk.specs.declared.item.Item.{Item}
use Rattle.nb_walk.specs.declared.shared.SharedItem.{SharedItem}
use Rattle.nb_walk.specs.Group.{own_items, MayBeGiven, HasNeed}
use Rattle.nb_walk.specs.Items.{last_item}
use Rattle.nb_walk.specs.Room.{HasRoom, IsItemInRange}
use Rattle.nb_walk.specs.Running.{Each, EachAt}
use Rattle.nb_walk.specs.Shared.{is_left_to, items_of}
use Rattle.nb_walk.proofs.Runs.{SameFrom}
use Rattle.nb_walk.proofs.Sharing.{items_of_append, items_of_other, entry_of}

-- ---- whether there is something

none_is : {A : Type 0} (o : Option A) (r : Bool) → is_some o ≡ not r → r ≡ true → o ≡ None
none_is None r is true_is = refl
none_is (Some x) r is true_is = absurd (let never = is ∙ ap not true_is in cc)

none_not : {A : Type 0} (o : Option A) (r : Bool) → is_some o ≡ not r → r ≡ false → o ≢ None
none_not None r is false_is none = let never = is ∙ ap not false_is in cc
none_not (Some x) r is false_is none = cc

module _ (now : List Own) (i : ℕ) (r : Own) (b : Bool) (within : i < length now) (is : is_some (get_or now i r).need ≡ not b) where
  need_at : (d : Own) → (get_or now i r).need ≡ (get_or now i d).need
  need_at d = ap (λ (o : Own). o.need) (get_or_default now i r d within)

  pub none_at : b ≡ true → (d : Own) → (get_or now i d).need ≡ None
  none_at true_is d = sym (need_at d) ∙ none_is (get_or now i r).need b is true_is

  pub some_at : b ≡ false → (d : Own) → (get_or now i d).need ≢ None
  some_at false_is d none = none_not (get_or now i r).need b is false_is (need_at d ∙ none)

-- ---- the walks of a list

-- what holds of each walk where one of them is another
at_set : (P : ℕ → Own → Type 0) (now : List Own) (i : ℕ) (o : Own) (k : ℕ) (d : Own) → i < length now → (k ≢ i → P k (get_or now k d)) → (k ≡ i → P k o) → P k (get_or (set now i o) k d)
at_set P now i o k d within other its = elim (eqb_tells k i) [
  | inl same ↦ subst (P k) (sym (ap (λ j. get_or (set now i o) j d) same.1 ∙ get_or-set_same now i o d within)) (its same.1)
  | inr ne ↦ subst (P k) (sym (get_or-set_other now i k o d ne.1)) (other ne.1)
]

-- ---- at an item of its own

module _ (old now : List Own) (i : ℕ) (r : Own) (need : Option Item) (within : i < length now) where
  abbrev asked : Own
  asked = record { items = (get_or now i r).items; need = need }

  pub items_one : Each (λ (a : Own) (b : Own). b.items ≡ a.items) (length old) old now → Each (λ (a : Own) (b : Own). b.items ≡ a.items) (length old) old (set now i asked)
  items_one each k d below = at_set (λ j o. o.items ≡ (get_or old j d).items) now i asked k d within (λ ne. each k d below)
      (λ same. ap (λ (o : Own). o.items) (get_or_default now i r d within ∙ ap (λ j. get_or now j d) (sym same)) ∙ each k d below)

  pub needs_one : Each (λ (a : Own) (b : Own). b.need ≡ last_item (own_items a)) i old now → i < length old → need ≡ last_item (own_items (get_or old i r))
      → Each (λ (a : Own) (b : Own). b.need ≡ last_item (own_items a)) (i + 1) old (set now i asked)
  needs_one each inside is k d below = at_set (λ j o. o.need ≡ last_item (own_items (get_or old j d))) now i asked k d within (λ ne. each k d (omega arith))
      (λ same. is ∙ ap (λ o. last_item (own_items o)) (get_or_default old i r d inside ∙ ap (λ j. get_or old j d) (sym same)))

-- ---- at a shared item

never : (b : Bool) → b ≢ true → b ≡ false
never true no_way = absurd (no_way refl)
never false no_way = refl

pub no_items : (i : ℕ) → items_of i [] ≡ []
unfolding items_of
no_items i = refl

-- no shared item is left to a walk
pub none_left : (i : ℕ) (es : List SharedItem) → ((j : ℕ) (d : SharedItem) → j < length es → is_left_to i (get_or es j d) ≡ false) → items_of i es ≡ []
none_left i [] none = no_items i
none_left i (e ∷ es) none =
    items_of_append i (e ∷ []) es
    ∙ ap (λ l. l ++ items_of i es) (items_of_other i e (none 0 e (omega arith)))
    ∙ none_left i es (λ j d below. none (suc j) d (omega arith))

-- the walks below i wait, where they have a shared item left, and the others are as they were
pub record WaitsTo (es : List SharedItem) (old now : List Own) (i : ℕ) : Type 0 where
  pub count : length now ≡ length old
  pub given : EachAt (λ k. MayBeGiven es k) (length old) old now
  pub none : (k : ℕ) (d : Own) → k < i → (get_or now k d).need ≡ None → items_of k es ≡ []
  pub same : SameFrom i old now

-- ---- what each walk needs

last_cases : (own : List Item) → ((own ≡ []) × (last_item own ≡ None)) ⊎ ((y : Item) × (own ≢ []) × (last_item own ≡ Some y))
last_cases [] = inl (refl, refl)
last_cases (x ∷ xs) =
    let last = length (x ∷ xs) - 1 in
    inr (get_or (x ∷ xs) last x, (λ none. (cc)), slice_get-get_or (x ∷ xs) last x (omega arith))

pub has_need : (i : ℕ) (es : List SharedItem) (a b c : Own) → b.items ≡ a.items → b.need ≡ last_item (own_items a) → MayBeGiven es i b c → (c.need ≡ None → items_of i es ≡ []) → HasNeed i es c
has_need i es a b c same asks given none = record {
  next = λ x is. elim (last_cases (own_items c)) [
    | inl empty ↦ record { last = λ some. absurd (some empty.0); shared = λ all. given.given x (waits ∙ empty.1) is }
    | inr some ↦ record { last = λ own. some.2 ∙ sym (given.kept some.0 (waits ∙ some.2)) ∙ is; shared = λ all. absurd (some.1 all) }
  ];
  none = λ is. elim (last_cases (own_items c)) [
    | inl empty ↦ (empty.0, none is)
    | inr some ↦ absurd (let both = sym is ∙ given.kept some.0 (waits ∙ some.2) in cc)
  ];
} where
  waits : b.need ≡ last_item (own_items c)
  waits = asks ∙ ap (λ v. last_item v.items) (sym (given.items ∙ same))

pub rooms_kept : (old new : List Own) → length new ≡ length old → Each (λ (a : Own) (b : Own). b.items ≡ a.items) (length old) old new → All (λ o. HasRoom (own_items o)) old → All (λ o. HasRoom (own_items o)) new
rooms_kept old new long each rooms k d below = subst (λ v. HasRoom v.items) (sym (each k d (omega arith))) (rooms k d (omega arith))

pub all_behind : (P : SharedItem → Type 0) (xs ys : List SharedItem) → All P (xs ++ ys) → All P ys
all_behind P xs ys all k d below = All-contains P (xs ++ ys) (get_or ys k d) all (Contains-append_right xs ys (get_or ys k d) (All-contains_itself ys k d below))

-- what a walk needs is small
pub small_need : (i : ℕ) (es : List SharedItem) (o : Own) (x : Item) → HasNeed i es o → All IsItemInRange (own_items o) → All (λ e. IsItemInRange e.item) es → o.need ≡ Some x → IsItemInRange x
small_need i es o x has own shared is = elim (last_cases (own_items o)) [
  | inl empty ↦
      let at = entry_of i es x ((has.next x is).shared empty.0) in
      subst IsItemInRange at.is (All-contains (λ e. IsItemInRange e.item) es at.entry shared at.there)
  | inr some ↦
      let at = length (own_items o) - 1 in
      let last : last_item (own_items o) ≡ Some x = (has.next x is).last some.1 in
      All-contains IsItemInRange (own_items o) x own (at, slice_get_within (own_items o) at x last, get_or_from_slice_get (own_items o) at x x last)
]
