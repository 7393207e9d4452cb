-- Names of pages in their order, each once, and the names of those that walks need.
use Rattle.std.proofs.Common.{◌≡◌, zero, suc, ◌<◌, ◌↔◌, eqb, Bool, true, ◌&&◌, List, [], ◌∷◌, ◌++◌, length, None, Some, Ordering, Less, Equal, Greater, sym, ap, ◌∙◌, refl, arith, subst, inl, inr}
use Rattle.std.specs.Prelude.{◌⊎◌, Contains}
use Rattle.std.specs.List.{AllByRecursion}
use Rattle.std.specs.List.Sorted.{IsStrictlySortedBy}
use Rattle.std.specs.Ordering.{nat_cmp, ordering_then, eq_by_cmp, is_eq, MatchOrdering}
use Rattle.std.specs.Cmp.{IsTotalOrder, IsEquivalence, tied_then, unsigned_tied}
use Rattle.std.proofs.lemmas.List.Elements.{Contains-append_left, Contains-append_right, Contains-append_cases}
use Rattle.std.proofs.lemmas.Cmp.{nat_cmp_total, on_total, then_total, ranked, on_equiv, and_equiv, nat_eq_equiv}
use Rattle.nb_host.specs.declared.page_name.PageName.{PageName}
use Rattle.nb_host.specs.Page.{IsBefore, IsRising}
use Rattle.nb_record.specs.declared.tree.Tree.{Tree}
use Rattle.nb_walk.specs.declared.group.Own.{Own}
use Rattle.nb_walk.specs.declared.item.Item.{Item}
use Rattle.nb_walk.specs.Group.{SomeNeed}
use Rattle.nb_walk.specs.Items.{page_for}

abbrev pub by_name : PageName → PageName → Ordering
by_name x y = ordering_then (nat_cmp x.file y.file) (nat_cmp x.page y.page)

abbrev pub same_name : PageName → PageName → Bool
same_name x y = eqb x.file y.file && eqb x.page y.page

pub by_name_total : IsTotalOrder by_name
by_name_total = then_total (on_total (λ (p : PageName). p.file) nat_cmp_total) (on_total (λ (p : PageName). p.page) nat_cmp_total)

pub same_by_name : (x y : PageName) → same_name x y ≡ eq_by_cmp by_name x y
same_by_name x y =
    ap (λ t. t && eqb x.page y.page) (sym (unsigned_tied x.file y.file))
    ∙ ap (λ t. is_eq (nat_cmp x.file y.file) && t) (sym (unsigned_tied x.page y.page))
    ∙ tied_then (nat_cmp x.file y.file) (nat_cmp x.page y.page)

before : (x y : PageName) → by_name x y ≡ Less → IsBefore x y
before x y is = cases (nat_cmp x.file y.file) (nat_cmp x.page y.page) (ranked x.file y.file (nat_cmp x.file y.file) refl) (ranked x.page y.page (nat_cmp x.page y.page) refl) is where
  cases : (a b : Ordering) → MatchOrdering a (x.file < y.file) (x.file ≡ y.file) (y.file < x.file) → MatchOrdering b (x.page < y.page) (x.page ≡ y.page) (y.page < x.page) → ordering_then a b ≡ Less → IsBefore x y
  cases Less b file page is = inl file
  cases Equal Less file page is = inr (file, page)
  cases Equal Equal file page is = absurd (cc)
  cases Equal Greater file page is = absurd (cc)
  cases Greater b file page is = absurd (cc)

each_before : (x : PageName) (xs : List PageName) → AllByRecursion (λ y. by_name x y ≡ Less) xs → AllByRecursion (IsBefore x) xs
each_before x [] all = all
each_before x (y ∷ ys) all = (before x y all.0, each_before x ys all.1)

pub rising_is : (xs : List PageName) → IsStrictlySortedBy by_name xs → IsRising xs
unfolding IsStrictlySortedBy
rising_is [] sorted = tt
rising_is (x ∷ xs) sorted = (each_before x xs sorted.0, rising_is xs sorted.1)

pub same_is : (x y : PageName) → same_name x y ≡ true → x ≡ y
same_is x y same = grind (arith, same)

pub same_name_equiv : IsEquivalence same_name
same_name_equiv = and_equiv (on_equiv (λ (p : PageName). p.file) nat_eq_equiv) (on_equiv (λ (p : PageName). p.page) nat_eq_equiv)

-- ---- the names that walks need

-- the page is that of the item at which the walk waits
pub record IsNeedOf (tree : Tree) (o : Own) (name : PageName) : Type 0 where
  pub item : Item
  pub need : o.need ≡ Some item
  pub page : page_for tree item ≡ name

only_one : {X : Type 0} (x y : X) → Contains (x ∷ []) y → x ≡ y
only_one x y (zero, within, is) = is
only_one x y (suc k, within, is) = absurd (omega arith)

module _ (tree : Tree) (owns : List Own) (o : Own) (name : PageName) where
  need_cases : SomeNeed tree (owns ++ o ∷ []) name → SomeNeed tree owns name ⊎ IsNeedOf tree o name
  need_cases some = elim (Contains-append_cases owns (o ∷ []) some.own some.there) [
    | inl before ↦ inl (record { own = some.own; there = before; item = some.item; need = some.need; page = some.page })
    | inr end ↦ inr (record { item = some.item; need = subst (λ (v : Own). v.need ≡ Some some.item) (sym (only_one o some.own end)) some.need; page = some.page })
  ]

  need_kept : SomeNeed tree owns name → SomeNeed tree (owns ++ o ∷ []) name
  need_kept some = record { own = some.own; there = Contains-append_left owns (o ∷ []) some.own some.there; item = some.item; need = some.need; page = some.page }

  need_last : IsNeedOf tree o name → SomeNeed tree (owns ++ o ∷ []) name
  need_last its = record { own = o; there = Contains-append_right owns (o ∷ []) o (0, omega arith, refl); item = its.item; need = its.need; page = its.page }

name_cases : (names : List PageName) (last name : PageName) → Contains (names ++ last ∷ []) name → Contains names name ⊎ (last ≡ name)
name_cases names last name there = elim (Contains-append_cases names (last ∷ []) name there) [
  | inl before ↦ inl before
  | inr end ↦ inr (only_one last name end)
]

name_kept : (names : List PageName) (last name : PageName) → Contains names name → Contains (names ++ last ∷ []) name
name_kept names last name there = Contains-append_left names (last ∷ []) name there

name_last : (names : List PageName) (last : PageName) → Contains (names ++ last ∷ []) last
name_last names last = Contains-append_right names (last ∷ []) last (0, omega arith, refl)

its_name : (tree : Tree) (o : Own) (a b : PageName) → IsNeedOf tree o a → IsNeedOf tree o b → a ≡ b
its_name tree o a b one two =
    let same : one.item ≡ two.item = let both = sym one.need ∙ two.need in cc in
    sym one.page ∙ ap (page_for tree) same ∙ two.page

-- one walk more, whose page is named
pub names_more : (tree : Tree) (xs ys : List Own) (o : Own) (names now : List PageName) (last : PageName) → ys ≡ xs ++ o ∷ [] → now ≡ names ++ last ∷ [] → IsNeedOf tree o last
    → ((name : PageName) → Contains names name ↔ SomeNeed tree xs name) → (name : PageName) → Contains now name ↔ SomeNeed tree ys name
names_more tree xs ys o names now last more is its before name =
    subst (λ l. Contains l name ↔ SomeNeed tree ys name) (sym is)
    (subst (λ l. Contains (names ++ last ∷ []) name ↔ SomeNeed tree l name) (sym more) (
      λ there. elim (name_cases names last name there) [
        | inl old ↦ need_kept tree xs o name ((before name).0 old)
        | inr same ↦ need_last tree xs o name (subst (IsNeedOf tree o) same its)
      ],
      λ some. elim (need_cases tree xs o name some) [
        | inl old ↦ name_kept names last name ((before name).1 old)
        | inr other ↦ subst (Contains (names ++ last ∷ [])) (its_name tree o last name its other) (name_last names last)
      ],
    ))

-- one walk more, which waits nowhere
pub names_same : (tree : Tree) (xs ys : List Own) (o : Own) (names now : List PageName) → ys ≡ xs ++ o ∷ [] → now ≡ names → o.need ≡ None
    → ((name : PageName) → Contains names name ↔ SomeNeed tree xs name) → (name : PageName) → Contains now name ↔ SomeNeed tree ys name
names_same tree xs ys o names now more is none before name =
    subst (λ l. Contains l name ↔ SomeNeed tree ys name) (sym is)
    (subst (λ l. Contains names name ↔ SomeNeed tree l name) (sym more) (
      λ there. need_kept tree xs o name ((before name).0 there),
      λ some. elim (need_cases tree xs o name some) [
        | inl old ↦ (before name).1 old
        | inr its ↦ absurd (let both = sym none ∙ its.need in cc)
      ],
    ))

-- no walk
pub names_none : (tree : Tree) (owns : List Own) (names : List PageName) → owns ≡ [] → names ≡ [] → (name : PageName) → Contains names name ↔ SomeNeed tree owns name
names_none tree owns names no_owns no_names name = (
  λ there. absurd (let within = there.1 in omega (arith, ap length no_names)),
  λ some. absurd (let within = some.there.1 in omega (arith, ap length no_owns)),
)
