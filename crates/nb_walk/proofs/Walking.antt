-- A walk before and after a visit over a tree.
use Rattle.std.proofs.Common.{◌≡◌, ℕ, ◌<◌, ◌≤◌, cond, eqb, Bool, true, false, Ok, Err, List, [], ◌∷◌, Option, Some, None, sym, ap, ◌∙◌, refl, arith, subst, inl, inr}
use Rattle.std.specs.Prelude.{◌≢◌, ◌⊎◌, sum_by, All}
use Rattle.std.proofs.lemmas.Bool.{cond-false, ne_eqb}
use Rattle.std.proofs.lemmas.List.Sums.{sum_by-append, sum_by-cons}
use Rattle.std.proofs.lemmas.List.Elements.{All-nil}
use Rattle.nb_model.specs.declared.body.Body.{Body}
use Rattle.nb_model.specs.declared.params.Params.{Params}
use Rattle.nb_model.specs.Leapfrog.{unescaped}
use Rattle.nb_model.specs.Gravity.{force_on}
use Rattle.nb_model.specs.Valid.{IsInBox}
use Rattle.nb_model.specs.Vector.{plus}
use Rattle.nb_host.specs.declared.page_name.PageName.{PageName}
use Rattle.nb_record.specs.declared.tree.Tree.{Tree}
use Rattle.nb_record.proofs.Callers.{plus_assoc}
use Rattle.nb_walk.specs.declared.item.Item.{Item}
use Rattle.nb_walk.specs.declared.tally.Tally.{Tally}
use Rattle.nb_walk.specs.declared.visit.Visit.{Visit}
use Rattle.nb_walk.specs.declared.visit.Visit.TheVariants as visit
use Rattle.nb_walk.specs.Terms.{term_mass, pulls}
use Rattle.nb_walk.specs.Items.{last_item, remaining_terms, remaining_force}
use Rattle.nb_walk.specs.Left.{IsItemOf, AreItemsOf, step_bound, item_bound, remaining_pages}
use Rattle.nb_walk.specs.Shown.{next_item, shown_for, WaitsFor}
use Rattle.nb_walk.specs.Taking.{TakesAlong, TakesOver}
use Rattle.nb_walk.specs.Walk.{WalkValue, IsSumInRange, IsWithin, IsWalkOn, Lowers, IsUndamaged, OnTree, VisitsTree, IsBlocked, CanVisit, RunsTree}
use Rattle.nb_walk.proofs.Courses.{empty_list}
use Rattle.nb_walk.proofs.Lefts.{bound_some}
use Rattle.nb_walk.proofs.Pulling.{angle, pulls-append}
use Rattle.nb_walk.proofs.Remaining.{remaining_pulls, remaining_terms_mass}

abbrev pub walk_of : Tally → List Item → WalkValue
walk_of a items = record { target = a.target; sum = a.sum; taken = a.taken; items = items }

module _ (params : Params) (bodies : List Body) (tree : Tree) (file : List ℕ) (box : All (λ b. IsInBox b.at) bodies) where
  abbrev On : WalkValue → Type 0
  On w = IsWalkOn params bodies tree file w

  -- what was taken and what is left are what was left
  left_is : (a b : Tally) (old new : List Item) → IsInBox a.target → AreItemsOf params bodies tree file old → (t : TakesAlong params bodies tree file old new a b)
      → remaining_force params bodies a.target old ≡ plus (pulls params a.target t.terms) (remaining_force params bodies a.target new)
  left_is a b old new within are t =
      let w = angle params a.target in
      sym (remaining_pulls params bodies tree file a.target within box old are)
      ∙ ap (pulls params a.target) t.along
      ∙ pulls-append params a.target t.terms (remaining_terms w params.leaf bodies new)
      ∙ ap (plus (pulls params a.target t.terms)) (remaining_pulls params bodies tree file a.target within box new t.items)

  pub kept : (a b : Tally) (old new : List Item) → IsInBox a.target → On (walk_of a old) → TakesAlong params bodies tree file old new a b → On (walk_of b new)
  kept a b old new within on t =
      let w = angle params a.target in
      let p = a.target in
      let given = t.added.sum in
      let more = t.added.taken in
      let mass = ap (sum_by term_mass) t.along ∙ sum_by-append term_mass t.terms (remaining_terms w params.leaf bodies new) in
      let before = remaining_terms_mass w params.leaf bodies old in
      let after = remaining_terms_mass w params.leaf bodies new in
      let all = on.mass in
      record {
        sum =
            ap (λ v. plus v (remaining_force params bodies b.target new)) given
            ∙ ap (λ q. plus (plus a.sum (pulls params p t.terms)) (remaining_force params bodies q new)) t.added.target
            ∙ plus_assoc a.sum (pulls params p t.terms) (remaining_force params bodies p new)
            ∙ ap (plus a.sum) (sym (left_is a b old new within on.items t))
            ∙ on.sum
            ∙ ap (λ q. force_on params q 0 (unescaped bodies)) (sym t.added.target);
        mass = omega arith;
        items = t.items;
      }

  -- a walk with no terms to come is finished
  pub ended : (w : WalkValue) → IsInBox w.target → remaining_terms (angle params w.target) params.leaf bodies w.items ≡ [] → On w → On (record { target = w.target; sum = w.sum; taken = w.taken; items = [] })
  ended w within none on =
      let no_force = sym (remaining_pulls params bodies tree file w.target within box w.items on.items) ∙ ap (pulls params w.target) none in
      let no_mass = sym (remaining_terms_mass (angle params w.target) params.leaf bodies w.items) ∙ ap (sum_by term_mass) none in
      let all = on.mass in
      record {
        sum = ap (plus w.sum) (sym no_force) ∙ on.sum;
        mass = omega arith;
        items = All-nil (IsItemOf params bodies tree file);
      }

  pub visits : (a b : Tally) (old new : List Item) (result : Visit) → IsInBox a.target → On (walk_of a old) → TakesOver params bodies tree file old new a b result
      → ((name : PageName) → result ≡ visit.Wants name → (new ≡ old) × (b ≡ a)) → VisitsTree params bodies tree file (walk_of a old) (walk_of b new) result
  visits a b old new visit.Moved within on t same = record { on = kept a b old new within on t; sound = tt; fewer = t.fewer }
  visits a b old new (visit.Wants name) within on t same =
      let both = same name refl in
      record { on = subst (λ l. On (walk_of b l)) (sym both.0) (subst (λ c. On (walk_of c old)) (sym both.1) on); sound = tt; fewer = tt }
  visits a b old new visit.Finished within on t same = absurd t
  visits a b old new (visit.Damaged name) within on t same = let all = on.mass in absurd (omega arith)

  pub same_visit : (old was new now : WalkValue) (a b : Visit) → old ≡ was → new ≡ now → a ≡ b → VisitsTree params bodies tree file old new a → VisitsTree params bodies tree file was now b
  same_visit old was new now a b olds news ab along =
      subst (λ l. VisitsTree params bodies tree file l now b) olds
      (subst (λ l. VisitsTree params bodies tree file old l b) news
      (subst (λ r. VisitsTree params bodies tree file old new r) ab along))

-- ---- visits, one after the other

module _ (cells bodies_shown : ℕ → Option (List ℕ)) (params : Params) (tree : Tree) where
  abbrev Pages : List Body → List ℕ → WalkValue → ℕ
  Pages bodies file w = remaining_pages file tree params.leaf bodies w.items

  -- a walk after some visits that all went on
  pub record Ran (old new : WalkValue) : Type 0 where
    pub target : new.target ≡ old.target
    pub range : IsSumInRange params new
    pub within : IsWithin tree.mass old → IsWithin tree.mass new
    pub moved : (new ≡ old) ⊎ (step_bound tree new.items < step_bound tree old.items)
    pub over : OnTree params tree cells bodies_shown old
        (λ bodies file. IsWalkOn params bodies tree file new × ((new ≡ old) ⊎ (remaining_pages file tree params.leaf bodies new.items < remaining_pages file tree params.leaf bodies old.items)))

  pub ran_none : (w : WalkValue) → IsSumInRange params w → Ran w w
  ran_none w range = record { target = refl; range = range; within = λ few. few; moved = inl refl; over = λ files bodies of_tree shows on. (on, inl refl) }

  still_less : (f : WalkValue → ℕ) (old mid new : WalkValue) → (mid ≡ old) ⊎ (f mid < f old) → f new < f mid → f new < f old
  still_less f old mid new (inl same) less = subst (λ w. f new < f w) same less
  still_less f old mid new (inr lower) less = omega arith

  pub ran_more : (old mid new : WalkValue) (result : Visit) → result ≡ visit.Moved → Ran old mid → new.target ≡ mid.target → IsSumInRange params new → (IsWithin tree.mass mid → IsWithin tree.mass new) → Lowers result (step_bound tree mid.items) (step_bound tree new.items)
      → OnTree params tree cells bodies_shown mid (λ bodies file. VisitsTree params bodies tree file mid new result) → Ran old new
  ran_more old mid new result is ran target range within lower over = record {
    target = target ∙ ran.target;
    range = range;
    within = λ few. within (ran.within few);
    moved = inr (still_less (λ w. step_bound tree w.items) old mid new ran.moved (subst (λ r. Lowers r (step_bound tree mid.items) (step_bound tree new.items)) is lower));
    over = λ files bodies of_tree shows on.
        let before = ran.over files bodies of_tree shows on in
        let after = subst (VisitsTree params bodies tree (files tree.cells) mid new) is (over files bodies of_tree shows before.0) in
        (after.on, inr (still_less (Pages bodies (files tree.cells)) old mid new before.1 after.fewer));
  }

  next_last : (items : List Item) (x : Item) → next_item tree items ≡ Some x → last_item items ≡ Some x
  next_last items x is = kept_item (eqb tree.count 0) (last_item items) x is where
    kept_item : (t : Bool) (o : Option Item) (x : Item) → cond t None o ≡ Some x → o ≡ Some x
    kept_item true o x is = absurd (cc)
    kept_item false o x is = is

  some_bound : (items : List Item) (x : Item) → last_item items ≡ Some x → 0 < step_bound tree items
  some_bound [] x is = absurd (cc)
  some_bound (y ∷ ys) x is = omega (arith, sum_by-cons (item_bound tree) y ys, bound_some tree y)

  -- ---- where it waits

  pub blocked_is : (items : List Item) (name : PageName) → WaitsFor cells bodies_shown tree items name → IsBlocked cells bodies_shown tree items
  blocked_is items name waits = record { item = waits.item; last = next_last items waits.item waits.next; unseen = waits.unseen }

  no_visit : (items : List Item) → IsBlocked cells bodies_shown tree items → CanVisit cells bodies_shown tree items → ⊥
  no_visit items waits can =
      let same : waits.item ≡ can.item = let both = sym waits.last ∙ can.last in cc in
      can.shown (subst (λ x. shown_for cells bodies_shown tree x ≡ None) same waits.unseen)

  pub waits_lower : (old new : WalkValue) → Ran old new → IsBlocked cells bodies_shown tree new.items → CanVisit cells bodies_shown tree old.items → step_bound tree new.items < step_bound tree old.items
  waits_lower old new ran waits can = elim ran.moved [
    | inl same ↦ absurd (no_visit old.items (subst (λ w. IsBlocked cells bodies_shown tree w.items) same waits) can)
    | inr less ↦ less
  ]

  at_most : (f : WalkValue → ℕ) (old new : WalkValue) → (new ≡ old) ⊎ (f new < f old) → f new ≤ f old
  at_most f old new (inl same) = subst (λ w. f w ≤ f old) (sym same) (omega arith)
  at_most f old new (inr less) = omega arith

  pub ran_bound : (old new : WalkValue) → Ran old new → step_bound tree new.items ≤ step_bound tree old.items
  ran_bound old new ran = at_most (λ w. step_bound tree w.items) old new ran.moved

  pub waits_over : (old new : WalkValue) → Ran old new → IsBlocked cells bodies_shown tree new.items
      → OnTree params tree cells bodies_shown old (λ bodies file. RunsTree cells bodies_shown params bodies tree file old new (Ok false))
  waits_over old new ran waits = λ files bodies of_tree shows on.
      let after = ran.over files bodies of_tree shows on in
      record {
        on = after.0;
        sound = refl;
        left = at_most (Pages bodies (files tree.cells)) old new after.1;
        lower = λ some can. elim after.1 [
          | inl same ↦ absurd (no_visit old.items (subst (λ w. IsBlocked cells bodies_shown tree w.items) same waits) can)
          | inr less ↦ less
        ];
      }

  -- ---- where it is finished

  pub ended_lower : (old new : WalkValue) → new.items ≡ [] → CanVisit cells bodies_shown tree old.items → step_bound tree new.items < step_bound tree old.items
  ended_lower old new none can = subst (λ l. step_bound tree l < step_bound tree old.items) (sym none) (some_bound old.items can.item can.last)

  pub ended_bound : (old new : WalkValue) → new.items ≡ [] → step_bound tree new.items ≤ step_bound tree old.items
  ended_bound old new none = subst (λ l. step_bound tree l ≤ step_bound tree old.items) (sym none) (omega arith)

  pub ended_over : (old mid new : WalkValue) (result : Visit) → Ran old mid → next_item tree mid.items ≡ None → new.items ≡ []
      → OnTree params tree cells bodies_shown mid (λ bodies file. VisitsTree params bodies tree file mid new result)
      → OnTree params tree cells bodies_shown old (λ bodies file. RunsTree cells bodies_shown params bodies tree file old new (Ok true))
  ended_over old mid new result ran over_ none over = λ files bodies of_tree shows on.
      let before = ran.over files bodies of_tree shows on in
      let after = over files bodies of_tree shows before.0 in
      let f = Pages bodies (files tree.cells) in
      let zero_left : f new ≡ 0 = ap (remaining_pages (files tree.cells) tree params.leaf bodies) none in
      record {
        on = after.on;
        sound = refl;
        left = omega arith;
        lower = λ some can. elim before.1 [
          | inl same ↦
              let count : tree.count ≢ 0 = λ e. some (empty_list (unescaped bodies) (sym of_tree.count ∙ e)) in
              let next : next_item tree old.items ≡ Some can.item = cond-false (eqb tree.count 0) None (last_item old.items) (ne_eqb tree.count 0 count) ∙ can.last in
              let nothing = subst (λ w. next_item tree w.items ≡ None) same over_ in
              absurd (let both = sym nothing ∙ next in cc)
          | inr less ↦ omega arith
        ];
      }

  -- ---- where a page isn't the tree's

  pub damaged_over : (old mid new : WalkValue) (result : Visit) (name : PageName) → result ≡ visit.Damaged name → Ran old mid
      → OnTree params tree cells bodies_shown mid (λ bodies file. VisitsTree params bodies tree file mid new result)
      → OnTree params tree cells bodies_shown old (λ bodies file. RunsTree cells bodies_shown params bodies tree file old new (Err name))
  damaged_over old mid new result name is ran over = λ files bodies of_tree shows on.
      let before = ran.over files bodies of_tree shows on in
      let after = over files bodies of_tree shows before.0 in
      absurd (subst IsUndamaged is after.sound)
