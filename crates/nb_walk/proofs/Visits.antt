-- A visit at the next item of a walk, and visits one after the other.
use Rattle.std.proofs.Common.{◌≡◌, ℕ, ◌+◌, ◌-◌, ◌<◌, ◌≤◌, ◌↔◌, eqb, List, [], ◌∷◌, ◌++◌, length, append_assoc, Option, Some, None, sym, ap, ◌∙◌, refl, arith, subst, inl, inr}
use Rattle.std.specs.Prelude.{◌≢◌, ◌⊎◌, sum_by, All}
use Rattle.std.proofs.lemmas.Bool.{cond-false, ne_eqb}
use Rattle.std.proofs.lemmas.List.Sums.{sum_by-append}
use Rattle.std.proofs.lemmas.Option.{slice_get-get_or}
use Rattle.nb_model.specs.declared.body.Body.{Body}
use Rattle.nb_model.specs.declared.params.Params.{Params}
use Rattle.nb_model.specs.Valid.{IsInBox}
use Rattle.nb_key.specs.Morton.{morton_key}
use Rattle.nb_host.specs.declared.page_name.PageName.{PageName}
use Rattle.nb_record.specs.declared.tree.Tree.{Tree}
use Rattle.nb_walk.specs.declared.item.Item.{Item}
use Rattle.nb_walk.specs.declared.tally.Tally.{Tally}
use Rattle.nb_walk.specs.declared.visit.Visit.{Visit}
use Rattle.nb_walk.specs.declared.visit.Visit.TheVariants as visit
use Rattle.nb_walk.specs.Group.{walk_of}
use Rattle.nb_walk.specs.Items.{last_item, remaining_terms, remaining_mass}
use Rattle.nb_walk.specs.Left.{step_bound}
use Rattle.nb_walk.specs.Looks.{IsOneLook, later_bodies}
use Rattle.nb_walk.specs.Part.{IsTally, KeepsTally, TakesPart, TakesTerms, OnPart}
use Rattle.nb_walk.specs.Room.{HasRoom}
use Rattle.nb_walk.specs.Shown.{WaitsFor, next_item, shown_for}
use Rattle.nb_walk.specs.Taking.{TakesOver, TakesTree}
use Rattle.nb_walk.specs.Terms.{term_mass}
use Rattle.nb_walk.specs.Walk.{CanVisit, IsWalkOn, VisitsTree}
use Rattle.nb_walk.proofs.Pulling.{angle}
use Rattle.nb_walk.proofs.Remaining.{remaining_terms_mass}
use Rattle.nb_walk.proofs.Rooms.{last_pushed}
use Rattle.nb_walk.proofs.Tallies.{adds_none, adds_more}
use Rattle.nb_walk.proofs.Walking.{visits}

-- ---- the next item

pub last_none : (items : List Item) → last_item items ≡ None → items ≡ []
last_none [] none = refl
last_none (x ∷ xs) none = absurd (let some = slice_get-get_or (x ∷ xs) (length (x ∷ xs) - 1) x (omega arith) in let both = sym some ∙ none in cc)

pub none_next : (tree : Tree) (items : List Item) → tree.count ≢ 0 → next_item tree items ≡ None → items ≡ []
none_next tree items some none = last_none items (sym (cond-false (eqb tree.count 0) None (last_item items) (ne_eqb tree.count 0 some)) ∙ none)

-- ---- one visit

module _ (params : Params) (bodies : List Body) (tree : Tree) (file : List ℕ) (box : All (λ b. IsInBox b.at) bodies) where
  pub visits_item : (a b : Tally) (old new : List Item) (result : Visit) → IsInBox a.target → IsWalkOn params bodies tree file (walk_of a old)
      → (result ≢ visit.Finished → TakesOver params bodies tree file old new a b result)
      → ((name : PageName) → result ≡ visit.Wants name → (new ≡ old) × (b ≡ a)) → (result ≡ visit.Finished → (new ≡ old) × (b ≡ a))
      → VisitsTree params bodies tree file (walk_of a old) (walk_of b new) result
  visits_item a b old new visit.Moved within on takes same ends = visits params bodies tree file box a b old new visit.Moved within on (takes (λ e. cc)) same
  visits_item a b old new (visit.Wants name) within on takes same ends = visits params bodies tree file box a b old new (visit.Wants name) within on (takes (λ e. cc)) same
  visits_item a b old new visit.Finished within on takes same ends =
      let both = ends refl in
      record {
        on = subst (λ l. IsWalkOn params bodies tree file (walk_of b l)) (sym both.0) (subst (λ c. IsWalkOn params bodies tree file (walk_of c old)) (sym both.1) on);
        sound = tt;
        fewer = tt;
      }
  visits_item a b old new (visit.Damaged name) within on takes same ends = visits params bodies tree file box a b old new (visit.Damaged name) within on (takes (λ e. cc)) same

-- ---- tallies

pub keeps_none : (params : Params) (most : ℕ) (a : Tally) → IsTally params a → KeepsTally params most a a
keeps_none params most a tally = record { target = refl; key = refl; range = tally.range; within = λ few. few }

pub keeps_then : (params : Params) (most : ℕ) (a b c : Tally) → KeepsTally params most a b → KeepsTally params most b c → KeepsTally params most a c
keeps_then params most a b c first second = record {
  target = second.target ∙ first.target;
  key = second.key ∙ first.key;
  range = second.range;
  within = λ few. second.within (first.within few);
}

pub tally_kept : (params : Params) (most : ℕ) (a b : Tally) → IsTally params a → KeepsTally params most a b → IsTally params b
tally_kept params most a b tally kept = record {
  target = subst IsInBox (sym kept.target) tally.target;
  key = kept.key ∙ tally.key ∙ ap morton_key (sym kept.target);
  range = kept.range;
}

-- ---- some of a walk's items

module _ (cells bodies_shown : ℕ → Option (List ℕ)) (params : Params) (tree : Tree) where
  abbrev pub Takes : ℕ → List Item → List Item → Tally → Tally → Type 0
  Takes looked old new a b = TakesPart cells bodies_shown params tree looked old new a b

  pub takes_none : (items : List Item) (a : Tally) → IsTally params a → Takes 0 items items a a
  takes_none items a tally = record {
    kept = keeps_none params tree.mass a tally;
    bound = omega arith;
    over = λ files bodies of_tree shows are mass. record { terms = []; added = adds_none params a; items = are; along = refl; fewer = omega arith };
  }

  pub takes_less : (n m : ℕ) (old new : List Item) (a b : Tally) → m ≤ n → Takes n old new a b → Takes m old new a b
  takes_less n m old new a b less takes =
      let bound = takes.bound in
      record {
        kept = takes.kept;
        bound = omega arith;
        over = λ files bodies of_tree shows are mass.
            let t = takes.over files bodies of_tree shows are mass in
            let fewer = t.fewer in
            record { terms = t.terms; added = t.added; items = t.items; along = t.along; fewer = omega arith };
      }

  -- what is left of the tree's mass
  pub mass_left : (bodies : List Body) (file : List ℕ) (n : ℕ) (old new : List Item) (a b : Tally) → TakesTerms params bodies tree file n old new a b
      → a.taken + remaining_mass bodies old ≤ tree.mass → b.taken + remaining_mass bodies new ≤ tree.mass
  mass_left bodies file n old new a b t mass =
      let w = angle params a.target in
      let sum = ap (sum_by term_mass) t.along ∙ sum_by-append term_mass t.terms (remaining_terms w params.leaf bodies new) in
      let before = remaining_terms_mass w params.leaf bodies old in
      let after = remaining_terms_mass w params.leaf bodies new in
      let taken = t.added.taken in
      omega arith

  pub takes_then : (n m : ℕ) (old mid new : List Item) (a b c : Tally) → Takes n old mid a b → Takes m mid new b c → Takes (n + m) old new a c
  takes_then n m old mid new a b c first second =
      let one = first.bound in
      let two = second.bound in
      record {
        kept = keeps_then params tree.mass a b c first.kept second.kept;
        bound = omega arith;
        over = λ files bodies of_tree shows are mass.
            let t = first.over files bodies of_tree shows are mass in
            let u = second.over files bodies of_tree shows t.items (mass_left bodies (files tree.cells) n old mid a b t mass) in
            let along = subst (λ p. remaining_terms (angle params p) params.leaf bodies mid ≡ u.terms ++ remaining_terms (angle params p) params.leaf bodies new) first.kept.target u.along in
            let fewer_first = t.fewer in
            let fewer_second = u.fewer in
            record {
              terms = t.terms ++ u.terms;
              added = adds_more params t.terms u.terms a b c t.added u.added;
              items = u.items;
              along = t.along ∙ ap (λ l. t.terms ++ l) along ∙ sym (append_assoc t.terms u.terms (remaining_terms (angle params a.target) params.leaf bodies new));
              fewer = omega arith;
            };
      }

  pub takes_visit : (old new : List Item) (a b : Tally) → KeepsTally params tree.mass a b → step_bound tree new < step_bound tree old
      → TakesTree params tree cells bodies_shown old new a b visit.Moved → Takes 1 old new a b
  takes_visit old new a b kept lower takes = record {
    kept = kept;
    bound = omega arith;
    over = λ files bodies of_tree shows are mass.
        let t = takes files bodies of_tree shows are in
        let fewer = t.fewer in
        record { terms = t.terms; added = t.added; items = t.items; along = t.along; fewer = omega arith };
  }

  -- ---- visits, one after the other

  -- the items and the tally after no visit yet, or after one at least
  pub record Visited (old new : List Item) (a b : Tally) : Type 0 where
    pub room : HasRoom new
    pub tally : IsTally params b
    pub moved : ((new ≡ old) × (b ≡ a)) ⊎ (CanVisit cells bodies_shown tree old × Takes 1 old new a b)

  pub visited_none : (items : List Item) (a : Tally) → HasRoom items → IsTally params a → Visited items items a a
  visited_none items a room tally = record { room = room; tally = tally; moved = inl (refl, refl) }

  pub visited_takes : (old new : List Item) (a b : Tally) → IsTally params a → Visited old new a b → Takes 0 old new a b
  visited_takes old new a b tally visited = elim visited.moved [
    | inl still ↦ subst (λ l. Takes 0 old l a b) (sym still.0) (subst (λ t. Takes 0 old old a t) (sym still.1) (takes_none old a tally))
    | inr moved ↦ takes_less 1 0 old new a b (omega arith) moved.1
  ]

  -- the item that a look was at
  pub can_look : (old new : List Item) → IsOneLook later_bodies cells bodies_shown tree old new → CanVisit cells bodies_shown tree old
  can_look old new look = record {
    item = look.item;
    last = ap last_item look.next ∙ last_pushed look.front look.item;
    shown = λ none. (let both = sym look.shown ∙ none in cc);
  }

  pub visited_more : (old mid new : List Item) (a b c : Tally) → Visited old mid a b → HasRoom new → KeepsTally params tree.mass b c
      → IsOneLook later_bodies cells bodies_shown tree mid new → step_bound tree new < step_bound tree mid
      → TakesTree params tree cells bodies_shown mid new b c visit.Moved → Visited old new a c
  visited_more old mid new a b c visited room kept look lower takes =
      let one = takes_visit mid new b c kept lower takes in
      record {
        room = room;
        tally = tally_kept params tree.mass b c visited.tally kept;
        moved = elim visited.moved [
          | inl still ↦ inr (
            subst (CanVisit cells bodies_shown tree) still.0 (can_look mid new look),
            subst (λ l. Takes 1 l new a c) still.0 (subst (λ t. Takes 1 mid new t c) still.1 one),
          )
          | inr moved ↦ inr (moved.0, takes_less (1 + 1) 1 old new a c (omega arith) (takes_then 1 1 old mid new a b c moved.1 one))
        ];
      }

  -- ---- where they end

  -- the next item's page isn't shown, if there is one
  abbrev pub Rests : List Item → Type 0
  Rests items = (x : Item) → last_item items ≡ Some x → shown_for cells bodies_shown tree x ≡ None

  last_next : (items : List Item) (x : Item) → tree.count ≢ 0 → next_item tree items ≡ Some x → last_item items ≡ Some x
  last_next items x some is = sym (cond-false (eqb tree.count 0) None (last_item items) (ne_eqb tree.count 0 some)) ∙ is

  pub rests_waiting : (items : List Item) (name : PageName) → tree.count ≢ 0 → WaitsFor cells bodies_shown tree items name → Rests items
  rests_waiting items name some waits x last =
      let same : waits.item ≡ x = let both = sym (last_next items waits.item some waits.next) ∙ last in cc in
      subst (λ y. shown_for cells bodies_shown tree y ≡ None) same waits.unseen

  pub rests_empty : (items : List Item) → items ≡ [] → Rests items
  rests_empty items none x last = absurd (let both = sym (ap last_item none) ∙ last in cc)

  pub no_visit : (items : List Item) → Rests items → CanVisit cells bodies_shown tree items → ⊥
  no_visit items rests can = can.shown (rests can.item can.last)

  pub visited_stays : (old new : List Item) (a b : Tally) → Visited old new a b → Rests old → new ≡ old
  visited_stays old new a b visited rests = elim visited.moved [
    | inl still ↦ still.0
    | inr moved ↦ absurd (no_visit old rests moved.0)
  ]

  pub visited_looked : (old new : List Item) (a b : Tally) → Visited old new a b → Rests new → CanVisit cells bodies_shown tree old → Takes 1 old new a b
  visited_looked old new a b visited rests can = elim visited.moved [
    | inl still ↦ absurd (no_visit old (subst Rests still.0 rests) can)
    | inr moved ↦ moved.1
  ]

  -- the last visit found no page, or nothing left
  pub record Stopped (mid new : List Item) (b c : Tally) : Type 0 where
    pub rests : Rests new
    pub items : new ≡ mid
    pub tally : c ≡ b

  pub visited_stopped : (old mid new : List Item) (a b c : Tally) → Visited old mid a b → Stopped mid new b c → Visited old new a c
  visited_stopped old mid new a b c visited stopped =
      subst (λ l. Visited old l a c) (sym stopped.items) (subst (λ t. Visited old mid a t) (sym stopped.tally) visited)

  pub stopped : (mid new : List Item) (b c : Tally) (result : Visit) → tree.count ≢ 0 → ((name : PageName) × (result ≡ visit.Wants name)) ⊎ (result ≡ visit.Finished)
      → ((name : PageName) → (result ≡ visit.Wants name) ↔ WaitsFor cells bodies_shown tree mid name) → ((name : PageName) → result ≡ visit.Wants name → (new ≡ mid) × (c ≡ b))
      → (result ≡ visit.Finished) ↔ (mid ≡ []) → (result ≡ visit.Finished → (new ≡ []) × (c ≡ b)) → Stopped mid new b c
  stopped mid new b c result some (inl waits) wants same finished done =
      let both = same waits.0 waits.1 in
      record {
        rests = subst Rests (sym both.0) (rests_waiting mid waits.0 some ((wants waits.0).0 waits.1));
        items = both.0;
        tally = both.1;
      }
  stopped mid new b c result some (inr ends) wants same finished done =
      let both = done ends in
      record { rests = rests_empty new both.0; items = both.0 ∙ sym (finished.0 ends); tally = both.1 }

  -- over a tree no visit finds damage
  pub visited_sound : (old mid new : List Item) (a b c : Tally) (name : PageName) → IsTally params a → Visited old mid a b
      → TakesTree params tree cells bodies_shown mid new b c (visit.Damaged name) → OnPart params tree cells bodies_shown old a (λ bodies file. ⊥)
  visited_sound old mid new a b c name tally visited takes = λ files bodies of_tree shows are mass.
      let t = (visited_takes old mid a b tally visited).over files bodies of_tree shows are mass in
      let heavy = takes files bodies of_tree shows t.items in
      let left = mass_left bodies (files tree.cells) 0 old mid a b t mass in
      omega arith
