-- A walk before and after visits of a part of its items.
use Rattle.std.proofs.Common.{◌≡◌, ℕ, ◌+◌, ◌≤◌, List, [], ◌++◌, Option, length, append-nil, append_assoc, length-append, map, sym, ap, ◌∙◌, refl, arith, subst}
use Rattle.std.specs.Prelude.{sum_by, All, IsPermutation}
use Rattle.std.proofs.lemmas.List.{map-append, get_or_append_left, get_or-append-add}
use Rattle.std.proofs.lemmas.List.Sums.{sum_by-append}
use Rattle.std.proofs.lemmas.List.Elements.{All-append}
use Rattle.std.proofs.lemmas.List.Sorted.{All-permutation, sum_by-IsPermutation, IsPermutation-map}
use Rattle.nb_model.specs.declared.body.At.{At}
use Rattle.nb_model.specs.declared.body.V3.{V3}
use Rattle.nb_model.specs.declared.body.Body.{Body}
use Rattle.nb_model.specs.declared.params.Params.{Params}
use Rattle.nb_model.specs.Gravity.{force_on}
use Rattle.nb_model.specs.Leapfrog.{unescaped}
use Rattle.nb_model.specs.Valid.{IsInBox}
use Rattle.nb_model.specs.Vector.{plus, vector_sum}
use Rattle.nb_record.specs.declared.tree.Tree.{Tree}
use Rattle.nb_record.proofs.Callers.{plus_assoc, plus_comm, vector_sum-append, vector_sum-IsPermutation, tree_in_box}
use Rattle.nb_walk.specs.declared.item.Item.{Item}
use Rattle.nb_walk.specs.declared.shared.SharedItem.{SharedItem}
use Rattle.nb_walk.specs.declared.tally.Tally.{Tally}
use Rattle.nb_walk.specs.declared.term.Term.{Term}
use Rattle.nb_walk.specs.Group.{walk_of}
use Rattle.nb_walk.specs.Items.{item_force, remaining_force, item_mass, remaining_mass, remaining_terms}
use Rattle.nb_walk.specs.Left.{IsItemOf, AreItemsOf, WorkCosts, item_work, pages_spanned, item_bound, step_bound}
use Rattle.nb_walk.specs.Part.{IsTally, KeepsTally, TakesTerms, TakesPart}
use Rattle.nb_walk.specs.Running.{KeepsWalk, HasRun}
use Rattle.nb_walk.specs.Shared.{items_of}
use Rattle.nb_walk.specs.Terms.{term_mass, pulls}
use Rattle.nb_walk.specs.Walk.{WalkValue, IsSumInRange, IsWalkOn}
use Rattle.nb_walk.proofs.Pulling.{angle, pulls-append}
use Rattle.nb_walk.proofs.Remaining.{remaining_pulls, remaining_terms_mass}
use Rattle.nb_walk.proofs.Sharing.{items_split, wait_permuted}
use Rattle.nb_walk.proofs.Tallies.{adds_none, adds_more}

-- ---- a part of a list

module _ {X : Type 0} where
  all_left : (P : X → Type 0) (xs ys : List X) → All P (xs ++ ys) → All P xs
  all_left P xs ys all = λ k d below. subst P (get_or_append_left xs ys d k below) (all k d (omega (arith, length-append xs ys)))

  all_right : (P : X → Type 0) (xs ys : List X) → All P (xs ++ ys) → All P ys
  all_right P xs ys all = λ k d below. subst P (get_or-append-add xs ys k d) (all (length xs + k) d (omega (arith, length-append xs ys)))

  -- the sum over a part, and that over the others
  pub sum_of_part : (f : X → ℕ) (pre part post : List X) → sum_by f (pre ++ (part ++ post)) ≡ sum_by f part + (sum_by f pre + sum_by f post)
  sum_of_part f pre part post =
      let outer = sum_by-append f pre (part ++ post) in
      let inner = sum_by-append f part post in
      omega arith

  pub vector_sum_of_part : (f : X → V3) (pre part post : List X)
      → vector_sum (map f (pre ++ (part ++ post))) ≡ plus (vector_sum (map f part)) (plus (vector_sum (map f pre)) (vector_sum (map f post)))
  vector_sum_of_part f pre part post =
      let front = vector_sum (map f pre) in
      let own = vector_sum (map f part) in
      let rest = vector_sum (map f post) in
      both pre (part ++ post)
      ∙ ap (plus front) (both part post)
      ∙ sym (plus_assoc front own rest)
      ∙ ap (λ v. plus v rest) (plus_comm front own)
      ∙ plus_assoc own front rest
    where
      both : (xs ys : List X) → vector_sum (map f (xs ++ ys)) ≡ plus (vector_sum (map f xs)) (vector_sum (map f ys))
      both xs ys = ap vector_sum (map-append f xs ys) ∙ vector_sum-append (map f xs) (map f ys)

-- ---- whatever pages are shown

module _ (params : Params) (tree : Tree) where
  pub kept_none : (w : WalkValue) → IsSumInRange params w → KeepsWalk params tree w w
  kept_none w range = record { target = refl; range = range; within = λ few. few; bound = omega arith }

  pub kept_then : (old mid new : WalkValue) → KeepsWalk params tree old mid → KeepsWalk params tree mid new → KeepsWalk params tree old new
  kept_then old mid new first second = record {
    target = second.target ∙ first.target;
    range = second.range;
    within = λ few. second.within (first.within few);
    bound = omega arith;
  }

  -- a part of the items gave way to others, whatever stands before and behind them
  pub kept_part : (pre old new post : List Item) (a b : Tally) → KeepsTally params tree.mass a b → step_bound tree new ≤ step_bound tree old
      → KeepsWalk params tree (walk_of a (pre ++ (old ++ post))) (walk_of b (pre ++ (new ++ post)))
  kept_part pre old new post a b kept bound = record {
    target = kept.target;
    range = kept.range;
    within = kept.within;
    bound = omega (arith, sum_of_part (item_bound tree) pre old post, sum_of_part (item_bound tree) pre new post);
  }

  -- a part of the shared items gave way to others
  pub kept_shared : (i : ℕ) (xs old new ws : List SharedItem) (own : List Item) (a b : Tally) → KeepsTally params tree.mass a b → step_bound tree (items_of i new) ≤ step_bound tree (items_of i old)
      → KeepsWalk params tree (walk_of a (items_of i ((xs ++ old) ++ ws) ++ own)) (walk_of b (items_of i ((xs ++ new) ++ ws) ++ own))
  kept_shared i xs old new ws own a b kept bound =
      subst (λ l. KeepsWalk params tree (walk_of a l) (walk_of b (items_of i ((xs ++ new) ++ ws) ++ own))) (sym (items_split i xs old ws own))
      (subst (λ l. KeepsWalk params tree (walk_of a (items_of i xs ++ (items_of i old ++ (items_of i ws ++ own)))) (walk_of b l)) (sym (items_split i xs new ws own))
      (kept_part (items_of i xs) (items_of i old) (items_of i new) (items_of i ws ++ own) a b kept bound))

  -- the walk's own items gave way to others
  pub kept_own : (shared old new : List Item) (a b : Tally) → KeepsTally params tree.mass a b → step_bound tree new ≤ step_bound tree old
      → KeepsWalk params tree (walk_of a (shared ++ old)) (walk_of b (shared ++ new))
  kept_own shared old new a b kept bound =
      subst (λ l. KeepsWalk params tree (walk_of a (shared ++ l)) (walk_of b (shared ++ new))) (append-nil old)
      (subst (λ l. KeepsWalk params tree (walk_of a (shared ++ (old ++ []))) (walk_of b (shared ++ l))) (append-nil new) (kept_part shared old new [] a b kept bound))

  pub kept_permuted : (old new : List Item) (a : Tally) → IsTally params a → IsPermutation old new → KeepsWalk params tree (walk_of a old) (walk_of a new)
  kept_permuted old new a tally same = record {
    target = refl;
    range = tally.range;
    within = λ few. few;
    bound = omega (arith, sum_by-IsPermutation (item_bound tree) old new same);
  }

-- ---- over a tree

abbrev paged : WorkCosts
paged = record { of_leaf = pages_spanned; of_bodies = pages_spanned }

module _ (params : Params) (bodies : List Body) (tree : Tree) (file : List ℕ) where
  abbrev On : WalkValue → Type 0
  On w = IsWalkOn params bodies tree file w

  abbrev Are : List Item → Type 0
  Are items = AreItemsOf params bodies tree file items

  abbrev Fits : Tally → List Item → Type 0
  Fits a items = Are items × (a.taken + remaining_mass bodies items ≤ tree.mass)

  -- a part of a walk's items is the tree's, and weighs no more than is left of it
  pub part_fits : (pre part post : List Item) (a : Tally) → On (walk_of a (pre ++ (part ++ post))) → Fits a part
  part_fits pre part post a on =
      let item = IsItemOf params bodies tree file in
      let whole = on.mass in
      let mass = sum_of_part (item_mass bodies) pre part post in
      (all_left item part post (all_right item pre (part ++ post) on.items), omega arith)

  pub shared_fits : (i : ℕ) (xs part ws : List SharedItem) (own : List Item) (a : Tally) → On (walk_of a (items_of i ((xs ++ part) ++ ws) ++ own)) → Fits a (items_of i part)
  shared_fits i xs part ws own a on =
      part_fits (items_of i xs) (items_of i part) (items_of i ws ++ own) a (subst (λ l. On (walk_of a l)) (items_split i xs part ws own) on)

  pub own_fits : (shared own : List Item) (a : Tally) → On (walk_of a (shared ++ own)) → Fits a own
  own_fits shared own a on = part_fits shared own [] a (subst (λ l. On (walk_of a (shared ++ l))) (sym (append-nil own)) on)

module _ (params : Params) (bodies : List Body) (tree : Tree) (file : List ℕ) (box : All (λ b. IsInBox b.at) bodies) where
  -- what was taken and what is left of the part are what was left of it
  left_of_part : (looked : ℕ) (old new : List Item) (a b : Tally) → IsInBox a.target → AreItemsOf params bodies tree file old → (t : TakesTerms params bodies tree file looked old new a b)
      → remaining_force params bodies a.target old ≡ plus (pulls params a.target t.terms) (remaining_force params bodies a.target new)
  left_of_part looked old new a b within are t =
      let w = angle params a.target in
      sym (remaining_pulls params bodies tree file a.target within box old are)
      ∙ ap (pulls params a.target) t.along
      ∙ pulls-append params a.target t.terms (remaining_terms w params.leaf bodies new)
      ∙ ap (plus (pulls params a.target t.terms)) (remaining_pulls params bodies tree file a.target within box new t.items)

  on_part : (looked : ℕ) (pre old new post : List Item) (a b : Tally) → IsInBox a.target → IsWalkOn params bodies tree file (walk_of a (pre ++ (old ++ post)))
      → TakesTerms params bodies tree file looked old new a b → IsWalkOn params bodies tree file (walk_of b (pre ++ (new ++ post)))
  on_part looked pre old new post a b within on t =
      let w = angle params a.target in
      let p = a.target in
      let force : At → List Item → V3 = remaining_force params bodies in
      let given = pulls params p t.terms in
      let others = plus (force p pre) (force p post) in
      let item = IsItemOf params bodies tree file in
      let more = t.added.taken in
      let mass = ap (sum_by term_mass) t.along ∙ sum_by-append term_mass t.terms (remaining_terms w params.leaf bodies new) in
      let before = remaining_terms_mass w params.leaf bodies old in
      let after = remaining_terms_mass w params.leaf bodies new in
      let whole_before = sum_of_part (item_mass bodies) pre old post in
      let whole_after = sum_of_part (item_mass bodies) pre new post in
      let all = on.mass in
      record {
        sum =
            ap (λ v. plus v (force b.target (pre ++ (new ++ post)))) t.added.sum
            ∙ ap (λ q. plus (plus a.sum given) (force q (pre ++ (new ++ post)))) t.added.target
            ∙ ap (plus (plus a.sum given)) (vector_sum_of_part (item_force params bodies p) pre new post)
            ∙ plus_assoc a.sum given (plus (force p new) others)
            ∙ ap (plus a.sum) (sym (plus_assoc given (force p new) others))
            ∙ ap (λ v. plus a.sum (plus v others)) (sym (left_of_part looked old new a b within (part_fits params bodies tree file pre old post a on).0 t))
            ∙ ap (plus a.sum) (sym (vector_sum_of_part (item_force params bodies p) pre old post))
            ∙ on.sum
            ∙ ap (λ q. force_on params q 0 (unescaped bodies)) (sym t.added.target);
        mass = omega arith;
        items =
            let inner = all_right item pre (old ++ post) on.items in
            All-append item pre (new ++ post) (all_left item pre (old ++ post) on.items)
            (All-append item new post t.items (all_right item old post inner));
      }

  on_permuted : (old new : List Item) (a : Tally) → IsPermutation old new → IsWalkOn params bodies tree file (walk_of a old) → IsWalkOn params bodies tree file (walk_of a new)
  on_permuted old new a same on =
      let force = item_force params bodies a.target in
      let mass = sum_by-IsPermutation (item_mass bodies) old new same in
      let all = on.mass in
      record {
        sum = ap (plus a.sum) (sym (vector_sum-IsPermutation (map force old) (map force new) (IsPermutation-map force old new same))) ∙ on.sum;
        mass = omega arith;
        items = All-permutation (IsItemOf params bodies tree file) old new same on.items;
      }

module _ (cells bodies_shown : ℕ → Option (List ℕ)) (params : Params) (tree : Tree) where
  pub run_none : (w : WalkValue) → IsSumInRange params w → HasRun cells bodies_shown params tree 0 w w
  run_none w range = record { kept = kept_none params tree w range; bound = omega arith; over = λ files bodies of_tree shows on. (on, omega arith) }

  pub run_then : (n m : ℕ) (old mid new : WalkValue) → HasRun cells bodies_shown params tree n old mid → HasRun cells bodies_shown params tree m mid new → HasRun cells bodies_shown params tree (n + m) old new
  run_then n m old mid new first second = record {
    kept = kept_then params tree old mid new first.kept second.kept;
    bound = (let one = first.bound in let two = second.bound in omega arith);
    over = λ files bodies of_tree shows on.
        let before = first.over files bodies of_tree shows on in
        let after = second.over files bodies of_tree shows before.0 in
        let one = before.1 in
        let two = after.1 in
        (after.0, omega arith);
  }

  pub run_less : (n m : ℕ) (old new : WalkValue) → m ≤ n → HasRun cells bodies_shown params tree n old new → HasRun cells bodies_shown params tree m old new
  run_less n m old new less run = record {
    kept = run.kept;
    bound = (let one = run.bound in omega arith);
    over = λ files bodies of_tree shows on.
        let after = run.over files bodies of_tree shows on in
        let one = after.1 in
        (after.0, omega arith);
  }

  pub run_part : (looked : ℕ) (pre old new post : List Item) (a b : Tally) → IsInBox a.target → TakesPart cells bodies_shown params tree looked old new a b
      → HasRun cells bodies_shown params tree looked (walk_of a (pre ++ (old ++ post))) (walk_of b (pre ++ (new ++ post)))
  run_part looked pre old new post a b within takes =
      let less = takes.bound in
      record {
        kept = kept_part params tree pre old new post a b takes.kept (omega arith);
        bound = omega (arith, sum_of_part (item_bound tree) pre old post, sum_of_part (item_bound tree) pre new post);
        over = λ files bodies of_tree shows on.
            let file = files tree.cells in
            let box = tree_in_box tree files params bodies of_tree in
            let fits = part_fits params bodies tree file pre old post a on in
            let t = takes.over files bodies of_tree shows fits.0 fits.1 in
            let fewer = t.fewer in
            let pages = item_work paged file tree params.leaf bodies in
            let before = sum_of_part pages pre old post in
            let after = sum_of_part pages pre new post in
            (on_part params bodies tree file box looked pre old new post a b within on t, omega arith);
      }

  -- a part of the shared items gave way to others
  pub run_shared : (looked i : ℕ) (xs old new ws : List SharedItem) (own : List Item) (a b : Tally) → IsInBox a.target → TakesPart cells bodies_shown params tree looked (items_of i old) (items_of i new) a b
      → HasRun cells bodies_shown params tree looked (walk_of a (items_of i ((xs ++ old) ++ ws) ++ own)) (walk_of b (items_of i ((xs ++ new) ++ ws) ++ own))
  run_shared looked i xs old new ws own a b within takes =
      subst (λ l. HasRun cells bodies_shown params tree looked (walk_of a l) (walk_of b (items_of i ((xs ++ new) ++ ws) ++ own))) (sym (items_split i xs old ws own))
      (subst (λ l. HasRun cells bodies_shown params tree looked (walk_of a (items_of i xs ++ (items_of i old ++ (items_of i ws ++ own)))) (walk_of b l)) (sym (items_split i xs new ws own))
      (run_part looked (items_of i xs) (items_of i old) (items_of i new) (items_of i ws ++ own) a b within takes))

  -- the walk's own items gave way to others
  pub run_own : (looked : ℕ) (shared old new : List Item) (a b : Tally) → IsInBox a.target → TakesPart cells bodies_shown params tree looked old new a b
      → HasRun cells bodies_shown params tree looked (walk_of a (shared ++ old)) (walk_of b (shared ++ new))
  run_own looked shared old new a b within takes =
      subst (λ l. HasRun cells bodies_shown params tree looked (walk_of a (shared ++ l)) (walk_of b (shared ++ new))) (append-nil old)
      (subst (λ l. HasRun cells bodies_shown params tree looked (walk_of a (shared ++ (old ++ []))) (walk_of b (shared ++ l))) (append-nil new)
      (run_part looked shared old new [] a b within takes))

  pub run_permuted : (old new : List Item) (a : Tally) → IsTally params a → IsPermutation old new → HasRun cells bodies_shown params tree 0 (walk_of a old) (walk_of a new)
  run_permuted old new a tally same = record {
    kept = kept_permuted params tree old new a tally same;
    bound = omega (arith, sum_by-IsPermutation (item_bound tree) old new same);
    over = λ files bodies of_tree shows on.
        let file = files tree.cells in
        let box = tree_in_box tree files params bodies of_tree in
        let pages = sum_by-IsPermutation (item_work paged file tree params.leaf bodies) old new same in
        (on_permuted params bodies tree file box old new a same on, omega arith);
  }

  -- what was to be looked at waits
  pub run_wait : (i : ℕ) (xs part ws : List SharedItem) (own : List Item) (a : Tally) → IsTally params a
      → HasRun cells bodies_shown params tree 0 (walk_of a (items_of i ((xs ++ part) ++ ws) ++ own)) (walk_of a (items_of i (xs ++ (ws ++ part)) ++ own))
  run_wait i xs part ws own a tally = run_permuted (items_of i ((xs ++ part) ++ ws) ++ own) (items_of i (xs ++ (ws ++ part)) ++ own) a tally (wait_permuted i xs part ws own)

  -- ---- what is taken of a part, one after the other

  pub takes_none : (items : List Item) (a : Tally) → IsTally params a → TakesPart cells bodies_shown params tree 0 items items a a
  takes_none items a tally = record {
    kept = record { target = refl; key = refl; range = tally.range; within = λ few. few };
    bound = omega arith;
    over = λ files bodies of_tree shows are few. record { terms = []; added = adds_none params a; items = are; along = refl; fewer = omega arith };
  }

  pub takes_less : (n m : ℕ) (old new : List Item) (a b : Tally) → m ≤ n → TakesPart cells bodies_shown params tree n old new a b → TakesPart cells bodies_shown params tree m old new a b
  takes_less n m old new a b less takes = record {
    kept = takes.kept;
    bound = (let bound = takes.bound in omega arith);
    over = λ files bodies of_tree shows are few.
        let t = takes.over files bodies of_tree shows are few in
        let fewer = t.fewer in
        record { terms = t.terms; added = t.added; items = t.items; along = t.along; fewer = omega arith };
  }

  pub takes_then : (n m : ℕ) (old mid new : List Item) (a b c : Tally) → TakesPart cells bodies_shown params tree n old mid a b → TakesPart cells bodies_shown params tree m mid new b c
      → TakesPart cells bodies_shown params tree (n + m) old new a c
  takes_then n m old mid new a b c first second =
      let one = first.bound in
      let two = second.bound in
      record {
        kept = record {
          target = second.kept.target ∙ first.kept.target;
          key = second.kept.key ∙ first.kept.key;
          range = second.kept.range;
          within = λ few. second.kept.within (first.kept.within few);
        };
        bound = omega arith;
        over = λ files bodies of_tree shows are few.
            let file = files tree.cells in
            let t = first.over files bodies of_tree shows are few in
            let u = second.over files bodies of_tree shows t.items (still_few bodies file a b old mid n t few) in
            let fewer = t.fewer in
            let fewer_still = u.fewer in
            let w = angle params a.target in
            record {
              terms = t.terms ++ u.terms;
              added = adds_more params t.terms u.terms a b c t.added u.added;
              items = u.items;
              along =
                  t.along
                  ∙ ap (λ l. t.terms ++ l) (at_target bodies b.target a.target mid new u.terms t.added.target u.along)
                  ∙ sym (append_assoc t.terms u.terms (remaining_terms w params.leaf bodies new));
              fewer = omega arith;
            };
      }
    where
      still_few : (bodies : List Body) (file : List ℕ) (a b : Tally) (old mid : List Item) (n : ℕ) → TakesTerms params bodies tree file n old mid a b
          → a.taken + remaining_mass bodies old ≤ tree.mass → b.taken + remaining_mass bodies mid ≤ tree.mass
      still_few bodies file a b old mid n t few =
          let w = angle params a.target in
          let more = t.added.taken in
          let mass = ap (sum_by term_mass) t.along ∙ sum_by-append term_mass t.terms (remaining_terms w params.leaf bodies mid) in
          let before = remaining_terms_mass w params.leaf bodies old in
          let after = remaining_terms_mass w params.leaf bodies mid in
          omega arith

      at_target : (bodies : List Body) (p q : At) (mid new : List Item) (terms : List Term) → p ≡ q
          → remaining_terms (angle params p) params.leaf bodies mid ≡ terms ++ remaining_terms (angle params p) params.leaf bodies new
          → remaining_terms (angle params q) params.leaf bodies mid ≡ terms ++ remaining_terms (angle params q) params.leaf bodies new
      at_target bodies p q mid new terms same =
          subst (λ r. remaining_terms (angle params p) params.leaf bodies mid ≡ terms ++ remaining_terms (angle params p) params.leaf bodies new
          → remaining_terms (angle params r) params.leaf bodies mid ≡ terms ++ remaining_terms (angle params r) params.leaf bodies new) same (λ e. e)
