-- What walks have left among shared items.
use Rattle.std.proofs.Common.{◌≡◌, ℕ, zero, suc, ◌+◌, ◌/◌, ◌%◌, ◌^◌, ◌<◌, eqb, ◌&&◌, true, false, List, [], ◌∷◌, ◌++◌, length, get_or, cond, append-nil, append_assoc, sym, ap, ◌∙◌, refl, arith, subst, inl, inr}
use Rattle.std.specs.Prelude.{◌≢◌, None, All, Contains, Option, IsPermutation}
use Rattle.std.proofs.Math.Nat.{zero-div}
use Rattle.std.proofs.Math.Bool.{and-false}
use Rattle.std.proofs.lemmas.Bool.{cond-true, cond-false}
use Rattle.std.proofs.lemmas.List.Elements.{Contains-append_left, Contains-append_right, Contains-append_cases, All-contains_itself}
use Rattle.std.proofs.lemmas.List.Sorted.{IsPermutation-refl, IsPermutation-trans, IsPermutation-append_comm, IsPermutation-append_left, IsPermutation-append_right}
use Rattle.nb_host.specs.declared.page_name.PageName.{PageName}
use Rattle.nb_record.specs.declared.tree.Tree.{Tree}
use Rattle.nb_record.proofs.Callers.{either, permutation_keeps}
use Rattle.nb_walk.specs.declared.group.Own.{Own}
use Rattle.nb_walk.specs.declared.item.Item.{Item}
use Rattle.nb_walk.specs.declared.shared.SharedItem.{SharedItem}
use Rattle.nb_walk.specs.declared.tally.Tally.{Tally}
use Rattle.nb_walk.specs.Group.{own_items, walk_of, walks_from}
use Rattle.nb_walk.specs.Shared.{block_size, is_left_to, items_of, shared_by}
use Rattle.nb_walk.specs.Items.{page_for}
use Rattle.nb_walk.specs.Pool.{BlamesOne}
use Rattle.nb_walk.specs.Shown.{shown_for}
use Rattle.nb_walk.specs.Walk.{WalkValue}

-- ---- shared items

items_of-cons : (i : ℕ) (e : SharedItem) (es : List SharedItem) → items_of i (e ∷ es) ≡ items_of i (e ∷ []) ++ items_of i es
unfolding items_of
items_of-cons i e es = ap (λ l. l ++ items_of i es) (sym (append-nil (cond (is_left_to i e) (e.item ∷ []) [])))

pub items_of_append : (i : ℕ) (xs ys : List SharedItem) → items_of i (xs ++ ys) ≡ items_of i xs ++ items_of i ys
unfolding items_of
items_of_append i [] ys = refl
items_of_append i (x ∷ xs) ys =
    let here = cond (is_left_to i x) (x.item ∷ []) [] in
    ap (λ l. here ++ l) (items_of_append i xs ys) ∙ sym (append_assoc here (items_of i xs) (items_of i ys))

pub items_of_one : (i : ℕ) (e : SharedItem) → is_left_to i e ≡ true → items_of i (e ∷ []) ≡ e.item ∷ []
unfolding items_of
items_of_one i e is = ap (λ l. l ++ []) (cond-true (is_left_to i e) (e.item ∷ []) [] is)

pub items_of_other : (i : ℕ) (e : SharedItem) → is_left_to i e ≡ false → items_of i (e ∷ []) ≡ []
unfolding items_of
items_of_other i e is = ap (λ l. l ++ []) (cond-false (is_left_to i e) (e.item ∷ []) [] is)

pub items_of_shared : (i block walks : ℕ) (x : Item) (items : List Item) → is_left_to i (record { item = x; block = block; walks = walks }) ≡ true → items_of i (shared_by block walks items) ≡ items
unfolding items_of
items_of_shared i block walks x [] is = refl
items_of_shared i block walks x (y ∷ ys) is =
    let here = cond-true (is_left_to i (record { item = y; block = block; walks = walks })) (y ∷ []) [] is in
    ap (λ l. l ++ items_of i (shared_by block walks ys)) here ∙ ap (λ l. y ∷ l) (items_of_shared i block walks x ys is)

pub items_of_unshared : (i block walks : ℕ) (x : Item) (items : List Item) → is_left_to i (record { item = x; block = block; walks = walks }) ≡ false → items_of i (shared_by block walks items) ≡ []
unfolding items_of
items_of_unshared i block walks x [] is = refl
items_of_unshared i block walks x (y ∷ ys) is =
    let here = cond-false (is_left_to i (record { item = y; block = block; walks = walks })) (y ∷ []) [] is in
    ap (λ l. l ++ items_of i (shared_by block walks ys)) here ∙ items_of_unshared i block walks x ys is

-- an item with an empty set is left to no walk
pub left_to_none : (i block : ℕ) (x : Item) → is_left_to i (record { item = x; block = block; walks = 0 }) ≡ false
left_to_none i block x =
    ap (λ n. eqb block (i / block_size) && eqb (n % 2) 1) (zero-div (2 ^ (i % block_size))) ∙ and-false (eqb block (i / block_size))

-- one part of the shared items, and what the walk has left beside it
pub items_split : (i : ℕ) (xs part ws : List SharedItem) (own : List Item) → items_of i ((xs ++ part) ++ ws) ++ own ≡ items_of i xs ++ (items_of i part ++ (items_of i ws ++ own))
items_split i xs part ws own =
    let front = items_of i xs in
    let here = items_of i part in
    let rest = items_of i ws in
    ap (λ l. l ++ own) (items_of_append i (xs ++ part) ws ∙ ap (λ l. l ++ rest) (items_of_append i xs part))
    ∙ append_assoc (front ++ here) rest own
    ∙ append_assoc front here (rest ++ own)

-- what was to be looked at waits
pub wait_permuted : (i : ℕ) (xs part ws : List SharedItem) (own : List Item) → IsPermutation (items_of i ((xs ++ part) ++ ws) ++ own) (items_of i (xs ++ (ws ++ part)) ++ own)
wait_permuted i xs part ws own =
    let front = items_of i xs in
    let here = items_of i part in
    let rest = items_of i ws in
    let old : items_of i ((xs ++ part) ++ ws) ++ own ≡ front ++ ((here ++ rest) ++ own) =
    items_split i xs part ws own ∙ ap (λ l. front ++ l) (sym (append_assoc here rest own)) in
    let new : items_of i (xs ++ (ws ++ part)) ++ own ≡ front ++ ((rest ++ here) ++ own) =
    ap (λ l. l ++ own) (items_of_append i xs (ws ++ part) ∙ ap (λ l. front ++ l) (items_of_append i ws part)) ∙ append_assoc front (rest ++ here) own in
    subst (λ l. IsPermutation l (items_of i (xs ++ (ws ++ part)) ++ own)) (sym old)
    (subst (λ l. IsPermutation (front ++ ((here ++ rest) ++ own)) l) (sym new)
    (IsPermutation-append_right front ((here ++ rest) ++ own) ((rest ++ here) ++ own)
    (IsPermutation-append_left own (here ++ rest) (rest ++ here) (IsPermutation-append_comm here rest))))

-- ---- items in any order

module _ (i : ℕ) where
  more : (e : SharedItem) (es fs : List SharedItem) → IsPermutation (items_of i es) (items_of i fs) → IsPermutation (items_of i (e ∷ es)) (items_of i (e ∷ fs))
  unfolding items_of
  more e es fs one = IsPermutation-append_right (cond (is_left_to i e) (e.item ∷ []) []) (items_of i es) (items_of i fs) one

  swapped : (xs ys zs : List Item) → IsPermutation (xs ++ (ys ++ zs)) (ys ++ (xs ++ zs))
  swapped xs ys zs =
      subst (λ l. IsPermutation l (ys ++ (xs ++ zs))) (append_assoc xs ys zs)
      (subst (λ l. IsPermutation ((xs ++ ys) ++ zs) l) (append_assoc ys xs zs)
      (IsPermutation-append_left zs (xs ++ ys) (ys ++ xs) (IsPermutation-append_comm xs ys)))

  exchange : (e f : SharedItem) (es : List SharedItem) → IsPermutation (items_of i (e ∷ f ∷ es)) (items_of i (f ∷ e ∷ es))
  unfolding items_of
  exchange e f es = swapped (cond (is_left_to i e) (e.item ∷ []) []) (cond (is_left_to i f) (f.item ∷ []) []) (items_of i es)

  pub items_of_permuted : (xs ys : List SharedItem) → IsPermutation xs ys → IsPermutation (items_of i xs) (items_of i ys)
  items_of_permuted xs ys same =
      permutation_keeps (λ es fs. IsPermutation (items_of i es) (items_of i fs))
      (record {
        same = λ es. IsPermutation-refl (items_of i es);
        join = λ es fs gs one other. IsPermutation-trans (items_of i es) (items_of i fs) (items_of i gs) one other;
        more = more;
        exchange = exchange;
      })
      xs ys same

-- ---- which shared item it is

pub record LeftAmong (i : ℕ) (entries : List SharedItem) (x : Item) : Type 0 where
  pub entry : SharedItem
  pub there : Contains entries entry
  pub left : is_left_to i entry ≡ true
  pub is : entry.item ≡ x

no_items : (i : ℕ) (x : Item) → Contains (items_of i []) x → ⊥
unfolding items_of
no_items i x (k, below, is) = omega arith

pub entry_of : (i : ℕ) (entries : List SharedItem) (x : Item) → Contains (items_of i entries) x → LeftAmong i entries x
entry_of i [] x has = absurd (no_items i x has)
entry_of i (e ∷ es) x has =
    elim (Contains-append_cases (items_of i (e ∷ [])) (items_of i es) x (subst (λ l. Contains l x) (items_of-cons i e es) has)) [
      | inl here ↦ elim (either (is_left_to i e)) [
        | inl left ↦ record { entry = e; there = (0, omega arith, refl); left = left; is = only_one e.item x (subst (λ l. Contains l x) (items_of_one i e left) here) }
        | inr not_left ↦ absurd (nothing x (subst (λ l. Contains l x) (items_of_other i e not_left) here))
      ]
      | inr rest ↦
          let at = entry_of i es x rest in
          record { entry = at.entry; there = Contains-append_right (e ∷ []) es at.entry at.there; left = at.left; is = at.is }
    ]
  where
    only_one : (y x : Item) → Contains (y ∷ []) x → y ≡ x
    only_one y x (zero, below, is) = is
    only_one y x (suc k, below, is) = absurd (omega arith)

    nothing : (x : Item) → Contains {X = Item} [] x → ⊥
    nothing x (k, below, is) = omega arith

pub item_of : (i : ℕ) (entries : List SharedItem) (e : SharedItem) → Contains entries e → is_left_to i e ≡ true → Contains (items_of i entries) e.item
item_of i [] e (k, below, is) left = absurd (omega arith)
item_of i (f ∷ es) e (zero, below, is) left =
    let own : Contains (items_of i (f ∷ [])) e.item = subst (λ g. Contains (items_of i (g ∷ [])) e.item) (sym is) (subst (λ l. Contains l e.item) (sym (items_of_one i e left)) (0, omega arith, refl)) in
    subst (λ l. Contains l e.item) (sym (items_of-cons i f es)) (Contains-append_left (items_of i (f ∷ [])) (items_of i es) e.item own)
item_of i (f ∷ es) e (suc k, below, is) left =
    subst (λ l. Contains l e.item) (sym (items_of-cons i f es))
    (Contains-append_right (items_of i (f ∷ [])) (items_of i es) e.item (item_of i es e (k, omega arith, is) left))

-- what holds of each shared item that a walk has left
pub all_left_to : (P : Item → Type 0) (i : ℕ) (entries : List SharedItem) → ((e : SharedItem) → Contains entries e → is_left_to i e ≡ true → P e.item) → All P (items_of i entries)
all_left_to P i entries each = λ k d below.
    let at = entry_of i entries (get_or (items_of i entries) k d) (All-contains_itself (items_of i entries) k d below) in
    subst P at.is (each at.entry at.there at.left)

-- ---- walks

pub walks_length : (from : ℕ) (tallies : List Tally) (owns : List Own) (entries : List SharedItem) → length owns ≡ length tallies → length (walks_from from tallies owns entries) ≡ length tallies
unfolding walks_from
walks_length from [] owns entries same = refl
walks_length from (a ∷ tallies) [] entries same = absurd (omega arith)
walks_length from (a ∷ tallies) (o ∷ owns) entries same = ap (λ n. suc n) (walks_length (suc from) tallies owns entries (omega arith))

pub walk_at : (from : ℕ) (tallies : List Tally) (owns : List Own) (entries : List SharedItem) (i : ℕ) (d : WalkValue) (a : Tally) (o : Own) → length owns ≡ length tallies → i < length tallies
    → get_or (walks_from from tallies owns entries) i d ≡ walk_of (get_or tallies i a) (items_of (from + i) entries ++ own_items (get_or owns i o))
unfolding walks_from
walk_at from [] owns entries i d a o same within = absurd (omega arith)
walk_at from (t ∷ tallies) [] entries i d a o same within = absurd (omega arith)
walk_at from (t ∷ tallies) (w ∷ owns) entries zero d a o same within =
    let here : from ≡ from + 0 = omega arith in
    ap (λ n. walk_of t (items_of n entries ++ own_items w)) here
walk_at from (t ∷ tallies) (w ∷ owns) entries (suc i) d a o same within =
    let next : suc from + i ≡ from + suc i = omega arith in
    walk_at (suc from) tallies owns entries i d a o (omega arith) (omega arith)
    ∙ ap (λ n. walk_of (get_or tallies i a) (items_of n entries ++ own_items (get_or owns i o))) next

-- the same of all of them
pub walk_is : (tallies : List Tally) (owns : List Own) (entries : List SharedItem) (i : ℕ) (d : WalkValue) (a : Tally) (o : Own) → length owns ≡ length tallies → i < length tallies
    → get_or (walks_from 0 tallies owns entries) i d ≡ walk_of (get_or tallies i a) (items_of i entries ++ own_items (get_or owns i o))
walk_is tallies owns entries i d a o same within =
    let first : 0 + i ≡ i = omega arith in
    walk_at 0 tallies owns entries i d a o same within
    ∙ ap (λ n. walk_of (get_or tallies i a) (items_of n entries ++ own_items (get_or owns i o))) first

pub walk_among : (tallies : List Tally) (owns : List Own) (entries : List SharedItem) (i : ℕ) (a : Tally) (o : Own) → length owns ≡ length tallies → i < length tallies
    → Contains (walks_from 0 tallies owns entries) (walk_of (get_or tallies i a) (items_of i entries ++ own_items (get_or owns i o)))
walk_among tallies owns entries i a o same within =
    let long = walks_length 0 tallies owns entries same in
    (i, omega arith, walk_is tallies owns entries i _ a o same within)

-- any tally and any of the walk's own, where some are asked for
pub some_walk : {G : Type 0} (tallies : List Tally) (owns : List Own) (i : ℕ) → length owns ≡ length tallies → i < length tallies → (Tally → Own → G) → G
some_walk [] owns i same within give = absurd (omega arith)
some_walk (a ∷ tallies) [] i same within give = absurd (omega arith)
some_walk (a ∷ tallies) (o ∷ owns) i same within give = give a o

-- a relation of a walk before and after
pub walks_each : (R : WalkValue → WalkValue → Type 0) (tallies tallies' : List Tally) (owns owns' : List Own) (entries entries' : List SharedItem) (i : ℕ) (d : WalkValue)
    → length owns ≡ length tallies → length tallies' ≡ length tallies → length owns' ≡ length owns → i < length tallies
    → ((a : Tally) (o : Own) → R (walk_of (get_or tallies i a) (items_of i entries ++ own_items (get_or owns i o))) (walk_of (get_or tallies' i a) (items_of i entries' ++ own_items (get_or owns' i o))))
    → R (get_or (walks_from 0 tallies owns entries) i d) (get_or (walks_from 0 tallies' owns' entries') i d)
walks_each R tallies tallies' owns owns' entries entries' i d same count own_count within holds =
    some_walk tallies owns i same within (λ a o.
    subst (λ w. R w (get_or (walks_from 0 tallies' owns' entries') i d)) (sym (walk_is tallies owns entries i d a o same within))
    (subst (λ w. R (walk_of (get_or tallies i a) (items_of i entries ++ own_items (get_or owns i o))) w) (sym (walk_is tallies' owns' entries' i d a o (omega arith) (omega arith)))
    (holds a o)))

-- what holds of each walk
pub walks_all : (P : WalkValue → Type 0) (tallies : List Tally) (owns : List Own) (entries : List SharedItem) (i : ℕ) (a : Tally) (o : Own) → length owns ≡ length tallies → i < length tallies
    → All P (walks_from 0 tallies owns entries) → P (walk_of (get_or tallies i a) (items_of i entries ++ own_items (get_or owns i o)))
walks_all P tallies owns entries i a o same within all =
    let w = walk_of (get_or tallies i a) (items_of i entries ++ own_items (get_or owns i o)) in
    let long = walks_length 0 tallies owns entries same in
    subst P (walk_is tallies owns entries i w a o same within) (all i w (omega arith))

pub all_walks : (P : WalkValue → Type 0) (tallies : List Tally) (owns : List Own) (entries : List SharedItem) → length owns ≡ length tallies
    → ((i : ℕ) (a : Tally) (o : Own) → i < length tallies → P (walk_of (get_or tallies i a) (items_of i entries ++ own_items (get_or owns i o)))) → All P (walks_from 0 tallies owns entries)
all_walks P tallies owns entries same each = λ i d below.
    let long = walks_length 0 tallies owns entries same in
    let within : i < length tallies = omega arith in
    some_walk tallies owns i same within (λ a o. subst P (sym (walk_is tallies owns entries i d a o same within)) (each i a o within))

-- ---- which page is blamed

pub blames : (cells bodies : ℕ → Option (List ℕ)) (tree : Tree) (tallies : List Tally) (owns : List Own) (entries : List SharedItem) (i : ℕ) (x : Item) (name : PageName)
    → length owns ≡ length tallies → i < length tallies → ((o : Own) → Contains (items_of i entries ++ own_items (get_or owns i o)) x) → page_for tree x ≡ name → shown_for cells bodies tree x ≢ None
    → BlamesOne cells bodies tree (walks_from 0 tallies owns entries) name
blames cells bodies tree tallies owns entries i x name same within left page shown =
    some_walk tallies owns i same within (λ a o. record {
      walk = walk_of (get_or tallies i a) (items_of i entries ++ own_items (get_or owns i o));
      there = walk_among tallies owns entries i a o same within;
      item = x;
      left = left o;
      page = page;
      shown = shown;
    })
