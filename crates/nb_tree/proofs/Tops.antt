-- The tree of a file of bodies: the front of a file that holds a list in Morton order, that each file has a front, and why there
-- is no tree.
use Rattle.std.proofs.Common.{◌≡◌, ℕ, zero, suc, ◌+◌, ◌-◌, ◌*◌, ◌<◌, ◌≤◌, IsTrue, true, false, List, [], ◌∷◌, ◌++◌, length, get_or, drop, Some, inl, inr, sym, ap, subst, ◌∙◌, arith}
use Rattle.std.specs.Prelude.{◌≢◌, ◌⊎◌, All, AllPairs, slice_get}
use Rattle.std.proofs.lemmas.Bool.{cases_lt}
use Rattle.std.proofs.lemmas.List.{get_or-drop, length-drop, get_or-take}
use Rattle.std.proofs.lemmas.List.Elements.{All-nil, All-cons, All-head, All-tail}
use Rattle.std.proofs.lemmas.List.Kept.{AllPairs-cons}
use Rattle.std.proofs.lemmas.List.Sorted.{IsPermutation-sym, length_permutation}
use Rattle.std.proofs.lemmas.Option.{get_or_from_slice_get, slice_get-get_or}
use Rattle.nb_host.specs.Meaning.{HostModel}
use Rattle.nb_host.specs.declared.page_name.PageName.{PageName}
use Rattle.nb_model.specs.declared.body.Body.{Body}
use Rattle.nb_model.specs.declared.params.Params.{Params}
use Rattle.nb_model.specs.Limits.{most_bodies}
use Rattle.nb_model.specs.Leapfrog.{unescaped}
use Rattle.nb_model.proofs.Facts.{length-unescaped-le}
use Rattle.nb_cache.specs.View.{CacheValue, seen}
use Rattle.nb_record.specs.declared.cell.Cell.{Cell}
use Rattle.nb_record.specs.Records.{body_of}
use Rattle.nb_record.specs.Order.{by_key, precedes, record_of, sorted_by, IsSortedByRank, HoldsBodies}
use Rattle.nb_record.specs.Cells.{cells_to_depth}
use Rattle.nb_record.proofs.Callers.{own_order, own_front, inside_box, each_at, escaped, IsKept, permutation_keeps, keys_differ, most_cells, either}
use Rattle.nb_order.proofs.Callers.{held_first, first_of, length-first_of, first_of-at}
use Rattle.nb_tree.specs.Fronts.{IsInOrder, IsFront}
use Rattle.nb_tree.specs.Refusals.{IsMisplaced, IsTooHeavy, IsNoTree}
use Rattle.nb_tree.specs.Passes.{MayStand, put_below, kid}
use Rattle.nb_tree.proofs.Puts.{tree_put}

-- ---- a file that holds a list in Morton order

pairs_in_order : (rank : Body → ℕ) (bs : List Body) → IsSortedByRank rank bs → (j : ℕ) (d : Body) → suc j < length bs
    → precedes rank (get_or bs j d) (get_or bs (suc j) d) ≡ true
pairs_in_order rank [] sorted j d within = absurd (omega arith)
pairs_in_order rank (b ∷ []) sorted j d within = absurd (omega arith)
pairs_in_order rank (b ∷ c ∷ cs) sorted zero d within = sorted.0
pairs_in_order rank (b ∷ c ∷ cs) sorted (suc j) d within = pairs_in_order rank (c ∷ cs) sorted.1 j d (omega arith)

module _ (file : List ℕ) (list : List Body) (holds : HoldsBodies file list) (sorted : IsSortedByRank by_key list) where
  reads : (j : ℕ) (d : Body) → j < length list → get_or list j d ≡ body_of (record_of file j)
  reads j d within = get_or_from_slice_get list j (body_of (record_of file j)) d ((held_first file list holds).held j within)

  pub all_in_order : (j : ℕ) → j < length list → IsInOrder file j
  all_in_order j within = record {
    has = (held_first file list holds).each j within;
    after = λ behind. after_is j within behind;
  } where
    after_is : (i : ℕ) → i < length list → 0 < i → precedes by_key (body_of (record_of file (i - 1))) (body_of (record_of file i)) ≡ true
    after_is zero inside behind = absurd (omega arith)
    after_is (suc i) inside behind =
        let back : suc i - 1 ≡ i = omega arith in
        let d = body_of (record_of file 0) in
        let one : get_or list i d ≡ body_of (record_of file (suc i - 1)) =
        reads i d (omega arith) ∙ ap (λ k. body_of (record_of file k)) (sym back) in
        subst (λ b. precedes by_key b (body_of (record_of file (suc i))) ≡ true) one
        (subst (λ b. precedes by_key (get_or list i d) b ≡ true) (reads (suc i) d inside) (pairs_in_order by_key list sorted i d inside))

  in_front : (j : ℕ) → j < length (unescaped list) → slice_get (unescaped list) j ≡ Some (body_of (record_of file j))
  in_front j within =
      let d = body_of (record_of file j) in
      let few = length-unescaped-le list in
      let same : get_or (unescaped list) j d ≡ d =
      ap (λ l. get_or l j d) (sym (own_front list sorted)) ∙ get_or-take (length (unescaped list)) list j d within ∙ reads j d (omega arith) in
      slice_get-get_or (unescaped list) j d within ∙ ap Some same

  pub front_of_list : (count : ℕ) → length list ≡ count → IsFront file count (unescaped list)
  front_of_list count long =
      let few = length-unescaped-le list in
      record {
        first = record { each = λ j within. (held_first file list holds).each j (omega arith); held = in_front };
        order = λ j within. all_in_order j (omega arith);
        inside = λ k d within. each_at (λ b. b.out ≡ false) (unescaped list) (inside_box list) k d within;
        most = omega arith;
        ends = λ within _.
            let d = body_of (record_of file (length (unescaped list))) in
            let own = own_order by_key list sorted in
            let gone = escaped list 0 d
            (let long_is = ap length own in omega (arith, length-drop (length (unescaped list)) (sorted_by by_key list), long_is)) in
            let here : get_or (drop (length (unescaped list)) (sorted_by by_key list)) 0 d ≡ d =
            get_or-drop (length (unescaped list)) (sorted_by by_key list) 0 d
            ∙ ap (λ n. get_or (sorted_by by_key list) n d) (let same : length (unescaped list) + 0 ≡ length (unescaped list) = omega arith in same)
            ∙ ap (λ l. get_or l (length (unescaped list)) d) (sym own) ∙ reads (length (unescaped list)) d (omega arith) in
            subst (λ (b : Body). b.out ≡ true) here gone;
      }

-- ---- each file has a front

module _ (file : List ℕ) (count : ℕ) (none : (front : List Body) → IsFront file count front → ⊥) where
  front_from : (n : ℕ) → n ≤ count → ((j : ℕ) → j < n → IsInOrder file j) → ((j : ℕ) → j < n → (body_of (record_of file j)).out ≡ false)
      → (n < count → IsInOrder file n → (body_of (record_of file n)).out ≡ true) → ⊥
  front_from n most order inside ends =
      let long = length-first_of file n in
      none (first_of file n) (record {
        first = record {
          each = λ j within. (order j (omega (arith, long, within))).has;
          held = λ j within. first_of-at file n j (omega (arith, long, within));
        };
        order = λ j within. order j (omega (arith, long, within));
        inside = λ k d within.
            let below : k < n = omega (arith, long, within) in
            subst (λ (b : Body). b.out ≡ false) (sym (get_or_from_slice_get (first_of file n) k (body_of (record_of file k)) d (first_of-at file n k below))) (inside k below);
        most = omega (arith, long);
        ends = subst (λ m. m < count → IsInOrder file m → (body_of (record_of file m)).out ≡ true) (sym long) ends;
      })

  one_further : {P : ℕ → Type 0} (n : ℕ) → ((j : ℕ) → j < n → P j) → P n → (j : ℕ) → j < n + 1 → P j
  one_further {P = P} n before here j below = elim (cases_lt j n) [
    | inl within ↦ before j within
    | inr from ↦ (let same : n ≡ j = omega arith in subst P same here)
  ]

  no_front : (fuel n : ℕ) → n + fuel ≡ count → ((j : ℕ) → j < n → IsInOrder file j) → ((j : ℕ) → j < n → (body_of (record_of file j)).out ≡ false) → ⊥
  no_front zero n all order inside = front_from n (omega arith) order inside (λ within. absurd (omega arith))
  no_front (suc fuel) n all order inside =
      front_from n (omega arith) order inside (λ within here.
      elim (either (body_of (record_of file n)).out) [
        | inl out ↦ out
        | inr stays ↦ absurd (no_front fuel (n + 1) (omega arith)
            (one_further {P = IsInOrder file} n order here)
            (one_further {P = λ j. (body_of (record_of file j)).out ≡ false} n inside stays))
      ])

  pub has_front : ⊥
  has_front = no_front count 0 (omega arith) (λ j below. absurd (omega arith)) (λ j below. absurd (omega arith))

-- ---- the tree's cells may stand in one table

abbrev Differ : Cell → Cell → Type 0
Differ a b = a.key ≢ b.key

record KeepsDiffering (xs ys : List Cell) : Type 0 where
  pub each : (z : Cell) → All (Differ z) xs → All (Differ z) ys
  pub pairs : AllPairs Differ xs → AllPairs Differ ys

tail_pairs : (x : Cell) (xs : List Cell) → AllPairs Differ (x ∷ xs) → AllPairs Differ xs
tail_pairs x xs pairs i j d before within = pairs (suc i) (suc j) d (omega arith) (omega arith)

head_pairs : (x : Cell) (xs : List Cell) → AllPairs Differ (x ∷ xs) → All (Differ x) xs
head_pairs x xs pairs k d below = pairs 0 (suc k) d (omega arith) (omega arith)

differing : IsKept KeepsDiffering
differing = record {
  same = λ xs. record { each = λ z all. all; pairs = λ all. all };
  join = λ xs ys zs one two. record { each = λ z all. two.each z (one.each z all); pairs = λ all. two.pairs (one.pairs all) };
  more = λ x xs ys one. record {
    each = λ z all. All-cons (Differ z) x ys (All-head (Differ z) x xs all) (one.each z (All-tail (Differ z) x xs all));
    pairs = λ all. AllPairs-cons Differ x ys (one.each x (head_pairs x xs all)) (one.pairs (tail_pairs x xs all));
  };
  exchange = λ x y xs. record {
    each = λ z all.
        let behind = All-tail (Differ z) x (y ∷ xs) all in
        All-cons (Differ z) y (x ∷ xs) (All-head (Differ z) y xs behind) (All-cons (Differ z) x xs (All-head (Differ z) x (y ∷ xs) all) (All-tail (Differ z) y xs behind));
    pairs = λ all.
        let first = head_pairs x (y ∷ xs) all in
        let rest = tail_pairs x (y ∷ xs) all in
        AllPairs-cons Differ y (x ∷ xs) (All-cons (Differ y) x xs (λ same. All-head (Differ x) y xs first (sym same)) (head_pairs y xs rest))
        (AllPairs-cons Differ x xs (All-tail (Differ x) y xs first) (tail_pairs y xs rest));
  };
}

pub may_put : (params : Params) (all : List Body) → unescaped all ≡ all → length all ≤ most_bodies → MayStand (put_below params all 21 1 ++ kid params all 0 1)
may_put params all inside few =
    let put = put_below params all 21 1 ++ kid params all 0 1 in
    let cells = cells_to_depth params all 21 [] all in
    let is = tree_put params all in
    let many : length cells ≤ 22 * length all = subst (λ l. length (cells_to_depth params l 21 [] l) ≤ 22 * length l) inside (most_cells params all) in
    record {
      differ = (permutation_keeps KeepsDiffering differing cells put (IsPermutation-sym put cells is)).pairs (keys_differ params all 21 [] all (All-nil (λ o. o < 8)));
      few = omega (arith, length_permutation put cells is, many);
    }

-- ---- why there is no tree

pub no_tree : {H : Type 0} (m : HostModel H) (params : Params) (cache : CacheValue) (host : H) (bodies cells count : ℕ) (name : PageName)
    → (name.file ≡ bodies) ⊎ (name.file ≡ cells)
    → (IsTrue m.tells → IsMisplaced bodies count (seen m cache host bodies) name ⊎ IsTooHeavy params bodies count (seen m cache host bodies) name)
    → IsNoTree m params cache host bodies cells count name
no_tree m params cache host bodies cells count name file shown = record {
  file = file;
  shown = shown;
  listed = λ tells list holds long sorted. elim (shown tells) [
    | inl misplaced ↦
        let below = misplaced.below in
        absurd (misplaced.cause (all_in_order (seen m cache host bodies) list holds sorted misplaced.index (omega arith)))
    | inr heavy ↦ heavy.heavy (unescaped list) (front_of_list (seen m cache host bodies) list holds sorted count long)
  ];
}
