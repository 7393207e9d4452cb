-- What a pass from the root inserts are the cells of the tree, in another order.
use Rattle.std.proofs.Common.{◌≡◌, ℕ, zero, suc, ◌+◌, ◌-◌, ◌*◌, ◌<◌, ◌≤◌, true, false, cond, ◌||◌, eqb, leb, List, [], ◌∷◌, ◌++◌, length, inl, inr, refl, sym, ap, subst, ◌∙◌, arith, append_assoc}
use Rattle.std.specs.Prelude.{◌≢◌, All, IsPermutation}
use Rattle.std.specs.List.{flat_map}
use Rattle.std.proofs.lemmas.Bool.{cases_lt, cond-true, cond-false, le-leb, lt-leb, ne_eqb}
use Rattle.std.proofs.lemmas.List.{length_push}
use Rattle.std.proofs.lemmas.List.Elements.{All-head, All-tail, All-weaker}
use Rattle.std.proofs.lemmas.List.Sorted.{IsPermutation-refl, IsPermutation-trans, IsPermutation-append, IsPermutation-append_left, IsPermutation-append_right, IsPermutation-append_comm}
use Rattle.nb_model.specs.declared.body.Body.{Body}
use Rattle.nb_model.specs.declared.params.Params.{Params}
use Rattle.nb_model.specs.Octree.{in_octant}
use Rattle.nb_model.specs.Gravity.{octants}
use Rattle.nb_key.specs.Morton.{key_of}
use Rattle.nb_key.proofs.Levels.{key_of_push}
use Rattle.nb_record.specs.Cells.{in_cell, kids_of, cell_for, cells_to_depth}
use Rattle.nb_record.proofs.Callers.{cells-nil, cells-deepest, cells-leaf, cells-divided, IsReached, reached_octant, root_reached, octants_small}
use Rattle.nb_tree.specs.Passes.{tree_cell, kid, put_below}
use Rattle.nb_tree.proofs.Passing.{either_one}
use Rattle.nb_tree.proofs.Reading.{kid_none, kid_some, put_deepest, put_leaf, put_divided, put_few}

-- ---- lists in pieces

shuffled : {X : Type 0} (a f b g : List X) → IsPermutation ((a ++ f) ++ (b ++ g)) ((a ++ b) ++ (f ++ g))
shuffled a f b g =
    let left : (a ++ f) ++ (b ++ g) ≡ a ++ ((f ++ b) ++ g) = append_assoc a f (b ++ g) ∙ ap (λ l. a ++ l) (sym (append_assoc f b g)) in
    let right : (a ++ b) ++ (f ++ g) ≡ a ++ ((b ++ f) ++ g) = append_assoc a b (f ++ g) ∙ ap (λ l. a ++ l) (sym (append_assoc b f g)) in
    subst (λ l. IsPermutation l ((a ++ b) ++ (f ++ g))) (sym left)
    (subst (λ l. IsPermutation (a ++ ((f ++ b) ++ g)) l) (sym right)
    (IsPermutation-append_right a ((f ++ b) ++ g) ((b ++ f) ++ g) (IsPermutation-append_left g (f ++ b) (b ++ f) (IsPermutation-append_comm f b))))

pieces_together : {X : Type 0} (f g h : ℕ → List X) (xs : List ℕ) → All (λ x. IsPermutation (f x ++ g x) (h x)) xs
    → IsPermutation (flat_map f xs ++ flat_map g xs) (flat_map h xs)
pieces_together f g h [] each = IsPermutation-refl []
pieces_together f g h (x ∷ xs) each =
    IsPermutation-trans ((f x ++ flat_map f xs) ++ (g x ++ flat_map g xs)) ((f x ++ g x) ++ (flat_map f xs ++ flat_map g xs)) (h x ++ flat_map h xs)
    (shuffled (f x) (flat_map f xs) (g x) (flat_map g xs))
    (IsPermutation-append (f x ++ g x) (h x) (flat_map f xs ++ flat_map g xs) (flat_map h xs)
    (All-head (λ y. IsPermutation (f y ++ g y) (h y)) x xs each)
    (pieces_together f g h xs (All-tail (λ y. IsPermutation (f y ++ g y) (h y)) x xs each)))

permuted_by : {X : Type 0} {xs ys us vs : List X} → xs ≡ us → ys ≡ vs → IsPermutation us vs → IsPermutation xs ys
permuted_by {xs = xs} {ys = ys} {us = us} {vs = vs} one other is =
    subst (λ l. IsPermutation l ys) (sym one) (subst (λ l. IsPermutation us l) (sym other) is)

-- ---- a cell

finished_is : (params : Params) (all : List Body) (level : ℕ) (path : List ℕ) (bodies : List Body) (kids : ℕ) → bodies ≡ in_cell level (key_of path) all
    → kids ≡ cond (leb (length (in_cell level (key_of path) all)) params.leaf || eqb level 21) 0 (kids_of level (in_cell level (key_of path) all))
    → tree_cell params all level (key_of path) ≡ cell_for all path bodies kids
finished_is params all level path bodies kids held is =
    ap (λ k. cell_for all path (in_cell level (key_of path) all) k) (sym is) ∙ ap (λ l. cell_for all path l kids) (sym held)

module _ (params : Params) (all : List Body) where
  abbrev Goal : ℕ → List ℕ → List Body → Type 0
  Goal depth path bodies = IsPermutation (put_below params all depth (key_of path) ++ kid params all (length path) (key_of path)) (cells_to_depth params all depth path bodies)

  -- a cell that isn't divided
  undivided : (depth : ℕ) (path : List ℕ) (b : Body) (bs : List Body) → IsReached params all depth path (b ∷ bs)
      → put_below params all depth (key_of path) ≡ [] → cells_to_depth params all depth path (b ∷ bs) ≡ cell_for all path (b ∷ bs) 0 ∷ []
      → (leb (length (in_cell (length path) (key_of path) all)) params.leaf || eqb (length path) 21) ≡ true → Goal depth path (b ∷ bs)
  undivided depth path b bs is none cells leaf =
      let some : 0 < length (in_cell (length path) (key_of path) all) = (let long = ap length is.held in omega (arith, long)) in
      permuted_by
      (ap (λ l. l ++ kid params all (length path) (key_of path)) none ∙ kid_some params all (length path) (key_of path) some
      ∙ ap (λ c. c ∷ []) (finished_is params all (length path) path (b ∷ bs) 0 is.held
      (sym (cond-true (leb (length (in_cell (length path) (key_of path) all)) params.leaf || eqb (length path) 21) 0 (kids_of (length path) (in_cell (length path) (key_of path) all)) leaf))))
      cells (IsPermutation-refl (cell_for all path (b ∷ bs) 0 ∷ []))

  pub cells_put : (depth : ℕ) (path : List ℕ) (bodies : List Body) → IsReached params all depth path bodies → Goal depth path bodies
  cells_put depth path [] is =
      let none : length (in_cell (length path) (key_of path) all) ≡ 0 = sym (ap length is.held) in
      let level : length path ≡ 21 - depth = (let whole = is.whole in omega arith) in
      let few : length (in_cell (21 - depth) (key_of path) all) ≤ params.leaf =
      subst (λ l. length (in_cell l (key_of path) all) ≤ params.leaf) level (omega arith) in
      permuted_by (ap (λ l. l ++ kid params all (length path) (key_of path)) (put_few params all depth (key_of path) few) ∙ kid_none params all (length path) (key_of path) none)
      (cells-nil params all depth path) (IsPermutation-refl [])
  cells_put zero path (b ∷ bs) is =
      let level : length path ≡ 21 = (let whole = is.whole in omega arith) in
      undivided zero path b bs is (put_deepest params all (key_of path)) (cells-deepest params all path b bs)
      (ap (λ l. leb (length (in_cell (length path) (key_of path) all)) params.leaf || eqb l 21) level
      ∙ either_one (leb (length (in_cell (length path) (key_of path) all)) params.leaf))
  cells_put (suc depth) path (b ∷ bs) is =
      let level : length path ≡ 20 - depth = (let whole = is.whole in omega arith) in
      let long : length (b ∷ bs) ≡ length (in_cell (length path) (key_of path) all) = ap length is.held in
      elim (cases_lt params.leaf (length (b ∷ bs))) [
        | inl many ↦
            let key = key_of path in
            let kids = kids_of (20 - depth) (b ∷ bs) in
            let apart : length path ≢ 21 = (λ same. let whole = is.whole in omega arith) in
            let more : params.leaf < length (in_cell (length path) key all) = omega arith in
            let fewer : (leb (length (in_cell (length path) key all)) params.leaf || eqb (length path) 21) ≡ false =
            ap (λ t. t || eqb (length path) 21) (lt-leb (length (in_cell (length path) key all)) params.leaf more) ∙ ne_eqb (length path) 21 apart in
            let own : kid params all (length path) key ≡ cell_for all path (b ∷ bs) kids ∷ [] =
            kid_some params all (length path) key (omega arith)
            ∙ ap (λ c. c ∷ []) (finished_is params all (length path) path (b ∷ bs) kids is.held
            (ap (kids_of (20 - depth)) is.held ∙ ap (λ l. kids_of l (in_cell (length path) key all)) (sym level)
            ∙ sym (cond-false (leb (length (in_cell (length path) key all)) params.leaf || eqb (length path) 21) 0 (kids_of (length path) (in_cell (length path) key all)) fewer))) in
            let f = λ (octant : ℕ). put_below params all depth (8 * key + octant) in
            let g = λ (octant : ℕ). kid params all (21 - depth) (8 * key + octant) in
            let h = λ (octant : ℕ). cells_to_depth params all depth (path ++ octant ∷ []) (in_octant (20 - depth) (b ∷ bs) octant) in
            let each : (octant : ℕ) → octant < 8 → IsPermutation (f octant ++ g octant) (h octant) = λ octant below.
            (let key_is = key_of_push path octant in
            let level_is : length (path ++ octant ∷ []) ≡ 21 - depth = (let whole = is.whole in omega (arith, length_push path octant)) in
            permuted_by
            (ap (λ k. put_below params all depth k ++ kid params all (21 - depth) k) (sym key_is)
            ∙ ap (λ l. put_below params all depth (key_of (path ++ octant ∷ [])) ++ kid params all l (key_of (path ++ octant ∷ []))) (sym level_is))
            refl
            (cells_put depth (path ++ octant ∷ []) (in_octant (20 - depth) (b ∷ bs) octant) (reached_octant params all depth path (b ∷ bs) octant is many below))) in
            let together = pieces_together f g h octants (All-weaker (λ octant. octant < 8) (λ octant. IsPermutation (f octant ++ g octant) (h octant)) each octants octants_small) in
            permuted_by
            (ap (λ l. l ++ kid params all (length path) key) (put_divided params all depth key (subst (λ l. params.leaf < length (in_cell l key all)) level more))
            ∙ ap (λ l. (flat_map f octants ++ flat_map g octants) ++ l) own)
            (cells-divided params all depth path b bs many)
            (IsPermutation-trans ((flat_map f octants ++ flat_map g octants) ++ cell_for all path (b ∷ bs) kids ∷ [])
            (cell_for all path (b ∷ bs) kids ∷ (flat_map f octants ++ flat_map g octants)) (cell_for all path (b ∷ bs) kids ∷ flat_map h octants)
            (IsPermutation-append_comm (flat_map f octants ++ flat_map g octants) (cell_for all path (b ∷ bs) kids ∷ []))
            (IsPermutation-append_right (cell_for all path (b ∷ bs) kids ∷ []) (flat_map f octants ++ flat_map g octants) (flat_map h octants) together))
        | inr few ↦
            let fewer : length (in_cell (length path) (key_of path) all) ≤ params.leaf = omega arith in
            undivided (suc depth) path b bs is
            (put_leaf params all depth (key_of path) (subst (λ l. length (in_cell l (key_of path) all) ≤ params.leaf) level fewer))
            (cells-leaf params all depth path b bs few)
            (ap (λ t. t || eqb (length path) 21) (le-leb (length (in_cell (length path) (key_of path) all)) params.leaf fewer))
      ]

  -- the whole tree
  pub tree_put : IsPermutation (put_below params all 21 1 ++ kid params all 0 1) (cells_to_depth params all 21 [] all)
  tree_put = cells_put 21 [] all (root_reached params all)
