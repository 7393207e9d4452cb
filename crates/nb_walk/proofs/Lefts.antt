-- What each way down from an item takes from what is left to do.
use Rattle.std.proofs.Common.{◌≡◌, ℕ, zero, suc, ◌+◌, ◌-◌, ◌*◌, ◌/◌, ◌%◌, ◌^◌, ◌<◌, ◌≤◌, cond, eqb, ltb, leb, List, [], ◌∷◌, ◌++◌, length, sym, ap, ◌∙◌, refl, arith, subst, inl, inr}
use Rattle.std.specs.Prelude.{◌≢◌, sum_by}
use Rattle.std.proofs.Math.Nat.{pow-suc, mul-le-mul_right}
use Rattle.std.proofs.lemmas.Bool.{cond-true, cond-false, eq-eqb, ne_eqb, lt-ltb, le-leb, lt-leb, cases_eq}
use Rattle.std.proofs.lemmas.List.Sums.{sum_by-append, sum_by-cons}
use Rattle.nb_model.specs.declared.body.Body.{Body}
use Rattle.nb_model.specs.declared.params.Params.{Params}
use Rattle.nb_model.specs.Octree.{in_octant}
use Rattle.nb_model.specs.Gravity.{octants}
use Rattle.nb_model.specs.Leapfrog.{unescaped}
use Rattle.nb_key.specs.Morton.{IsKey}
use Rattle.nb_record.specs.declared.cell.Cell.{Cell}
use Rattle.nb_record.specs.declared.tree.Tree.{Tree}
use Rattle.nb_record.specs.Cells.{first_body, in_cell, IsTreeCell}
use Rattle.nb_record.proofs.Callers.{octant_of_cell, leaf_by_kids, divided_by_kids, empty_octant}
use Rattle.nb_walk.specs.declared.item.Item.{Item}
use Rattle.nb_walk.specs.declared.item.Item.TheVariants as item
use Rattle.nb_walk.specs.Angle.{level_of}
use Rattle.nb_walk.specs.Items.{chain_page, bodies_under}
use Rattle.nb_walk.specs.Left.{pages_to, WorkCosts, work_below, item_work, items_work, item_bound, step_bound}
use Rattle.nb_walk.specs.Looks.{kid_items, opened_items}
use Rattle.nb_walk.proofs.KeyLevels.{child_level}
use Rattle.nb_walk.proofs.Rooms.{no_kids}

-- ---- sums over the octants of a cell

abbrev Below : List ℕ → Type 0
Below [] = Unit {0}
Below (o ∷ os) = (o < 8) × Below os

octants_below : Below octants
octants_below = (omega arith, (omega arith, (omega arith, (omega arith, (omega arith, (omega arith, (omega arith, (omega arith, tt))))))))

sum_agree : (f g : ℕ → ℕ) (os : List ℕ) → Below os → ((o : ℕ) → o < 8 → f o ≡ g o) → sum_by f os ≡ sum_by g os
sum_agree f g [] below same = refl
sum_agree f g (o ∷ os) below same =
    sum_by-cons f o os ∙ ap (λ n. n + sum_by f os) (same o below.0) ∙ ap (λ n. g o + n) (sum_agree f g os below.1 same) ∙ sym (sum_by-cons g o os)

kids_cons : (key kids octant : ℕ) (os : List ℕ) → kid_items key kids (octant ∷ os) ≡ kid_items key kids os ++ cond (eqb (kids / 2 ^ octant % 2) 1) (item.Cell (8 * key + octant) 0 ∷ []) []
unfolding kid_items
kids_cons key kids octant os = refl

module _ (f : Item → ℕ) (key kids : ℕ) where
  kid_sum : ℕ → ℕ
  kid_sum octant = sum_by f (cond (eqb (kids / 2 ^ octant % 2) 1) (item.Cell (8 * key + octant) 0 ∷ []) [])

  sum_kids : (os : List ℕ) → sum_by f (kid_items key kids os) ≡ sum_by kid_sum os
  unfolding kid_sum
  sum_kids [] = ap (sum_by f) (no_kids key kids)
  sum_kids (octant ∷ os) =
      let kid = cond (eqb (kids / 2 ^ octant % 2) 1) (item.Cell (8 * key + octant) 0 ∷ []) [] in
      ap (sum_by f) (kids_cons key kids octant os)
      ∙ sum_by-append f (kid_items key kids os) kid
      ∙ ap (λ n. n + sum_by f kid) (sum_kids os)
      ∙ swap (sum_by kid_sum os) (sum_by f kid)
      ∙ sym (sum_by-cons kid_sum octant os)
    where
      swap : (a b : ℕ) → a + b ≡ b + a
      swap a b = omega arith

  kid_set : (octant : ℕ) → kids / 2 ^ octant % 2 ≡ 1 → kid_sum octant ≡ f (item.Cell (8 * key + octant) 0)
  unfolding kid_sum
  kid_set octant set =
      ap (sum_by f) (cond-true (eqb (kids / 2 ^ octant % 2) 1) (item.Cell (8 * key + octant) 0 ∷ []) [] (eq-eqb (kids / 2 ^ octant % 2) 1 set))
      ∙ sum_by-cons f (item.Cell (8 * key + octant) 0) [] ∙ plus_zero (f (item.Cell (8 * key + octant) 0))
    where
      plus_zero : (n : ℕ) → n + 0 ≡ n
      plus_zero n = omega arith

  kid_unset : (octant : ℕ) → kids / 2 ^ octant % 2 ≢ 1 → kid_sum octant ≡ 0
  unfolding kid_sum
  kid_unset octant unset = ap (sum_by f) (cond-false (eqb (kids / 2 ^ octant % 2) 1) (item.Cell (8 * key + octant) 0 ∷ []) [] (ne_eqb (kids / 2 ^ octant % 2) 1 unset))

  sum_kids_most : (most : ℕ) → ((octant : ℕ) → octant < 8 → f (item.Cell (8 * key + octant) 0) ≤ most) → sum_by f (kid_items key kids octants) ≤ 8 * most
  sum_kids_most most each =
      let go = upto most each octants octants_below in
      let all = sum_kids octants in
      omega arith
    where
      one : (most octant : ℕ) → f (item.Cell (8 * key + octant) 0) ≤ most → kid_sum octant ≤ most
      one most octant small = elim (cases_eq (kids / 2 ^ octant % 2) 1) [
        | inl set ↦ omega (arith, kid_set octant set)
        | inr unset ↦ omega (arith, kid_unset octant unset)
      ]

      upto : (most : ℕ) → ((octant : ℕ) → octant < 8 → f (item.Cell (8 * key + octant) 0) ≤ most) → (os : List ℕ) → Below os → sum_by kid_sum os ≤ length os * most
      upto most each [] below = omega arith
      upto most each (o ∷ os) below =
          let here = one most o (each o below.0) in
          let rest = upto most each os below.1 in
          let sum = sum_by-cons kid_sum o os in
          let times : suc (length os) * most ≡ most + length os * most = omega arith in
          omega arith

-- ---- over a tree

work_deepest : (k : WorkCosts) (file : List ℕ) (tree : Tree) (leaf : ℕ) (all : List Body) (key : ℕ) (bodies : List Body) → work_below k file tree leaf all zero key bodies ≡ k.of_leaf (first_body all bodies) (length bodies)
unfolding work_below
work_deepest k file tree leaf all key bodies = refl

work_leaf : (k : WorkCosts) (file : List ℕ) (tree : Tree) (leaf : ℕ) (all : List Body) (depth key : ℕ) (bodies : List Body) → length bodies ≤ leaf → work_below k file tree leaf all depth key bodies ≡ k.of_leaf (first_body all bodies) (length bodies)
unfolding work_below
work_leaf k file tree leaf all zero key bodies few = refl
work_leaf k file tree leaf all (suc depth) key bodies few = cond-true (leb (length bodies) leaf) (k.of_leaf (first_body all bodies) (length bodies)) _ (le-leb (length bodies) leaf few)

-- what a part of a cell weighs
part_work : WorkCosts → List ℕ → Tree → ℕ → List Body → ℕ → ℕ → List Body → ℕ
part_work k file tree leaf all depth key part = cond (ltb 0 (length part)) (pages_to file tree key (key % 2 ^ tree.bits) + work_below k file tree leaf all depth key part) 0

work_parts : (k : WorkCosts) (file : List ℕ) (tree : Tree) (leaf : ℕ) (all : List Body) (depth key : ℕ) (bodies : List Body) → leaf < length bodies
    → work_below k file tree leaf all (suc depth) key bodies ≡ sum_by (λ octant. part_work k file tree leaf all depth (8 * key + octant) (in_octant (21 - 1 - depth) bodies octant)) octants
unfolding work_below part_work
work_parts k file tree leaf all depth key bodies many = cond-false (leb (length bodies) leaf) (k.of_leaf (first_body all bodies) (length bodies)) _ (lt-leb (length bodies) leaf many)

some_length : (bs : List Body) → bs ≢ [] → 0 < length bs
some_length [] some = absurd (some refl)
some_length (b ∷ bs) some = omega arith

module _ (k : WorkCosts) (file : List ℕ) (tree : Tree) (params : Params) (bodies : List Body) where
  abbrev left_of : Item → ℕ
  left_of x = item_work k file tree params.leaf bodies x

  pub work : ℕ → ℕ
  work key = work_below k file tree params.leaf (unescaped bodies) (21 - level_of key) key (bodies_under key (unescaped bodies))

  pub left_cell : (key page : ℕ) → bodies_under key (unescaped bodies) ≢ [] → left_of (item.Cell key page) ≡ pages_to file tree key (chain_page tree.bits key page) + work key
  unfolding work
  left_cell key page some =
      let own = bodies_under key (unescaped bodies) in
      cond-true (ltb 0 (length own)) (pages_to file tree key (chain_page tree.bits key page) + work_below k file tree params.leaf (unescaped bodies) (21 - level_of key) key own) 0 (lt-ltb 0 (length own) (some_length own some))

  -- the next page of a chain
  pub left_next : (key page next : ℕ) → bodies_under key (unescaped bodies) ≢ [] → pages_to file tree key (chain_page tree.bits key page) ≡ suc (pages_to file tree key (chain_page tree.bits key next))
      → left_of (item.Cell key next) < left_of (item.Cell key page)
  left_next key page next some is = omega (arith, left_cell key page some, left_cell key next some, is)

  -- a cell that is taken whole
  pub left_accepted : (key page : ℕ) → bodies_under key (unescaped bodies) ≢ [] → pages_to file tree key (chain_page tree.bits key page) ≡ 1 → 0 < left_of (item.Cell key page)
  left_accepted key page some is = omega (arith, left_cell key page some, is)

  -- a kid of a cell weighs what its part does
  kid_work : (level : ℕ) (cell : Cell) (octant : ℕ) → IsTreeCell params (unescaped bodies) level cell → level ≡ level_of cell.key → octant < 8 → level < 21 → cell.kids ≢ 0
      → kid_sum left_of cell.key cell.kids octant ≡ part_work k file tree params.leaf (unescaped bodies) (20 - level) (8 * cell.key + octant) (in_octant level (in_cell level cell.key (unescaped bodies)) octant)
  unfolding part_work
  kid_work level cell octant is its below above some =
      let all = unescaped bodies in
      let key = 8 * cell.key + octant in
      let part = octant_of_cell level cell.key octant all below in
      let weight = λ (d : ℕ) (bs : List Body). cond (ltb 0 (length bs)) (pages_to file tree key (key % 2 ^ tree.bits) + work_below k file tree params.leaf all d key bs) 0 in
      let deeper : level_of key ≡ suc level = child_level cell.key octant (level, is.key) (subst (λ l. l < 21) its above) below ∙ ap suc (sym its) in
      elim (cases_eq (cell.kids / 2 ^ octant % 2) 1) [
        | inl set ↦
            let depth : 21 - level_of key ≡ 20 - level = omega arith in
            let there : level_of key ≡ level + 1 = omega arith in
            kid_set left_of cell.key cell.kids octant set
            ∙ ap (λ d. weight d (bodies_under key all)) depth
            ∙ ap (λ l. weight (20 - level) (in_cell l key all)) there
            ∙ ap (weight (20 - level)) (sym part)
        | inr unset ↦
            let none = empty_octant params all level cell octant is below some unset in
            kid_unset left_of cell.key cell.kids octant unset
            ∙ sym (ap (weight (20 - level)) (part ∙ none))
      ]

  -- the items in the place of an opened cell
  pub left_opened : (cell : Cell) (page : ℕ) → IsTreeCell params (unescaped bodies) (level_of cell.key) cell → ((from count : ℕ) → k.of_bodies from count ≤ k.of_leaf from count)
      → pages_to file tree cell.key (chain_page tree.bits cell.key page) ≡ 1 → items_work k file tree params.leaf bodies (opened_items cell) < left_of (item.Cell cell.key page)
  unfolding work
  left_opened cell page is lighter one =
      let all = unescaped bodies in
      let level = level_of cell.key in
      let own = bodies_under cell.key all in
      let whole = left_cell cell.key page is.some in
      elim (cases_eq cell.kids 0) [
        | inl none ↦
            let opened = cond-true (eqb cell.kids 0) (item.Bodies cell.first cell.count ∷ []) (kid_items cell.key cell.kids octants) (eq-eqb cell.kids 0 none) in
            let sum = ap (sum_by left_of) opened ∙ sum_by-cons left_of (item.Bodies cell.first cell.count) [] in
            let leaf : work_below k file tree params.leaf all (21 - level) cell.key own ≡ k.of_leaf (first_body all own) (length own) = elim (leaf_by_kids params all level cell is none) [
              | inl few ↦ work_leaf k file tree params.leaf all (21 - level) cell.key own few
              | inr deep ↦
                  let zero_left : 21 - level ≡ 0 = omega arith in
                  ap (λ d. work_below k file tree params.leaf all d cell.key own) zero_left ∙ work_deepest k file tree params.leaf all cell.key own
            ] in
            let same = ap (λ f. k.of_leaf f cell.count) is.first ∙ ap (k.of_leaf (first_body all own)) is.count in
            let less = lighter cell.first cell.count in
            omega arith
        | inr some ↦
            let opened = cond-false (eqb cell.kids 0) (item.Bodies cell.first cell.count ∷ []) (kid_items cell.key cell.kids octants) (ne_eqb cell.kids 0 some) in
            let divided = divided_by_kids params all level cell is some in
            let above = divided.above in
            let depth : 21 - level ≡ suc (20 - level) = omega arith in
            let back : 21 - 1 - (20 - level) ≡ level = omega arith in
            let part = λ (l octant : ℕ). part_work k file tree params.leaf all (20 - level) (8 * cell.key + octant) (in_octant l own octant) in
            let under = ap (λ d. work_below k file tree params.leaf all d cell.key own) depth ∙ work_parts k file tree params.leaf all (20 - level) cell.key own divided.many ∙ ap (λ l. sum_by (part l) octants) back in
            let sum = ap (sum_by left_of) opened ∙ sum_kids left_of cell.key cell.kids octants
            ∙ sum_agree (kid_sum left_of cell.key cell.kids) (part level) octants octants_below (λ octant below. kid_work level cell octant is refl below above some) in
            omega arith
      ]

  -- among other items
  pub left_among : (xs more : List Item) (x : Item) → items_work k file tree params.leaf bodies more < left_of x
      → items_work k file tree params.leaf bodies (xs ++ more) < items_work k file tree params.leaf bodies (xs ++ x ∷ [])
  left_among xs more x less =
      let new = sum_by-append left_of xs more in
      let old = sum_by-append left_of xs (x ∷ []) in
      let last = sum_by-cons left_of x [] in
      omega arith

-- ---- over any bytes

module _ (tree : Tree) where
  pub bound_among : (xs more : List Item) (x : Item) → step_bound tree more < item_bound tree x → step_bound tree (xs ++ more) < step_bound tree (xs ++ x ∷ [])
  bound_among xs more x less =
      let new = sum_by-append (item_bound tree) xs more in
      let old = sum_by-append (item_bound tree) xs (x ∷ []) in
      let last = sum_by-cons (item_bound tree) x [] in
      omega arith

  sixteen_pos : (n : ℕ) → 1 ≤ 16 ^ n
  sixteen_pos zero = omega arith
  sixteen_pos (suc n) = omega (arith, pow-suc 16 n, sixteen_pos n)

  -- a cell weighs more than this
  heavy : (key : ℕ) → tree.pages + tree.count + 2 ≤ 16 ^ (21 - level_of key) * (tree.pages + tree.count + 2)
  heavy key =
      let more = mul-le-mul_right (tree.pages + tree.count + 2) (sixteen_pos (21 - level_of key)) in
      let once : 1 * (tree.pages + tree.count + 2) ≡ tree.pages + tree.count + 2 = omega arith in
      omega arith

  pub bound_some : (x : Item) → 0 < item_bound tree x
  bound_some (item.Cell key page) = omega (arith, heavy key)
  bound_some (item.Bodies from count) = omega arith

  pub bound_next : (key page next : ℕ) → page < next → next < tree.pages → step_bound tree (item.Cell key next ∷ []) < item_bound tree (item.Cell key page)
  bound_next key page next later within = omega (arith, sum_by-cons (item_bound tree) (item.Cell key next) [])

  pub bound_opened : (cell : Cell) (page : ℕ) → IsKey cell.key → (cell.kids ≢ 0 → level_of cell.key < 21) → cell.first + cell.count ≤ tree.count → step_bound tree (opened_items cell) < item_bound tree (item.Cell cell.key page)
  bound_opened cell page is above within =
      elim (cases_eq cell.kids 0) [
        | inl none ↦
            let opened = ap (step_bound tree) (cond-true (eqb cell.kids 0) (item.Bodies cell.first cell.count ∷ []) (kid_items cell.key cell.kids octants) (eq-eqb cell.kids 0 none)) in
            let one = sum_by-cons (item_bound tree) (item.Bodies cell.first cell.count) [] in
            let much = heavy cell.key in
            omega arith
        | inr some ↦
            let opened = ap (step_bound tree) (cond-false (eqb cell.kids 0) (item.Bodies cell.first cell.count ∷ []) (kid_items cell.key cell.kids octants) (ne_eqb cell.kids 0 some)) in
            parts cell page is (above some) opened
      ]
    where
      parts : (cell : Cell) (page : ℕ) → IsKey cell.key → level_of cell.key < 21 → step_bound tree (opened_items cell) ≡ step_bound tree (kid_items cell.key cell.kids octants) → step_bound tree (opened_items cell) < item_bound tree (item.Cell cell.key page)
      parts cell page is above opened =
          let level = level_of cell.key in
          let m = tree.pages + tree.count + 2 in
          let kid = 16 ^ (20 - level) * m + tree.pages in
          let each : (octant : ℕ) → octant < 8 → item_bound tree (item.Cell (8 * cell.key + octant) 0) ≤ kid = λ octant below. one_kid cell.key octant is above below in
          let most = sum_kids_most (item_bound tree) cell.key cell.kids kid each in
          let depth : 21 - level ≡ suc (20 - level) = omega arith in
          let whole : 16 ^ (21 - level) * m ≡ 16 * (16 ^ (20 - level) * m) = ap (λ d. 16 ^ d * m) depth ∙ ap (λ p. p * m) (pow-suc 16 (20 - level)) ∙ regroup (16 ^ (20 - level)) m in
          let low = mul-le-mul_right m (sixteen_pos (20 - level)) in
          let once : 1 * m ≡ m = omega arith in
          omega arith
        where
          regroup : (a b : ℕ) → a * 16 * b ≡ 16 * (a * b)
          regroup a b = grind arith

          one_kid : (key octant : ℕ) → IsKey key → level_of key < 21 → octant < 8 → item_bound tree (item.Cell (8 * key + octant) 0) ≤ 16 ^ (20 - level_of key) * (tree.pages + tree.count + 2) + tree.pages
          one_kid key octant is above below =
              let deeper = child_level key octant is above below in
              let depth : 21 - level_of (8 * key + octant) ≡ 20 - level_of key = omega arith in
              let same = ap (λ d. 16 ^ d * (tree.pages + tree.count + 2)) depth in
              omega arith
