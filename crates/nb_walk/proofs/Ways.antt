-- The ways down from an item, as equations of the terms that are still to come.
use Rattle.std.proofs.Common.{◌≡◌, ℕ, zero, suc, ◌+◌, ◌-◌, ◌*◌, ◌/◌, ◌%◌, ◌^◌, ◌<◌, ◌≤◌, cond, eqb, leb, Bool, true, false, not, List, [], ◌∷◌, ◌++◌, length, take, drop, Some, append-nil, append_assoc, sym, ap, ◌∙◌, refl, arith, subst, inl, inr}
use Rattle.std.specs.Prelude.{◌≢◌, slice_get, filter, IsPermutation}
use Rattle.std.specs.List.{flat_map}
use Rattle.std.proofs.lemmas.Bool.{cond-true, cond-false, eq-eqb, ne_eqb, le-leb, lt-leb, cases_eq}
use Rattle.std.proofs.Math.Seq.{take-add}
use Rattle.std.proofs.lemmas.List.{map-append, drop-drop}
use Rattle.std.proofs.lemmas.List.Concat.{flat_map-cons}
use Rattle.std.proofs.lemmas.List.Sorted.{sum_by-IsPermutation}
use Rattle.nb_model.specs.declared.body.Body.{Body}
use Rattle.nb_model.specs.declared.params.Params.{Params}
use Rattle.nb_model.specs.Octree.{in_octant, total_mass, centre_of_mass}
use Rattle.nb_model.specs.Gravity.{octants}
use Rattle.nb_model.specs.Leapfrog.{unescaped}
use Rattle.nb_key.specs.Morton.{key_at}
use Rattle.nb_record.specs.declared.cell.Cell.{Cell}
use Rattle.nb_record.specs.Order.{by_key, sorted_by, IsSortedByRank}
use Rattle.nb_record.specs.Cells.{in_cell, IsTreeCell}
use Rattle.nb_record.proofs.Callers.{permuted, only, length-sorted_by, unescaped_sorted, Ordered, all_before, neighbours, ordered_filtered, IsPermutation-filter, octant_of_cell, leaf_by_kids, divided_by_kids, in_root, empty_octant, cell_read}
use Rattle.nb_walk.specs.declared.item.Item.{Item}
use Rattle.nb_walk.specs.declared.item.Item.TheVariants as item
use Rattle.nb_walk.specs.declared.term.Term.{Term}
use Rattle.nb_walk.specs.declared.term.Term.TheVariants as term
use Rattle.nb_walk.specs.Angle.{level_of}
use Rattle.nb_walk.specs.Terms.{Acceptance, body_terms, cell_terms, terms_to_depth}
use Rattle.nb_walk.specs.Items.{in_order, bodies_from, bodies_under, item_terms, remaining_terms}
use Rattle.nb_walk.specs.Looks.{kid_items, opened_items}
use Rattle.nb_walk.proofs.KeyLevels.{child_level, root_level}

-- ---- the bodies of a cell, in Morton order

-- what a test chooses of the ordered bodies is what it chooses, ordered
chosen : (p : Body → Bool) (bodies : List Body) → IsSortedByRank by_key (sorted_by by_key bodies) → filter p (in_order bodies) ≡ sorted_by by_key (filter p (unescaped bodies))
chosen p bodies distinct =
    let order = sorted_by by_key bodies in
    let inside = λ (b : Body). not b.out in
    let kept : Ordered by_key (filter p (unescaped order)) = ordered_filtered by_key p (unescaped order) (ordered_filtered by_key inside order (all_before by_key order distinct)) in
    let there : Ordered by_key (filter p (in_order bodies)) = subst (λ l. Ordered by_key (filter p l)) (unescaped_sorted bodies) kept in
    only by_key (filter p (unescaped bodies)) (filter p (in_order bodies)) (IsPermutation-filter p (unescaped bodies) (in_order bodies) (permuted by_key (unescaped bodies)))
    (neighbours by_key (filter p (in_order bodies)) there)

pub under_order : (level key : ℕ) (bodies : List Body) → IsSortedByRank by_key (sorted_by by_key bodies) → in_cell level key (in_order bodies) ≡ sorted_by by_key (in_cell level key (unescaped bodies))
under_order level key bodies distinct = chosen (λ b. eqb (key_at level b.at) key) bodies distinct

pub under_permuted : (level key : ℕ) (bodies : List Body) → IsPermutation (in_cell level key (unescaped bodies)) (in_cell level key (in_order bodies))
under_permuted level key bodies = IsPermutation-filter (λ b. eqb (key_at level b.at) key) (unescaped bodies) (in_order bodies) (permuted by_key (unescaped bodies))

same_mass : (xs ys : List Body) → IsPermutation xs ys → total_mass ys ≡ total_mass xs
same_mass xs ys is = sum_by-IsPermutation (λ b. b.mass) xs ys is

same_centre : (xs ys : List Body) → IsPermutation xs ys → centre_of_mass ys ≡ centre_of_mass xs
same_centre xs ys is =
    let m = same_mass xs ys is in
    let x = sum_by-IsPermutation (λ b. b.mass * b.at.x) xs ys is in
    let y = sum_by-IsPermutation (λ b. b.mass * b.at.y) xs ys is in
    let z = sum_by-IsPermutation (λ b. b.mass * b.at.z) xs ys is in
    cc

-- ---- the terms of a cell, case by case

module _ (w : Acceptance) (leaf : ℕ) where
  pub terms_none : (depth key : ℕ) → terms_to_depth w leaf depth key [] ≡ []
  unfolding terms_to_depth
  terms_none zero key = refl
  terms_none (suc depth) key = refl

  accepted_cell : (key : ℕ) (bodies : List Body) (opened : List Term) → bodies ≢ [] → w key (total_mass bodies) (centre_of_mass bodies) ≡ true → cell_terms w key bodies opened ≡ term.Cell (total_mass bodies) (centre_of_mass bodies) ∷ []
  accepted_cell key [] opened some is = absurd (some refl)
  accepted_cell key (b ∷ bs) opened some is = cond-true (w key (total_mass (b ∷ bs)) (centre_of_mass (b ∷ bs))) (term.Cell (total_mass (b ∷ bs)) (centre_of_mass (b ∷ bs)) ∷ []) opened is

  opened_cell : (key : ℕ) (bodies : List Body) (opened : List Term) → bodies ≢ [] → w key (total_mass bodies) (centre_of_mass bodies) ≡ false → cell_terms w key bodies opened ≡ opened
  opened_cell key [] opened some is = absurd (some refl)
  opened_cell key (b ∷ bs) opened some is = cond-false (w key (total_mass (b ∷ bs)) (centre_of_mass (b ∷ bs))) (term.Cell (total_mass (b ∷ bs)) (centre_of_mass (b ∷ bs)) ∷ []) opened is

  pub terms_accepted : (depth key : ℕ) (bodies : List Body) → bodies ≢ [] → w key (total_mass bodies) (centre_of_mass bodies) ≡ true → terms_to_depth w leaf depth key bodies ≡ term.Cell (total_mass bodies) (centre_of_mass bodies) ∷ []
  unfolding terms_to_depth
  terms_accepted zero key bodies some is = accepted_cell key bodies (body_terms bodies) some is
  terms_accepted (suc depth) key bodies some is = accepted_cell key bodies _ some is

  pub terms_deepest : (key : ℕ) (bodies : List Body) → bodies ≢ [] → w key (total_mass bodies) (centre_of_mass bodies) ≡ false → terms_to_depth w leaf zero key bodies ≡ body_terms bodies
  unfolding terms_to_depth
  terms_deepest key bodies some is = opened_cell key bodies (body_terms bodies) some is

  octant_terms : ℕ → ℕ → List Body → List Term
  octant_terms depth key bodies = flat_map (λ octant. terms_to_depth w leaf depth (8 * key + octant) (in_octant (21 - 1 - depth) bodies octant)) octants

  pub terms_leaf : (depth key : ℕ) (bodies : List Body) → bodies ≢ [] → w key (total_mass bodies) (centre_of_mass bodies) ≡ false → length bodies ≤ leaf → terms_to_depth w leaf depth key bodies ≡ body_terms bodies
  unfolding terms_to_depth
  terms_leaf zero key bodies some is few = opened_cell key bodies (body_terms bodies) some is
  terms_leaf (suc depth) key bodies some is few = opened_cell key bodies _ some is ∙ cond-true (leb (length bodies) leaf) (body_terms bodies) _ (le-leb (length bodies) leaf few)

  pub terms_parts : (depth key : ℕ) (bodies : List Body) → bodies ≢ [] → w key (total_mass bodies) (centre_of_mass bodies) ≡ false → leaf < length bodies → terms_to_depth w leaf (suc depth) key bodies ≡ flat_map (λ octant. terms_to_depth w leaf depth (8 * key + octant) (in_octant (21 - 1 - depth) bodies octant)) octants
  unfolding terms_to_depth
  terms_parts depth key bodies some is many = opened_cell key bodies _ some is ∙ cond-false (leb (length bodies) leaf) (body_terms bodies) _ (lt-leb (length bodies) leaf many)

-- ---- the terms of a list of items

module _ (w : Acceptance) (leaf : ℕ) (bodies : List Body) where
  pub remaining-nil : remaining_terms w leaf bodies [] ≡ []
  unfolding remaining_terms
  remaining-nil = refl

  pub remaining-cons : (x : Item) (xs : List Item) → remaining_terms w leaf bodies (x ∷ xs) ≡ remaining_terms w leaf bodies xs ++ item_terms w leaf bodies x
  unfolding remaining_terms
  remaining-cons x xs = refl

  pub remaining-append : (xs ys : List Item) → remaining_terms w leaf bodies (xs ++ ys) ≡ remaining_terms w leaf bodies ys ++ remaining_terms w leaf bodies xs
  remaining-append [] ys = sym (ap (λ l. remaining_terms w leaf bodies ys ++ l) remaining-nil ∙ append-nil (remaining_terms w leaf bodies ys))
  remaining-append (x ∷ xs) ys =
      remaining-cons x (xs ++ ys)
      ∙ ap (λ l. l ++ item_terms w leaf bodies x) (remaining-append xs ys)
      ∙ append_assoc (remaining_terms w leaf bodies ys) (remaining_terms w leaf bodies xs) (item_terms w leaf bodies x)
      ∙ ap (λ l. remaining_terms w leaf bodies ys ++ l) (sym (remaining-cons x xs))

  pub remaining_one : (x : Item) → remaining_terms w leaf bodies (x ∷ []) ≡ item_terms w leaf bodies x
  remaining_one x = remaining-cons x [] ∙ ap (λ l. l ++ item_terms w leaf bodies x) remaining-nil

  pub remaining_last : (xs : List Item) (x : Item) → remaining_terms w leaf bodies (xs ++ x ∷ []) ≡ item_terms w leaf bodies x ++ remaining_terms w leaf bodies xs
  remaining_last xs x = remaining-append xs (x ∷ []) ∙ ap (λ l. l ++ remaining_terms w leaf bodies xs) (remaining_one x)

  -- among other items: where the terms of an item are those handed out and those of the items in its place
  pub among : (xs more : List Item) (x : Item) (handed : List Term) → item_terms w leaf bodies x ≡ handed ++ remaining_terms w leaf bodies more
      → remaining_terms w leaf bodies (xs ++ x ∷ []) ≡ handed ++ remaining_terms w leaf bodies (xs ++ more)
  among xs more x handed is =
      remaining_last xs x
      ∙ ap (λ l. l ++ remaining_terms w leaf bodies xs) is
      ∙ append_assoc handed (remaining_terms w leaf bodies more) (remaining_terms w leaf bodies xs)
      ∙ ap (λ l. handed ++ l) (sym (remaining-append xs more))

  -- ---- the octants of a cell

  kids_cons : (key kids octant : ℕ) (os : List ℕ) → kid_items key kids (octant ∷ os) ≡ kid_items key kids os ++ cond (eqb (kids / 2 ^ octant % 2) 1) (item.Cell (8 * key + octant) 0 ∷ []) []
  unfolding kid_items
  kids_cons key kids octant os = refl

  kids_nil : (key kids : ℕ) → kid_items key kids [] ≡ []
  unfolding kid_items
  kids_nil key kids = refl

  kid_terms : ℕ → ℕ → ℕ → List Term
  kid_terms key kids octant = remaining_terms w leaf bodies (cond (eqb (kids / 2 ^ octant % 2) 1) (item.Cell (8 * key + octant) 0 ∷ []) [])

  remaining_kids : (key kids : ℕ) (os : List ℕ) → remaining_terms w leaf bodies (kid_items key kids os) ≡ flat_map (kid_terms key kids) os
  unfolding kid_terms
  remaining_kids key kids [] = ap (remaining_terms w leaf bodies) (kids_nil key kids) ∙ remaining-nil
  remaining_kids key kids (octant ∷ os) =
      let kid = cond (eqb (kids / 2 ^ octant % 2) 1) (item.Cell (8 * key + octant) 0 ∷ []) [] in
      ap (remaining_terms w leaf bodies) (kids_cons key kids octant os)
      ∙ remaining-append (kid_items key kids os) kid
      ∙ ap (λ l. remaining_terms w leaf bodies kid ++ l) (remaining_kids key kids os)
      ∙ sym (flat_map-cons (kid_terms key kids) octant os)

abbrev Below : List ℕ → Type 0
Below [] = Unit {0}
Below (o ∷ os) = (o < 8) × Below os

flat_agree : (f g : ℕ → List Term) (os : List ℕ) → Below os → ((o : ℕ) → o < 8 → f o ≡ g o) → flat_map f os ≡ flat_map g os
flat_agree f g [] below same = refl
flat_agree f g (o ∷ os) below same =
    flat_map-cons f o os ∙ ap (λ l. l ++ flat_map f os) (same o below.0) ∙ ap (λ l. g o ++ l) (flat_agree f g os below.1 same) ∙ sym (flat_map-cons g o os)

octants_below : Below octants
octants_below = (omega arith, (omega arith, (omega arith, (omega arith, (omega arith, (omega arith, (omega arith, (omega arith, tt))))))))

-- ---- the ways from a cell of the tree

pub record AtCell (params : Params) (bodies : List Body) (cell : Cell) : Type 0 where
  pub distinct : IsSortedByRank by_key (sorted_by by_key bodies)
  pub is : IsTreeCell params (unescaped bodies) (level_of cell.key) cell

some_as : (xs ys : List Body) → length ys ≡ length xs → xs ≢ [] → ys ≢ []
some_as [] ys same some = absurd (some refl)
some_as (x ∷ xs) [] same some = absurd (omega arith)
some_as (x ∷ xs) (y ∷ ys) same some = λ e. cc

pub none_as : (xs ys : List Body) → length ys ≡ length xs → xs ≡ [] → ys ≡ []
none_as xs [] same none = refl
none_as xs (y ∷ ys) same none = absurd (omega (arith, ap length none))

module _ (params : Params) (bodies : List Body) where
  abbrev own : Cell → List Body
  own cell = bodies_under cell.key (in_order bodies)

  own_length : (level key : ℕ) → IsSortedByRank by_key (sorted_by by_key bodies) → length (in_cell level key (in_order bodies)) ≡ length (in_cell level key (unescaped bodies))
  own_length level key distinct = ap length (under_order level key bodies distinct) ∙ length-sorted_by by_key (in_cell level key (unescaped bodies))

  own_some : (cell : Cell) → AtCell params bodies cell → own cell ≢ []
  own_some cell at = some_as (in_cell (level_of cell.key) cell.key (unescaped bodies)) (own cell) (own_length (level_of cell.key) cell.key at.distinct) at.is.some

  own_mass : (cell : Cell) → AtCell params bodies cell → total_mass (own cell) ≡ cell.mass
  own_mass cell at = same_mass (in_cell (level_of cell.key) cell.key (unescaped bodies)) (own cell) (under_permuted (level_of cell.key) cell.key bodies) ∙ sym at.is.mass

  own_centre : (cell : Cell) → AtCell params bodies cell → centre_of_mass (own cell) ≡ cell.centre
  own_centre cell at = same_centre (in_cell (level_of cell.key) cell.key (unescaped bodies)) (own cell) (under_permuted (level_of cell.key) cell.key bodies) ∙ sym at.is.centre

  own_read : (cell : Cell) → AtCell params bodies cell → own cell ≡ take cell.count (drop cell.first (sorted_by by_key bodies))
  own_read cell at = under_order (level_of cell.key) cell.key bodies at.distinct ∙ sym (cell_read params bodies (level_of cell.key) cell at.is)

  module _ (w : Acceptance) (cell : Cell) (at : AtCell params bodies cell) where
    answer : (t : Bool) → w cell.key cell.mass cell.centre ≡ t → w cell.key (total_mass (own cell)) (centre_of_mass (own cell)) ≡ t
    answer t is = ap (λ m. w cell.key m (centre_of_mass (own cell))) (own_mass cell at) ∙ ap (w cell.key cell.mass) (own_centre cell at) ∙ is

    pub way_accepted : w cell.key cell.mass cell.centre ≡ true → (page : ℕ) → item_terms w params.leaf bodies (item.Cell cell.key page) ≡ term.Cell cell.mass cell.centre ∷ []
    way_accepted is page =
        terms_accepted w params.leaf (21 - level_of cell.key) cell.key (own cell) (own_some cell at) (answer true is)
        ∙ ap (λ m. term.Cell m (centre_of_mass (own cell)) ∷ []) (own_mass cell at)
        ∙ ap (λ c. term.Cell cell.mass c ∷ []) (own_centre cell at)

    leaf_terms : w cell.key cell.mass cell.centre ≡ false → cell.kids ≡ 0 → terms_to_depth w params.leaf (21 - level_of cell.key) cell.key (own cell) ≡ body_terms (own cell)
    leaf_terms is none =
        elim (leaf_by_kids params (unescaped bodies) (level_of cell.key) cell at.is none) [
          | inl few ↦ terms_leaf w params.leaf (21 - level_of cell.key) cell.key (own cell) (own_some cell at) (answer false is) (omega (arith, own_length (level_of cell.key) cell.key at.distinct, few))
          | inr deep ↦
              let zero_left : 21 - level_of cell.key ≡ 0 = omega arith in
              ap (λ d. terms_to_depth w params.leaf d cell.key (own cell)) zero_left ∙ terms_deepest w params.leaf cell.key (own cell) (own_some cell at) (answer false is)
        ]

    pub way_leaf : w cell.key cell.mass cell.centre ≡ false → cell.kids ≡ 0 → (page : ℕ) → item_terms w params.leaf bodies (item.Cell cell.key page) ≡ remaining_terms w params.leaf bodies (item.Bodies cell.first cell.count ∷ [])
    way_leaf is none page = leaf_terms is none ∙ ap body_terms (own_read cell at) ∙ sym (remaining_one w params.leaf bodies (item.Bodies cell.first cell.count))

    -- the terms of one octant
    part_terms : ℕ → List Term
    part_terms octant = terms_to_depth w params.leaf (20 - level_of cell.key) (8 * cell.key + octant) (in_octant (level_of cell.key) (own cell) octant)

    kid_is : (octant : ℕ) → octant < 8 → level_of cell.key < 21 → cell.kids ≢ 0 → part_terms octant ≡ kid_terms w params.leaf bodies cell.key cell.kids octant
    unfolding part_terms kid_terms
    kid_is octant below above some =
        let level = level_of cell.key in
        let key = 8 * cell.key + octant in
        let kid : List Item = item.Cell key 0 ∷ [] in
        let test = eqb (cell.kids / 2 ^ octant % 2) 1 in
        let deeper : level_of key ≡ suc level = child_level cell.key octant (level, at.is.key) above below in
        let depth : 21 - level_of key ≡ 20 - level = omega arith in
        let part : in_octant level (own cell) octant ≡ in_cell (level + 1) key (in_order bodies) = octant_of_cell level cell.key octant (in_order bodies) below in
        ap (terms_to_depth w params.leaf (20 - level) key) part
        ∙ elim (cases_eq (cell.kids / 2 ^ octant % 2) 1) [
          | inl set ↦
              let there : in_cell (level + 1) key (in_order bodies) ≡ in_cell (level_of key) key (in_order bodies) = ap (λ l. in_cell l key (in_order bodies)) (omega arith) in
              ap (terms_to_depth w params.leaf (20 - level) key) there
              ∙ ap (λ d. terms_to_depth w params.leaf d key (bodies_under key (in_order bodies))) (sym depth)
              ∙ sym (ap (remaining_terms w params.leaf bodies) (cond-true test kid [] (eq-eqb (cell.kids / 2 ^ octant % 2) 1 set)) ∙ remaining_one w params.leaf bodies (item.Cell key 0))
          | inr unset ↦
              let none = none_as (in_cell (level + 1) key (unescaped bodies)) (in_cell (level + 1) key (in_order bodies)) (own_length (level + 1) key at.distinct)
              (empty_octant params (unescaped bodies) level cell octant at.is below some unset) in
              ap (terms_to_depth w params.leaf (20 - level) key) none
              ∙ terms_none w params.leaf (20 - level) key
              ∙ sym (ap (remaining_terms w params.leaf bodies) (cond-false test kid [] (ne_eqb (cell.kids / 2 ^ octant % 2) 1 unset)) ∙ remaining-nil w params.leaf bodies)
        ]

    pub way_parts : w cell.key cell.mass cell.centre ≡ false → cell.kids ≢ 0 → (page : ℕ) → item_terms w params.leaf bodies (item.Cell cell.key page) ≡ remaining_terms w params.leaf bodies (kid_items cell.key cell.kids octants)
    unfolding part_terms
    way_parts is some page =
        let level = level_of cell.key in
        let divided = divided_by_kids params (unescaped bodies) level cell at.is some in
        let above = divided.above in
        let depth : 21 - level ≡ suc (20 - level) = omega arith in
        let back : 21 - 1 - (20 - level) ≡ level = omega arith in
        ap (λ d. terms_to_depth w params.leaf d cell.key (own cell)) depth
        ∙ terms_parts w params.leaf (20 - level) cell.key (own cell) (own_some cell at) (answer false is) (omega (arith, own_length level cell.key at.distinct, divided.many))
        ∙ ap (λ l. flat_map (λ o. terms_to_depth w params.leaf (20 - level) (8 * cell.key + o) (in_octant l (own cell) o)) octants) back
        ∙ flat_agree part_terms (kid_terms w params.leaf bodies cell.key cell.kids) octants octants_below (λ octant below. kid_is octant below above some)
        ∙ sym (remaining_kids w params.leaf bodies cell.key cell.kids octants)

    -- the items in the place of an opened cell
    pub way_opened : w cell.key cell.mass cell.centre ≡ false → (page : ℕ) → item_terms w params.leaf bodies (item.Cell cell.key page) ≡ remaining_terms w params.leaf bodies (opened_items cell)
    way_opened is page =
        elim (cases_eq cell.kids 0) [
          | inl none ↦ way_leaf is none page ∙ ap (remaining_terms w params.leaf bodies) (sym (cond-true (eqb cell.kids 0) (item.Bodies cell.first cell.count ∷ []) (kid_items cell.key cell.kids octants) (eq-eqb cell.kids 0 none)))
          | inr some ↦ way_parts is some page ∙ ap (remaining_terms w params.leaf bodies) (sym (cond-false (eqb cell.kids 0) (item.Bodies cell.first cell.count ∷ []) (kid_items cell.key cell.kids octants) (ne_eqb cell.kids 0 some)))
        ]

-- ---- a new walk, and one over a tree without bodies

pub root_terms : (w : Acceptance) (leaf : ℕ) (bodies : List Body) → remaining_terms w leaf bodies (item.Cell 1 0 ∷ []) ≡ terms_to_depth w leaf 21 1 (in_order bodies)
root_terms w leaf bodies =
    remaining_one w leaf bodies (item.Cell 1 0)
    ∙ ap (λ l. terms_to_depth w leaf (21 - l) 1 (in_cell l 1 (in_order bodies))) root_level
    ∙ ap (terms_to_depth w leaf 21 1) (in_root (in_order bodies))

-- ---- the bodies of a leaf

pub range_add : (bodies : List Body) (from n m : ℕ) → bodies_from bodies from (n + m) ≡ bodies_from bodies from n ++ bodies_from bodies (from + n) m
range_add bodies from n m =
    let order = sorted_by by_key bodies in
    take-add n m (drop from order) ∙ ap (λ l. take n (drop from order) ++ take m l) (drop-drop n from order ∙ ap (λ k. drop k order) (omega arith))

read_one : (xs : List Body) (i : ℕ) (b : Body) → slice_get xs i ≡ Some b → take 1 (drop i xs) ≡ b ∷ []
read_one [] i b is = absurd (cc)
read_one (x ∷ xs) zero b is = let same : x ≡ b = cc in ap (λ y. y ∷ []) same
read_one (x ∷ xs) (suc i) b is = read_one xs i b is

pub way_body : (w : Acceptance) (leaf : ℕ) (bodies : List Body) (from count more : ℕ) (b : Body) → slice_get (sorted_by by_key bodies) from ≡ Some b → count ≡ 1 + more
    → item_terms w leaf bodies (item.Bodies from count) ≡ term.Body b ∷ item_terms w leaf bodies (item.Bodies (from + 1) more)
way_body w leaf bodies from count more b is counts =
    ap (λ n. body_terms (bodies_from bodies from n)) counts
    ∙ ap body_terms (range_add bodies from 1 more)
    ∙ map-append (λ b. term.Body b) (bodies_from bodies from 1) (bodies_from bodies (from + 1) more)
    ∙ ap (λ l. body_terms l ++ body_terms (bodies_from bodies (from + 1) more)) (read_one (sorted_by by_key bodies) from b is)
