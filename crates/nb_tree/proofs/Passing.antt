-- A pass through a cell with levels below it, as far as it has come, and its end.
use Rattle.std.proofs.Common.{bit_or, ◌≡◌, ℕ, zero, suc, ◌+◌, ◌-◌, ◌*◌, ◌/◌, ◌%◌, ◌^◌, ◌<◌, ◌≤◌, Bool, true, false, cond, ◌||◌, eqb, leb, List, [], ◌∷◌, ◌++◌, length, take, drop, inl, inr, refl, sym, ap, subst, ◌∙◌, arith, append_assoc}
use Rattle.std.specs.Prelude.{◌≢◌, sum_by}
use Rattle.std.specs.List.{flat_map}
use Rattle.std.proofs.lemmas.Bool.{cases_lt, cond-true, cond-false, le-leb, lt-leb, ne_eqb}
use Rattle.std.proofs.lemmas.List.{append-nil, length-drop, drop_at, take_at, take-append-drop}
use Rattle.std.proofs.lemmas.Grind.{flat_map-append}
use Rattle.nb_model.specs.declared.body.Body.{Body}
use Rattle.nb_model.specs.declared.params.Params.{Params}
use Rattle.nb_model.specs.Octree.{total_mass}
use Rattle.nb_model.specs.Gravity.{octants}
use Rattle.nb_key.specs.Morton.{IsKeyAt}
use Rattle.nb_key.proofs.Levels.{child_at, eight_mono}
use Rattle.nb_record.specs.declared.cell.Cell.{Cell}
use Rattle.nb_record.specs.Cells.{first_body, in_cell, kids_of}
use Rattle.nb_tree.specs.Passes.{AreSums, MayStand, Inserts, HasPassed, cell_closed, tree_cell, put_below}
use Rattle.nb_tree.specs.declared.closed.ClosedCell.{ClosedCell}
use Rattle.nb_tree.specs.declared.maker.Maker.{Maker}
use Rattle.nb_tree.specs.declared.sums.Sums.{Sums}
use Rattle.nb_tree.proofs.Deepest.{IsPlus}
use Rattle.nb_tree.proofs.Inserting.{may_front, inserts_none, inserts_then, inserts_are}
use Rattle.nb_tree.proofs.Octants.{AreSorted, IsNext, over_of, over_more, over_count, over_mono, begins, isnt_past, one_next, next_in_cell, next_holds}
use Rattle.nb_tree.proofs.Reading.{HasRead, octants_below, kids_at, more_octants, put_few, put_leaf, put_divided, put_deepest, read_none, read_octant, read_skip, read_all, read_all_kids}

-- ---- the keys of a cell and of its octants

pub key_above : (depth key : ℕ) → 0 < depth → depth ≤ 21 → IsKeyAt (21 - depth) key → key < 8 ^ 21
key_above depth key some few is = omega (arith, is.below, eight_mono (21 - depth) 20 (omega arith))

pub octant_key : (depth key octant : ℕ) → 0 < depth → depth ≤ 21 → IsKeyAt (21 - depth) key → octant < 8 → IsKeyAt (21 - (depth - 1)) (8 * key + octant)
octant_key depth key octant some few is below =
    let level : suc (21 - depth) ≡ 21 - (depth - 1) = omega arith in
    subst (λ l. IsKeyAt l (8 * key + octant)) level (child_at (21 - depth) key octant is (omega arith) below)

-- ---- lists that wait

pub drop_none : {X : Type 0} (ys : List X) → drop (length ys) ys ≡ []
drop_none [] = refl
drop_none (y ∷ ys) = drop_none ys

-- what waits now is what waited, and some more behind it
pub waits_none : {X : Type 0} (xs : List X) → xs ≡ xs ++ drop (length xs) xs
waits_none xs = sym (ap (λ l. xs ++ l) (drop_none xs) ∙ append-nil xs)

pub waits_last : {X : Type 0} (old now : List X) (x : X) → now ≡ old ++ drop (length old) now
    → drop (length old) (now ++ x ∷ []) ≡ drop (length old) now ++ x ∷ []
waits_last old now x is =
    ap (λ l. drop (length old) (l ++ x ∷ [])) is
    ∙ ap (drop (length old)) (append_assoc old (drop (length old) now) (x ∷ []))
    ∙ drop_at old (drop (length old) now ++ x ∷ []) (length old) refl

pub waits_more : {X : Type 0} (old now : List X) (x : X) → now ≡ old ++ drop (length old) now
    → now ++ x ∷ [] ≡ old ++ drop (length old) (now ++ x ∷ [])
waits_more old now x is =
    ap (λ l. l ++ x ∷ []) is ∙ append_assoc old (drop (length old) now) (x ∷ []) ∙ ap (λ l. old ++ l) (sym (waits_last old now x is))

-- what waits behind so many, as a slice to the end
pub rest_is : {X : Type 0} (n : ℕ) (xs ys : List X) → ys ≡ xs → take (length ys - n) (drop n ys) ≡ drop n xs
rest_is n xs ys same =
    ap (λ m. take m (drop n ys)) (sym (length-drop n ys)) ∙ take_all (drop n ys) ∙ ap (drop n) same where
      take_all : {X : Type 0} (zs : List X) → take (length zs) zs ≡ zs
      take_all [] = refl
      take_all (z ∷ zs) = ap (λ l. z ∷ l) (take_all zs)

-- ---- a closed cell is the finished one

abbrev cell_from : ℕ → ℕ → ℕ → ℕ → ℕ → ℕ → ℕ → ℕ → Cell
cell_from key mass x y z first count kids = record {
  key = key;
  mass = mass;
  centre = record { x = x / mass; y = y / mass; z = z / mass };
  first = first;
  count = count;
  kids = kids;
}

pub closed_is : (params : Params) (all : List Body) (level key : ℕ) (c : ClosedCell) → c.key ≡ key → AreSums c.sums (in_cell level key all)
    → first_body all (in_cell level key all) ≡ c.first
    → c.kids ≡ cond (leb (length (in_cell level key all)) params.leaf || eqb level 21) 0 (kids_of level (in_cell level key all))
    → cell_closed c ≡ tree_cell params all level key
closed_is params all level key c same are first kids =
    let bodies = in_cell level key all in
    ap (λ k. cell_from k c.sums.mass c.sums.x c.sums.y c.sums.z c.first c.sums.count c.kids) same
    ∙ ap (λ m. cell_from key m c.sums.x c.sums.y c.sums.z c.first c.sums.count c.kids) are.mass
    ∙ ap (λ m. cell_from key (total_mass bodies) m c.sums.y c.sums.z c.first c.sums.count c.kids) are.x
    ∙ ap (λ m. cell_from key (total_mass bodies) (sum_by (λ b. b.mass * b.at.x) bodies) m c.sums.z c.first c.sums.count c.kids) are.y
    ∙ ap (λ m. cell_from key (total_mass bodies) (sum_by (λ b. b.mass * b.at.x) bodies) (sum_by (λ b. b.mass * b.at.y) bodies) m c.first c.sums.count c.kids) are.z
    ∙ ap (λ m. cell_from key (total_mass bodies) (sum_by (λ b. b.mass * b.at.x) bodies) (sum_by (λ b. b.mass * b.at.y) bodies) (sum_by (λ b. b.mass * b.at.z) bodies) m c.sums.count c.kids) (sym first)
    ∙ ap (λ m. cell_from key (total_mass bodies) (sum_by (λ b. b.mass * b.at.x) bodies) (sum_by (λ b. b.mass * b.at.y) bodies) (sum_by (λ b. b.mass * b.at.z) bodies) (first_body all bodies) m c.kids) are.count
    ∙ ap (λ m. cell_from key (total_mass bodies) (sum_by (λ b. b.mass * b.at.x) bodies) (sum_by (λ b. b.mass * b.at.y) bodies) (sum_by (λ b. b.mass * b.at.z) bodies) (first_body all bodies) (length bodies) m) kids

pub either_one : (t : Bool) → (t || true) ≡ true
either_one true = refl
either_one false = refl

-- ---- at the deepest level

pub deepest_passed : (params : Params) (all : List Body) (depth key : ℕ) (file : List ℕ) (m : Maker) (c : ClosedCell) → depth ≡ 0 → c.key ≡ key → c.kids ≡ 0
    → AreSums c.sums (in_cell 21 key all) → first_body all (in_cell 21 key all) ≡ c.first → HasPassed params all depth key file m file m c
deepest_passed params all depth key file m c deep same none are first =
    subst (λ d. HasPassed params all d key file m file m c) (sym deep) (record {
      cell = closed_is params all 21 key c same are first
          (none ∙ sym (cond-true (leb (length (in_cell 21 key all)) params.leaf || true) 0 (kids_of 21 (in_cell 21 key all)) (either_one (leb (length (in_cell 21 key all)) params.leaf))));
      sums = are;
      inserts = inserts_are (sym (put_deepest params all key)) (inserts_none file m);
    })

-- ---- with levels below it

-- The pass has gone through the first octants of the cell, which has so many levels below it: n of them, with these cells put.
pub record IsReadTo (params : Params) (all : List Body) (depth key taken : ℕ) (sums : Sums) (kids : ℕ) (kept : List Cell) (before : List ℕ) (old : Maker) (now : List ℕ) (new : Maker) : Type 0 where
  pub n : ℕ
  pub puts : List Cell
  pub read : HasRead params all (depth - 1) (21 - depth) (21 - (depth - 1)) key n taken sums kids puts kept
  pub inserts : Inserts puts before old now new

module _ (params : Params) {all : List Body} (are : AreSorted all) (depth key : ℕ) (some_depth : 0 < depth) (few : depth ≤ 21) (is : IsKeyAt (21 - depth) key) where
  up : 21 - (depth - 1) ≡ 21 - depth + 1
  up = omega arith

  above : 21 - depth < 21
  above = omega arith

  pub begins_read : (taken : ℕ) (sums : Sums) (file : List ℕ) (m : Maker) → first_body all (in_cell (21 - depth) key all) ≡ taken
      → sums ≡ record { count = 0; mass = 0; x = 0; y = 0; z = 0 } → IsReadTo params all depth key taken sums 0 [] file m file m
  begins_read taken sums file m first none = record {
    n = 0;
    puts = [];
    read = read_none params are (depth - 1) (21 - depth) (21 - (depth - 1)) key is up above refl taken sums (sym first) none;
    inserts = inserts_none file m;
  }

  -- the pass comes to the octant in which the next body lies
  pub record IsBegun (octant taken : ℕ) (sums : Sums) (kids : ℕ) (kept : List Cell) (before : List ℕ) (old : Maker) (now : List ℕ) (new : Maker) : Type 0 where
    pub puts : List Cell
    pub read : HasRead params all (depth - 1) (21 - depth) (21 - (depth - 1)) key octant taken sums kids puts kept
    pub inserts : Inserts puts before old now new
    pub first : first_body all (in_cell (21 - (depth - 1)) (8 * key + octant) all) ≡ taken
    pub some : 0 < length (in_cell (21 - (depth - 1)) (8 * key + octant) all)

  module _ {taken : ℕ} {sums : Sums} {kids : ℕ} {kept : List Cell} {before now : List ℕ} {old new : Maker} (to : IsReadTo params all depth key taken sums kids kept before old now new) where
    pub comes_to : (octant : ℕ) → octant < 8 → IsNext (21 - (depth - 1)) (8 * key + octant) all taken
        → IsBegun octant taken sums kids kept before old now new
    comes_to octant below next =
        let level = 21 - depth in
        let deeper = 21 - (depth - 1) in
        let from = isnt_past are level deeper key is up above taken to.n octant to.read.within below to.read.at next in
        let steps : to.n + (octant - to.n) ≡ octant = omega arith in
        let read = subst (λ m. HasRead params all (depth - 1) level deeper key m taken sums kids to.puts kept) steps
        (read_skip params are (depth - 1) level deeper key is up above refl (octant - to.n) to.n taken sums kids to.puts kept (omega arith)
        (λ other least less other_next. absurd (let same = one_next are level deeper key is up above taken other octant other_next next in omega arith))
        to.read) in
        record {
          puts = to.puts;
          read = read;
          inserts = to.inserts;
          first = begins are level deeper key is up above taken octant below read.at next;
          some = next_holds deeper (8 * key + octant) taken all next;
        }

    -- all octants were gone through
    pub comes_to_end : (IsNext (21 - depth) key all taken → ⊥)
        → HasRead params all (depth - 1) (21 - depth) (21 - (depth - 1)) key 8 taken sums kids to.puts kept
    comes_to_end none =
        let level = 21 - depth in
        let deeper = 21 - (depth - 1) in
        let steps : to.n + (8 - to.n) ≡ 8 = (let within = to.read.within in omega arith) in
        let within = to.read.within in
        subst (λ m. HasRead params all (depth - 1) level deeper key m taken sums kids to.puts kept) steps
        (read_skip params are (depth - 1) level deeper key is up above refl (8 - to.n) to.n taken sums kids to.puts kept (omega arith)
        (λ other least less next. none (next_in_cell are level deeper key is up above taken other (omega arith) next))
        to.read)

  -- the octant is closed
  pub goes_past : {octant taken : ℕ} {sums : Sums} {kids : ℕ} {kept : List Cell} {before now after : List ℕ} {old new later : Maker} (sum : Sums) (c : ClosedCell)
      (then_place : ℕ) → octant < 8 → IsBegun octant taken sums kids kept before old now new
      → HasPassed params all (depth - 1) (8 * key + octant) now new after later c → IsPlus sums c.sums sum → then_place ≡ taken + c.sums.count
      → IsReadTo params all depth key then_place sum (bit_or kids ((1 * 2 ^ octant) % 256)) (kept ++ cell_closed c ∷ []) before old after later
  goes_past {octant = octant} {taken = taken} {sums = sums} {kids = kids} {kept = kept} sum c then_place below begun passed plus on = record {
    n = octant + 1;
    puts = begun.puts ++ put_below params all (depth - 1) (8 * key + octant);
    read = read_octant params are (depth - 1) (21 - depth) (21 - (depth - 1)) key is up above refl octant taken then_place sums c.sums sum kids begun.puts kept (cell_closed c)
        below begun.some begun.read passed.sums plus on passed.cell;
    inserts = inserts_then begun.inserts passed.inserts;
  }

  -- ---- the end

  child_few : (n : ℕ) → n < 8 → length (in_cell (21 - (depth - 1)) (8 * key + n) all) ≤ length (in_cell (21 - depth) key all)
  child_few n below =
      let level = 21 - depth in
      let deeper = 21 - (depth - 1) in
      let more = over_more are level deeper key is up above length n below in
      let mono = over_mono are level deeper key is up above (n + 1) (8 - (n + 1)) (omega arith) in
      let to : n + 1 + (8 - (n + 1)) ≡ 8 = omega arith in
      let all_is : over_of all deeper key length (n + 1 + (8 - (n + 1))) ≡ over_of all deeper key length 8 = ap (over_of all deeper key length) to in
      omega (arith, more, mono, all_is, over_count are level deeper key is up above)

  -- under a leaf nothing is put
  none_below : length (in_cell (21 - depth) key all) ≤ params.leaf → (n : ℕ) → n ≤ 8 → octants_below params all (depth - 1) key n ≡ []
  none_below leaf zero within = refl
  none_below leaf (suc n) within =
      let next_one : suc n ≡ n + 1 = omega arith in
      ap (octants_below params all (depth - 1) key) next_one
      ∙ more_octants (λ octant. put_below params all (depth - 1) (8 * key + octant)) n (omega arith)
      ∙ ap (λ l. l ++ put_below params all (depth - 1) (8 * key + n)) (none_below leaf n (omega arith))
      ∙ put_few params all (depth - 1) (8 * key + n) (let fewer = child_few n (omega arith) in omega arith)

  one_less : depth ≡ suc (depth - 1)
  one_less = omega arith

  level_is : 21 - depth ≡ 20 - (depth - 1)
  level_is = omega arith

  below_leaf : length (in_cell (21 - depth) key all) ≤ params.leaf → put_below params all depth key ≡ []
  below_leaf leaf =
      ap (λ d. put_below params all d key) one_less
      ∙ put_leaf params all (depth - 1) key (subst (λ l. length (in_cell l key all) ≤ params.leaf) level_is leaf)

  below_divided : params.leaf < length (in_cell (21 - depth) key all)
      → put_below params all depth key ≡ octants_below params all (depth - 1) key 8 ++ kids_at params all (21 - (depth - 1)) key 8
  below_divided many =
      ap (λ d. put_below params all d key) one_less
      ∙ put_divided params all (depth - 1) key (subst (λ l. params.leaf < length (in_cell l key all)) level_is many)

  module _ {taken : ℕ} {sums : Sums} {kids : ℕ} {puts kept : List Cell} (read : HasRead params all (depth - 1) (21 - depth) (21 - (depth - 1)) key 8 taken sums kids puts kept) where
    pub all_sums : AreSums sums (in_cell (21 - depth) key all)
    all_sums = read_all params are (depth - 1) (21 - depth) (21 - (depth - 1)) key is up above refl taken sums kids puts kept read

    pub leaf_passed : {before now : List ℕ} {old new : Maker} (c : ClosedCell) → sums.count ≤ params.leaf → c.key ≡ key → c.sums ≡ sums → c.kids ≡ 0
        → first_body all (in_cell (21 - depth) key all) ≡ c.first → Inserts puts before old now new → HasPassed params all depth key before old now new c
    leaf_passed c few_bodies same sums_are none first inserts =
        let few_are : length (in_cell (21 - depth) key all) ≤ params.leaf = omega (arith, all_sums.count, few_bodies) in
        record {
          cell = closed_is params all (21 - depth) key c same (subst (λ (s : Sums). AreSums s (in_cell (21 - depth) key all)) (sym sums_are) all_sums) first
              (none ∙ sym (cond-true (leb (length (in_cell (21 - depth) key all)) params.leaf || eqb (21 - depth) 21) 0 (kids_of (21 - depth) (in_cell (21 - depth) key all))
              (ap (λ t. t || eqb (21 - depth) 21) (le-leb (length (in_cell (21 - depth) key all)) params.leaf few_are))));
          sums = subst (λ (s : Sums). AreSums s (in_cell (21 - depth) key all)) (sym sums_are) all_sums;
          inserts = inserts_are (read.below ∙ none_below few_are 8 (omega arith) ∙ sym (below_leaf few_are)) inserts;
        }

    pub all_below : params.leaf < sums.count → put_below params all depth key ≡ puts ++ kept
    all_below many =
        below_divided (omega (arith, all_sums.count, many)) ∙ ap (λ l. l ++ kids_at params all (21 - (depth - 1)) key 8) (sym read.below)
        ∙ ap (λ l. puts ++ l) (sym read.waits)

    pub divided_passed : {before now : List ℕ} {old new : Maker} (c : ClosedCell) → params.leaf < sums.count → c.key ≡ key → c.sums ≡ sums → c.kids ≡ kids
        → first_body all (in_cell (21 - depth) key all) ≡ c.first → Inserts (puts ++ kept) before old now new → HasPassed params all depth key before old now new c
    divided_passed c many same sums_are kids_are first inserts =
        let many_are : params.leaf < length (in_cell (21 - depth) key all) = omega (arith, all_sums.count, many) in
        let apart : (21 - depth) ≢ 21 = λ same. omega arith in
        record {
          cell = closed_is params all (21 - depth) key c same (subst (λ (s : Sums). AreSums s (in_cell (21 - depth) key all)) (sym sums_are) all_sums) first
              (kids_are ∙ read_all_kids params are (depth - 1) (21 - depth) (21 - (depth - 1)) key is up above refl taken sums kids puts kept read
              ∙ sym (cond-false (leb (length (in_cell (21 - depth) key all)) params.leaf || eqb (21 - depth) 21) 0 (kids_of (21 - depth) (in_cell (21 - depth) key all))
              (ap (λ t. t || eqb (21 - depth) 21) (lt-leb (length (in_cell (21 - depth) key all)) params.leaf many_are) ∙ ne_eqb (21 - depth) 21 apart)));
          sums = subst (λ (s : Sums). AreSums s (in_cell (21 - depth) key all)) (sym sums_are) all_sums;
          inserts = inserts_are (sym (all_below many)) inserts;
        }

  -- ---- what may stand with an octant's cells

  pub may_octant : (cells : List Cell) {octant taken : ℕ} {sums : Sums} {kids : ℕ} {puts kept : List Cell} → octant < 8
      → HasRead params all (depth - 1) (21 - depth) (21 - (depth - 1)) key octant taken sums kids puts kept
      → MayStand (cells ++ put_below params all depth key) → MayStand ((cells ++ puts) ++ put_below params all (depth - 1) (8 * key + octant))
  may_octant cells {octant = octant} {puts = puts} below read may =
      let put = λ (o : ℕ). put_below params all (depth - 1) (8 * key + o) in
      let more = more_octants put octant below in
      let front : (cells ++ puts) ++ put octant ≡ cells ++ octants_below params all (depth - 1) key (octant + 1) =
      append_assoc cells puts (put octant) ∙ ap (λ l. cells ++ (l ++ put octant)) read.below ∙ ap (λ l. cells ++ l) (sym more) in
      elim (cases_lt params.leaf (length (in_cell (21 - depth) key all))) [
        | inl many ↦
            let rest = flat_map put (drop (octant + 1) octants) ++ kids_at params all (21 - (depth - 1)) key 8 in
            let whole : put_below params all depth key ≡ octants_below params all (depth - 1) key (octant + 1) ++ rest =
            below_divided many
            ∙ ap (λ l. flat_map put l ++ kids_at params all (21 - (depth - 1)) key 8) (sym (take-append-drop (octant + 1) octants))
            ∙ ap (λ l. l ++ kids_at params all (21 - (depth - 1)) key 8) (flat_map-append put (take (octant + 1) octants) (drop (octant + 1) octants))
            ∙ append_assoc (octants_below params all (depth - 1) key (octant + 1)) (flat_map put (drop (octant + 1) octants)) (kids_at params all (21 - (depth - 1)) key 8) in
            subst MayStand (sym front)
            (may_front (cells ++ octants_below params all (depth - 1) key (octant + 1)) rest
            (subst MayStand (ap (λ l. cells ++ l) whole ∙ sym (append_assoc cells (octants_below params all (depth - 1) key (octant + 1)) rest)) may))
        | inr leaf ↦
            subst MayStand (sym (front ∙ ap (λ l. cells ++ l) (none_below leaf (octant + 1) (omega arith)) ∙ ap (λ l. cells ++ l) (sym (below_leaf leaf)))) may
      ]

  -- what a closing makes, whether the cell is a leaf or not
  pub end_passed : {taken : ℕ} {sums : Sums} {kids : ℕ} {puts kept : List Cell} {before now after : List ℕ} {old middle new : Maker} (c : ClosedCell)
      → HasRead params all (depth - 1) (21 - depth) (21 - (depth - 1)) key 8 taken sums kids puts kept
      → c.key ≡ key → c.sums ≡ sums → c.kids ≡ cond (leb sums.count params.leaf) 0 kids
      → first_body all (in_cell (21 - depth) key all) ≡ c.first → Inserts puts before old now middle
      → Inserts (cond (leb sums.count params.leaf) [] kept) now middle after new → HasPassed params all depth key before old after new c
  end_passed {sums = sums} {kids = kids} {puts = puts} {kept = kept} c read same sums_are kids_are first one two = elim (cases_lt params.leaf sums.count) [
    | inl many ↦
        divided_passed read c many same sums_are (kids_are ∙ cond-false (leb sums.count params.leaf) 0 kids (lt-leb sums.count params.leaf many)) first
        (inserts_then one (inserts_are (cond-false (leb sums.count params.leaf) [] kept (lt-leb sums.count params.leaf many)) two))
    | inr leaf ↦
        leaf_passed read c leaf same sums_are (kids_are ∙ cond-true (leb sums.count params.leaf) 0 kids (le-leb sums.count params.leaf leaf)) first
        (inserts_are (append-nil puts) (inserts_then one (inserts_are (cond-true (leb sums.count params.leaf) [] kept (le-leb sums.count params.leaf leaf)) two)))
  ]

-- ---- over every host

pub some_count : (n : ℕ) → (n ≡ 0 → ⊥) → 0 < n
some_count zero other = absurd (other refl)
some_count (suc n) other = omega arith

pub kids_small : (t : Bool) (kids : ℕ) → kids < 256 → cond t 0 kids < 256
kids_small true kids small = omega arith
kids_small false kids small = small
