-- The octants of a cell, as far as a pass has gone through them.
use Rattle.std.proofs.Common.{bit_or, ◌≡◌, ℕ, zero, suc, ◌+◌, ◌-◌, ◌*◌, ◌%◌, ◌^◌, ◌<◌, ◌≤◌, cond, eqb, leb, ltb, List, [], ◌∷◌, ◌++◌, length, take, refl, sym, ap, subst, ◌∙◌, arith}
use Rattle.std.specs.Prelude.{sum_by}
use Rattle.std.specs.List.{flat_map}
use Rattle.std.proofs.lemmas.Bool.{cond-true, cond-false, le-leb, lt-leb, eq-eqb, ne_eqb, lt-ltb, le-ltb}
use Rattle.std.proofs.lemmas.Grind.{flat_map-append}
use Rattle.std.proofs.lemmas.List.{append-nil, take_more}
use Rattle.std.proofs.Math.Nat.{pow-suc}
use Rattle.std.proofs.lemmas.List.Sums.{sum_by_more}
use Rattle.std.specs.Int.Bits.{and_shifted}
use Rattle.std.proofs.lemmas.Nat.{or_comm, or_disjoint}
use Rattle.nb_model.specs.declared.body.Body.{Body}
use Rattle.nb_model.specs.declared.params.Params.{Params}
use Rattle.nb_model.specs.Octree.{in_octant, total_mass}
use Rattle.nb_model.specs.Gravity.{octants}
use Rattle.nb_key.specs.Morton.{IsKeyAt}
use Rattle.nb_record.specs.declared.cell.Cell.{Cell}
use Rattle.nb_record.specs.Cells.{first_body, in_cell, kids_of}
use Rattle.nb_record.proofs.Callers.{octant_number}
use Rattle.nb_tree.specs.Passes.{AreSums, tree_cell, kid, put_below}
use Rattle.nb_tree.specs.declared.sums.Sums.{Sums}
use Rattle.nb_tree.proofs.Deepest.{IsPlus}
use Rattle.nb_tree.proofs.Octants.{AreSorted, IsNext, over_of, over_more, over_all, over_count, empty_past, octant_is}

-- ---- a cell without bodies

no_bodies : (bs : List Body) → length bs ≡ 0 → bs ≡ []
no_bodies [] none = refl
no_bodies (b ∷ bs) none = absurd (omega arith)

pub kid_none : (params : Params) (all : List Body) (level key : ℕ) → length (in_cell level key all) ≡ 0 → kid params all level key ≡ []
kid_none params all level key none =
    cond-true (eqb (length (in_cell level key all)) 0) [] (tree_cell params all level key ∷ []) (eq-eqb (length (in_cell level key all)) 0 none)

pub kid_some : (params : Params) (all : List Body) (level key : ℕ) → 0 < length (in_cell level key all) → kid params all level key ≡ tree_cell params all level key ∷ []
kid_some params all level key some =
    cond-false (eqb (length (in_cell level key all)) 0) [] (tree_cell params all level key ∷ []) (ne_eqb (length (in_cell level key all)) 0 (λ none. omega arith))

-- the cells below a cell, by cases
pub put_deepest : (params : Params) (all : List Body) (key : ℕ) → put_below params all zero key ≡ []
unfolding put_below
put_deepest params all key = refl

abbrev pub octants_below : Params → List Body → ℕ → ℕ → ℕ → List Cell
octants_below params all depth key n = flat_map (λ octant. put_below params all depth (8 * key + octant)) (take n octants)

abbrev pub kids_at : Params → List Body → ℕ → ℕ → ℕ → List Cell
kids_at params all next key n = flat_map (λ octant. kid params all next (8 * key + octant)) (take n octants)

put_suc : (params : Params) (all : List Body) (depth key : ℕ) → put_below params all (suc depth) key
    ≡ cond (leb (length (in_cell (20 - depth) key all)) params.leaf) [] (octants_below params all depth key 8 ++ kids_at params all (21 - depth) key 8)
unfolding put_below
put_suc params all depth key = refl

pub put_leaf : (params : Params) (all : List Body) (depth key : ℕ) → length (in_cell (20 - depth) key all) ≤ params.leaf → put_below params all (suc depth) key ≡ []
put_leaf params all depth key few =
    put_suc params all depth key
    ∙ cond-true (leb (length (in_cell (20 - depth) key all)) params.leaf) [] (octants_below params all depth key 8 ++ kids_at params all (21 - depth) key 8)
    (le-leb (length (in_cell (20 - depth) key all)) params.leaf few)

pub put_divided : (params : Params) (all : List Body) (depth key : ℕ) → params.leaf < length (in_cell (20 - depth) key all)
    → put_below params all (suc depth) key ≡ octants_below params all depth key 8 ++ kids_at params all (21 - depth) key 8
put_divided params all depth key many =
    put_suc params all depth key
    ∙ cond-false (leb (length (in_cell (20 - depth) key all)) params.leaf) [] (octants_below params all depth key 8 ++ kids_at params all (21 - depth) key 8)
    (lt-leb (length (in_cell (20 - depth) key all)) params.leaf many)

-- so few bodies that none below is put
pub put_few : (params : Params) (all : List Body) (depth key : ℕ) → length (in_cell (21 - depth) key all) ≤ params.leaf → put_below params all depth key ≡ []
put_few params all zero key few = put_deepest params all key
put_few params all (suc depth) key few =
    let level : 21 - suc depth ≡ 20 - depth = omega arith in
    put_leaf params all depth key (subst (λ l. length (in_cell l key all) ≤ params.leaf) level few)

-- one octant more of a list of octants
pub more_octants : (f : ℕ → List Cell) (n : ℕ) → n < 8 → flat_map f (take (n + 1) octants) ≡ flat_map f (take n octants) ++ f n
more_octants f n below =
    ap (flat_map f) (take_more octants n 0 below ∙ ap (λ o. take n octants ++ o ∷ []) (octant_number n below))
    ∙ flat_map-append f (take n octants) (n ∷ []) ∙ ap (λ l. flat_map f (take n octants) ++ l) (append-nil (f n))

-- ---- bits

pub kids_upto : List Body → ℕ → ℕ → ℕ → ℕ
kids_upto all next key n = sum_by (λ octant. cond (ltb 0 (length (in_cell next (8 * key + octant) all))) (2 ^ octant) 0) (take n octants)

-- a bit above all others
pub bit_added : (n kids : ℕ) → kids < 2 ^ n → n < 8 → bit_or kids ((1 * 2 ^ n) % 256) ≡ kids + 2 ^ n
bit_added n kids small below =
    let one : (1 * 2 ^ n) % 256 ≡ 1 * 2 ^ n = within n below in
    let same : 1 * 2 ^ n ≡ 2 ^ n = omega arith in
    ap (bit_or kids) one ∙ or_comm kids (1 * 2 ^ n) ∙ or_disjoint (1 * 2 ^ n) kids (and_shifted 1 n kids small) ∙ omega (arith, same) where
      within : (m : ℕ) → m < 8 → (1 * 2 ^ m) % 256 ≡ 1 * 2 ^ m
      within zero less = refl
      within (suc zero) less = refl
      within (suc (suc zero)) less = refl
      within (suc (suc (suc zero))) less = refl
      within (suc (suc (suc (suc zero)))) less = refl
      within (suc (suc (suc (suc (suc zero))))) less = refl
      within (suc (suc (suc (suc (suc (suc zero)))))) less = refl
      within (suc (suc (suc (suc (suc (suc (suc zero))))))) less = refl
      within (suc (suc (suc (suc (suc (suc (suc (suc m)))))))) less = absurd (omega arith)

-- ---- the first n octants

-- The first n octants of the cell at this level with this key were gone through, with so many bodies taken. The sums are those of their
-- bodies, the kids have their bits, these cells were put, and these are kept.
pub record HasRead (params : Params) (all : List Body) (depth level next key n taken : ℕ) (sums : Sums) (kids : ℕ) (puts kept : List Cell) : Type 0 where
  pub within : n ≤ 8
  pub at : taken ≡ first_body all (in_cell level key all) + over_of all next key length n
  pub count : sums.count ≡ over_of all next key length n
  pub mass : sums.mass ≡ over_of all next key total_mass n
  pub x : sums.x ≡ over_of all next key (sum_by (λ b. b.mass * b.at.x)) n
  pub y : sums.y ≡ over_of all next key (sum_by (λ b. b.mass * b.at.y)) n
  pub z : sums.z ≡ over_of all next key (sum_by (λ b. b.mass * b.at.z)) n
  pub bits : kids ≡ kids_upto all next key n
  pub small : kids < 2 ^ n
  pub below : puts ≡ octants_below params all depth key n
  pub waits : kept ≡ kids_at params all next key n

module _ (params : Params) {all : List Body} (are : AreSorted all) (depth level next key : ℕ) (is : IsKeyAt level key) (up : next ≡ level + 1) (above : level < 21) (deep : next ≡ 21 - depth) where
  abbrev Read : ℕ → ℕ → Sums → ℕ → List Cell → List Cell → Type 0
  Read = HasRead params all depth level next key

  -- how many bodies an octant has, at its level as it is told by the levels below it
  lies_at : (n : ℕ) → length (in_cell (21 - depth) (8 * key + n) all) ≡ length (in_cell next (8 * key + n) all)
  lies_at n = ap (λ l. length (in_cell l (8 * key + n) all)) (sym deep)

  pub read_none : (taken : ℕ) (sums : Sums) → taken ≡ first_body all (in_cell level key all)
      → sums ≡ record { count = 0; mass = 0; x = 0; y = 0; z = 0 } → Read 0 taken sums 0 [] []
  unfolding kids_upto
  read_none taken sums first none = record {
    within = omega arith;
    at = omega arith;
    count = ap (λ (s : Sums). s.count) none;
    mass = ap (λ (s : Sums). s.mass) none;
    x = ap (λ (s : Sums). s.x) none;
    y = ap (λ (s : Sums). s.y) none;
    z = ap (λ (s : Sums). s.z) none;
    bits = refl;
    small = omega arith;
    below = refl;
    waits = refl;
  }

  bits_more : (n : ℕ) → n < 8 → kids_upto all next key (n + 1) ≡ kids_upto all next key n + cond (ltb 0 (length (in_cell next (8 * key + n) all))) (2 ^ n) 0
  unfolding kids_upto
  bits_more n below =
      let f = λ (octant : ℕ). cond (ltb 0 (length (in_cell next (8 * key + octant) all))) (2 ^ octant) 0 in
      sum_by_more f octants n 0 below ∙ ap (λ o. sum_by f (take n octants) + f o) (octant_number n below)

  -- an octant without bodies
  pub read_empty : (n taken : ℕ) (sums : Sums) (kids : ℕ) (puts kept : List Cell) → n < 8
      → length (in_cell next (8 * key + n) all) ≡ 0 → Read n taken sums kids puts kept → Read (n + 1) taken sums kids puts kept
  read_empty n taken sums kids puts kept below none so_far =
      let empty = no_bodies (in_cell next (8 * key + n) all) none in
      let stays : (f : List Body → ℕ) → f [] ≡ 0 → over_of all next key f n ≡ over_of all next key f (n + 1) = λ f zero_is.
      (let last : f (in_cell next (8 * key + n) all) ≡ 0 = ap f empty ∙ zero_is in
      let more : over_of all next key f (n + 1) ≡ over_of all next key f n + f (in_cell next (8 * key + n) all) = over_more are level next key is up above f n below in
      omega (arith, more, last)) in
      let no_bit : cond (ltb 0 (length (in_cell next (8 * key + n) all))) (2 ^ n) 0 ≡ 0 =
      cond-false (ltb 0 (length (in_cell next (8 * key + n) all))) (2 ^ n) 0 (le-ltb 0 (length (in_cell next (8 * key + n) all)) (omega arith)) in
      let bit = bits_more n below in
      let double = pow-suc 2 n in
      let next_one : suc n ≡ n + 1 = omega arith in
      let power : 2 ^ suc n ≡ 2 ^ (n + 1) = ap (λ m. 2 ^ m) next_one in
      record {
        within = omega arith;
        at = so_far.at ∙ ap (λ m. first_body all (in_cell level key all) + m) (stays length refl);
        count = so_far.count ∙ stays length refl;
        mass = so_far.mass ∙ stays total_mass refl;
        x = so_far.x ∙ stays (sum_by (λ b. b.mass * b.at.x)) refl;
        y = so_far.y ∙ stays (sum_by (λ b. b.mass * b.at.y)) refl;
        z = so_far.z ∙ stays (sum_by (λ b. b.mass * b.at.z)) refl;
        bits = omega (arith, so_far.bits, bit, no_bit);
        small = omega (arith, so_far.small, double, power);
        below = so_far.below ∙ sym (more_octants (λ octant. put_below params all depth (8 * key + octant)) n below
            ∙ ap (λ l. octants_below params all depth key n ++ l) (put_few params all depth (8 * key + n) (omega (arith, lies_at n, none)))
            ∙ append-nil (octants_below params all depth key n));
        waits = so_far.waits ∙ sym (more_octants (λ octant. kid params all next (8 * key + octant)) n below
            ∙ ap (λ l. flat_map (λ octant. kid params all next (8 * key + octant)) (take n octants) ++ l) (kid_none params all next (8 * key + n) none)
            ∙ append-nil (flat_map (λ octant. kid params all next (8 * key + octant)) (take n octants)));
      }

  -- an octant whose bodies were all read
  pub read_octant : (n taken later : ℕ) (sums one sum : Sums) (kids : ℕ) (puts kept : List Cell) (cell : Cell) → n < 8
      → 0 < length (in_cell next (8 * key + n) all) → Read n taken sums kids puts kept → AreSums one (in_cell next (8 * key + n) all) → IsPlus sums one sum
      → later ≡ taken + one.count → cell ≡ tree_cell params all next (8 * key + n)
      → Read (n + 1) later sum (bit_or kids ((1 * 2 ^ n) % 256)) (puts ++ put_below params all depth (8 * key + n)) (kept ++ cell ∷ [])
  read_octant n taken later sums one sum kids puts kept cell below some so_far are_one plus on is_cell =
      let bit : cond (ltb 0 (length (in_cell next (8 * key + n) all))) (2 ^ n) 0 ≡ 2 ^ n =
      cond-true (ltb 0 (length (in_cell next (8 * key + n) all))) (2 ^ n) 0 (lt-ltb 0 (length (in_cell next (8 * key + n) all)) some) in
      let added = bit_added n kids so_far.small below in
      let bits = bits_more n below in
      let double = pow-suc 2 n in
      let next_one : suc n ≡ n + 1 = omega arith in
      let power : 2 ^ suc n ≡ 2 ^ (n + 1) = ap (λ m. 2 ^ m) next_one in
      let more = λ (f : List Body → ℕ). over_more are level next key is up above f n below in
      record {
        within = omega arith;
        at = omega (arith, on, so_far.at, are_one.count, more length);
        count = omega (arith, plus.count, so_far.count, are_one.count, more length);
        mass = omega (arith, plus.mass, so_far.mass, are_one.mass, more total_mass);
        x = omega (arith, plus.x, so_far.x, are_one.x, more (sum_by (λ b. b.mass * b.at.x)));
        y = omega (arith, plus.y, so_far.y, are_one.y, more (sum_by (λ b. b.mass * b.at.y)));
        z = omega (arith, plus.z, so_far.z, are_one.z, more (sum_by (λ b. b.mass * b.at.z)));
        bits = omega (arith, added, so_far.bits, bits, bit);
        small = omega (arith, added, so_far.small, double, power);
        below = ap (λ l. l ++ put_below params all depth (8 * key + n)) so_far.below
            ∙ sym (more_octants (λ octant. put_below params all depth (8 * key + octant)) n below);
        waits = ap (λ l. l ++ cell ∷ []) so_far.waits
            ∙ ap (λ c. flat_map (λ octant. kid params all next (8 * key + octant)) (take n octants) ++ c ∷ []) is_cell
            ∙ sym (more_octants (λ octant. kid params all next (8 * key + octant)) n below
            ∙ ap (λ l. flat_map (λ octant. kid params all next (8 * key + octant)) (take n octants) ++ l) (kid_some params all next (8 * key + n) some));
      }

  -- octants in which the next body doesn't lie, up to one
  pub read_skip : (more n taken : ℕ) (sums : Sums) (kids : ℕ) (puts kept : List Cell) → n + more ≤ 8
      → ((octant : ℕ) → n ≤ octant → octant < n + more → IsNext next (8 * key + octant) all taken → ⊥)
      → Read n taken sums kids puts kept → Read (n + more) taken sums kids puts kept
  read_skip zero n taken sums kids puts kept within none so_far =
      let same : n ≡ n + zero = omega arith in
      subst (λ m. Read m taken sums kids puts kept) same so_far
  read_skip (suc more) n taken sums kids puts kept within none so_far =
      let empty = empty_past are level next key is up above taken n (omega arith) so_far.at (none n (omega arith) (omega arith)) in
      let same : n + 1 + more ≡ n + suc more = omega arith in
      subst (λ m. Read m taken sums kids puts kept) same
      (read_skip more (n + 1) taken sums kids puts kept (omega arith) (λ octant from to. none octant (omega arith) (omega arith))
      (read_empty n taken sums kids puts kept (omega arith) empty so_far))

  -- all of them
  pub read_all : (taken : ℕ) (sums : Sums) (kids : ℕ) (puts kept : List Cell) → Read 8 taken sums kids puts kept → AreSums sums (in_cell level key all)
  read_all taken sums kids puts kept so_far = record {
    count = so_far.count ∙ over_count are level next key is up above;
    mass = so_far.mass ∙ over_all are level next key is up above (λ b. b.mass);
    x = so_far.x ∙ over_all are level next key is up above (λ b. b.mass * b.at.x);
    y = so_far.y ∙ over_all are level next key is up above (λ b. b.mass * b.at.y);
    z = so_far.z ∙ over_all are level next key is up above (λ b. b.mass * b.at.z);
  }

  bits_all : (n : ℕ) → n ≤ 8 → kids_upto all next key n
      ≡ sum_by (λ octant. cond (ltb 0 (length (in_octant level (in_cell level key all) octant))) (2 ^ octant) 0) (take n octants)
  unfolding kids_upto
  bits_all zero within = refl
  bits_all (suc n) within =
      let f = λ (octant : ℕ). cond (ltb 0 (length (in_cell next (8 * key + octant) all))) (2 ^ octant) 0 in
      let g = λ (octant : ℕ). cond (ltb 0 (length (in_octant level (in_cell level key all) octant))) (2 ^ octant) 0 in
      let next_one : suc n ≡ n + 1 = omega arith in
      let below : n < 8 = omega arith in
      let last : f n ≡ g n = ap (λ l. cond (ltb 0 (length l)) (2 ^ n) 0) (sym (octant_is are level next key is up above n below)) in
      let rest = bits_all n (omega arith) in
      let one : sum_by f (take (suc n) octants) ≡ sum_by f (take n octants) + f n =
      ap (λ m. sum_by f (take m octants)) next_one ∙ sum_by_more f octants n 0 below ∙ ap (λ o. sum_by f (take n octants) + f o) (octant_number n below) in
      let other : sum_by g (take (suc n) octants) ≡ sum_by g (take n octants) + g n =
      ap (λ m. sum_by g (take m octants)) next_one ∙ sum_by_more g octants n 0 below ∙ ap (λ o. sum_by g (take n octants) + g o) (octant_number n below) in
      one ∙ ap (λ m. m + f n) rest ∙ ap (λ m. sum_by g (take n octants) + m) last ∙ sym other

  pub read_all_kids : (taken : ℕ) (sums : Sums) (kids : ℕ) (puts kept : List Cell) → Read 8 taken sums kids puts kept → kids ≡ kids_of level (in_cell level key all)
  read_all_kids taken sums kids puts kept so_far = so_far.bits ∙ bits_all 8 (omega arith)
