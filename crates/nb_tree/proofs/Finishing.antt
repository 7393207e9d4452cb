-- What a build answers of a list that the file of bodies held in Morton order.
use Rattle.std.proofs.Common.{◌≡◌, ℕ, ◌^◌, ◌≤◌, not, false, List, [], ◌∷◌, ◌++◌, length, inl, inr, refl, sym, ap, subst, ◌∙◌, arith}
use Rattle.std.specs.Prelude.{◌⊎◌, All, IsPermutation}
use Rattle.std.proofs.Math.Nat.{pow-le-pow_right}
use Rattle.std.proofs.lemmas.List.Elements.{All-head, All-tail}
use Rattle.nb_host.specs.declared.page_name.PageName.{PageName}
use Rattle.nb_cache.specs.InStep.{IsCachedFile}
use Rattle.nb_record.specs.declared.sizes.TheConstants.{CELL_SIZE}
use Rattle.nb_cell.specs.declared.table.CellTable.{CellTable}
use Rattle.std.proofs.lemmas.List.Sorted.{IsPermutation-sym, length_permutation}
use Rattle.nb_model.specs.declared.body.Body.{Body}
use Rattle.nb_model.specs.declared.params.Params.{Params}
use Rattle.nb_model.specs.Limits.{most_bodies}
use Rattle.nb_model.specs.Leapfrog.{unescaped}
use Rattle.nb_record.specs.declared.cell.Cell.{Cell}
use Rattle.nb_record.specs.Order.{by_key, sorted_by, IsSortedByRank, HoldsBodies}
use Rattle.nb_record.specs.Cells.{tree_cells}
use Rattle.nb_record.specs.Table.{IsCellTable}
use Rattle.nb_record.specs.Tree.{IsBitsFor}
use Rattle.nb_record.specs.Writing.{IsZeroPaddedFile}
use Rattle.nb_record.proofs.Callers.{permuted, same_table, same_mass, same_tree, filter_yes, IsPermutation-filter}
use Rattle.nb_tree.specs.Builds.{IsBuilt}
use Rattle.nb_tree.specs.Fronts.{IsFront}
use Rattle.nb_tree.specs.Refusals.{IsMisplaced}
use Rattle.nb_tree.specs.Passes.{AreSums, HoldsCells, IsAt, IsHeld, IsMaker, MayStand, put_below, kid}
use Rattle.nb_tree.specs.declared.reader.Reader.{Reader}
use Rattle.nb_tree.specs.declared.maker.Maker.{Maker}
use Rattle.nb_tree.specs.declared.sums.Sums.{Sums}
use Rattle.nb_tree.proofs.Puts.{tree_put}
use Rattle.nb_tree.proofs.Tops.{has_front, may_put}

-- the bodies in the box of a list, and of its sorted list
unescaped_permuted : (list : List Body) → IsPermutation (unescaped (sorted_by by_key list)) (unescaped list)
unescaped_permuted list =
    IsPermutation-filter (λ b. not b.out) (sorted_by by_key list) list (IsPermutation-sym list (sorted_by by_key list) (permuted by_key list))

pub is_built : (params : Params) (before now : ℕ → List ℕ) (bodies cells count : ℕ) (m : Maker) (sums : Sums) (list : List Body)
    → HoldsBodies (before bodies) (sorted_by by_key list) → IsSortedByRank by_key (sorted_by by_key list) → length list ≡ count
    → now bodies ≡ before bodies → IsBitsFor m.table.bits count → AreSums sums (unescaped (sorted_by by_key list))
    → HoldsCells (now cells) m (put_below params (unescaped (sorted_by by_key list)) 21 1 ++ kid params (unescaped (sorted_by by_key list)) 0 1)
    → IsBuilt params before now (record {
      bodies = bodies;
      cells = cells;
      bits = m.table.bits;
      pages = m.table.pages;
      count = sums.count;
      mass = sums.mass;
      nodes = m.nodes;
    }) list
is_built params before now bodies cells count m sums list holds sorted long same bits are has =
    let front = unescaped (sorted_by by_key list) in
    let put = put_below params front 21 1 ++ kid params front 0 1 in
    let is = tree_put params front in
    let boxes = unescaped_permuted list in
    let trees : tree_cells params (sorted_by by_key list) ≡ tree_cells params list =
    same_tree params (sorted_by by_key list) list (IsPermutation-sym list (sorted_by by_key list) (permuted by_key list)) in
    record {
      is = record {
        distinct = sorted;
        ordered = subst (λ l. HoldsBodies l (sorted_by by_key list)) (sym same) holds;
        bits = subst (IsBitsFor m.table.bits) (sym long) bits;
        table = subst (IsCellTable (now cells) m.table.bits m.table.pages) trees
            (same_table (now cells) m.table.bits m.table.pages put (tree_cells params (sorted_by by_key list)) is has.table);
        count = are.count ∙ sym (length_permutation front (unescaped list) boxes);
        mass = are.mass ∙ same_mass front (unescaped list) boxes;
        nodes = has.nodes ∙ sym (length_permutation put (tree_cells params (sorted_by by_key list)) is) ∙ ap length trees;
      };
      padded = has.padded;
    }

-- ---- what a build knows before it goes through the bodies

inside_stays : (bs : List Body) → All (λ b. b.out ≡ false) bs → unescaped bs ≡ bs
inside_stays [] all = refl
inside_stays (b ∷ bs) all =
    filter_yes (λ c. not c.out) b bs (ap not (All-head (λ c. c.out ≡ false) b bs all))
    ∙ ap (λ l. b ∷ l) (inside_stays bs (All-tail (λ c. c.out ≡ false) b bs all))

pub first_maker : (table : CellTable) (file bits leaf : ℕ) → table ≡ record { file = file; bits = bits; pages = 2 ^ bits } → bits ≤ 18 → IsCachedFile file
    → IsMaker (record { table = table; nodes = 0; leaf = leaf })
first_maker table file bits leaf is few cached =
    subst (λ (t : CellTable). IsMaker (record { table = t; nodes = 0; leaf = leaf })) (sym is) (record {
      file = cached;
      bits = few;
      pages = (let least : 2 ^ bits ≤ 2 ^ 18 = pow-le-pow_right (omega arith) few in omega arith);
      nodes = omega arith;
    })

-- The reader stands before the front's first body, and the table is empty. The file of bodies is as it was.
pub record IsBegun (params : Params) (bodies count : ℕ) (before now : ℕ → List ℕ) (r : Reader) (m : Maker) : Type 0 where
  pub file : r.file ≡ bodies
  pub count_is : r.count ≡ count
  pub same : now r.file ≡ before bodies
  pub held : IsHeld (now r.file) r
  pub at : (front : List Body) → IsFront (before bodies) count front → IsAt front r
  pub holds : HoldsCells (now m.table.file) m []
  pub leaf : params.leaf ≡ m.leaf

pub is_begun : (params : Params) (bodies cells count bits : ℕ) (before made now : ℕ → List ℕ) (r : Reader) (table : CellTable) → r.file ≡ bodies → r.count ≡ count
    → made bodies ≡ before bodies → ((file : ℕ) → now file ≡ made file) → IsHeld (made bodies) r
    → ((front : List Body) → IsFront (made bodies) count front → IsAt front r) → table ≡ record { file = cells; bits = bits; pages = 2 ^ bits }
    → IsCellTable (made cells) bits (2 ^ bits) [] → IsZeroPaddedFile CELL_SIZE (made cells)
    → IsBegun params bodies count before now r (record { table = table; nodes = 0; leaf = params.leaf })
is_begun params bodies cells count bits before made now r table file count_is was is held at table_is empty padded = record {
  file = file;
  count_is = count_is;
  same = ap now file ∙ is bodies ∙ was;
  held = subst (λ l. IsHeld l r) (sym (ap now file ∙ is bodies)) held;
  at = λ front fronts. at front (subst (λ l. IsFront l count front) (sym was) fronts);
  holds = subst (λ (t : CellTable). HoldsCells (now t.file) (record { table = t; nodes = 0; leaf = params.leaf }) []) (sym table_is) (record {
    table = subst (λ l. IsCellTable l bits (2 ^ bits) []) (sym (is cells)) empty;
    padded = subst (IsZeroPaddedFile CELL_SIZE) (sym (is cells)) padded;
    nodes = refl;
  });
  leaf = refl;
}

module _ {params : Params} {bodies count : ℕ} {before now : ℕ → List ℕ} {r : Reader} {m : Maker} (begun : IsBegun params bodies count before now r m) where
  pub front_there : {front : List Body} → IsFront (before bodies) count front → IsFront (now r.file) r.count front
  front_there {front = front} fronts =
      subst (λ n. IsFront (now r.file) n front) (sym begun.count_is) (subst (λ l. IsFront l count front) (sym begun.same) fronts)

  pub may_all : {front : List Body} → count ≤ most_bodies → IsFront (before bodies) count front
      → MayStand (put_below params front 21 1 ++ kid params front 0 1)
  may_all {front = front} few fronts = may_put params front (inside_stays front fronts.inside) (let most = fronts.most in omega arith)

  -- a refusal is that of a body that is misplaced
  pub misplaced : {name : PageName} → count ≤ most_bodies
      → IsMisplaced r.file r.count (now r.file) name
      ⊎ ((given : Params) (front : List Body) (held : List Cell) → given.leaf ≡ m.leaf → IsFront (now r.file) r.count front → IsAt front r
      → HoldsCells (now m.table.file) m held → MayStand (held ++ (put_below given front 21 1 ++ kid given front 0 1)) → ⊥)
      → IsMisplaced bodies count (before bodies) name
  misplaced {name = name} few why = elim why [
    | inl is ↦
        subst (λ l. IsMisplaced bodies count l name) begun.same
        (subst (λ f. IsMisplaced f count (now r.file) name) begun.file
        (subst (λ n. IsMisplaced r.file n (now r.file) name) begun.count_is is))
    | inr never ↦
        absurd (has_front (before bodies) count (λ front fronts.
        never params front [] begun.leaf (front_there fronts) (begun.at front fronts) begun.holds (may_all few fronts)))
  ]
