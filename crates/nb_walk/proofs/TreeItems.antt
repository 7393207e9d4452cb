-- The items in the place of an item of the tree are items of the tree.
use Rattle.std.proofs.Common.{◌≡◌, ℕ, zero, suc, ◌+◌, ◌*◌, ◌/◌, ◌%◌, ◌^◌, ◌<◌, ◌≤◌, cond, eqb, Bool, true, List, [], ◌∷◌, ◌++◌, length, sym, ap, ◌∙◌, refl, arith, subst, inl, inr}
use Rattle.std.specs.Prelude.{◌≢◌, filter, All, Contains}
use Rattle.std.proofs.lemmas.Bool.{cond-true, cond-false, eq-eqb, ne_eqb, cases_eq}
use Rattle.std.proofs.lemmas.Nat.{mod_below, pow_pos}
use Rattle.std.proofs.lemmas.List.Elements.{All-nil, All-cons, All-contains, All-contains_itself, All-append}
use Rattle.std.proofs.lemmas.List.Sorted.{All-permutation}
use Rattle.nb_model.specs.declared.body.Body.{Body}
use Rattle.nb_model.specs.declared.params.Params.{Params}
use Rattle.nb_model.specs.Gravity.{octants}
use Rattle.nb_model.specs.Leapfrog.{unescaped}
use Rattle.nb_record.specs.declared.cell.Cell.{Cell}
use Rattle.nb_record.specs.declared.tree.Tree.{Tree}
use Rattle.nb_record.specs.Cells.{tree_cells, in_cell, IsTreeCell}
use Rattle.nb_record.specs.Table.{cells_on_chain, IsCellTable}
use Rattle.nb_record.proofs.Callers.{either, chain_holds, starts_within, found_in_tree, kid_of_tree, cell_within, root_of_tree}
use Rattle.nb_walk.specs.declared.item.Item.{Item}
use Rattle.nb_walk.specs.declared.item.Item.TheVariants as item
use Rattle.nb_walk.specs.Angle.{level_of}
use Rattle.nb_walk.specs.Left.{IsCellItem, IsItemOf, AreItemsOf}
use Rattle.nb_walk.specs.Looks.{kid_items, opened_items}
use Rattle.nb_walk.proofs.KeyLevels.{level_is}
use Rattle.nb_walk.proofs.Rooms.{no_kids}

kept : (p : Cell → Bool) (cell : Cell) (cells : List Cell) → p cell ≡ true → Contains cells cell → Contains (filter p cells) cell
kept p cell [] is (k, below, at) = absurd (omega arith)
kept p cell (c ∷ cs) is (zero, below, at) = subst (λ l. Contains l cell) (sym (cond-true (p c) (c ∷ filter p cs) (filter p cs) (ap p at ∙ is))) (0, omega arith, at)
kept p cell (c ∷ cs) is (suc k, below, at) =
    let rest = kept p cell cs is (k, omega arith, at) in
    elim (either (p c)) [
      | inl passes ↦ subst (λ l. Contains l cell) (sym (cond-true (p c) (c ∷ filter p cs) (filter p cs) passes)) (suc rest.0, omega (arith, rest.1), rest.2)
      | inr fails ↦ subst (λ l. Contains l cell) (sym (cond-false (p c) (c ∷ filter p cs) (filter p cs) fails)) rest
    ]

module _ (params : Params) (bodies : List Body) (tree : Tree) (file : List ℕ) (table : IsCellTable file tree.bits tree.pages (tree_cells params bodies)) where
  abbrev cells : List Cell
  cells = tree_cells params bodies

  -- a cell of the tree stands on the chain of its key
  stands : (cell : Cell) → Contains cells cell → Contains (cells_on_chain file tree.pages (cell.key % 2 ^ tree.bits)) cell
  stands cell in_tree =
      let h = cell.key % 2 ^ tree.bits in
      let chain = cells_on_chain file tree.pages h in
      let test = λ (c : Cell). eqb (c.key % 2 ^ tree.bits) h in
      let chosen : Contains (filter test cells) cell = kept test cell cells (eq-eqb h h refl) in_tree in
      All-contains (Contains chain) (filter test cells) cell
      (All-permutation (Contains chain) chain (filter test cells) (table.chains h (mod_below cell.key (2 ^ tree.bits) (pow_pos tree.bits))) (All-contains_itself chain)) chosen

  pub cell_item : (level : ℕ) (cell : Cell) → IsTreeCell params (unescaped bodies) level cell → IsCellItem params bodies tree file cell.key 0
  cell_item level cell is =
      let its = level_is level cell.key is.key in
      let at_level : IsTreeCell params (unescaped bodies) (level_of cell.key) cell = subst (λ l. IsTreeCell params (unescaped bodies) l cell) (sym its) is in
      record {
        cell = cell;
        key_is = refl;
        is = at_level;
        within = starts_within file tree.bits tree.pages cells table cell.key;
        ahead = stands cell (found_in_tree params (unescaped bodies) level cell is);
        held = chain_holds file tree.bits tree.pages cells table (cell.key % 2 ^ tree.bits) (mod_below cell.key (2 ^ tree.bits) (pow_pos tree.bits));
      }

  kids_cons : (key kids octant : ℕ) (os : List ℕ) → kid_items key kids (octant ∷ os) ≡ kid_items key kids os ++ cond (eqb (kids / 2 ^ octant % 2) 1) (item.Cell (8 * key + octant) 0 ∷ []) []
  unfolding kid_items
  kids_cons key kids octant os = refl

  abbrev Below : List ℕ → Type 0
  Below [] = Unit {0}
  Below (o ∷ os) = (o < 8) × Below os

  abbrev Is : Item → Type 0
  Is x = IsItemOf params bodies tree file x

  one_kid : (level : ℕ) (cell : Cell) (octant : ℕ) → IsTreeCell params (unescaped bodies) level cell → octant < 8 → All Is (cond (eqb (cell.kids / 2 ^ octant % 2) 1) (item.Cell (8 * cell.key + octant) 0 ∷ []) [])
  one_kid level cell octant is below =
      let kid : List Item = item.Cell (8 * cell.key + octant) 0 ∷ [] in
      let test = eqb (cell.kids / 2 ^ octant % 2) 1 in
      elim (cases_eq (cell.kids / 2 ^ octant % 2) 1) [
        | inl set ↦
            let found = (kid_of_tree params (unescaped bodies) level cell octant is below).0 set in
            let there : IsCellItem params bodies tree file (8 * cell.key + octant) 0 = subst (λ k. IsCellItem params bodies tree file k 0) found.1.1 (cell_item (level + 1) found.0 found.1.0) in
            subst (All Is) (sym (cond-true test kid [] (eq-eqb (cell.kids / 2 ^ octant % 2) 1 set))) (All-cons Is (item.Cell (8 * cell.key + octant) 0) [] (inr there) (All-nil Is))
        | inr unset ↦ subst (All Is) (sym (cond-false test kid [] (ne_eqb (cell.kids / 2 ^ octant % 2) 1 unset))) (All-nil Is)
      ]

  kids_items : (level : ℕ) (cell : Cell) (os : List ℕ) → IsTreeCell params (unescaped bodies) level cell → Below os → All Is (kid_items cell.key cell.kids os)
  kids_items level cell [] is below = subst (All Is) (sym (no_kids cell.key cell.kids)) (All-nil Is)
  kids_items level cell (o ∷ os) is below =
      subst (All Is) (sym (kids_cons cell.key cell.kids o os))
      (All-append Is (kid_items cell.key cell.kids os) (cond (eqb (cell.kids / 2 ^ o % 2) 1) (item.Cell (8 * cell.key + o) 0 ∷ []) [])
      (kids_items level cell os is below.1) (one_kid level cell o is below.0))

  some_length : (bs : List Body) → bs ≢ [] → 1 ≤ length bs
  some_length [] some = absurd (some refl)
  some_length (b ∷ bs) some = omega arith

  pub opened_are : (level : ℕ) (cell : Cell) → IsTreeCell params (unescaped bodies) level cell → AreItemsOf params bodies tree file (opened_items cell)
  opened_are level cell is =
      let leaf : List Item = item.Bodies cell.first cell.count ∷ [] in
      elim (cases_eq cell.kids 0) [
        | inl none ↦
            let some : 1 ≤ cell.count = omega (arith, is.count, some_length (in_cell level cell.key (unescaped bodies)) is.some) in
            subst (All Is) (sym (cond-true (eqb cell.kids 0) leaf (kid_items cell.key cell.kids octants) (eq-eqb cell.kids 0 none)))
            (All-cons Is (item.Bodies cell.first cell.count) [] (some, cell_within params bodies level cell is) (All-nil Is))
        | inr some ↦
            subst (All Is) (sym (cond-false (eqb cell.kids 0) leaf (kid_items cell.key cell.kids octants) (ne_eqb cell.kids 0 some)))
            (kids_items level cell octants is (omega arith, (omega arith, (omega arith, (omega arith, (omega arith, (omega arith, (omega arith, (omega arith, tt)))))))))
      ]

  -- a new walk's
  pub root_is_item : IsItemOf params bodies tree file (item.Cell 1 0)
  root_is_item = root (unescaped bodies) refl where
    root : (all : List Body) → all ≡ unescaped bodies → IsItemOf params bodies tree file (item.Cell 1 0)
    root [] none = inl (refl, refl, sym none)
    root (b ∷ bs) some =
        let found = root_of_tree params (unescaped bodies) (λ none. let no = some ∙ none in cc) in
        inr (subst (λ k. IsCellItem params bodies tree file k 0) found.1.1 (cell_item 0 found.0 found.1.0))
