-- How much a walk has left to do over a tree: a number of pages, or of steps.
use Rattle.std.specs.Prelude.{◌≡◌, ℕ, zero, suc, ◌+◌, ◌-◌, ◌*◌, ◌/◌, ◌%◌, ◌^◌, ◌<◌, ◌≤◌, nat_lt, nat_le, is_some, if◌then◌else◌, ◌⊎◌, List, [], ◌∷◌, length, sum_by, All, Contains}
use Rattle.nb_model.specs.declared.body.Body.{Body}
use Rattle.nb_model.specs.declared.params.Params.{Params}
use Rattle.nb_model.specs.Limits.{deepest_level}
use Rattle.nb_model.specs.Octree.{in_octant}
use Rattle.nb_model.specs.Gravity.{octants}
use Rattle.nb_model.specs.Leapfrog.{unescaped}
use Rattle.nb_host.specs.Page.{page_of}
use Rattle.nb_record.specs.declared.cell.Cell.{Cell}
use Rattle.nb_record.specs.declared.sizes.TheConstants.{BODIES_PER_PAGE}
use Rattle.nb_record.specs.declared.tree.Tree.{Tree}
use Rattle.nb_record.specs.Looking.{index_of_key}
use Rattle.nb_record.specs.Cells.{first_body, tree_cells, IsTreeCell}
use Rattle.nb_record.specs.Table.{chain, cells_on_chain}
use Rattle.nb_walk.specs.declared.item.Item.{Item}
use Rattle.nb_walk.specs.declared.item.Item.TheVariants as item
use Rattle.nb_walk.specs.Angle.{level_of}
use Rattle.nb_walk.specs.Items.{chain_page, bodies_under}

-- how many pages of a chain are looked at up to the first that has a key
unfoldable pub pages_up_to : List ℕ → ℕ → List ℕ → ℕ
pages_up_to file key [] = 0
pages_up_to file key (page ∷ pages) =
    if is_some (index_of_key key (page_of file page)) then 1 else suc (pages_up_to file key pages)

-- the same from this page of the key's chain on
abbrev pub pages_to : List ℕ → Tree → ℕ → ℕ → ℕ
pages_to file tree key page = pages_up_to file key (chain file tree.pages page)

-- What the bodies of a leaf weigh, so many from a number on: while the leaf's cell is still to be looked up, and once only
-- they are left.
pub record WorkCosts : Type 0 where
  pub of_leaf : ℕ → ℕ → ℕ
  pub of_bodies : ℕ → ℕ → ℕ

-- The work under an opened cell, with so many levels below it: a leaf has its bodies, any other the pages up to the records
-- of the octants that aren't empty, and the work under these.
unfoldable pub work_below : WorkCosts → List ℕ → Tree → ℕ → List Body → ℕ → ℕ → List Body → ℕ
work_below weights file tree leaf all zero key bodies = weights.of_leaf (first_body all bodies) (length bodies)
work_below weights file tree leaf all (suc depth) key bodies =
    let level = (deepest_level - 1) - depth in
    if nat_le (length bodies) leaf then weights.of_leaf (first_body all bodies) (length bodies)
    else sum_by
    (λ octant.
    let part = in_octant level bodies octant in
    let kid = 8 * key + octant in
    if nat_lt 0 (length part)
    then pages_to file tree kid (kid % 2 ^ tree.bits) + work_below weights file tree leaf all depth kid part
    else 0)
    octants

-- A cell that isn't empty counts the pages up to its record, and the work under it.
abbrev pub item_work : WorkCosts → List ℕ → Tree → ℕ → List Body → Item → ℕ
item_work weights file tree leaf bodies (item.Cell key page) =
    let own = bodies_under key (unescaped bodies) in
    if nat_lt 0 (length own)
    then pages_to file tree key (chain_page tree.bits key page)
    + work_below weights file tree leaf (unescaped bodies) (deepest_level - level_of key) key own
    else 0
item_work weights file tree leaf bodies (item.Bodies from count) = weights.of_bodies from count

abbrev pub items_work : WorkCosts → List ℕ → Tree → ℕ → List Body → List Item → ℕ
items_work weights file tree leaf bodies items = sum_by (item_work weights file tree leaf bodies) items

-- on how many pages so many bodies of a file stand, from a number on
abbrev pub pages_spanned : ℕ → ℕ → ℕ
pages_spanned from zero = 0
pages_spanned from (suc count) = suc ((from + count) / BODIES_PER_PAGE - from / BODIES_PER_PAGE)

-- the pages that are still to be looked at
abbrev pub remaining_pages : List ℕ → Tree → ℕ → List Body → List Item → ℕ
remaining_pages file tree leaf bodies items =
    items_work (record { of_leaf = pages_spanned; of_bodies = pages_spanned }) file tree leaf bodies items

-- the steps that are still to be taken, at most: one for each page of a chain, one for each leaf and one for each of its bodies
abbrev pub remaining_steps : List ℕ → Tree → ℕ → List Body → List Item → ℕ
remaining_steps file tree leaf bodies items =
    items_work (record { of_leaf = λ from count. suc count; of_bodies = λ from count. count }) file tree leaf bodies items

-- ---- over any pages

-- What bounds the steps whatever pages are shown: a cell weighs more than eight octants, each a 16th of it, can weigh with
-- their chains, or than the bodies of a leaf, and a later page of its chain less than an earlier one.
abbrev pub item_bound : Tree → Item → ℕ
item_bound tree (item.Cell key page) = 16 ^ (deepest_level - level_of key) * (tree.pages + tree.count + 2) + (tree.pages - page)
item_bound tree (item.Bodies from count) = suc count

abbrev pub step_bound : Tree → List Item → ℕ
step_bound tree items = sum_by (item_bound tree) items

-- ---- the items of a tree

-- A cell of the tree with this key, whose record stands on its chain at this page or later. The cells from there on are
-- all of the tree.
pub record IsCellItem (params : Params) (bodies : List Body) (tree : Tree) (file : List ℕ) (key page : ℕ) : Type 0 where
  pub cell : Cell
  pub key_is : cell.key ≡ key
  pub is : IsTreeCell params (unescaped bodies) (level_of key) cell
  pub within : chain_page tree.bits key page < tree.pages
  pub ahead : Contains (cells_on_chain file tree.pages (chain_page tree.bits key page)) cell
  pub held : All (λ c. Contains (tree_cells params bodies) c) (cells_on_chain file tree.pages (chain_page tree.bits key page))

-- an item of the tree; the root is one also where the tree has no cell
abbrev pub IsItemOf : Params → List Body → Tree → List ℕ → Item → Type 0
IsItemOf params bodies tree file (item.Cell key page) =
    ((key ≡ 1) × (page ≡ 0) × (unescaped bodies ≡ [])) ⊎ IsCellItem params bodies tree file key page
IsItemOf params bodies tree file (item.Bodies from count) = (1 ≤ count) × (from + count ≤ length (unescaped bodies))

abbrev pub AreItemsOf : Params → List Body → Tree → List ℕ → List Item → Type 0
AreItemsOf params bodies tree file items = All (IsItemOf params bodies tree file) items
