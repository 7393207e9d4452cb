-- What a lender shows of the pages that a walk needs, and what a walk may ask of a tree.
use Rattle.std.specs.Prelude.{◌≡◌, ◌≢◌, ℕ, ◌*◌, ◌/◌, ◌^◌, ◌<◌, ◌≤◌, ◌==◌, if◌then◌else◌, List, Option, Some, None, unsigned_abs}
use Rattle.nb_model.specs.declared.body.V3.{V3}
use Rattle.nb_model.specs.declared.params.Params.{Params}
use Rattle.nb_model.specs.Limits.{gm_limit}
use Rattle.nb_model.specs.Valid.{AreInRange}
use Rattle.nb_host.specs.declared.page_name.PageName.{PageName}
use Rattle.nb_host.specs.Page.{page_of}
use Rattle.nb_record.specs.declared.sizes.TheConstants.{BODIES_PER_PAGE}
use Rattle.nb_record.specs.declared.tree.Tree.{Tree}
use Rattle.nb_walk.specs.declared.item.Item.{Item}
use Rattle.nb_walk.specs.declared.item.Item.TheVariants as item
use Rattle.nb_walk.specs.Items.{chain_page, page_for, last_item}

-- The pages of cells and of bodies that are shown are those of the tree's files.
pub record Shows (cells bodies : ℕ → Option (List ℕ)) (tree : Tree) (files : ℕ → List ℕ) : Type 0 where
  pub cell : (page : ℕ) (bytes : List ℕ) → cells page ≡ Some bytes → bytes ≡ page_of (files tree.cells) page
  pub body : (page : ℕ) (bytes : List ℕ) → bodies page ≡ Some bytes → bytes ≡ page_of (files tree.bodies) page

-- what is shown of the page of an item
abbrev pub shown_for : (cells bodies : ℕ → Option (List ℕ)) → Tree → Item → Option (List ℕ)
shown_for cells bodies tree (item.Cell key page) = cells (chain_page tree.bits key page)
shown_for cells bodies tree (item.Bodies from count) = bodies (from / BODIES_PER_PAGE)

-- The item that is to be looked at next: the last. A tree without unescaped bodies has no cells, so over it nothing is
-- left.
abbrev pub next_item : Tree → List Item → Option Item
next_item tree items = if tree.count == 0 then None else last_item items

-- the walk waits for this page: its next item needs it, and it isn't shown
pub record WaitsFor (cells bodies : ℕ → Option (List ℕ)) (tree : Tree) (items : List Item) (name : PageName) : Type 0 where
  pub item : Item
  pub next : next_item tree items ≡ Some item
  pub page : page_for tree item ≡ name
  pub unseen : shown_for cells bodies tree item ≡ None

-- this page of the next item is shown: a step that blames a page blames the one that it looked at
pub record BlamesNext (cells bodies : ℕ → Option (List ℕ)) (tree : Tree) (items : List Item) (name : PageName) : Type 0 where
  pub item : Item
  pub next : next_item tree items ≡ Some item
  pub page : page_for tree item ≡ name
  pub shown : shown_for cells bodies tree item ≢ None

-- ---- what a call asks for

-- the tree can be walked under these parameters without overflow
pub record IsWalkable (params : Params) (tree : Tree) : Type 0 where
  pub ranges : AreInRange params
  pub gm : params.grav * tree.mass < gm_limit
  pub bits : tree.bits ≤ 18
  pub pages : tree.pages < 2 ^ 48

-- each axis is, in size, at most this
pub record IsAtMost (most : ℕ) (v : V3) : Type 0 where
  pub x : unsigned_abs v.x ≤ most
  pub y : unsigned_abs v.y ≤ most
  pub z : unsigned_abs v.z ≤ most
