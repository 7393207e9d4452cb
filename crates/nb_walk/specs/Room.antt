-- How much room the items of a walk need: never more than 7 for each level of the deepest cell, and one. This is the crate's
-- own: no public clause speaks of it.
use Rattle.std.specs.Prelude.{◌≡◌, ℕ, ◌+◌, ◌*◌, ◌^◌, ◌<◌, ◌≤◌, List, slice_get, Some, All}
use Rattle.nb_model.specs.Limits.{deepest_level}
use Rattle.nb_key.specs.Morton.{IsKey}
use Rattle.nb_walk.specs.declared.item.Item.{Item}
use Rattle.nb_walk.specs.declared.item.Item.TheVariants as item
use Rattle.nb_walk.specs.Angle.{level_of}

-- the level of an item; the bodies of a leaf are below all cells
abbrev pub item_level : Item → ℕ
item_level (item.Cell key page) = level_of key
item_level (item.Bodies from count) = deepest_level

-- the numbers of an item are in their ranges: a record's first body is below 2 ^ 24, and its count at most that
abbrev pub IsItemInRange : Item → Type 0
IsItemInRange (item.Cell key page) = IsKey key × (page < 2 ^ 48)
IsItemInRange (item.Bodies from count) = (1 ≤ count) × (from + count ≤ 2 ^ 25)

-- Each item's index, from 0 on, is at most 7 for each of its levels: a walk that goes depth first leaves at most seven
-- octants of a cell for later while it is in the eighth.
pub record HasRoom (items : List Item) : Type 0 where
  pub each : (i : ℕ) (item : Item) → slice_get items i ≡ Some item → i ≤ 7 * item_level item
  pub small : All IsItemInRange items
