-- What one look at a page leaves to do.
use Rattle.std.specs.Prelude.{◌≡◌, ℕ, ◌+◌, ◌-◌, ◌*◌, ◌/◌, ◌%◌, ◌^◌, ◌==◌, nat_lt, if◌then◌else◌, ◌⊎◌, List, [], ◌∷◌, ◌++◌, Option, Some, None}
use Rattle.nb_model.specs.Gravity.{octants}
use Rattle.nb_record.specs.declared.cell.Cell.{Cell}
use Rattle.nb_record.specs.declared.sizes.TheConstants.{BODIES_PER_PAGE}
use Rattle.nb_record.specs.declared.tree.Tree.{Tree}
use Rattle.nb_record.specs.Looking.{index_of_key}
use Rattle.nb_record.specs.Pages.{page_next}
use Rattle.nb_record.specs.Records.{cell_record, cell_of}
use Rattle.nb_walk.specs.declared.item.Item.{Item}
use Rattle.nb_walk.specs.declared.item.Item.TheVariants as item
use Rattle.nb_walk.specs.Shown.{shown_for}

-- the octants of a cell whose bits are set among its kids, the first octant last
unfoldable pub kid_items : ℕ → ℕ → List ℕ → List Item
kid_items key kids [] = []
kid_items key kids (octant ∷ octants) =
    kid_items key kids octants ++ (if kids / 2 ^ octant % 2 == 1 then item.Cell (8 * key + octant) 0 ∷ [] else [])

-- what an opened cell leaves to do: a leaf its bodies, any other the octants that aren't empty
abbrev pub opened_items : Cell → List Item
opened_items cell = if cell.kids == 0 then item.Bodies cell.first cell.count ∷ [] else kid_items cell.key cell.kids octants

-- Of a cell, by the index that its record has on the page: nothing, where the cell is accepted as one mass, or what it has,
-- where it is opened. Where the page lacks it, the next page of the chain is still to be looked at.
abbrev pub IsRestOfCell : ℕ → List ℕ → Option ℕ → List Item → Type 0
IsRestOfCell key bytes (Some i) more = (more ≡ []) ⊎ (more ≡ opened_items (cell_of (cell_record i bytes)))
IsRestOfCell key bytes None more = more ≡ item.Cell key (page_next bytes) ∷ []

-- the bodies of a leaf that stand on later pages than the first of them, which a visit leaves
abbrev pub later_bodies : ℕ → ℕ → List Item
later_bodies from count =
    let here = BODIES_PER_PAGE - from % BODIES_PER_PAGE in
    if nat_lt here count then item.Bodies (from + here) (count - here) ∷ [] else []

-- those behind the first, which a step of a course leaves
abbrev pub next_bodies : ℕ → ℕ → List Item
next_bodies from count = if nat_lt 1 count then item.Bodies (from + 1) (count - 1) ∷ [] else []

-- what is left of an item once its page with these bytes was looked at
abbrev pub IsRestOfItem : (ℕ → ℕ → List Item) → List ℕ → Item → List Item → Type 0
IsRestOfItem of_bodies bytes (item.Cell key page) more = IsRestOfCell key bytes (index_of_key key bytes) more
IsRestOfItem of_bodies bytes (item.Bodies from count) more = more ≡ of_bodies from count

-- One look: the last item's page is shown, and what it leaves of that item comes in its place.
pub record IsOneLook (of_bodies : ℕ → ℕ → List Item) (cells bodies : ℕ → Option (List ℕ)) (tree : Tree) (old new : List Item) : Type 0 where
  pub front : List Item
  pub item : Item
  pub next : old ≡ front ++ item ∷ []
  pub bytes : List ℕ
  pub shown : shown_for cells bodies tree item ≡ Some bytes
  pub more : List Item
  pub left : new ≡ front ++ more
  pub leaves : IsRestOfItem of_bodies bytes item more
