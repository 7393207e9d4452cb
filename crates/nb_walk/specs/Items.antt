-- What a walk has left: a list of items, each a cell that is to be looked up, or bodies of a leaf. What is said of it are
-- sums over the items, which know no order, and the interaction list, in which the last item comes next.
use Rattle.std.specs.Prelude.{ℕ, ◌-◌, ◌/◌, ◌%◌, ◌^◌, ◌==◌, if◌then◌else◌, List, [], ◌∷◌, ◌++◌, length, map, take, drop, sum_by, slice_get, Option}
use Rattle.nb_model.specs.declared.body.At.{At}
use Rattle.nb_model.specs.declared.body.V3.{V3}
use Rattle.nb_model.specs.declared.body.Body.{Body}
use Rattle.nb_model.specs.declared.params.Params.{Params}
use Rattle.nb_model.specs.Limits.{deepest_level}
use Rattle.nb_model.specs.Vector.{vector_sum}
use Rattle.nb_model.specs.Octree.{total_mass}
use Rattle.nb_model.specs.Gravity.{direct_sum, force_on}
use Rattle.nb_model.specs.Leapfrog.{unescaped}
use Rattle.nb_host.specs.declared.page_name.PageName.{PageName}
use Rattle.nb_record.specs.declared.sizes.TheConstants.{BODIES_PER_PAGE}
use Rattle.nb_record.specs.declared.tree.Tree.{Tree}
use Rattle.nb_record.specs.Order.{by_key, sorted_by}
use Rattle.nb_record.specs.Cells.{in_cell}
use Rattle.nb_walk.specs.declared.item.Item.{Item}
use Rattle.nb_walk.specs.declared.item.Item.TheVariants as item
use Rattle.nb_walk.specs.declared.term.Term.{Term}
use Rattle.nb_walk.specs.Angle.{level_of}
use Rattle.nb_walk.specs.Terms.{Acceptance, body_terms, terms_to_depth}

-- the unescaped bodies in Morton order, as they stand at the front of the file of bodies
abbrev pub in_order : List Body → List Body
in_order bodies = sorted_by by_key (unescaped bodies)

-- so many bodies from a number on, of all in Morton order
abbrev pub bodies_from : List Body → ℕ → ℕ → List Body
bodies_from bodies from count = take count (drop from (sorted_by by_key bodies))

-- the bodies of the cell with this key
abbrev pub bodies_under : ℕ → List Body → List Body
bodies_under key bodies = in_cell (level_of key) key bodies

-- the bodies of an item: those of its cell, or so many of the file from a number on
abbrev pub item_bodies : List Body → Item → List Body
item_bodies bodies (item.Cell key page) = bodies_under key (unescaped bodies)
item_bodies bodies (item.Bodies from count) = bodies_from bodies from count

-- ---- sums over the items

-- what an item gives: the force of its cell, or what its bodies give one by one
abbrev pub item_force : Params → List Body → At → Item → V3
item_force params bodies p (item.Cell key page) = force_on params p (level_of key) (bodies_under key (unescaped bodies))
item_force params bodies p (item.Bodies from count) = direct_sum params p (bodies_from bodies from count)

abbrev pub remaining_force : Params → List Body → At → List Item → V3
remaining_force params bodies p items = vector_sum (map (item_force params bodies p) items)

abbrev pub item_mass : List Body → Item → ℕ
item_mass bodies item = total_mass (item_bodies bodies item)

abbrev pub remaining_mass : List Body → List Item → ℕ
remaining_mass bodies items = sum_by (item_mass bodies) items

-- ---- the interaction list

-- the terms of an item, whose bodies are taken in Morton order here

abbrev pub item_terms : Acceptance → ℕ → List Body → Item → List Term
item_terms accepts leaf bodies (item.Cell key page) =
    terms_to_depth accepts leaf (deepest_level - level_of key) key (bodies_under key (in_order bodies))
item_terms accepts leaf bodies (item.Bodies from count) = body_terms (bodies_from bodies from count)

-- the terms that are still to come: first those of the last item
unfoldable pub remaining_terms : Acceptance → ℕ → List Body → List Item → List Term
remaining_terms accepts leaf bodies [] = []
remaining_terms accepts leaf bodies (item ∷ items) =
    remaining_terms accepts leaf bodies items ++ item_terms accepts leaf bodies item

-- ---- the page of an item

-- where in the chain of its key a cell is to be looked up: at this page, or where it is 0 at the chain's first
abbrev pub chain_page : ℕ → ℕ → ℕ → ℕ
chain_page bits key page = if page == 0 then key % 2 ^ bits else page

abbrev pub page_for : Tree → Item → PageName
page_for tree (item.Cell key page) = record { file = tree.cells; page = chain_page tree.bits key page }
page_for tree (item.Bodies from count) = record { file = tree.bodies; page = from / BODIES_PER_PAGE }

-- the last item, which is the next
abbrev pub last_item : List Item → Option Item
last_item items = slice_get items (length items - 1)

-- a new walk has the root cell left
abbrev pub root_items : List Item
root_items = item.Cell 1 0 ∷ []
