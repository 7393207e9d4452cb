-- Items that walks share, each with the walks that have it left. This is of the crate's own calls.
use Rattle.std.specs.Prelude.{◌≡◌, ℕ, ◌/◌, ◌%◌, ◌^◌, ◌<◌, ◌==◌, Bool, ◌&&◌, true, if◌then◌else◌, List, [], ◌∷◌, ◌++◌, map}
use Rattle.nb_walk.specs.declared.item.Item.{Item}
use Rattle.nb_walk.specs.declared.shared.SharedItem.{SharedItem}

-- how many walks a block has
abbrev pub block_size : ℕ
block_size = 64

-- whether a set of numbers, a bit for each, has k
abbrev pub in_set : ℕ → ℕ → Bool
in_set walks k = walks / 2 ^ k % 2 == 1

-- whether walk i has the item left
abbrev pub is_left_to : ℕ → SharedItem → Bool
is_left_to i e = (e.block == i / block_size) && in_set e.walks (i % block_size)

-- what walk i has left among shared items
unfoldable pub items_of : ℕ → List SharedItem → List Item
items_of i [] = []
items_of i (e ∷ es) = (if is_left_to i e then e.item ∷ [] else []) ++ items_of i es

-- each of these items is left to these walks of a block
abbrev pub shared_by : ℕ → ℕ → List Item → List SharedItem
shared_by block walks items = map (λ item. record { item = item; block = block; walks = walks }) items

-- the item is left to one of so many walks at least, and to no other walk
pub record IsShared (count : ℕ) (e : SharedItem) : Type 0 where
  pub walk : ℕ
  pub has : is_left_to walk e ≡ true
  pub below : (i : ℕ) → is_left_to i e ≡ true → i < count
