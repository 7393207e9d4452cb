-- A walk that is begun joins those that share the root, or it takes the root by itself. This is of the crate's own calls.
use Rattle.std.specs.Prelude.{◌≡◌, ℕ, ◌+◌, ◌<◌, ◌≤◌, Bool, if◌then◌else◌, [], length, All, vec_capacity}
use Rattle.nb_walk.specs.declared.group.Group.{Group}
use Rattle.nb_walk.specs.Group.{all_shared}
use Rattle.nb_walk.specs.Items.{root_items}
use Rattle.nb_walk.specs.Room.{IsItemInRange}
use Rattle.nb_walk.specs.Shared.{items_of, IsShared}

-- The root is left to this walk among the shared items, if it shares, and the walks before it have what they had.
pub record JoinsRoot (walk : ℕ) (shares : Bool) (old new : Group) : Type 0 where
  pub tallies : new.tallies ≡ old.tallies
  pub owns : new.owns ≡ old.owns
  pub waits : new.waits ≡ old.waits
  pub room : new.room ≡ old.room
  pub items : new.room ≤ vec_capacity new.items
  pub few : length (all_shared new) ≤ new.room
  pub small : All (λ e. IsItemInRange e.item) (all_shared new)
  pub shared : All (IsShared (walk + 1)) (all_shared new)
  pub others : (i : ℕ) → i < walk → items_of i (all_shared new) ≡ items_of i (all_shared old)
  pub own : items_of walk (all_shared new) ≡ (if shares then root_items else [])
