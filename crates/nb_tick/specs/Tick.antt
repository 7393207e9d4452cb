-- What a tick leaves, and why it answers Damaged.
use Rattle.std.specs.Prelude.{◌≡◌, ℕ, ◌≤◌, Bool, true, IsTrue, List, ◌∷◌, length, Contains}
use Rattle.nb_host.specs.Image.{Image}
use Rattle.nb_host.specs.Meaning.{HostModel}
use Rattle.nb_host.specs.declared.page_name.PageName.{PageName}
use Rattle.nb_model.specs.declared.body.Body.{Body}
use Rattle.nb_model.specs.declared.params.Params.{Params}
use Rattle.nb_model.specs.declared.way.Way.{Way}
use Rattle.nb_model.specs.Leapfrog.{escaped_count, step}
use Rattle.nb_model.specs.Valid.{IsValidBodies}
use Rattle.nb_record.specs.declared.sizes.TheConstants.{BODY_SIZE, CELL_SIZE}
use Rattle.nb_record.specs.Writing.{IsZeroPaddedFile}
use Rattle.nb_tick.specs.declared.slot.Slot.{Slot}
use Rattle.nb_tick.specs.Slots.{slot_file, other_slot, cell_file, tick_files}
use Rattle.nb_tick.specs.State.{HoldsState, HoldsKickedState, IsCellIndexOf}

-- The slot holds valid bodies in Morton order, so many, and where their kicks are said to be known it has them.
pub record IsState (params : Params) (known : Bool) (count : ℕ) (bodies : List Body) (file : List ℕ) : Type 0 where
  pub valid : IsValidBodies params bodies
  pub count_is : length bodies ≡ count
  pub holds : HoldsState bodies file
  pub kicks : known ≡ true → HoldsKickedState params bodies file

-- After a tick the other slot holds the list one step on, in Morton order, with the kicks that the next tick begins with, the
-- file of cells is the index of that list, and the answer is how many of it have left the box.
pub record IsStepped (params : Params) (way : Way) (from : Slot) (bodies : List Body) (image : Image) (escaped : ℕ) : Type 0 where
  pub slot : HoldsKickedState params (step params way bodies) (image.file (slot_file (other_slot from)))
  pub padded : IsZeroPaddedFile BODY_SIZE (image.file (slot_file (other_slot from)))
  pub cells : IsCellIndexOf params (step params way bodies) (image.file cell_file)
  pub cells_padded : IsZeroPaddedFile CELL_SIZE (image.file cell_file)
  pub escaped_is : escaped ≡ escaped_count (step params way bodies)

-- Whatever the kicks of the slot were: after a tick the other slot holds valid bodies in Morton order, as many, with the half
-- kicks of that list, no body of it came back into the box, and the answer is how many are out.
pub record LeavesState (params : Params) (from : Slot) (bodies : List Body) (image : Image) (escaped : ℕ) : Type 0 where
  pub next : List Body
  pub valid : IsValidBodies params next
  pub count_is : length next ≡ length bodies
  pub slot : HoldsKickedState params next (image.file (slot_file (other_slot from)))
  pub escaped_is : escaped ≡ escaped_count next
  pub no_fewer : escaped_count bodies ≤ escaped

-- The tick can't be done: the page is one of the slot, or of a file that the tick writes. Over a host that tells its contents
-- the slot doesn't hold so many valid bodies in Morton order, whatever their kicks.
pub record IsNoState {H : Type 0} (m : HostModel H) (params : Params) (from : Slot) (count : ℕ) (host : H) (name : PageName) : Type 0 where
  pub file : Contains (slot_file from ∷ tick_files from) name.file
  pub cause : IsTrue m.tells → (bodies : List Body) → IsValidBodies params bodies → length bodies ≡ count
      → HoldsState bodies ((m.contents host).file (slot_file from)) → ⊥
