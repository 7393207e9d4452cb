-- What has to stand in a folder before a gate of its journal opens.
use Rattle.std.specs.Prelude.{suc}
use Rattle.nb_host.specs.Image.{Image}
use Rattle.nb_model.specs.Leapfrog.{half_kick}
use Rattle.nb_record.specs.Order.{by_key, sorted_by, HoldsKickedBodies}
use Rattle.nb_engine.specs.Histories.{state_at, History, run_of, ticks_of}
use Rattle.nb_tick.specs.Slots.{slot_of}
use Rattle.nb_engine.specs.Represents.{snap_of, HasOpenGate, HasDueSnapshots}

-- Before that of the next tick: each due snapshot is finished, the other slot holds the list after it, in Morton order with the
-- half kicks of that list, and what stands under the name of its snapshot isn't opened.
pub record CanTick (h : History) (image : Image) : Type 0 where
  pub complete : HasDueSnapshots (run_of h) (ticks_of h) image
  pub slot : HoldsKickedBodies (image.file (slot_of (suc (ticks_of h))))
      (half_kick h.log.params (state_at (run_of h) (suc (ticks_of h))))
      (sorted_by by_key (state_at (run_of h) (suc (ticks_of h))))
  pub shut : HasOpenGate (image.file (snap_of (suc (ticks_of h)))) → ⊥
