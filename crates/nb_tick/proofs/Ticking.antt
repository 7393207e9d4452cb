-- A tick from slot to slot: what each of its steps leaves, and what the last one does.
use Rattle.std.proofs.Common.{◌≡◌, ℕ, zero, suc, ◌-◌, ◌<◌, Bool, true, IsTrue, List, [], ◌∷◌, length, map, sym, ap, subst, ◌∙◌, arith}
use Rattle.std.specs.Prelude.{Contains, IsPermutation}
use Rattle.nb_host.specs.Image.{Image}
use Rattle.nb_host.specs.Meaning.{HostModel}
use Rattle.nb_model.specs.declared.body.Body.{Body}
use Rattle.nb_model.specs.declared.params.Params.{Params}
use Rattle.nb_model.specs.declared.way.Way.{Way}
use Rattle.nb_model.specs.Leapfrog.{kick, drift, step}
use Rattle.nb_model.specs.Valid.{IsValidBodies}
use Rattle.nb_cache.specs.InStep.{IsCachedFile, IsInStep}
use Rattle.nb_cache.specs.View.{CacheValue, seen}
use Rattle.nb_record.specs.declared.sizes.TheConstants.{BODY_SIZE, CELL_SIZE}
use Rattle.nb_record.specs.declared.tree.Tree.{Tree}
use Rattle.nb_record.specs.Writing.{IsZeroPaddedFile}
use Rattle.nb_tick.specs.declared.slot.Slot.{Slot}
use Rattle.nb_tick.specs.declared.slot.Slot.TheVariants.{Even, Odd}
use Rattle.nb_tick.specs.Slots.{slot_file, other_slot, drifted_file, sorted_file, cell_file, tick_files}
use Rattle.nb_tick.specs.State.{HoldsKickedState, IsCellIndexOf}
use Rattle.nb_tick.specs.Steps.{without_kicks, HoldsList, in_morton_order, drifted_one, kicked_one, IsDrifted, HasTreeOf}
use Rattle.nb_tick.specs.Tick.{IsStepped}
use Rattle.nb_tick.proofs.Calls.{AreAmong}
use Rattle.nb_tick.proofs.Drifts.{drifted_permuted}
use Rattle.nb_tick.proofs.Ticks.{IsDriftedList, drifted_list, stepped_slot, stepped_cells, stepped_escaped}
use Rattle.nb_tick.proofs.Views.{seen_written}

-- ---- the files of a tick

-- a tick writes nothing into the slot that it reads
pub never_written : (from : Slot) → Contains (tick_files from) (slot_file from) → ⊥
never_written Even (zero, below, is) = absurd (omega (arith, is))
never_written Even (suc zero, below, is) = absurd (omega (arith, is))
never_written Even (suc (suc zero), below, is) = absurd (omega (arith, is))
never_written Even (suc (suc (suc zero)), below, is) = absurd (omega (arith, is))
never_written Even (suc (suc (suc (suc k))), below, is) = absurd (omega (arith, below))
never_written Odd (zero, below, is) = absurd (omega (arith, is))
never_written Odd (suc zero, below, is) = absurd (omega (arith, is))
never_written Odd (suc (suc zero), below, is) = absurd (omega (arith, is))
never_written Odd (suc (suc (suc zero)), below, is) = absurd (omega (arith, is))
never_written Odd (suc (suc (suc (suc k))), below, is) = absurd (omega (arith, below))

-- so of the slot the cache shows what the host has
pub slot_seen : {H : Type 0} (m : HostModel H) (from : Slot) (cache : CacheValue) (host : H)
    → ((file : ℕ) → Contains cache.unwritten file → Contains (tick_files from) file) → IsInStep m cache host → IsTrue m.tells
    → seen m cache host (slot_file from) ≡ (m.contents host).file (slot_file from)
slot_seen m from cache host unwritten in_step tells =
    seen_written m cache host (slot_file from) (λ has. never_written from (unwritten (slot_file from) has)) in_step tells

-- ---- the drifted bodies

module _ (params : Params) (way : Way) (known : Bool) (count : ℕ) (bodies : List Body) (valid : IsValidBodies params bodies) (long : length bodies ≡ count) (slot drifted : List ℕ) (are : IsDrifted params way known bodies slot drifted) where
  abbrev pub moved : List Body
  moved = without_kicks (map (drifted_one params way) are.list)

  pub moved_list : IsDriftedList params bodies moved
  moved_list = drifted_list params way bodies are.list valid are.bodies_are are.range

  pub moved_long : length moved ≡ count
  moved_long = moved_list.long ∙ long

  -- where the kicks were right, they are the list after a kick and a drift
  pub moved_permuted : (known ≡ true → HoldsKickedState params bodies slot) → IsPermutation (drift params way (kick params way bodies)) moved
  moved_permuted kicks =
      subst (λ (l : List Body). IsPermutation (drift params way (kick params way bodies)) l)
      (ap (λ list. without_kicks (map (drifted_one params way) list)) (sym (are.right kicks)))
      (drifted_permuted params way bodies)

  -- ---- the list one step on

  pub stepped : (from : Slot) (image : Image) (escaped : ℕ) (tree : Tree) (now : ℕ → List ℕ)
      → (known ≡ true → HoldsKickedState params bodies slot)
      → HasTreeOf params count drifted now tree → tree.cells ≡ cell_file
      → HoldsList (image.file (slot_file (other_slot from))) (map (kicked_one way) (in_morton_order params moved))
      → IsZeroPaddedFile BODY_SIZE (image.file (slot_file (other_slot from)))
      → image.file cell_file ≡ now cell_file → escaped ≡ count - tree.count
      → IsStepped params way from bodies image escaped
  stepped from image escaped tree now kicks has cells kicked padded same is =
      let built = has moved are.holds.bodies moved_long moved_list.different in
      let of_tree = built.0 in
      let permuted = moved_permuted kicks in
      record {
        slot = stepped_slot params way bodies moved valid moved_list permuted (image.file (slot_file (other_slot from))) kicked;
        padded = padded;
        cells = subst (λ (l : List ℕ). IsCellIndexOf params (step params way bodies) l) (ap now cells ∙ sym same)
            (stepped_cells params way bodies moved valid moved_list permuted (now tree.cells) tree.bits tree.pages of_tree.bits of_tree.table);
        cells_padded = subst (IsZeroPaddedFile CELL_SIZE) (ap now cells ∙ sym same) built.1;
        escaped_is = stepped_escaped params way bodies moved valid moved_list permuted count escaped long
            (is ∙ ap (λ (n : ℕ). count - n) of_tree.count);
      }

-- ---- the calls of a tick, by the files that they write

pub among_drift : (from : Slot) → AreAmong (drifted_file ∷ cell_file ∷ []) (tick_files from)
among_drift from file (zero, below, is) = (1, omega arith, is)
among_drift from file (suc zero, below, is) = (3, omega arith, is)
among_drift from file (suc (suc k), below, is) = absurd (omega (arith, below))

pub among_sort : (from : Slot) → AreAmong (sorted_file ∷ cell_file ∷ []) (tick_files from)
among_sort from file (zero, below, is) = (2, omega arith, is)
among_sort from file (suc zero, below, is) = (3, omega arith, is)
among_sort from file (suc (suc k), below, is) = absurd (omega (arith, below))

pub among_slot : (from : Slot) (to : ℕ) → to ≡ slot_file (other_slot from) → AreAmong (to ∷ []) (tick_files from)
among_slot from to same file (zero, below, is) = (0, omega arith, sym same ∙ is)
among_slot from to same file (suc k, below, is) = absurd (omega (arith, below))

-- ---- the files of its slots

pub slot_cached : (slot : Slot) (file : ℕ) → file ≡ slot_file slot → IsCachedFile file
slot_cached Even file is = record { least = omega (arith, is); greatest = omega (arith, is) }
slot_cached Odd file is = record { least = omega (arith, is); greatest = omega (arith, is) }

pub slot_small : (slot : Slot) (file : ℕ) → file ≡ slot_file slot → file < drifted_file
slot_small Even file is = omega (arith, is)
slot_small Odd file is = omega (arith, is)

-- a page of the slot, or of a file that a tick writes
abbrev pub tick_pages : Slot → List ℕ
tick_pages from = slot_file from ∷ tick_files from

pub page_drift : (from : Slot) (slot file : ℕ) → slot ≡ slot_file from → Contains (slot ∷ drifted_file ∷ cell_file ∷ []) file → Contains (tick_pages from) file
page_drift from slot file same (zero, below, is) = (0, omega arith, sym same ∙ is)
page_drift from slot file same (suc zero, below, is) = (2, omega arith, is)
page_drift from slot file same (suc (suc zero), below, is) = (4, omega arith, is)
page_drift from slot file same (suc (suc (suc k)), below, is) = absurd (omega (arith, below))

pub page_sort : (from : Slot) (file : ℕ) → Contains (drifted_file ∷ sorted_file ∷ cell_file ∷ []) file → Contains (tick_pages from) file
page_sort from file (zero, below, is) = (2, omega arith, is)
page_sort from file (suc zero, below, is) = (3, omega arith, is)
page_sort from file (suc (suc zero), below, is) = (4, omega arith, is)
page_sort from file (suc (suc (suc k)), below, is) = absurd (omega (arith, below))

pub page_kick : (from : Slot) (to bodies cells file : ℕ) → to ≡ slot_file (other_slot from) → bodies ≡ sorted_file → cells ≡ cell_file
    → Contains (bodies ∷ cells ∷ to ∷ []) file → Contains (tick_pages from) file
page_kick from to bodies cells file to_is bodies_are cells_are (zero, below, is) = (3, omega arith, sym bodies_are ∙ is)
page_kick from to bodies cells file to_is bodies_are cells_are (suc zero, below, is) = (4, omega arith, sym cells_are ∙ is)
page_kick from to bodies cells file to_is bodies_are cells_are (suc (suc zero), below, is) = (1, omega arith, sym to_is ∙ is)
page_kick from to bodies cells file to_is bodies_are cells_are (suc (suc (suc k)), below, is) = absurd (omega (arith, below))
