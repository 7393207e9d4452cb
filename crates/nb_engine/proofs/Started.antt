-- A run that was started.
use Rattle.std.proofs.Common.{◌≡◌, inl, inr, ℕ, ◌*◌, ◌<◌, Option, None, Some, List, refl, sym, ◌∙◌, arith}
use Rattle.std.proofs.lemmas.Bool.{cases_lt, cond-true, le-leb}
use Rattle.nb_model.specs.declared.body.Body.{Body}
use Rattle.nb_model.specs.declared.params.Params.{Params}
use Rattle.nb_model.specs.Limits.{gm_limit}
use Rattle.nb_model.specs.Octree.{total_mass}
use Rattle.nb_host.specs.Image.{Image}
use Rattle.nb_format.specs.Snapshot.{IsSnapshot}
use Rattle.nb_journal.specs.Form.{IsCleanJournal}
use Rattle.nb_journal.specs.Offsets.{journal_file}
use Rattle.nb_record.specs.Order.{by_key, sorted_by, HoldsBodies}
use Rattle.nb_tick.specs.Slots.{slot_of}
use Rattle.nb_engine.specs.declared.refusal.Refusal.{Refusal}
use Rattle.nb_engine.specs.declared.refusal.Refusal.TheVariants as refusal
use Rattle.nb_engine.specs.Files.{init_file}
use Rattle.nb_engine.specs.Histories.{IsHistory}
use Rattle.nb_engine.specs.Start.{Start, HasStart, start_refusal, started, RepresentsStart}

-- ---- the run

-- bodies that aren't too heavy
light : (params : Params) (bodies : List Body) → start_refusal params bodies ≡ None → params.grav * total_mass bodies < gm_limit
light params bodies none = elim (cases_lt (params.grav * total_mass bodies) gm_limit) [
  | inl below ↦ below
  | inr above ↦
      let heavy : start_refusal params bodies ≡ Some (refusal.TooHeavy params.grav (total_mass bodies)) =
      cond-true _ _ _ (le-leb gm_limit (params.grav * total_mass bodies) above) in
      absurd (some_isnt (sym heavy ∙ none))
] where
  some_isnt : {why : Refusal} → ◌≡◌ {A = Option Refusal} (Some why) None → ⊥
  some_isnt is = cc

-- It is a run without legs, and its journal tells the truth of it.
pub started_history : (files : ℕ → List ℕ) (start : Start) → HasStart files start
    → start_refusal start.params start.bodies ≡ None → IsHistory (started start)
started_history files start has allowed = record {
  run = record {
    bodies = record {
      each = λ k d below. (has.snapshot.stored.each k d below).valid;
      ids = has.snapshot.stored.ids;
      count = has.snapshot.stored.count;
      gm = light start.params start.bodies allowed;
    };
    legs = record { each = tt; targets = λ k d below. absurd (omega arith); count = omega arith };
  };
  count = refl;
  gone = refl;
  truthful = λ number gone there. absurd (no_entry there.1);
} where
  no_entry : {k : ℕ} → k < 0 → ⊥
  no_entry below = omega arith

-- What a folder has to hold to represent it: its journal, its snapshot, and the bodies in the first slot.
pub started_represents : (start : Start) (image : Image) → IsCleanJournal (started start).log (image.file journal_file)
    → IsSnapshot (image.file init_file) start.bodies start.time
    → HoldsBodies (image.file (slot_of 0)) (sorted_by by_key start.bodies) → RepresentsStart start image
started_represents start image journal snapshot slot = record {
  journal = journal;
  start = snapshot;
  slot = slot;
  kicks = λ some. absurd (some refl);
  finished = λ j due below. absurd (omega arith);
  right = λ j some within opened. absurd (omega arith);
}
