-- One tick with its snapshot, where that is due: what it leaves behind the tick.
use Rattle.std.proofs.Common.{◌≢◌, ℕ, zero, suc, ◌<◌, ◌⊎◌, inl, inr, ◌↔◌, Bool, IsTrue, IsOk, Contains, Result, List, sym, ap, subst, arith}
use Rattle.nb_host.specs.Crashes.{AgreesOutside}
use Rattle.nb_host.specs.Image.{Image}
use Rattle.nb_host.specs.Meaning.{HostModel, Leads}
use Rattle.nb_host.specs.declared.host.Channel.{Channel}
use Rattle.nb_host.specs.declared.host.Channel.TheVariants as channels
use Rattle.nb_host.proofs.Callers.{leads_more, leads_again}
use Rattle.nb_model.specs.declared.body.Body.{Body}
use Rattle.nb_journal.specs.Counters.{Counters}
use Rattle.nb_tick.specs.Slots.{slot_of, sorted_file, cell_file}
use Rattle.nb_tick.specs.State.{HoldsState}
use Rattle.nb_engine.specs.declared.refusal.Refusal.{Refusal}
use Rattle.nb_engine.specs.Due.{IsDueByCounters, TellsDue}
use Rattle.nb_engine.specs.Frame.{EachImage, IsOutsideRun, KeepsOutsideRun, RanSession}
use Rattle.nb_engine.specs.Histories.{History, ticked}
use Rattle.nb_engine.specs.Refusal.{NeedsNoCause}
use Rattle.nb_engine.specs.Snapshots.{snapshot_files}
use Rattle.nb_engine.specs.Steps.{IsCheckpoint, HasState, IsStateDamaged, GoesOn, HasPlayed, HoldsDueSnapshots}
use Rattle.nb_engine.proofs.DueNow.{tells_due-ticked}
use Rattle.nb_engine.proofs.EachImages.{each_then}
use Rattle.nb_engine.proofs.Frames.{session_then}
use Rattle.nb_engine.proofs.Played.{goes_then, played_rest}
use Rattle.nb_engine.proofs.TickImages.{keeps_again}

-- ---- the files of a snapshot

apart_snapshot : (k number : ℕ) → number ≢ sorted_file → number < 16 → Contains (snapshot_files k) number → ⊥
apart_snapshot k number sorted low (zero, below, at) = sorted (sym at)
apart_snapshot k number sorted low (suc zero, below, at) = omega (arith, at, low)
apart_snapshot k number sorted low (suc (suc n), below, at) = omega (arith, below)

snapshot_apart : (k number : ℕ) → IsOutsideRun number → Contains (snapshot_files k) number → ⊥
snapshot_apart k number (inl low) = apart_snapshot k number (omega arith) (omega arith)
snapshot_apart k number (inr high) = apart_snapshot k number (omega (arith, high.0)) (high.1)

snapshot_keeps : (k : ℕ) {start image : Image} → AgreesOutside (snapshot_files k) start image → KeepsOutsideRun start image
snapshot_keeps k agrees = record {
  files = λ number apart. agrees.others number (snapshot_apart k number apart);
  err = ap (λ (s : Channel → List ℕ). s channels.Err) agrees.said;
}

-- the frame of both
pub step_frame : {H T U : Type 0} {m : HostModel H} {h0 h1 h2 : H} {one : Result T Refusal} {two : Result U Refusal} (k : ℕ)
    → IsOk one → RanSession m KeepsOutsideRun h0 h1 one → RanSession m (AgreesOutside (snapshot_files k)) h1 h2 two
    → RanSession m KeepsOutsideRun h0 h2 two
step_frame k ok before after =
    session_then ok before after
    (leads_again (λ a b d first second. keeps_again first second) before.leads
    (leads_more after.leads (λ start image agrees. snapshot_keeps k agrees)))

module _ {H : Type 0} (m : HostModel H) (journal next : Counters) (h0 h1 h2 : H) where
  -- ---- what the run goes on from

  pub state_kept : Leads m (AgreesOutside (snapshot_files next.progress.ticks)) h1 h2
      → (IsTrue m.tells → (bodies : List Body) → HasState journal bodies (m.contents h0).file
      → (later : List Body) × HasState next later (m.contents h1).file)
      → IsTrue m.tells → (bodies : List Body) → HasState journal bodies (m.contents h0).file
      → (later : List Body) × HasState next later (m.contents h2).file
  state_kept leads after tells bodies has =
      let later = after tells bodies has in
      let slot = slot_of next.progress.ticks in
      let same = (leads.contents tells).others slot (apart_snapshot next.progress.ticks slot (omega arith) (omega arith)) in (
        later.0,
        record {
          valid = later.1.valid;
          count = later.1.count;
          gone = later.1.gone;
          slot = subst (HoldsState later.0) (sym same) later.1.slot;
        },
      )

  -- a spoilt folder behind the tick was one before
  pub still_spoilt : (why : Refusal) → (IsTrue m.tells → (bodies : List Body) → HasState journal bodies (m.contents h0).file
      → (later : List Body) × HasState next later (m.contents h1).file)
      → NeedsNoCause why ⊎ IsStateDamaged m next h1 why → NeedsNoCause why ⊎ IsStateDamaged m journal h0 why
  still_spoilt why after (inl none) = inl none
  still_spoilt why after (inr spoilt) =
      inr (record {
        page = spoilt.page;
        named = spoilt.named;
        file = spoilt.file;
        cause = λ tells bodies has.
            let later = after tells bodies has in spoilt.cause tells later.0 later.1;
      })

  -- ---- where the tick is done

  module _ (due : Bool) (tells_due : IsTrue due ↔ IsDueByCounters next) (h : History) (at : IsCheckpoint m h journal h0) (up : HoldsDueSnapshots m h h0) (ticks : (h : History) → IsCheckpoint m h journal h0 → HoldsDueSnapshots m h h0 → HasPlayed m 1 h (m.contents h0) next h1) where
    played_here : HasPlayed m 1 h (m.contents h0) next h1
    played_here = ticks h at up

    due_here : TellsDue (ticked h) due
    due_here = tells_due-ticked h played_here.at.represents.journal.journal.lawful played_here.at.answers tells_due

    pub step_images : EachImage m (GoesOn 1 h (m.contents h0)) h0 h1
        → ((h : History) → TellsDue h due → IsCheckpoint m h next h1 → EachImage m (GoesOn 0 h (m.contents h1)) h1 h2)
        → EachImage m (GoesOn 1 h (m.contents h0)) h0 h2
    step_images first finishes =
        each_then m (GoesOn 1 h (m.contents h0)) (GoesOn 0 (ticked h) (m.contents h1)) (GoesOn 1 h (m.contents h0)) first
        (finishes (ticked h) due_here played_here.at) (λ image goes. goes) (λ image goes. goes_then m 1 0 played_here goes)

    pub step_done : Leads m (AgreesOutside (snapshot_files next.progress.ticks)) h1 h2
        → ((h : History) → TellsDue h due → IsCheckpoint m h next h1
        → HasPlayed m 0 h (m.contents h1) next h2 × HoldsDueSnapshots m h h2)
        → HasPlayed m 1 h (m.contents h0) next h2 × HoldsDueSnapshots m (ticked h) h2
    step_done leads finished =
        let both = finished (ticked h) due_here played_here.at in
        let same = (leads.contents at.tells).others cell_file
        (apart_snapshot next.progress.ticks cell_file (omega arith) (omega arith)) in
        (played_rest m 1 played_here both.0 same, both.1)
