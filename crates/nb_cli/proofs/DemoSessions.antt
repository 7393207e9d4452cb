-- The two sessions inside `demo`, with their lines: where they lead, and why they are refused.
use Rattle.std.proofs.Common.{◌≡◌, ◌≢◌, ◌≤◌, ◌⊎◌, ◌+◌, inl, inr, ℕ, Bool, IsTrue, List, refl, ap, sym, subst, ◌∙◌, arith}
use Rattle.nb_host.specs.declared.host.Channel.{Channel}
use Rattle.nb_host.specs.declared.host.Channel.TheVariants as channels
use Rattle.nb_host.specs.Image.{Image, SaysPart}
use Rattle.nb_host.specs.Meaning.{HostModel, Leads, IsDurable}
use Rattle.nb_host.proofs.Callers.{leads_more}
use Rattle.nb_model.specs.Limits.{most_ticks}
use Rattle.nb_journal.specs.Counters.{counters_of}
use Rattle.nb_journal.specs.Form.{Log, progress_of}
use Rattle.nb_journal.specs.Offsets.{journal_file}
use Rattle.nb_journal.proofs.Callers.{one_journal}
use Rattle.nb_engine.specs.declared.refusal.Refusal.{Refusal}
use Rattle.nb_engine.specs.declared.refusal.Refusal.TheVariants as refusal
use Rattle.nb_engine.specs.Histories.{IsHistory}
use Rattle.nb_engine.specs.Refusal.{NeedsNoCause}
use Rattle.nb_engine.specs.Represents.{RepresentsRun}
use Rattle.nb_engine.specs.Sessions.{ticks_to, GoLeads, IsNoLeg, IsGoRefused, IsSlotDamaged, IsOfGo}
use Rattle.nb_engine.specs.Start.{Start, started, StartLeads}
use Rattle.nb_engine.specs.Steps.{HasState}
use Rattle.nb_cli.specs.Telling.{IsStartDone, IsGoDone, LeadsWithoutErr, LeadsThenSays}
use Rattle.nb_cli.specs.Demo.{IsOfDemo, go_after_start}
use Rattle.nb_cli.proofs.Causes.{not_shown}
use Rattle.nb_cli.proofs.MadeStarts.{go_needless}
use Rattle.nb_cli.proofs.Sessions.{session_leads, session_told}

-- ---- where they lead

start_err : (honest : Bool) (old new : Image) → StartLeads honest old new → new.said channels.Err ≡ old.said channels.Err
start_err honest old new leads = ap (λ (f : Channel → List ℕ). f channels.Err) leads.others.said

go_err : (honest : Bool) (target : ℕ) (old new : Image) → GoLeads honest target old new
    → new.said channels.Err ≡ old.said channels.Err
go_err honest target old new leads = leads.session.apart.err

module _ {H : Type 0} (m : HostModel H) where
  abbrev honest : Bool
  honest = m.crashes.is_honest

  pub start_unsaid : {old new : H} → Leads m (StartLeads honest) old new
      → Leads m (LeadsWithoutErr (LeadsThenSays (StartLeads honest) IsStartDone)) old new
  start_unsaid leads =
      leads_more (session_leads (StartLeads honest) IsStartDone (start_err honest) leads)
      (λ old new step. record { leads = step.touches; err = step.err })

  pub start_said : (line : List ℕ) {old middle new : H} → IsDurable m old → Leads m (StartLeads honest) old middle
      → IsDurable m middle → (IsTrue m.tells → IsStartDone (m.contents old) (m.contents middle) line)
      → Leads m (SaysPart channels.Out line) middle new
      → Leads m (LeadsWithoutErr (LeadsThenSays (StartLeads honest) IsStartDone)) old new
  start_said line before leads durable did said =
      leads_more (session_told (StartLeads honest) IsStartDone (start_err honest) line before leads durable did said)
      (λ old new step. record { leads = step.touches; err = step.err })

  pub go_unsaid : (target : ℕ) {old new : H} → Leads m (GoLeads honest target) old new
      → Leads m (LeadsWithoutErr (LeadsThenSays (GoLeads honest target) (IsGoDone target))) old new
  go_unsaid target leads =
      leads_more (session_leads (GoLeads honest target) (IsGoDone target) (go_err honest target) leads)
      (λ old new step. record { leads = step.touches; err = step.err })

  pub go_said : (target : ℕ) (line : List ℕ) {old middle new : H} → IsDurable m old → Leads m (GoLeads honest target) old middle
      → IsDurable m middle → (IsTrue m.tells → IsGoDone target (m.contents old) (m.contents middle) line)
      → Leads m (SaysPart channels.Out line) middle new
      → Leads m (LeadsWithoutErr (LeadsThenSays (GoLeads honest target) (IsGoDone target))) old new
  go_said target line before leads durable did said =
      leads_more (session_told (GoLeads honest target) (IsGoDone target) (go_err honest target) line before leads durable did said)
      (λ old new step. record { leads = step.touches; err = step.err })

-- ---- why `go` is refused

-- a run that was started has its state
started_not_spoilt : (start : Start) (image : Image) (why : Refusal) → IsHistory (started start) → RepresentsRun (started start) image
    → IsSlotDamaged image.file why → ⊥
started_not_spoilt start image why is stands spoilt =
    let same : spoilt.log ≡ (started start).log =
    one_journal spoilt.log (started start).log (image.file journal_file) spoilt.journal stands.journal.journal in
    let has : HasState (counters_of (started start).log) start.bodies image.file =
    record { valid = is.run.bodies; count = refl; gone = refl; slot = stands.slot } in
    spoilt.cause start.bodies (subst (λ (log : Log). HasState (counters_of log) start.bodies image.file) (sym same) has)

-- a run that was started can be led to each time that isn't too far away
started_has_leg : (target : ℕ) (start : Start) (log : Log) (why : Refusal) → log ≡ (started start).log
    → ticks_to target (started start) ≤ most_ticks → IsNoLeg target (progress_of log) why → ⊥
started_has_leg target start log why same few none = elim (subst (λ (l : Log). IsNoLeg target (progress_of l) why) same none) [
  | inl open' ↦ open'.0 refl
  | inr far ↦ omega (arith, far.1, few)
]

-- so it isn't refused by what the folder holds
pub started_goes : (target : ℕ) (start : Start) (image : Image) (why : Refusal) → IsHistory (started start)
    → RepresentsRun (started start) image → ticks_to target (started start) ≤ most_ticks
    → NeedsNoCause why ⊎ IsGoRefused target image.file why ⊎ IsSlotDamaged image.file why → NeedsNoCause (go_after_start why)
started_goes target start image why is stands few (inl needless) = go_needless why needless
started_goes target start image why is stands few (inr (inl (inl none))) =
    absurd (not_shown (started start).log stands.journal.journal none)
started_goes target start image why is stands few (inr (inl (inr leg))) =
    let same = one_journal leg.0 (started start).log (image.file journal_file) leg.1 stands.journal.journal in
    absurd (started_has_leg target start leg.0 why same few leg.2)
started_goes target start image why is stands few (inr (inr spoilt)) = absurd (started_not_spoilt start image why is stands spoilt)

pub go_of_demo : (why : Refusal) → IsOfGo why → IsOfDemo (go_after_start why)
go_of_demo refusal.NotStarted of_go = tt
go_of_demo (refusal.LegOpen target time) of_go = tt
go_of_demo (refusal.TickLimit ticks) of_go = tt
go_of_demo refusal.Device of_go = tt
go_of_demo (refusal.Damaged page) of_go = tt
go_of_demo refusal.NoMemory of_go = tt
go_of_demo _ of_go = absurd of_go
