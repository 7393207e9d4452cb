-- What `start` leaves at each moment.
use Rattle.std.proofs.Common.{◌≡◌, ◌⊎◌, inl, inr, ℕ, IsTrue, IsOk, Bool, List, [], ◌∷◌, ◌++◌, Result, refl, sym, ap, subst, ◌∙◌, arith}
use Rattle.std.specs.Prelude.{◌≢◌, Contains}
use Rattle.std.specs.List.{AllByRecursion}
use Rattle.std.proofs.lemmas.List.Elements.{All-contains, All-from_recursion, Contains-append_left, Contains-append_cases}
use Rattle.nb_model.specs.declared.body.Body.{Body}
use Rattle.nb_host.specs.declared.host.HostError.{HostError}
use Rattle.nb_host.specs.declared.host.HostError.TheVariants as host
use Rattle.nb_host.specs.declared.page_name.PageName.{PageName}
use Rattle.nb_host.specs.Crashes.{AgreesOutside, ImagesFollow, Stays}
use Rattle.nb_host.specs.Image.{Image, FileBecomes}
use Rattle.nb_host.specs.Meaning.{HostModel, Leads, IsDurable, Ran, RanSyncing}
use Rattle.nb_host.proofs.Callers.{agrees_itself, agrees_more, agrees_both, becomes_agrees, weaken, leads_more, leads_then, leads_before, durable_each, left_stays, others_spare, ok_is_no_error}
use Rattle.nb_format.specs.Snapshot.{IsSnapshot}
use Rattle.nb_journal.specs.Counters.{new_log}
use Rattle.nb_journal.specs.Form.{Log, IsFresh, IsCleanJournal}
use Rattle.nb_journal.specs.Images.{prepared as laid_down, IsFreshNow, IsPrepared, StaysFresh, IsCommitted, Starts}
use Rattle.nb_journal.specs.Offsets.{journal_file}
use Rattle.nb_journal.proofs.Callers.{prepared_then}
use Rattle.nb_cache.specs.View.{CacheValue}
use Rattle.nb_cache.specs.Writes.{Writes, RanCached}
use Rattle.nb_record.specs.Order.{by_key, sorted_by, HoldsBodies}
use Rattle.nb_tick.specs.Slots.{slot_of, drifted_file}
use Rattle.nb_engine.specs.declared.refusal.Refusal.{Refusal}
use Rattle.nb_engine.specs.declared.refusal.Refusal.TheVariants as refusal
use Rattle.nb_engine.specs.declared.run_start.StartPlan.{StartPlan}
use Rattle.nb_engine.specs.Files.{init_file}
use Rattle.nb_engine.specs.Frame.{RanSession}
use Rattle.nb_engine.specs.Reading.{start_plan, IsPlanned}
use Rattle.nb_engine.specs.Refusal.{of_host}
use Rattle.nb_engine.specs.Snapshots.{IsPageDamaged}
use Rattle.nb_engine.specs.Start.{Start, IsStartReady, started, RepresentsStart, StartLeads}
use Rattle.nb_engine.proofs.CachedCalls.{well, well_isnt}
use Rattle.nb_engine.proofs.EachImages.{durable_stays, leads_from_durable}
use Rattle.nb_engine.proofs.Frames.{session_ran, session_syncing, session_cached, session_then, session_by}
use Rattle.nb_engine.proofs.Started.{started_represents}

-- ---- what `start` leaves

-- the files that it changes
abbrev pub start_files : List ℕ
start_files = journal_file ∷ slot_of 0 ∷ drifted_file ∷ []

-- Only these files change, and where no run was started this holds of what an honest host may have left.
pub record Lays (honest : Bool) (files : List ℕ) (P : Image → Type 0) (old new : Image) : Type 0 where
  pub others : AgreesOutside files old new
  pub left : IsTrue honest → IsFresh (old.file journal_file) → P new

-- no run is started
abbrev pub IsUnstarted : Image → Type 0
IsUnstarted image = IsFresh (image.file journal_file)

-- none is, or the journal is this one, and all other files read as they did before its gate opened
abbrev pub IsAtGate : Log → Image → Image → Type 0
IsAtGate log before image = IsUnstarted image ⊎ IsCommitted log before image

-- what reads is one of the images, so what holds of each of these holds of it
leads_images : {H : Type 0} {m : HostModel H} {files : List ℕ} {S : Image → Image → Type 0} (P : Image → Type 0) {old new : H}
    → Leads m (AgreesOutside files) old new → ImagesFollow m.crashes old new S
    → ((start image : Image) → S start image → AgreesOutside files start image)
    → ((start image : Image) → S start image → P image)
    → Leads m (Lays m.crashes.is_honest files P) old new
leads_images {m = m} P {new = new} leads images agrees holds = record {
  contents = λ tells. record {
    others = leads.contents tells;
    left = λ honest fresh.
        let from = (images.follows honest).now (m.contents new) (m.leaves_contents new honest) in
        holds from.0 (m.contents new) from.2;
  };
  images = weaken images (λ start image step. record { others = agrees start image step; left = λ _ _. holds start image step });
}

pub lays_prepared : {H : Type 0} {m : HostModel H} {old new : H} → Leads m (AgreesOutside (journal_file ∷ [])) old new
    → ImagesFollow m.crashes old new StaysFresh → Leads m (Lays m.crashes.is_honest (journal_file ∷ []) IsUnstarted) old new
lays_prepared leads images =
    leads_images IsUnstarted leads images (λ start image step. step.others) (λ start image step. step.fresh)

lays_gate : {H : Type 0} {m : HostModel H} {log : Log} {before : Image} {old new : H}
    → Leads m (AgreesOutside (journal_file ∷ [])) old new
    → ImagesFollow m.crashes old new (Starts log before)
    → Leads m (Lays m.crashes.is_honest (journal_file ∷ []) (IsAtGate log before)) old new
lays_gate {log = log} {before = before} leads images =
    leads_images (IsAtGate log before) leads images (λ start image step. step.others) (λ start image step. step.either)

none_of : (files : List ℕ) (number : ℕ) → AllByRecursion (λ file. file ≢ number) files → Contains files number → ⊥
none_of files number apart has =
    All-contains (λ file. file ≢ number) files number (All-from_recursion (λ file. file ≢ number) files apart) has refl

-- the journal's file is none of those of the bodies
journal_apart : Contains ((slot_of 0 ∷ drifted_file ∷ []) ++ []) journal_file → ⊥
journal_apart has = none_of (slot_of 0 ∷ drifted_file ∷ []) journal_file (omega arith) has

first_within : (number : ℕ) → Contains (journal_file ∷ []) number → Contains start_files number
first_within number has = Contains-append_left (journal_file ∷ []) (slot_of 0 ∷ drifted_file ∷ []) number has

both_within : (number : ℕ) → Contains ((journal_file ∷ []) ++ (slot_of 0 ∷ drifted_file ∷ []) ++ []) number
    → Contains start_files number
both_within number has = has

-- once the bodies are laid down
pub lays_bodies : {H : Type 0} {m : HostModel H} {old middle new : H}
    → Leads m (Lays m.crashes.is_honest (journal_file ∷ []) IsUnstarted) old middle
    → Leads m (AgreesOutside ((slot_of 0 ∷ drifted_file ∷ []) ++ [])) middle new
    → Leads m (Lays m.crashes.is_honest start_files IsUnstarted) old new
lays_bodies first second =
    leads_then first second
    (λ start image step. record { others = agrees_more first_within step.others; left = step.left })
    (λ start between image one two. record {
      others = agrees_more both_within (agrees_both one.others two);
      left = λ honest fresh.
          subst IsFresh (sym (two.others journal_file journal_apart)) (one.left honest fresh);
    })

-- and once the gate was opened, perhaps
pub lays_started : {H : Type 0} {m : HostModel H} {log : Log} {before : Image} {old middle new : H}
    → Leads m (Lays m.crashes.is_honest start_files IsUnstarted) old middle
    → Leads m (AgreesOutside (journal_file ∷ [])) middle new → ImagesFollow m.crashes middle new (Starts log before)
    → Leads m (Lays m.crashes.is_honest start_files (IsAtGate log before)) old new
lays_started {log = log} {before = before} first second images =
    leads_then first (lays_gate {log = log} {before = before} second images)
    (λ start image step. record { others = step.others; left = λ honest fresh. inl (step.left honest fresh) })
    (λ start between image one two. record {
      others = agrees_more again_within (agrees_both one.others two.others);
      left = λ honest fresh. two.left honest (one.left honest fresh);
    }) where
      again_within : (number : ℕ) → Contains (start_files ++ journal_file ∷ []) number → Contains start_files number
      again_within number has = elim (Contains-append_cases start_files (journal_file ∷ []) number has) [
        | inl before ↦ before
        | inr last ↦ first_within number last
      ]

-- What was left holds in a stretch that begins with calls that only read.
pub lays_after : {H : Type 0} {m : HostModel H} {files : List ℕ} (P : Image → Type 0) {old middle new : H}
    → ((image : Image) → IsUnstarted image → P image) → Leads m Stays old middle
    → Leads m (Lays m.crashes.is_honest files P) middle new → Leads m (Lays m.crashes.is_honest files P) old new
lays_after {files = files} P begun first second =
    leads_before (λ image. record { others = agrees_itself files image; left = λ _ fresh. begun image fresh }) first second

-- ---- where it leads

-- no run is started still, or it is the one that can be
abbrev pub IsStill : Image → Image → Type 0
IsStill old image = IsUnstarted image ⊎ ((start : Start) × IsStartReady old.file start × RepresentsStart start image)

-- calls that only read
pub start_stays : {H : Type 0} {m : HostModel H} {old new : H} → Leads m Stays old new
    → Leads m (StartLeads m.crashes.is_honest) old new
start_stays leads = leads_more leads (λ start image same. record {
  others = subst (λ (i : Image). AgreesOutside start_files start i) (sym same) (agrees_itself start_files start);
  idle = λ none. same;
  begins = λ honest fresh. inl (subst (λ (i : Image). IsFresh (i.file journal_file)) (sym same) fresh);
})

-- calls from where what reads is durable, and a run can be started
pub start_leads : {H : Type 0} {m : HostModel H} {files : List ℕ} (P : Image → Type 0) {old new : H} → IsDurable m old
    → ((number : ℕ) → Contains files number → Contains start_files number)
    → (IsTrue m.tells → (start : Start) × IsStartReady (m.contents old).file start)
    → (IsTrue m.tells → (image : Image) → P image → IsStill (m.contents old) image)
    → Leads m (Lays m.crashes.is_honest files P) old new → Leads m (StartLeads m.crashes.is_honest) old new
start_leads {m = m} {files = files} P durable within ready still leads =
    leads_from_durable (Lays m.crashes.is_honest files P) (StartLeads m.crashes.is_honest) durable leads
    (λ tells image step. record {
      others = agrees_more within step.others;
      idle = λ none. let can = ready tells in absurd (none can.0 can.1);
      begins = λ honest fresh. still tells image (step.left honest fresh);
    })

-- ---- what stood before the gate

-- Before the gate the bodies were laid down, and the snapshot is what it was: so the image represents the run.
pub committed_still : (start : Start) {log : Log} {old before image : Image} → log ≡ (started start).log
    → IsStartReady old.file start → AgreesOutside start_files old before
    → HoldsBodies (before.file (slot_of 0)) (sorted_by by_key start.bodies) → IsCommitted log before image
    → RepresentsStart start image
committed_still start {log} {old} {before} {image} is ready since laid committed =
    let snapshot = since.others init_file init_apart in
    let later = committed.others.others init_file init_spared in
    let slot = committed.others.others (slot_of 0) slot_spared in
    started_represents start image (subst (λ (l : Log). IsCleanJournal l (image.file journal_file)) is committed.journal)
    (subst (λ (file : List ℕ). IsSnapshot file start.bodies start.time) (sym (later ∙ snapshot)) ready.starts.snapshot)
    (subst (λ (file : List ℕ). HoldsBodies file (sorted_by by_key start.bodies)) (sym slot) laid) where
      init_apart : Contains start_files init_file → ⊥
      init_apart has = none_of start_files init_file (omega arith) has

      init_spared : Contains (journal_file ∷ []) init_file → ⊥
      init_spared has = none_of (journal_file ∷ []) init_file (omega arith) has

      slot_spared : Contains (journal_file ∷ []) (slot_of 0) → ⊥
      slot_spared has = none_of (journal_file ∷ []) (slot_of 0) (omega arith) has

-- ---- what the journal's calls need

-- no journal is started, and that is durable
pub fresh_now : {H : Type 0} (m : HostModel H) {old new : H} → IsDurable m old → (IsTrue m.tells → IsUnstarted (m.contents old))
    → Leads m Stays old new → IsFreshNow m new
fresh_now m {new = new} durable fresh leads = record {
  reads = λ tells. subst (λ (i : Image). IsUnstarted i) (sym (leads.contents tells)) (fresh tells);
  images = durable_each m journal_file (durable_stays m durable leads);
}

-- What was prepared stays so while the bodies are laid down.
pub prepared_kept : {H : Type 0} (m : HostModel H) (log : Log) {old new : H}
    → Leads m (AgreesOutside ((slot_of 0 ∷ drifted_file ∷ []) ++ [])) old new → IsPrepared m log old → IsPrepared m log new
prepared_kept m log leads prepared = left_stays m (others_spare journal_apart leads) prepared

-- ---- the calls of `start`, one after the other

-- The log of a plan, which is that of the run that it begins.
abbrev pub log_of : StartPlan → Log
log_of plan = new_log plan.params plan.census.count plan.time plan.census.gone

-- A run can be started by this plan, from where what reads is durable, and since then calls only read.
pub record IsSetOut {H : Type 0} (m : HostModel H) (plan : StartPlan) (old planned : H) : Type 0 where
  pub durable : IsDurable m old
  pub ready : IsTrue m.tells → (start : Start) × IsStartReady (m.contents old).file start × (plan ≡ start_plan start)
  pub reads : Leads m Stays old planned

set_out_fresh : {H : Type 0} {m : HostModel H} {plan : StartPlan} {old planned : H} → IsSetOut m plan old planned → IsTrue m.tells
    → IsUnstarted (m.contents old)
set_out_fresh set_out tells = (set_out.ready tells).1.fresh

-- what `prepare` needs
fresh_planned : {H : Type 0} {m : HostModel H} {plan : StartPlan} {old planned : H} → IsSetOut m plan old planned
    → IsFreshNow m planned
fresh_planned {m = m} set_out = fresh_now m set_out.durable (set_out_fresh set_out) set_out.reads

-- It left the journal shut.
pub record IsMade {H : Type 0} (m : HostModel H) (plan : StartPlan) (old planned prepared : H) : Type 0 where
  pub set_out : IsSetOut m plan old planned
  pub leads : Leads m (AgreesOutside (journal_file ∷ [])) planned prepared
  pub images : ImagesFollow m.crashes planned prepared StaysFresh

pub made_of : {H : Type 0} {m : HostModel H} {plan : StartPlan} {old planned prepared : H} → IsDurable m old
    → (IsTrue m.tells → (start : Start) × IsStartReady (m.contents old).file start × (plan ≡ start_plan start))
    → Leads m Stays old planned → Leads m (AgreesOutside (journal_file ∷ [])) planned prepared
    → (IsFreshNow m planned → ImagesFollow m.crashes planned prepared StaysFresh) → IsMade m plan old planned prepared
made_of {m = m} {plan = plan} {old = old} {planned = planned} durable ready reads leads images =
    let set_out : IsSetOut m plan old planned = record { durable = durable; ready = ready; reads = reads } in
    record { set_out = set_out; leads = leads; images = images (fresh_planned set_out) }

made_lays : {H : Type 0} {m : HostModel H} {plan : StartPlan} {old planned prepared : H} → IsMade m plan old planned prepared
    → Leads m (Lays m.crashes.is_honest (journal_file ∷ []) IsUnstarted) old prepared
made_lays made = lays_after IsUnstarted (λ image unstarted. unstarted) made.set_out.reads (lays_prepared made.leads made.images)

ready_alone : {H : Type 0} {m : HostModel H} {plan : StartPlan} {old planned : H} → IsSetOut m plan old planned → IsTrue m.tells
    → (start : Start) × IsStartReady (m.contents old).file start
ready_alone set_out tells = let can = set_out.ready tells in (can.0, can.1)

pub made_leads : {H : Type 0} {m : HostModel H} {plan : StartPlan} {old planned prepared : H} → IsMade m plan old planned prepared
    → Leads m (StartLeads m.crashes.is_honest) old prepared
made_leads made =
    start_leads IsUnstarted made.set_out.durable first_within (ready_alone made.set_out) (λ tells image unstarted. inl unstarted)
    (made_lays made)

-- The bodies were laid down, or it was tried.
pub record IsLaid {H : Type 0} (m : HostModel H) (plan : StartPlan) (old planned prepared laid : H) : Type 0 where
  pub made : IsMade m plan old planned prepared
  pub leads : Leads m (AgreesOutside ((slot_of 0 ∷ drifted_file ∷ []) ++ [])) prepared laid

pub laid_of : {H : Type 0} {m : HostModel H} {plan : StartPlan} {cache new_cache : CacheValue} {old planned prepared laid : H}
    → IsMade m plan old planned prepared → cache.unwritten ≡ []
    → Writes m (slot_of 0 ∷ drifted_file ∷ []) cache prepared new_cache laid → IsLaid m plan old planned prepared laid
laid_of {m = m} {prepared = prepared} {laid = laid} made none writes = record {
  made = made;
  leads = subst (λ (files : List ℕ). Leads m (AgreesOutside ((slot_of 0 ∷ drifted_file ∷ []) ++ files)) prepared laid) none
      writes.leads;
}

laid_lays : {H : Type 0} {m : HostModel H} {plan : StartPlan} {old planned prepared laid : H} → IsLaid m plan old planned prepared laid
    → Leads m (Lays m.crashes.is_honest start_files IsUnstarted) old laid
laid_lays laid = lays_bodies (made_lays laid.made) laid.leads

pub laid_leads : {H : Type 0} {m : HostModel H} {plan : StartPlan} {old planned prepared laid : H}
    → IsLaid m plan old planned prepared laid → Leads m (StartLeads m.crashes.is_honest) old laid
laid_leads laid =
    start_leads IsUnstarted laid.made.set_out.durable (λ number has. has) (ready_alone laid.made.set_out)
    (λ tells image unstarted. inl unstarted) (laid_lays laid)

-- what `prepare` laid down
abbrev pub HasLaidDown : {H : Type 0} → HostModel H → StartPlan → H → Type 0
HasLaidDown m plan host = IsTrue m.tells → (m.contents host).file journal_file ≡ laid_down (log_of plan)

laid_prepared : {H : Type 0} {m : HostModel H} {plan : StartPlan} {old planned prepared laid : H}
    → IsLaid m plan old planned prepared laid → HasLaidDown m plan prepared → IsPrepared m (log_of plan) laid
laid_prepared {m = m} {plan = plan} laid there =
    prepared_kept m (log_of plan) laid.leads (prepared_then m (log_of plan) laid.made.images there)

-- So the gate can be opened, of a log that is the plan's.
pub gate_follows : {H : Type 0} {m : HostModel H} {plan : StartPlan} {log : Log} {old planned prepared laid new : H}
    → IsLaid m plan old planned prepared laid → HasLaidDown m plan prepared → log ≡ log_of plan
    → (IsPrepared m log laid → ImagesFollow m.crashes laid new (Starts log (m.contents laid)))
    → ImagesFollow m.crashes laid new (Starts (log_of plan) (m.contents laid))
gate_follows {m = m} {laid = host} {new = new} laid there is images =
    subst (λ (l : Log). ImagesFollow m.crashes host new (Starts l (m.contents host))) is
    (images (subst (λ (l : Log). IsPrepared m l host) (sym is) (laid_prepared laid there)))

pub gate_journal : {H : Type 0} {m : HostModel H} {plan : StartPlan} {log : Log} {old planned prepared laid : H} {file : List ℕ}
    → IsLaid m plan old planned prepared laid → HasLaidDown m plan prepared → log ≡ log_of plan
    → (IsTrue m.tells → (m.contents laid).file journal_file ≡ laid_down log → IsCleanJournal log file) → IsTrue m.tells
    → IsCleanJournal (log_of plan) file
gate_journal {file = file} laid there is journal tells =
    subst (λ (l : Log). IsCleanJournal l file) is
    (journal tells ((laid_prepared laid there).reads tells ∙ ap laid_down (sym is)))

-- the snapshot is that of the plan still, once the journal was laid down
planned_there : {plan : StartPlan} (start : Start) (old now : Image) → plan ≡ start_plan start → IsStartReady old.file start
    → now.file init_file ≡ old.file init_file → IsPlanned plan start.bodies (now.file init_file)
planned_there start old now is ready same =
    subst (λ (p : StartPlan). IsPlanned p start.bodies (now.file init_file)) (sym is)
    (record {
      snapshot = subst (λ (file : List ℕ). IsSnapshot file start.bodies start.time) (sym same) ready.starts.snapshot;
      census = refl;
    })

init_apart : Contains (journal_file ∷ []) init_file → ⊥
init_apart has = none_of (journal_file ∷ []) init_file (omega arith) has

prepared_init : {H : Type 0} {m : HostModel H} {plan : StartPlan} {old planned prepared : H} → IsMade m plan old planned prepared
    → IsTrue m.tells → (m.contents prepared).file init_file ≡ (m.contents old).file init_file
prepared_init made tells =
    (made.leads.contents tells).others init_file init_apart
    ∙ ap (λ (i : Image). i.file init_file) (made.set_out.reads.contents tells)

-- So that it isn't is no cause of a refusal.
pub never_broken : {H : Type 0} {m : HostModel H} {plan : StartPlan} {old planned prepared : H} {IsPage : PageName → Type 0}
    {why : Refusal} → IsMade m plan old planned prepared
    → IsPageDamaged m IsPage (λ bodies. IsPlanned plan bodies ((m.contents prepared).file init_file)) why → IsTrue m.tells → ⊥
never_broken {m = m} {old = old} {prepared = prepared} made broken tells =
    let can = made.set_out.ready tells in
    broken.cause tells can.0.bodies
    (planned_there can.0 (m.contents old) (m.contents prepared) can.2 can.1 (prepared_init made tells))

-- The bodies of the snapshot stand in the first slot, if it is that of the plan.
abbrev pub HoldsPlanned : {H : Type 0} → HostModel H → StartPlan → H → H → Type 0
HoldsPlanned m plan prepared laid = IsTrue m.tells → (bodies : List Body)
    → IsPlanned plan bodies ((m.contents prepared).file init_file)
    → HoldsBodies ((m.contents laid).file (slot_of 0)) (sorted_by by_key bodies)

-- what stands behind the gate
gate_still : {H : Type 0} {m : HostModel H} {plan : StartPlan} {old planned prepared laid : H} {image : Image}
    → IsLaid m plan old planned prepared laid → HoldsPlanned m plan prepared laid → (tells : IsTrue m.tells)
    → (start : Start) → IsStartReady (m.contents old).file start → plan ≡ start_plan start
    → IsCommitted (log_of plan) (m.contents laid) image → RepresentsStart start image
gate_still {m = m} {old = old} {prepared = prepared} laid holds tells start ready is committed =
    committed_still start (ap log_of is) ready ((laid_lays laid).contents tells).others
    (holds tells start.bodies
    (planned_there start (m.contents old) (m.contents prepared) is ready (prepared_init laid.made tells))) committed

-- The gate was opened, or it was tried.
pub gate_leads : {H : Type 0} {m : HostModel H} {plan : StartPlan} {old planned prepared laid new : H}
    {P : List ℕ → List ℕ → Type 0} → IsLaid m plan old planned prepared laid → HoldsPlanned m plan prepared laid
    → Leads m (FileBecomes journal_file P) laid new → ImagesFollow m.crashes laid new (Starts (log_of plan) (m.contents laid))
    → Leads m (StartLeads m.crashes.is_honest) old new
gate_leads {m = m} {plan = plan} {laid = middle} laid holds opens images =
    let agrees = leads_more opens (λ start image step. becomes_agrees step) in
    start_leads (IsAtGate (log_of plan) (m.contents middle)) laid.made.set_out.durable (λ number has. has)
    (ready_alone laid.made.set_out)
    (λ tells image at. elim at [
      | inl unstarted ↦ inl unstarted
      | inr committed ↦
          let can = laid.made.set_out.ready tells in
          inr (can.0, can.1, gate_still laid holds tells can.0 can.1 can.2 committed)
    ]) (lays_started (laid_lays laid) agrees images)

-- It was opened, and the folder represents the run.
pub gate_opened : {H : Type 0} {m : HostModel H} {plan : StartPlan} {old planned prepared laid new : H}
    {P : List ℕ → List ℕ → Type 0} → IsLaid m plan old planned prepared laid → HoldsPlanned m plan prepared laid
    → Leads m (FileBecomes journal_file P) laid new
    → (IsTrue m.tells → IsCleanJournal (log_of plan) ((m.contents new).file journal_file)) → IsTrue m.tells
    → (start : Start) × IsStartReady (m.contents old).file start × (plan ≡ start_plan start)
    × RepresentsStart start (m.contents new)
gate_opened laid holds opens journal tells =
    let can = laid.made.set_out.ready tells in (
      can.0,
      can.1,
      can.2,
      gate_still laid holds tells can.0 can.1 can.2
          (record { journal = journal tells; others = becomes_agrees (opens.contents tells) }),
    )

-- ---- what they owe to the counts

-- the plan was made
pub session_planned : {H T : Type 0} {m : HostModel H} {old planned : H} {one : Result T Refusal}
    → Ran m refusal.Device Stays old planned one → RanSession m (StartLeads m.crashes.is_honest) old planned one
session_planned ran = session_by (session_ran ran (λ same. same) (λ same. same)) (start_stays ran.leads)

-- calls of the journal that went well, after others
pub session_well : {H T U E : Type 0} {m : HostModel H} {fault : E} {syncs : ℕ} {first second by : Image → Image → Type 0}
    {old middle new : H} {one : Result T Refusal} {two : Result U E} → IsOk one → RanSession m first old middle one
    → RanSyncing m syncs fault second middle new two → IsOk two → Leads m by old new → RanSession m by old new well
session_well ok before ran fine leads =
    session_then ok before
    (session_syncing ran (λ faulted. absurd (well_isnt refusal.Device faulted)) (λ error. absurd (ok_is_no_error fine error))
    (λ _. fine))
    leads

-- and calls through a cache
pub session_well_cached : {H T U E : Type 0} {m : HostModel H} {fault : E} {files : List ℕ} {first by : Image → Image → Type 0}
    {old_cache new_cache : CacheValue} {old middle new : H} {one : Result T Refusal} {two : Result U E} → IsOk one
    → RanSession m first old middle one → RanCached m fault files old_cache middle new_cache new two → IsOk two
    → Leads m by old new → RanSession m by old new well
session_well_cached ok before ran fine leads =
    session_then ok before
    (session_cached ran ran.writes.leads (λ faulted. absurd (well_isnt refusal.Device faulted))
    (λ error. absurd (ok_is_no_error fine error))) leads

pub host_is_fault : (error : HostError) → of_host error ≡ refusal.Device → error ≡ host.Fault
host_is_fault host.Fault is = refl
host_is_fault host.NoMemory is = absurd (cc)
