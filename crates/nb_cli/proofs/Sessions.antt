-- A run of `start`, `go` or `resume`, with its line: where it leads, and what it owes to the counts.
use Rattle.std.proofs.Common.{◌≡◌, ◌≤◌, ◌+◌, ◌⊎◌, inl, inr, ℕ, Bool, List, length, refl, ap, sym, subst, ◌∙◌, arith, IsTrue, IsOk, Result, Ok, Err, rules}
use Rattle.std.specs.Prelude.{⊤}
use Rattle.nb_host.specs.declared.host.Channel.{Channel}
use Rattle.nb_host.specs.declared.host.Channel.TheVariants as channels
use Rattle.nb_host.specs.declared.host.HostError.{HostError}
use Rattle.nb_host.specs.declared.host.HostError.TheVariants.{Fault, NoMemory}
use Rattle.nb_host.specs.Image.{Image, Says, SaysPart}
use Rattle.nb_host.specs.Meaning.{HostModel, Leads, CallTally, RanSaying, RanSyncing, IsDurable}
use Rattle.nb_host.proofs.Callers.{goes_on, leads_more, stopped_after, ok_is_no_error}
use Rattle.nb_engine.specs.declared.going.Pace.{Pace}
use Rattle.nb_engine.specs.declared.refusal.Refusal.{Refusal}
use Rattle.nb_engine.specs.declared.refusal.Refusal.TheVariants as refusal
use Rattle.nb_engine.specs.Frame.{RanSession}
use Rattle.nb_engine.proofs.Callers.{leads_from_durable}
use Rattle.nb_engine.specs.Refusal.{of_host, NeedsNoCause}
use Rattle.nb_engine.specs.Sessions.{GoLeads, ResumeLeads, IsNoLeg, IsOfLeg, IsGoRefused, IsSlotDamaged}
use Rattle.nb_engine.specs.Shown.{IsShowRefused}
use Rattle.nb_engine.specs.declared.run_start.Begun.{Begun}
use Rattle.nb_engine.specs.Start.{Start, StartLeads, TellsStart}
use Rattle.nb_format.specs.Lines.{started_line}
use Rattle.nb_journal.specs.Entries.{Progress}
use Rattle.nb_journal.specs.Form.{Log, IsJournal, progress_of}
use Rattle.nb_journal.specs.Offsets.{journal_file}
use Rattle.nb_cli.specs.declared.words.Job.TheVariants as job
use Rattle.nb_cli.specs.Telling.{IsStartDone, IsGoDone, IsResumeDone, IsDoneThenSaid, LeadsThenSays}
use Rattle.nb_cli.specs.Answer.{JobTouches, Syncs, of_begin, of_run, SyncsJob, CountsJob}
use Rattle.nb_cli.proofs.Causes.{not_shown}
use Rattle.nb_cli.proofs.Runs.{Out≢Err, said_answer, free_or_not}

-- ---- where it leads

-- What a session may have changed at some moment, with its line. It says nothing on Err.
pub record SessionTouches (by : Image → Image → Type 0) (Did : Image → Image → List ℕ → Type 0) (old new : Image) : Type 0 where
  pub touches : LeadsThenSays by Did old new
  pub err : new.said channels.Err ≡ old.said channels.Err

module _ (by : Image → Image → Type 0) (Did : Image → Image → List ℕ → Type 0) (err_of : (old new : Image) → by old new → new.said channels.Err ≡ old.said channels.Err) where
  unsaid : (old new : Image) → by old new → SessionTouches by Did old new
  unsaid old new leads = record {
    touches = record { between = new; leads = leads; files = refl; told = inl refl };
    err = err_of old new leads;
  }

  -- without its line
  pub session_leads : {H : Type 0} {m : HostModel H} {old new : H} → Leads m by old new → Leads m (SessionTouches by Did) old new
  session_leads leads = leads_more leads unsaid

  partly_said : (line : List ℕ) {old between new : Image} → by old between → Did old between line
      → SaysPart channels.Out line between new → SessionTouches by Did old new
  partly_said line {old = old} {between = between} leads did part = record {
    touches = record {
      between = between;
      leads = leads;
      files = part.2.files;
      told = inr (line, did, (part.0, part.1, part.2.said));
    };
    err = part.2.others channels.Err Out≢Err ∙ err_of old between leads;
  }

  -- The line is said behind what is done, which is durable.
  pub session_told : {H : Type 0} {m : HostModel H} (line : List ℕ) {old middle new : H} → IsDurable m old → Leads m by old middle → IsDurable m middle
      → (IsTrue m.tells → Did (m.contents old) (m.contents middle) line) → Leads m (SaysPart channels.Out line) middle new
      → Leads m (SessionTouches by Did) old new
  session_told {H = H} {m = m} line {old = old} {middle = middle} {new = new} before leads durable did said =
      leads_from_durable Behind (SessionTouches by Did) before led told where
        -- an image before the line, or behind what is done
        Behind : Image → Image → Type 0
        Behind start image =
            by start image ⊎ (by start (m.contents middle) × SaysPart channels.Out line (m.contents middle) image)

        led : Leads m Behind old new
        led = record {
          contents = λ tells. inr (leads.contents tells, said.contents tells);
          images = goes_on leads.images said.images (λ start image step. inl step)
              (λ start between image honest one left two.
              let same = durable between honest left in
              inr (
                subst (λ (i : Image). by start i) same one,
                subst (λ (i : Image). SaysPart channels.Out line i image) same two,
              ));
        }

        told : IsTrue m.tells → (image : Image) → Behind (m.contents old) image → SessionTouches by Did (m.contents old) image
        told tells image (inl step) = unsaid (m.contents old) image step
        told tells image (inr both) = partly_said line both.0 (did tells) both.1

-- the line behind what is done
pub session_done : (by : Image → Image → Type 0) (Did : Image → Image → List ℕ → Type 0) (line : List ℕ) {old middle new : Image}
    → by old middle → Did old middle line → Says channels.Out line middle new → IsDoneThenSaid by Did old new
session_done by Did line {middle = middle} leads did says = record {
  between = middle;
  leads = leads;
  line = line;
  done = did;
  files = says.files;
  out = says.said;
  err = says.others channels.Err Out≢Err;
}

-- ---- the three commands

start_err : (honest : Bool) (old new : Image) → StartLeads honest old new → new.said channels.Err ≡ old.said channels.Err
start_err honest old new leads = ap (λ (f : Channel → List ℕ). f channels.Err) leads.others.said

go_err : (honest : Bool) (target : ℕ) (old new : Image) → GoLeads honest target old new
    → new.said channels.Err ≡ old.said channels.Err
go_err honest target old new leads = leads.session.apart.err

resume_err : (honest : Bool) (old new : Image) → ResumeLeads honest old new → new.said channels.Err ≡ old.said channels.Err
resume_err honest old new leads = leads.session.apart.err

module _ {H : Type 0} (m : HostModel H) (files : ℕ → List ℕ) where
  abbrev honest : Bool
  honest = m.crashes.is_honest

  pub start_touches : (pages : ℕ) {old new : H} → Leads m (StartLeads honest) old new
      → Leads m (JobTouches honest files (job.Start pages)) old new
  start_touches pages leads =
      leads_more (session_leads (StartLeads honest) IsStartDone (start_err honest) leads)
      (λ old new step. record { touches = inr step.touches; err = step.err })

  pub start_told : (pages : ℕ) (line : List ℕ) {old middle new : H} → IsDurable m old → Leads m (StartLeads honest) old middle
      → IsDurable m middle → (IsTrue m.tells → IsStartDone (m.contents old) (m.contents middle) line)
      → Leads m (SaysPart channels.Out line) middle new → Leads m (JobTouches honest files (job.Start pages)) old new
  start_told pages line before leads durable did said =
      leads_more (session_told (StartLeads honest) IsStartDone (start_err honest) line before leads durable did said)
      (λ old new step. record { touches = inr step.touches; err = step.err })

  pub go_touches : (target : ℕ) (pace : Pace) {old new : H} → Leads m (GoLeads honest target) old new
      → Leads m (JobTouches honest files (job.Go target pace)) old new
  go_touches target pace leads =
      leads_more (session_leads (GoLeads honest target) (IsGoDone target) (go_err honest target) leads)
      (λ old new step. record { touches = inr step.touches; err = step.err })

  pub go_told : (target : ℕ) (pace : Pace) (line : List ℕ) {old middle new : H} → IsDurable m old
      → Leads m (GoLeads honest target) old middle → IsDurable m middle
      → (IsTrue m.tells → IsGoDone target (m.contents old) (m.contents middle) line)
      → Leads m (SaysPart channels.Out line) middle new → Leads m (JobTouches honest files (job.Go target pace)) old new
  go_told target pace line before leads durable did said =
      leads_more (session_told (GoLeads honest target) (IsGoDone target) (go_err honest target) line before leads durable did said)
      (λ old new step. record { touches = inr step.touches; err = step.err })

  pub resume_touches : (pace : Pace) {old new : H} → Leads m (ResumeLeads honest) old new
      → Leads m (JobTouches honest files (job.Resume pace)) old new
  resume_touches pace leads =
      leads_more (session_leads (ResumeLeads honest) IsResumeDone (resume_err honest) leads)
      (λ old new step. record { touches = inr step.touches; err = step.err })

  pub resume_told : (pace : Pace) (line : List ℕ) {old middle new : H} → IsDurable m old → Leads m (ResumeLeads honest) old middle
      → IsDurable m middle → (IsTrue m.tells → IsResumeDone (m.contents old) (m.contents middle) line)
      → Leads m (SaysPart channels.Out line) middle new → Leads m (JobTouches honest files (job.Resume pace)) old new
  resume_told pace line before leads durable did said =
      leads_more (session_told (ResumeLeads honest) IsResumeDone (resume_err honest) line before leads durable did said)
      (λ old new step. record { touches = inr step.touches; err = step.err })

-- the line that was made of the answer of `start`
pub started_told : {start : Start} {begun : Begun} (line : List ℕ) → line ≡ started_line begun.count begun.time
    → TellsStart start begun → line ≡ started_line (length start.bodies) start.time
started_told {start = start} {begun = begun} line is tells =
    is ∙ ap (λ (n : ℕ). started_line n begun.time) tells.count ∙ ap (started_line (length start.bodies)) tells.time

-- ---- what it owes to the counts

-- How often a session syncs that ends so, from behind the first sync on: a refusal of a leg takes none back, a page that is
-- damaged is the journal's only where there was no sync, and any other refusal by a cause comes before the first.
abbrev pub SyncsBehind : Refusal → ℕ → ℕ → Type 0
SyncsBehind refusal.Device before behind = ⊤
SyncsBehind refusal.NoMemory before behind = ⊤
SyncsBehind (refusal.LegOpen _ _) before behind = before ≤ behind
SyncsBehind (refusal.TickLimit _) before behind = before ≤ behind
SyncsBehind (refusal.Damaged page) before behind = page.file ≡ journal_file → behind ≡ before
SyncsBehind _ before behind = behind ≡ before

pub syncs_behind : (why : Refusal) (before middle behind : ℕ) → middle ≡ before + 1 → SyncsBehind why middle behind
    → SyncsJob of_run (Err why) before behind
syncs_behind (refusal.Params _) before middle behind one same = same ∙ one
syncs_behind (refusal.Snapshot _) before middle behind one same = same ∙ one
syncs_behind (refusal.TooHeavy _ _) before middle behind one same = same ∙ one
syncs_behind refusal.NotStarted before middle behind one same = same ∙ one
syncs_behind refusal.Started before middle behind one same = same ∙ one
syncs_behind (refusal.LegOpen _ _) before middle behind one more = omega (arith, one, more)
syncs_behind (refusal.TickLimit _) before middle behind one more = omega (arith, one, more)
syncs_behind refusal.InitThere before middle behind one same = same ∙ one
syncs_behind (refusal.TooMany _) before middle behind one same = same ∙ one
syncs_behind refusal.Device before middle behind one free = tt
syncs_behind (refusal.Damaged _) before middle behind one same = λ journal. same journal ∙ one
syncs_behind refusal.NoMemory before middle behind one free = tt

-- `start` and `demo` sync before no refusal by a cause
syncs_begin : (why : Refusal) (before behind : ℕ) → behind ≡ before + 1 → SyncsJob of_begin (Err why) before behind
syncs_begin (refusal.Params _) before behind one = one
syncs_begin (refusal.Snapshot _) before behind one = one
syncs_begin (refusal.TooHeavy _ _) before behind one = one
syncs_begin refusal.NotStarted before behind one = one
syncs_begin refusal.Started before behind one = one
syncs_begin (refusal.LegOpen _ _) before behind one = one
syncs_begin (refusal.TickLimit _) before behind one = one
syncs_begin refusal.InitThere before behind one = one
syncs_begin (refusal.TooMany _) before behind one = one
syncs_begin refusal.Device before behind one = tt
syncs_begin (refusal.Damaged _) before behind one = one
syncs_begin refusal.NoMemory before behind one = tt

syncs_free_begin : (why : Refusal) (before behind : ℕ) → NeedsNoCause why → SyncsJob of_begin (Err why) before behind
syncs_free_begin why before behind (inl is) = subst (λ w. SyncsJob of_begin (Err w) before behind) (sym is) tt
syncs_free_begin why before behind (inr is) = subst (λ w. SyncsJob of_begin (Err w) before behind) (sym is) tt

-- no sync was made
syncs_none : (why : Refusal) (before behind : ℕ) → behind ≡ before → SyncsBehind why before behind
syncs_none (refusal.Params _) before behind same = same
syncs_none (refusal.Snapshot _) before behind same = same
syncs_none (refusal.TooHeavy _ _) before behind same = same
syncs_none refusal.NotStarted before behind same = same
syncs_none refusal.Started before behind same = same
syncs_none (refusal.LegOpen _ _) before behind same = omega (arith, same)
syncs_none (refusal.TickLimit _) before behind same = omega (arith, same)
syncs_none refusal.InitThere before behind same = same
syncs_none (refusal.TooMany _) before behind same = same
syncs_none refusal.Device before behind same = tt
syncs_none (refusal.Damaged _) before behind same = λ _. same
syncs_none refusal.NoMemory before behind same = tt

-- a device fault or want of memory
syncs_any : (why : Refusal) (before behind : ℕ) → NeedsNoCause why → SyncsBehind why before behind
syncs_any why before behind (inl is) = subst (λ w. SyncsBehind w before behind) (sym is) tt
syncs_any why before behind (inr is) = subst (λ w. SyncsBehind w before behind) (sym is) tt

-- the same where the first sync failed, or the line wasn't said
pub syncs_host_begin : (error : HostError) (before behind : ℕ) → SyncsJob of_begin (Err (of_host error)) before behind
syncs_host_begin Fault before behind = tt
syncs_host_begin NoMemory before behind = tt

pub syncs_host_run : (error : HostError) (before behind : ℕ) → SyncsJob of_run (Err (of_host error)) before behind
syncs_host_run Fault before behind = tt
syncs_host_run NoMemory before behind = tt

pub syncs_line_begin : (answer : Result (Unit {0}) HostError) (before behind : ℕ) → before + 1 ≤ behind
    → SyncsJob of_begin (said_answer answer) before behind
syncs_line_begin (Ok tt) before behind more = more
syncs_line_begin (Err Fault) before behind more = tt
syncs_line_begin (Err NoMemory) before behind more = tt

pub syncs_line_run : (answer : Result (Unit {0}) HostError) (before behind : ℕ) → before + 1 ≤ behind
    → SyncsJob of_run (said_answer answer) before behind
syncs_line_run (Ok tt) before behind more = more
syncs_line_run (Err Fault) before behind more = tt
syncs_line_run (Err NoMemory) before behind more = tt

-- what `start` and `demo` owe where they refuse, behind the first sync
pub syncs_start : (why : Refusal) (before middle behind : CallTally) → middle.syncs ≡ before.syncs + 1
    → ((NeedsNoCause why → ⊥) → behind ≡ middle) → SyncsJob of_begin (Err why) before.syncs behind.syncs
syncs_start why before middle behind one unsynced = elim (free_or_not why) [
  | inl free ↦ syncs_free_begin why before.syncs behind.syncs free
  | inr cause ↦ syncs_begin why before.syncs behind.syncs (ap (λ (t : CallTally). t.syncs) (unsynced cause) ∙ one)
]

-- a slot that is spoilt is no file of the journal
syncs_spoilt : (files : ℕ → List ℕ) (why : Refusal) (before behind : ℕ) → IsSlotDamaged files why → SyncsBehind why before behind
syncs_spoilt files why before behind spoilt =
    subst (λ w. SyncsBehind w before behind) (sym spoilt.named) (λ same. absurd (omega (arith, spoilt.file.0, same)))

pub syncs_resume : (files : ℕ → List ℕ) (why : Refusal) (before behind : CallTally)
    → NeedsNoCause why ⊎ IsShowRefused (files journal_file) why ⊎ IsSlotDamaged files why
    → (((log : Log) → IsJournal log (files journal_file) → ⊥) → behind ≡ before) → SyncsBehind why before.syncs behind.syncs
syncs_resume files why before behind (inl free) unsynced = syncs_any why before.syncs behind.syncs free
syncs_resume files why before behind (inr (inl none)) unsynced =
    syncs_none why before.syncs behind.syncs (ap (λ (t : CallTally). t.syncs) (unsynced (λ log journal. not_shown log journal none)))
syncs_resume files why before behind (inr (inr spoilt)) unsynced =
    syncs_spoilt files why before.syncs behind.syncs spoilt

syncs_leg : (target : ℕ) (s : Progress) (why : Refusal) (before behind : ℕ) → IsNoLeg target s why
    → (IsOfLeg why → before ≤ behind) → SyncsBehind why before behind
syncs_leg target s why before behind (inl away) more =
    let leg = subst IsOfLeg (sym away.1) tt in
    subst (λ w. SyncsBehind w before behind) (sym away.1) (more leg)
syncs_leg target s why before behind (inr far) more =
    let leg = subst IsOfLeg (sym far.2) tt in
    subst (λ w. SyncsBehind w before behind) (sym far.2) (more leg)

pub syncs_go : (target : ℕ) (files : ℕ → List ℕ) (why : Refusal) (before behind : CallTally)
    → NeedsNoCause why ⊎ IsGoRefused target files why ⊎ IsSlotDamaged files why
    → (((log : Log) → IsJournal log (files journal_file) → ⊥) → behind ≡ before)
    → (IsOfLeg why → before.syncs ≤ behind.syncs) → SyncsBehind why before.syncs behind.syncs
syncs_go target files why before behind (inl free) unsynced more = syncs_any why before.syncs behind.syncs free
syncs_go target files why before behind (inr (inl (inl none))) unsynced more =
    syncs_none why before.syncs behind.syncs (ap (λ (t : CallTally). t.syncs) (unsynced (λ log journal. not_shown log journal none)))
syncs_go target files why before behind (inr (inl (inr leg))) unsynced more =
    syncs_leg target (progress_of leg.0) why before.syncs behind.syncs leg.2 more
syncs_go target files why before behind (inr (inr spoilt)) unsynced more =
    syncs_spoilt files why before.syncs behind.syncs spoilt

-- the first sync failed
pub counts_first : {H T : Type 0} {m : HostModel H} {by : Image → Image → Type 0} {old new : H} {result : Result T HostError}
    {error : HostError} (all : Syncs) → ((before behind : ℕ) → SyncsJob all (Err (of_host error)) before behind)
    → RanSyncing m 1 Fault by old new result → result ≡ Err error → CountsJob m all old new (Err (of_host error))
counts_first {old = old} {new = new} {error = error} all free ran is = record {
  count = ran.count;
  rose = λ err. ran.rose (is ∙ ap Err (by_device error err));
  spared = λ other. ran.spared (λ err. other (to_device error (sym is ∙ err)));
  refused = λ told. ap (λ (f : Channel → ℕ). f channels.Err) ran.refused;
  heard = λ told ok. absurd (search rules);
  syncs = λ told. free _ _;
} where
  by_device : (error : HostError) → ◌≡◌ {A = Result (Unit {0}) Refusal} (Err (of_host error)) (Err refusal.Device) → error ≡ Fault
  by_device Fault err = refl
  by_device NoMemory err = cc

  to_device : {T : Type 0} (error : HostError) → ◌≡◌ {A = Result T HostError} (Err error) (Err Fault)
      → ◌≡◌ {A = Result (Unit {0}) Refusal} (Err (of_host error)) (Err refusal.Device)
  to_device Fault err = refl
  to_device NoMemory err = cc

-- the session refused, behind the first sync
pub counts_session : {H S T : Type 0} {m : HostModel H} {one two : Image → Image → Type 0} {old middle new : H}
    {first : Result S HostError} {result : Result T Refusal} {why : Refusal} (all : Syncs) → IsOk first
    → RanSyncing m 1 Fault one old middle first → RanSession m two middle new result → result ≡ Err why
    → (IsTrue m.tells → (m.tally middle).syncs ≡ (m.tally old).syncs + 1
    → SyncsJob all (Err why) (m.tally old).syncs (m.tally new).syncs)
    → CountsJob m all old new (Err why)
counts_session {m = m} {old = old} {middle = middle} {new = new} {why = why} all ok before after is syncs =
    let same = before.spared (ok_is_no_error ok) in
    record {
      count = subst (λ n. n ≤ m.faults new) same after.count;
      rose = λ err. stopped_after same (after.rose (is ∙ ap Err (inside err)));
      spared = λ never. after.spared (λ err. never (ap Err (inside (sym is ∙ err)))) ∙ same;
      refused = λ told. after.refused told ∙ ap (λ (f : Channel → ℕ). f channels.Err) before.refused;
      heard = λ told fine. absurd (search rules);
      syncs = λ told. syncs told (before.synced told ok);
    } where
      inside : {T : Type 0} {a b : Refusal} → ◌≡◌ {A = Result T Refusal} (Err a) (Err b) → a ≡ b
      inside same = cc

-- a session that said its lines itself
pub counts_whole : {H S T : Type 0} {m : HostModel H} {one two : Image → Image → Type 0} {old middle new : H}
    {first : Result S HostError} {result : Result T Refusal} → IsOk first → RanSyncing m 1 Fault one old middle first
    → RanSession m two middle new result → IsOk result → CountsJob m of_begin old new (Ok tt)
counts_whole {m = m} {new = new} ok before after done =
    let same = before.spared (ok_is_no_error ok) in
    record {
      count = subst (λ n. n ≤ m.faults new) same after.count;
      rose = λ err. absurd (never err);
      spared = λ _. after.spared (ok_is_no_error done) ∙ same;
      refused = λ told. after.refused told ∙ ap (λ (f : Channel → ℕ). f channels.Err) before.refused;
      heard = λ told fine. after.heard told done ∙ ap (λ (f : Channel → ℕ). f channels.Out) before.refused;
      syncs = λ told. omega (arith, after.synced told done, before.synced told ok);
    } where
      never : ◌≡◌ {A = Result (Unit {0}) Refusal} (Ok tt) (Err refusal.Device) → ⊥
      never same = cc

-- its line, behind the session
pub counts_line : {H S T : Type 0} {m : HostModel H} {one two : Image → Image → Type 0} {old middle last new : H}
    {first : Result S HostError} {result : Result T Refusal} {line : List ℕ} {answer : Result (Unit {0}) HostError} (all : Syncs)
    → ((before behind : ℕ) → before + 1 ≤ behind → SyncsJob all (said_answer answer) before behind) → IsOk first
    → RanSyncing m 1 Fault one old middle first → RanSession m two middle last result → IsOk result
    → RanSaying m channels.Out line last new answer → CountsJob m all old new (said_answer answer)
counts_line {m = m} {new = new} {answer = answer} all said ok before after done spoke =
    let spared = after.spared (ok_is_no_error done) ∙ before.spared (ok_is_no_error ok) in
    record {
      count = subst (λ n. n ≤ m.faults new) spared spoke.count;
      rose = λ err. stopped_after spared (spoke.rose (device answer err));
      spared = λ never. spoke.spared (λ err. never (ap said_answer err)) ∙ spared;
      refused = λ told. (spoke.refused told).others channels.Err Out≢Err
          ∙ after.refused told ∙ ap (λ (f : Channel → ℕ). f channels.Err) before.refused;
      heard = λ told fine. (spoke.refused told).spared (went answer fine)
          ∙ after.heard told done ∙ ap (λ (f : Channel → ℕ). f channels.Out) before.refused;
      syncs = λ told. said _ _
          (omega (arith, after.synced told done, before.synced told ok, ap (λ (n : ℕ). n) spoke.syncs));
    } where
      device : (answer : Result (Unit {0}) HostError) → said_answer answer ≡ Err refusal.Device → answer ≡ Err Fault
      device (Ok tt) err = cc
      device (Err Fault) err = refl
      device (Err NoMemory) err = cc

      went : (answer : Result (Unit {0}) HostError) → IsOk (said_answer answer) → IsOk answer
      went (Ok tt) fine = refl
      went (Err Fault) fine = absurd (search rules)
      went (Err NoMemory) fine = absurd (search rules)
