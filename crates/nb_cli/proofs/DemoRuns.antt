-- `demo`, call by call: how far it came, and what it owes then.
use Rattle.std.proofs.Common.{◌≡◌, ◌≢◌, ◌≤◌, ◌⊎◌, ◌∙◌, ℕ, Bool, inl, inr, arith, List, length, IsTrue, IsOk, Result, Ok, Err, refl, ap, sym, subst}
use Rattle.nb_host.specs.declared.host.Channel.TheVariants as channels
use Rattle.nb_host.specs.Crashes.{Stays}
use Rattle.nb_host.specs.Image.{Image, Says, SaysPart}
use Rattle.nb_host.specs.Meaning.{HostModel, Ran, RanSyncing, IsDurable}
use Rattle.nb_host.proofs.Callers.{leads_more, leads_after, ok_is_no_error}
use Rattle.nb_host.specs.declared.host.HostError.{HostError}
use Rattle.nb_host.specs.declared.host.HostError.TheVariants.{NoMemory}
use Rattle.nb_model.specs.Leapfrog.{escaped_count}
use Rattle.nb_model.specs.Legs.{directions_to}
use Rattle.nb_model.specs.Limits.{most_ticks}
use Rattle.nb_format.specs.Lines.{demo_line}
use Rattle.nb_format.specs.Snapshot.{IsSnapshot}
use Rattle.nb_engine.specs.declared.refusal.Refusal.{Refusal}
use Rattle.nb_engine.specs.declared.refusal.Refusal.TheVariants as refusal
use Rattle.nb_engine.specs.Frame.{RanSession}
use Rattle.nb_engine.specs.Sessions.{ticks_to, GoLeads}
use Rattle.nb_engine.specs.Files.{params_file, init_file}
use Rattle.nb_engine.specs.Refusal.{NeedsNoCause}
use Rattle.nb_engine.specs.Represents.{snap_of}
use Rattle.nb_engine.specs.Start.{started, StartLeads}
use Rattle.nb_engine.proofs.Callers.{length-steps}
use Rattle.nb_cli.specs.Make.{made_bodies, made_params, made_start, IsMadeFrom, MakeLeads, IsMakeRefused, IsOfMake}
use Rattle.nb_cli.specs.Telling.{IsStartDone, IsGoDone, IsDoneThenSaid, LeadsThenSays, LeadsWithoutErr}
use Rattle.nb_cli.specs.Demo.{IsDemoReady, IsOfDemo, demo_list, coordinate_sum, summary_line, IsDemoDone, DemoLeads, IsUnlike}
use Rattle.nb_cli.proofs.DemoCalls.{session_ran, session_syncing, session_by, session_as, session_then, durable_stays, leads_behind}
use Rattle.nb_cli.proofs.MadeStarts.{length-made}
use Rattle.nb_cli.proofs.DemoStages.{IsStartedOn, started_on, led_on, leads_making, leads_starting, leads_going, leads_summing, demo_done}

module _ {H : Type 0} (m : HostModel H) (seed count target : ℕ) where
  abbrev honest : Bool
  honest = m.crashes.is_honest

  -- ---- how far it came

  -- the two files were made
  pub record WasMade (old now : Image) : Type 0 where
    pub can : IsDemoReady old.file target
    pub makes : IsMadeFrom seed count old now

  -- and the run was started
  pub record WasStarted (old now : Image) : Type 0 where
    pub can : IsDemoReady old.file target
    pub made : Image
    pub makes : IsMadeFrom seed count old made
    pub told : IsDoneThenSaid (StartLeads m.crashes.is_honest) IsStartDone made now

  -- and led
  pub record WasLed (old now : Image) : Type 0 where
    pub can : IsDemoReady old.file target
    pub made : Image
    pub makes : IsMadeFrom seed count old made
    pub middle : Image
    pub told : IsDoneThenSaid (StartLeads m.crashes.is_honest) IsStartDone made middle
    pub gone : IsDoneThenSaid (GoLeads m.crashes.is_honest target) (IsGoDone target) middle now

  -- All calls so far answered Ok, what reads is durable, and over a host that tells this is known of it.
  pub record IsSoFar (Facts : Image → Image → Type 0) (old now : H) : Type 0 where
    pub first : IsDurable m old
    pub durable : IsDurable m now
    pub ran : RanSession {T = Unit {0}} m (DemoLeads m.crashes.is_honest seed count target) old now (Ok tt)
    pub facts : IsTrue m.tells → Facts (m.contents old) (m.contents now)

  -- ---- the next call

  pub next_ran : {T : Type 0} {Facts B : Image → Image → Type 0} {old middle new : H} {result : Result T Refusal} → IsSoFar Facts old middle
      → RanSession m B middle new result
      → (IsTrue m.tells → (start between image : Image) → Facts start between → B between image
      → DemoLeads honest seed count target start image)
      → RanSession m (DemoLeads honest seed count target) old new result
  next_ran so ran more =
      session_then refl so.ran ran
      (leads_behind so.first so.ran.leads so.durable ran.leads (λ tells image step. step)
      (λ tells image step. more tells _ _ image (so.facts tells) step))

  next_so : {T : Type 0} {Facts : Image → Image → Type 0} {old new : H} {result : Result T Refusal} → IsDurable m old
      → IsOk result → RanSession m (DemoLeads honest seed count target) old new result → IsDurable m new
      → (IsTrue m.tells → Facts (m.contents old) (m.contents new)) → IsSoFar Facts old new
  next_so first ok ran durable facts = record {
    first = first;
    durable = durable;
    ran = session_as ran (λ faulted. absurd (is_ok faulted)) (λ faulted. absurd (ok_is_no_error ok faulted)) (λ _. ok);
    facts = facts;
  } where
    is_ok : ◌≡◌ {A = Result (Unit {0}) Refusal} (Ok tt) (Err refusal.Device) → ⊥
    is_ok same = cc

  -- nothing was found
  pub found_ran : {T : Type 0} {old new : H} {result : Result T Refusal} → Ran m refusal.Device Stays old new result
      → RanSession m (DemoLeads honest seed count target) old new result
  found_ran ran =
      session_by (session_ran ran)
      (leads_more ran.leads
      (λ start image same. record { leads = inl same; err = ap (λ (i : Image). i.said channels.Err) same }))

  pub found_so : {T : Type 0} {old new : H} {result : Result T Refusal} → IsDurable m old → IsOk result
      → Ran m refusal.Device Stays old new result → (IsTrue m.tells → IsDemoReady (m.contents old).file target)
      → IsSoFar (λ start image. IsDemoReady start.file target × (image ≡ start)) old new
  found_so durable ok ran can =
      next_so durable ok (found_ran ran) (durable_stays durable ran.leads) (λ tells. (can tells, ran.leads.contents tells))

  -- the files are made
  pub made_ran : {T : Type 0} {old middle new : H} {syncs : ℕ} {result : Result T Refusal}
      → IsSoFar (λ start image. IsDemoReady start.file target × (image ≡ start)) old middle
      → RanSyncing m syncs refusal.Device (MakeLeads seed count) middle new result
      → RanSession m (DemoLeads honest seed count target) old new result
  made_ran so ran =
      next_ran so (session_syncing ran)
      (λ tells start between image facts step.
      leads_making honest seed count target facts.0 (subst (λ (i : Image). MakeLeads seed count i image) facts.1 step))

  pub made_so : {T : Type 0} {old middle new : H} {syncs : ℕ} {result : Result T Refusal} → IsOk result
      → IsSoFar (λ start image. IsDemoReady start.file target × (image ≡ start)) old middle
      → RanSyncing m syncs refusal.Device (MakeLeads seed count) middle new result → IsDurable m new
      → (IsTrue m.tells → IsMadeFrom seed count (m.contents middle) (m.contents new)) → IsSoFar WasMade old new
  made_so {new = new} ok so ran durable makes =
      next_so so.first ok (made_ran so ran) durable
      (λ tells.
      let facts = so.facts tells in
      record { can = facts.0; makes = subst (λ (i : Image). IsMadeFrom seed count i (m.contents new)) facts.1 (makes tells) })

  -- what only reads
  pub reading_ran : {T : Type 0} {Facts : Image → Image → Type 0} {old middle new : H} {result : Result T Refusal} → IsSoFar Facts old middle
      → Ran m refusal.Device Stays middle new result → RanSession m (DemoLeads honest seed count target) old new result
  reading_ran so ran =
      session_then refl so.ran (session_ran ran) (leads_after so.ran.leads ran.leads)

  pub reading_so : {T : Type 0} {Facts : Image → Image → Type 0} {old middle new : H} {result : Result T Refusal} → IsOk result
      → IsSoFar Facts old middle → Ran m refusal.Device Stays middle new result → IsSoFar Facts old new
  reading_so {Facts = Facts} {old = old} ok so ran =
      next_so so.first ok (reading_ran so ran) (durable_stays so.durable ran.leads)
      (λ tells. subst (λ (i : Image). Facts (m.contents old) i) (sym (ran.leads.contents tells)) (so.facts tells))

  -- the run is started
  pub started_ran : {T : Type 0} {old middle new : H} {result : Result T Refusal} → IsSoFar WasMade old middle
      → RanSession m (LeadsWithoutErr (LeadsThenSays (StartLeads honest) IsStartDone)) middle new result
      → RanSession m (DemoLeads honest seed count target) old new result
  started_ran so ran =
      next_ran so ran (λ tells start between image facts step. leads_starting honest seed count target facts.can facts.makes step)

  pub started_so : {T : Type 0} {old middle new : H} {result : Result T Refusal} → IsOk result → IsSoFar WasMade old middle
      → RanSession m (LeadsWithoutErr (LeadsThenSays (StartLeads honest) IsStartDone)) middle new result → IsDurable m new
      → (IsTrue m.tells → IsDoneThenSaid (StartLeads honest) IsStartDone (m.contents middle) (m.contents new))
      → IsSoFar WasStarted old new
  started_so {middle = middle} ok so ran durable told =
      next_so so.first ok (started_ran so ran) durable
      (λ tells.
      let facts = so.facts tells in
      record { can = facts.can; made = m.contents middle; makes = facts.makes; told = told tells })

  -- and led
  pub led_ran : {T : Type 0} {old middle new : H} {result : Result T Refusal} → IsSoFar WasStarted old middle
      → RanSession m (LeadsWithoutErr (LeadsThenSays (GoLeads honest target) (IsGoDone target))) middle new result
      → RanSession m (DemoLeads honest seed count target) old new result
  led_ran so ran =
      next_ran so ran (λ tells start between image facts step. leads_going honest seed count target facts.can facts.makes facts.told step)

  pub led_so : {T : Type 0} {old middle new : H} {result : Result T Refusal} → IsOk result → IsSoFar WasStarted old middle
      → RanSession m (LeadsWithoutErr (LeadsThenSays (GoLeads honest target) (IsGoDone target))) middle new result → IsDurable m new
      → (IsTrue m.tells → IsDoneThenSaid (GoLeads honest target) (IsGoDone target) (m.contents middle) (m.contents new))
      → IsSoFar WasLed old new
  led_so {middle = middle} ok so ran durable gone =
      next_so so.first ok (led_ran so ran) durable
      (λ tells.
      let facts = so.facts tells in
      record {
        can = facts.can;
        made = facts.made;
        makes = facts.makes;
        middle = m.contents middle;
        told = facts.told;
        gone = gone tells;
      })

  -- and its last line is said
  pub summed_ran : {T : Type 0} {old middle new : H} {result : Result T Refusal} (line : List ℕ) → IsSoFar WasLed old middle
      → RanSession m (SaysPart channels.Out line) middle new result → (IsTrue m.tells → line ≡ summary_line seed count target)
      → RanSession m (DemoLeads honest seed count target) old new result
  summed_ran line so ran same =
      next_ran so ran
      (λ tells start between image facts step.
      leads_summing honest seed count target facts.can facts.makes facts.told facts.gone
      (subst (λ (l : List ℕ). SaysPart channels.Out l between image) (same tells) step))

  pub demo_all : {old middle new : H} (line : List ℕ) → IsSoFar WasLed old middle → IsTrue m.tells
      → line ≡ summary_line seed count target → Says channels.Out line (m.contents middle) (m.contents new)
      → IsDemoDone honest seed count target (m.contents old) (m.contents new)
  demo_all {middle = middle} {new = new} line so tells same says =
      let facts = so.facts tells in
      demo_done honest seed count target facts.can facts.makes facts.told facts.gone
      (subst (λ (l : List ℕ). Says channels.Out l (m.contents middle) (m.contents new)) same says)

  -- ---- what is known of the folder

  pub begun_told : {old middle : H} → IsSoFar WasStarted old middle → IsTrue m.tells
      → IsStartedOn honest seed count target (m.contents old) (m.contents middle)
  begun_told so tells = let facts = so.facts tells in started_on honest seed count target facts.can facts.makes facts.told

  pub few_told : {old middle : H} → IsSoFar WasStarted old middle → IsTrue m.tells
      → ticks_to target (started (made_start seed count)) ≤ most_ticks
  few_told so tells = let few = (so.facts tells).can.few in omega (arith, few)

  pub list_told : {old middle : H} → IsSoFar WasLed old middle → IsTrue m.tells → (file : ℕ) → (target ≡ 0 → file ≡ init_file)
      → (target ≢ 0 → file ≡ snap_of target) → IsSnapshot ((m.contents middle).file file) (demo_list seed count target) target
  list_told so tells =
      let facts = so.facts tells in
      (led_on honest seed count target (started_on honest seed count target facts.can facts.makes facts.told) facts.gone).snapshot

  pub length_list : length (demo_list seed count target) ≡ count
  length_list = length-steps (made_params count) (directions_to 0 target) (made_bodies seed count) ∙ length-made seed count

-- the line that is made of the answers
pub line_told : (seed count target gone sum : ℕ) (line : List ℕ) → line ≡ demo_line count gone sum
    → gone ≡ escaped_count (demo_list seed count target) → sum ≡ coordinate_sum (demo_list seed count target)
    → line ≡ summary_line seed count target
line_told seed count target gone sum line is gone_is sum_is =
    is ∙ ap (λ (n : ℕ). demo_line count n sum) gone_is ∙ ap (demo_line count (escaped_count (demo_list seed count target))) sum_is

-- ---- refusals

pub needless_of_demo : {why : Refusal} → NeedsNoCause why → IsOfDemo why
needless_of_demo (inl device) = subst IsOfDemo (sym device) tt
needless_of_demo (inr memory) = subst IsOfDemo (sym memory) tt

pub unlike_of_demo : {H : Type 0} {m : HostModel H} {file : ℕ} {Written : Type 0} {why : Refusal} → IsUnlike m file Written why
    → IsOfDemo why
unlike_of_demo unlike = subst IsOfDemo (sym unlike.named) tt

pub made_of_demo : (why : Refusal) → IsOfMake why → IsOfDemo why
made_of_demo refusal.InitThere of_make = tt
made_of_demo refusal.Device of_make = tt
made_of_demo refusal.NoMemory of_make = tt
made_of_demo _ of_make = absurd of_make

-- what is owed where a refusal has a cause, where only one without a cause can come
pub never_behind : {H : Type 0} (m : HostModel H) {why : Refusal} {Owed : Type 0} → (IsTrue m.tells → NeedsNoCause why)
    → IsTrue m.tells → (NeedsNoCause why → ⊥) → Owed
never_behind m needless told caused = absurd (caused (needless told))

-- `make` isn't refused behind a look that found nothing
pub made_needless : {files now : ℕ → List ℕ} {target : ℕ} {why : Refusal} → IsDemoReady files target → now ≡ files
    → NeedsNoCause why ⊎ IsMakeRefused now why → NeedsNoCause why
made_needless can same (inl needless) = needless
made_needless can same (inr there) = elim there.some [
  | inl params ↦ absurd (params (ap (λ (f : ℕ → List ℕ). f params_file) same ∙ can.can.params))
  | inr init ↦ absurd (init (ap (λ (f : ℕ → List ℕ). f init_file) same ∙ can.can.init))
]
