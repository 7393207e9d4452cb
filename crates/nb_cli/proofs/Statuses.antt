-- What the top call's status and files are, from what its run did and how its refusal was told.
use Rattle.std.proofs.Common.{◌≡◌, ◌≢◌, ◌⊎◌, inl, inr, ℕ, ◌≤◌, Bool, IsTrue, List, refl, ap, sym, subst, ◌∙◌, arith, Result, Err, ◌↔◌}
use Rattle.std.specs.Prelude.{Contains}
use Rattle.nb_host.specs.declared.host.Channel.{Channel}
use Rattle.nb_host.specs.declared.host.Channel.TheVariants as channels
use Rattle.nb_host.specs.declared.host.HostError.{HostError}
use Rattle.nb_host.specs.declared.host.HostError.TheVariants.{Fault, NoMemory}
use Rattle.nb_host.specs.Image.{Image, SaysPart}
use Rattle.nb_host.specs.Meaning.{HostModel, Leads}
use Rattle.nb_host.specs.Crashes.{Stays}
use Rattle.nb_host.proofs.Callers.{leads_none, leads_more, leads_then, leads_before, stays_contents}
use Rattle.nb_model.specs.Leapfrog.{escaped_count}
use Rattle.nb_format.specs.Lines.{made_line, once_line}
use Rattle.nb_format.specs.Snapshot.{IsSnapshot, IsUnfinished}
use Rattle.nb_journal.specs.Form.{Log, IsJournal}
use Rattle.nb_journal.specs.Offsets.{journal_file}
use Rattle.nb_engine.specs.declared.going.Pace.{Pace}
use Rattle.nb_engine.specs.Refusal.{of_host}
use Rattle.nb_engine.specs.Represents.{RepresentsRun}
use Rattle.nb_engine.specs.Sessions.{IsBroughtUp}
use Rattle.nb_engine.specs.Shown.{IsShowRefused}
use Rattle.nb_engine.specs.Start.{Start, IsStartReady}
use Rattle.nb_engine.specs.Steps.{SaidPrefixOf}
use Rattle.nb_engine.specs.declared.refusal.Refusal.{Refusal}
use Rattle.nb_engine.specs.declared.refusal.Refusal.TheVariants as refusal
use Rattle.nb_cli.specs.declared.stop.Stop.{Stop}
use Rattle.nb_cli.specs.declared.stop.Stop.TheVariants as stop
use Rattle.nb_cli.specs.declared.words.Job.{Job}
use Rattle.nb_cli.specs.declared.words.Job.TheVariants as job
use Rattle.nb_cli.specs.Words.{IsJob, IsNoCommand}
use Rattle.nb_cli.specs.Stop.{status_of, stop_status, IsWithoutCause, IsSayable}
use Rattle.nb_cli.specs.Once.{once_file, once_ticks, list_at}
use Rattle.nb_cli.specs.Show.{show_text}
use Rattle.nb_engine.specs.Files.{init_file}
use Rattle.nb_cli.specs.Make.{HasMade, ParamsComeFirst, IsMaking, IsMakePartlyDone}
use Rattle.nb_cli.specs.Telling.{IsGoDone, LeadsThenSays, SaysPrefix}
use Rattle.nb_cli.specs.Demo.{demo_text, LeadsOn, StartsOn, IsDemoPartlyDone}
use Rattle.nb_cli.specs.Answer.{statuses, Yields, ComesWhere, ComesByCause, HasCause, HasCauseOf, HasDamage, IsDamagedBy, IsJobReady, IsJobRefused, IsJobDone, IsJobPartlyDone, BringsUp, BringsUpWords, IsUntouched, IsLeftSo, LeavesAll, Touches, CallTouches, JobTouches, HasBegun, HasBegunOrNot, JobBegins, JobBeginsOrNot, WasReported}
use Rattle.nb_cli.proofs.Commands.{one_job}
use Rattle.nb_cli.proofs.Causes.{IsCause, no_cause, one_cause, not_gone, not_shown, not_refused_job}
use Rattle.nb_cli.proofs.Saying.{behind_answer, behind_kept}

-- The run was done.
abbrev pub HasFinished : Bool → List (List ℕ) → Image → Image → Type 0
HasFinished honest words old now =
    (job : Job) × IsJob words job × IsJobDone honest job old now

-- Why a run isn't done: by a cause, or since a slot is spoilt, or without a cause.
abbrev pub IsReason : List (List ℕ) → (ℕ → List ℕ) → Stop → Type 0
IsReason words files why = HasCause words files why ⊎ HasDamage words files why ⊎ IsWithoutCause why

-- why a command isn't done, as the program tells it
pub run_reason : {words : List (List ℕ)} {files : ℕ → List ℕ} (job : Job) {why : Refusal} → IsJob words job
    → IsCause files job why → IsReason words files (stop.Refused why)
run_reason job is (inl (inl device)) = inr (inr (inl (ap stop.Refused device)))
run_reason job is (inl (inr memory)) = inr (inr (inr (ap stop.Refused memory)))
run_reason job {why = why} is (inr (inl refused)) = inl (inr (job, why, refl, is, refused))
run_reason job {why = why} is (inr (inr spoilt)) = inr (inl (job, why, refl, is, spoilt))

pub no_words_reason : {words : List (List ℕ)} {files : ℕ → List ℕ} → IsNoCommand words → IsReason words files stop.Words
no_words_reason none = inl (inl (refl, none))

-- A run that was refused so ended with this status.
pub record IsRefusal (words : List (List ℕ)) (old : Image) (why : Stop) (result : ℕ) : Type 0 where
  pub cause : IsReason words old.file why
  pub answer : (result ≡ stop_status why) ⊎ Yields result
  pub kept : Yields (stop_status why) → result ≡ stop_status why

pub told_answer : {H : Type 0} {m : HostModel H} {why : Stop} {old new : H} {status : ℕ} → WasReported m why old new status
    → (status ≡ stop_status why) ⊎ Yields status
told_answer {why = why} told =
    subst (λ n. (n ≡ stop_status why) ⊎ Yields n) (sym told.status_is) (behind_answer why told.answer)

pub refusal_told : {H : Type 0} {m : HostModel H} {words : List (List ℕ)} {image : Image} {why : Stop} {old new : H} {status : ℕ}
    → IsReason words image.file why → WasReported m why old new status → IsRefusal words image why status
refusal_told {why = why} cause told = record {
  cause = cause;
  answer = told_answer told;
  kept = λ yields. told.status_is ∙ behind_kept why told.answer yields;
}

free_yields : {why : Stop} → IsWithoutCause why → Yields (stop_status why)
free_yields (inl is) = inl (ap stop_status is)
free_yields (inr is) = inr (ap stop_status is)

-- a refusal without a cause is answered by its own status
pub free_answer : {why : Stop} {result : ℕ} → IsWithoutCause why → (Yields (stop_status why) → result ≡ stop_status why) → Yields result
free_answer free kept = let yields = free_yields free in subst Yields (sym (kept yields)) yields

-- A command that was done could be done.
job_ready : (honest : Bool) (old now : Image) (job : Job) → IsJobDone honest job old now → IsJobReady old.file job
job_ready honest old now (job.Start pages) done = (done.done.start, done.done.ready)
job_ready honest old now (job.Go target pace) done = done.done.could
job_ready honest old now (job.Resume pace) done = done.done.could
job_ready honest old now (job.Once target) done = (done.0, done.1)
job_ready honest old now job.Show done = (done.0, done.1)
job_ready honest old now (job.Make seed count) done = done.can
job_ready honest old now (job.Demo seed count target pace) done = done.can

-- The run of a finished command met no cause.
pub finished_no_cause : {honest : Bool} {words : List (List ℕ)} {old now : Image} {why : Stop} → HasFinished honest words old now
    → HasCause words old.file why → ⊥
finished_no_cause {honest = honest} {old = old} {now = now} done cause =
    no_cause done.0 done.1 (job_ready honest old now done.0 done.2) cause

pub finished_where : {honest : Bool} {words : List (List ℕ)} {old now : Image} {status : ℕ} → HasFinished honest words old now
    → status ≢ 0 → ComesByCause words old.file status 0
finished_where done other = record { only = λ is. absurd (other (sym is)); always = λ holds. absurd (finished_no_cause done holds.1) }

cause_of-status : {words : List (List ℕ)} {files : ℕ → List ℕ} {why : Stop} {status result : ℕ} → IsReason words files why
    → ((result ≡ stop_status why) ⊎ Yields result) → (Yields status → ⊥) → result ≡ status
    → HasCauseOf words files status ⊎ IsDamagedBy words files status
cause_of-status {why = why} (inl cause) (inl same) steady is = inl (why, cause, sym same ∙ is)
cause_of-status {why = why} (inr (inl spoilt)) (inl same) steady is = inr (why, spoilt, sym same ∙ is)
cause_of-status (inr (inr free)) (inl same) steady is = absurd (steady (subst Yields (sym same ∙ is) (free_yields free)))
cause_of-status cause (inr yields) steady is = absurd (steady (subst Yields is yields))

status_of-cause : {words : List (List ℕ)} {files : ℕ → List ℕ} {why : Stop} {status result : ℕ} → IsReason words files why
    → ((result ≡ stop_status why) ⊎ Yields result) → (Yields (stop_status why) → result ≡ stop_status why) → HasCauseOf words files status
    → (result ≡ status) ⊎ Yields result ⊎ IsDamagedBy words files result
status_of-cause {words = words} {files = files} (inl cause) (inl same) kept holds =
    inl (same ∙ ap stop_status (one_cause {words = words} {files = files} cause holds.1) ∙ holds.2)
status_of-cause {why = why} (inr (inl spoilt)) (inl same) kept holds = inr (inr (why, spoilt, sym same))
status_of-cause (inr (inr free)) (inl same) kept holds = inr (inl (free_answer free kept))
status_of-cause cause (inr yields) kept holds = inr (inl yields)

-- A status comes where its cause holds, and yields.
pub refused_where : {words : List (List ℕ)} {old : Image} {why : Stop} {status result : ℕ}
    → IsRefusal words old why result → (Yields status → ⊥) → ComesByCause words old.file status result
refused_where refused steady = record {
  only = λ is. cause_of-status refused.cause refused.answer steady is;
  always = λ holds. status_of-cause refused.cause refused.answer refused.kept holds;
}

complete_by : {words : List (List ℕ)} {files : ℕ → List ℕ} {why : Stop} {result : ℕ} (job : Job)
    → IsReason words files why → ((result ≡ stop_status why) ⊎ Yields result) → (Yields (stop_status why) → result ≡ stop_status why)
    → IsJob words job → IsJobReady files job → Yields result ⊎ IsDamagedBy words files result
complete_by job (inl cause) answer kept is ready = absurd (no_cause job is ready cause)
complete_by {why = why} job (inr (inl spoilt)) (inl same) kept is ready = inr (why, spoilt, sym same)
complete_by job (inr (inl spoilt)) (inr yields) kept is ready = inl yields
complete_by job (inr (inr free)) answer kept is ready = inl (free_answer free kept)

-- Where the command can be done the reason is a device fault or want of memory, or a slot is spoilt.
pub refused_complete : {words : List (List ℕ)} {old : Image} {why : Stop} {result : ℕ} (job : Job)
    → IsRefusal words old why result → IsJob words job → IsJobReady old.file job
    → Yields result ⊎ IsDamagedBy words old.file result
refused_complete job refused is ready = complete_by job refused.cause refused.answer refused.kept is ready

-- A refusal's status is none of the first two.
large_status : (why : Refusal) → 2 ≤ status_of why
large_status (refusal.Params _) = omega arith
large_status (refusal.Snapshot _) = omega arith
large_status (refusal.TooHeavy _ _) = omega arith
large_status refusal.NotStarted = omega arith
large_status refusal.Started = omega arith
large_status (refusal.LegOpen _ _) = omega arith
large_status (refusal.TickLimit _) = omega arith
large_status refusal.InitThere = omega arith
large_status (refusal.TooMany _) = omega arith
large_status refusal.Device = omega arith
large_status (refusal.Damaged _) = omega arith
large_status refusal.NoMemory = omega arith

-- No reason's status is 0.
pub not_done : (why : Stop) (result : ℕ) → (result ≡ stop_status why) ⊎ Yields result → result ≡ 0 → ⊥
not_done stop.Words result (inl is) done = omega arith
not_done (stop.Refused why) result (inl is) done = omega (arith, large_status why)
not_done why result (inr (inl is)) done = omega arith
not_done why result (inr (inr is)) done = omega arith

-- A reason that is given answers one of the statuses.
pub status_in : (why : Stop) (result : ℕ) → IsSayable why → (result ≡ stop_status why) ⊎ Yields result → Contains statuses result
status_in stop.Words result sayable (inl is) = (1, omega arith, sym is)
status_in (stop.Refused (refusal.Params _)) result sayable (inl is) = (2, omega arith, sym is)
status_in (stop.Refused (refusal.Snapshot _)) result sayable (inl is) = (3, omega arith, sym is)
status_in (stop.Refused (refusal.TooHeavy _ _)) result sayable (inl is) = (4, omega arith, sym is)
status_in (stop.Refused refusal.NotStarted) result sayable (inl is) = (5, omega arith, sym is)
status_in (stop.Refused refusal.Started) result sayable (inl is) = (6, omega arith, sym is)
status_in (stop.Refused (refusal.LegOpen _ _)) result sayable (inl is) = (7, omega arith, sym is)
status_in (stop.Refused (refusal.TickLimit _)) result sayable (inl is) = (8, omega arith, sym is)
status_in (stop.Refused refusal.InitThere) result sayable (inl is) = (9, omega arith, sym is)
status_in (stop.Refused (refusal.TooMany _)) result sayable (inl is) = (10, omega arith, sym is)
status_in (stop.Refused refusal.Device) result sayable (inl is) = (11, omega arith, sym is)
status_in (stop.Refused (refusal.Damaged _)) result sayable (inl is) = (12, omega arith, sym is)
status_in (stop.Refused refusal.NoMemory) result sayable (inl is) = (13, omega arith, sym is)
status_in why result sayable (inr (inl is)) = (11, omega arith, sym is)
status_in why result sayable (inr (inr is)) = (13, omega arith, sym is)

steady_words : Yields 1 → ⊥
steady_words (inl is) = absurd (omega arith)
steady_words (inr is) = absurd (omega arith)

words_by_status : (why : Stop) → stop_status why ≡ 1 → why ≡ stop.Words
words_by_status stop.Words is = refl
words_by_status (stop.Refused why) is = absurd (omega (arith, large_status why, is))

words_only : {NoCommand : Type 0} (why : Stop) (result : ℕ) → (why ≡ stop.Words → NoCommand) → (result ≡ stop_status why) ⊎ Yields result
    → result ≡ 1 → NoCommand
words_only why result only (inl same) is = only (words_by_status why (sym same ∙ is))
words_only why result only (inr yields) is = absurd (steady_words (subst Yields is yields))

words_always : (why : Stop) (result : ℕ) → why ≡ stop.Words → (result ≡ stop_status why) ⊎ Yields result → (result ≡ 1) ⊎ Yields result
words_always why result is (inl same) = inl (same ∙ ap stop_status is)
words_always why result is (inr yields) = inr yields

-- the same refusal
same_reason : {T : Type 0} {a b : Stop} → ◌≡◌ {A = Result T Stop} (Err a) (Err b) → a ≡ b
same_reason same = cc

-- what a refusal for want of memory answers stays so
pub told_kept : {H : Type 0} {m : HostModel H} {why : Stop} {old new : H} {status : ℕ} → WasReported m why old new status
    → Yields (stop_status why) → status ≡ stop_status why
told_kept {why = why} told yields = told.status_is ∙ behind_kept why told.answer yields

-- The status of the words comes exactly where they are no command, and yields.
pub words_where : {T NoCommand : Type 0} {why : Stop} {result : ℕ} → (◌≡◌ {A = Result T Stop} (Err why) (Err stop.Words) → NoCommand)
    → (NoCommand → ◌≡◌ {A = Result T Stop} (Err why) (Err stop.Words)
    ⊎ ◌≡◌ {A = Result T Stop} (Err why) (Err (stop.Refused refusal.NoMemory)))
    → (result ≡ stop_status why) ⊎ Yields result → (Yields (stop_status why) → result ≡ stop_status why)
    → ComesWhere 1 result NoCommand
words_where {why = why} {result = result} only always answer kept = record {
  only = λ is. words_only why result (λ same. only (ap Err same)) answer is;
  always = λ none. elim (always none) [
    | inl is ↦ words_always why result (same_reason is) answer
    | inr is ↦
        let free = subst (λ (w : Stop). Yields (stop_status w)) (sym (same_reason is)) (inr refl) in
        inr (subst Yields (sym (kept free)) free)
  ];
}

-- What may have changed.

pub run_touches : {honest : Bool} {words : List (List ℕ)} {files : ℕ → List ℕ} {job : Job} {old now : Image} → IsJob words job
    → JobTouches honest files job old now → CallTouches honest words files old now
run_touches {honest = honest} {words = words} {files = files} {job = job} {old = old} {now = now} is run =
    record { touches = by run.touches; err = run.err } where
      by : (now ≡ old) ⊎ IsJobPartlyDone honest files job old now → Touches honest words files old now
      by (inl same) = inl (record {
        files = ap (λ (image : Image). image.file) same;
        out = ap (λ (image : Image). image.said channels.Out) same;
      })
      by (inr some) = inr (job, is, some)

Err≢Out : ◌≡◌ {A = Channel} channels.Out channels.Err → ⊥
Err≢Out same = cc

-- what is said on Err behind a command changes nothing else
then_told : {by : Image → Image → Type 0} {Did : Image → Image → List ℕ → Type 0} {old middle now : Image} {line : List ℕ}
    → LeadsThenSays by Did old middle → SaysPart channels.Err line middle now → LeadsThenSays by Did old now
then_told {Did = Did} {old = old} then part =
    let spared = part.2.others channels.Out Err≢Out in
    record {
      between = then.between;
      leads = then.leads;
      files = part.2.files ∙ then.files;
      told = elim then.told [
        | inl same ↦ inl (spared ∙ same)
        | inr some ↦ inr (some.0, some.1, (some.2.0, some.2.1, spared ∙ some.2.2))
      ];
    }

make_told : {seed count : ℕ} {old middle now : Image} {line : List ℕ} → IsMakePartlyDone seed count old middle
    → SaysPart channels.Err line middle now → IsMakePartlyDone seed count old now
make_told {seed} {count} {old} {middle} {now} make part =
    let spared = part.2.others channels.Out Err≢Out in
    record {
      can = make.can;
      first = subst (ParamsComeFirst count) (sym part.2.files) make.first;
      whole = subst (λ (f : ℕ → List ℕ). IsUnfinished (f init_file) ⊎ HasMade seed count f) (sym part.2.files) make.whole;
      others = λ number first second. ap (λ (f : ℕ → List ℕ). f number) part.2.files ∙ make.others number first second;
      out = subst (λ (said : List ℕ). SaidPrefixOf (made_line count) (old.said channels.Out) said) (sym spared) make.out;
      said_last = elim make.said_last [
        | inl same ↦ inl (spared ∙ same)
        | inr made ↦ inr (subst (λ (f : ℕ → List ℕ). HasMade seed count f) (sym part.2.files) made)
      ];
    }

-- the same behind `demo`, however far it came
front_told : {text : List ℕ} {old middle now : Image} {line : List ℕ} → SaysPrefix text old middle
    → SaysPart channels.Err line middle now → SaysPrefix text old now
front_told {text = text} {old = old} front part = record {
  files = part.2.files ∙ front.files;
  out = subst (λ (said : List ℕ). SaidPrefixOf text (old.said channels.Out) said) (sym (part.2.others channels.Out Err≢Out)) front.out;
}

leading_told : (honest : Bool) (seed count target : ℕ) {old middle now : Image} {line : List ℕ}
    → LeadsOn honest seed count target old middle → SaysPart channels.Err line middle now → LeadsOn honest seed count target old now
leading_told honest seed count target (inl then) part = inl (then_told then part)
leading_told honest seed count target (inr does) part =
    inr (record { between = does.between; does = does.does; next = front_told does.next part })

starting_told : (honest : Bool) (seed count target : ℕ) {old middle now : Image} {line : List ℕ}
    → StartsOn honest seed count target old middle → SaysPart channels.Err line middle now → StartsOn honest seed count target old now
starting_told honest seed count target (inl then) part = inl (then_told then part)
starting_told honest seed count target (inr does) part =
    inr (record { between = does.between; does = does.does; next = leading_told honest seed count target does.next part })

making_told : {seed count : ℕ} {old middle now : Image} {line : List ℕ} → IsMaking seed count old middle
    → SaysPart channels.Err line middle now → IsMaking seed count old now
making_told {seed = seed} {count = count} making part = record {
  can = making.can;
  first = subst (ParamsComeFirst count) (sym part.2.files) making.first;
  whole = subst (λ (f : ℕ → List ℕ). IsUnfinished (f init_file) ⊎ HasMade seed count f) (sym part.2.files) making.whole;
  others = λ number first second. ap (λ (f : ℕ → List ℕ). f number) part.2.files ∙ making.others number first second;
  out = part.2.others channels.Out Err≢Out ∙ making.out;
}

demo_told : (honest : Bool) (seed count target : ℕ) {old middle now : Image} {line : List ℕ}
    → IsDemoPartlyDone honest seed count target old middle → SaysPart channels.Err line middle now
    → IsDemoPartlyDone honest seed count target old now
demo_told honest seed count target {old = old} demo part = record {
  can = demo.can;
  does = elim demo.does [
    | inl making ↦ inl (making_told making part)
    | inr makes ↦ inr (record {
      made = makes.made;
      makes = makes.makes;
      next = starting_told honest seed count target makes.next part;
    })
  ];
  out = λ is_honest.
      subst (λ (said : List ℕ). SaidPrefixOf (demo_text seed count target) (old.said channels.Out) said)
      (sym (part.2.others channels.Out Err≢Out)) (demo.out is_honest);
}

partly_told : (honest : Bool) (files : ℕ → List ℕ) (job : Job) (old : Image) {middle now : Image} {line : List ℕ}
    → IsJobPartlyDone honest files job old middle → SaysPart channels.Err line middle now → IsJobPartlyDone honest files job old now
partly_told honest files (job.Start pages) old some part = then_told some part
partly_told honest files (job.Go target pace) old some part = then_told some part
partly_told honest files (job.Resume pace) old some part = then_told some part
partly_told honest files (job.Once target) old {middle = middle} {now = now} some part =
    let start = some.0 in
    let within = some.2 in
    let spared = part.2.others channels.Out Err≢Out in
    let P : List ℕ → Type 0 = λ said. SaidPrefixOf (once_line target (once_ticks target start) (escaped_count (list_at target start))) (old.said channels.Out) said in
    let Q : List ℕ → (ℕ → List ℕ) → Type 0 = λ said files. (said ≡ old.said channels.Out) ⊎ IsSnapshot (files once_file) (list_at target start) target in (
      start,
      some.1,
      record {
        others = λ number other. ap (λ (f : ℕ → List ℕ). f number) part.2.files ∙ within.others number other;
        out = subst P (sym spared) within.out;
        said_last = subst (λ said. Q said now.file) (sym spared) (subst (Q (middle.said channels.Out)) (sym part.2.files) within.said_last);
      },
    )
partly_told honest files job.Show old some part =
    let P : List ℕ → Type 0 = λ said. SaidPrefixOf (show_text some.0) (old.said channels.Out) said in (
      some.0,
      some.1,
      record {
        files = part.2.files ∙ some.2.files;
        out = subst P (sym (part.2.others channels.Out Err≢Out)) some.2.out;
      },
    )
partly_told honest files (job.Make seed count) old some part = make_told some part
partly_told honest files (job.Demo seed count target pace) old some part = demo_told honest seed count target some part

touches_told : {honest : Bool} {words : List (List ℕ)} {files : ℕ → List ℕ} {old middle now : Image} {line : List ℕ}
    → Touches honest words files old middle → SaysPart channels.Err line middle now → Touches honest words files old now
touches_told (inl none) part = inl (record {
  files = part.2.files ∙ none.files;
  out = part.2.others channels.Out Err≢Out ∙ none.out;
})
touches_told {honest = honest} {files = files} {old = old} (inr some) part =
    inr (some.0, some.1, partly_told honest files some.0 old some.2 part)

-- ---- where a cause holds

-- nothing was said, where what is told can't be done
not_told : {by : Image → Image → Type 0} {Did : Image → Image → List ℕ → Type 0} {old now : Image}
    (then : LeadsThenSays by Did old now) → ((between : Image) (line : List ℕ) → Did old between line → ⊥)
    → now.said channels.Out ≡ then.between.said channels.Out
not_told then never = elim then.told [
  | inl same ↦ same
  | inr some ↦ absurd (never then.between some.0 some.1)
]

untouched_by : {by : Image → Image → Type 0} {Did : Image → Image → List ℕ → Type 0} {old now : Image}
    (then : LeadsThenSays by Did old now) → ((between : Image) (line : List ℕ) → Did old between line → ⊥) → then.between ≡ old
    → IsUntouched old now
untouched_by then never same = record {
  files = then.files ∙ ap (λ (image : Image). image.file) same;
  out = not_told then never ∙ ap (λ (image : Image). image.said channels.Out) same;
}

-- a session that needs a journal
no_journal : (old : Image) {why : Refusal} → IsShowRefused (old.file journal_file) why → (log : Log)
    → IsJournal log (old.file journal_file) → ⊥
no_journal old none log journal = not_shown log journal none

left_so : (honest : Bool) (job : Job) (old now : Image) (why : Refusal) → IsJobPartlyDone honest old.file job old now
    → IsJobRefused old.file job why → IsLeftSo job old now
left_so honest (job.Start pages) old now why then refused =
    let never = λ (start : Start) (ready : IsStartReady old.file start). not_refused_job old.file (job.Start pages) why (start, ready) refused in
    untouched_by then (λ between line did. never did.start did.ready) (then.leads.idle never)
left_so honest (job.Go target pace) old now why then (inl none) =
    inl (untouched_by then (λ between line did. not_gone old.file target did.could (inl none)) (then.leads.session.idle (no_journal old none)))
left_so honest (job.Go target pace) old now why then (inr none) =
    let left = then.leads.still none.0 none.1 (inl (why, none.2)) in
    let never = λ (between : Image) (line : List ℕ) (did : IsGoDone target old between line). not_gone old.file target did.could (inr none) in
    inr (
      none.0,
      none.1,
      record {
        others = record {
          others = λ number spared. ap (λ (f : ℕ → List ℕ). f number) then.files ∙ left.others.others number spared;
          out = not_told then never ∙ ap (λ (f : Channel → List ℕ). f channels.Out) left.others.said;
        };
        due = λ undue. untouched_by then never (left.due undue);
        finished = λ before. untouched_by then never (left.finished before);
      },
    )
left_so honest (job.Resume pace) old now why then none =
    untouched_by then (λ between line did. no_journal old none did.could.0 did.could.1) (then.leads.session.idle (no_journal old none))
left_so honest (job.Once target) old now why some refused =
    absurd (not_refused_job old.file (job.Once target) why (some.0, some.1) refused)
left_so honest job.Show old now why some refused =
    absurd (not_refused_job old.file job.Show why (some.0, some.1) refused)
left_so honest (job.Make seed count) old now why some refused =
    absurd (not_refused_job old.file (job.Make seed count) why some.can refused)
left_so honest (job.Demo seed count target pace) old now why some refused =
    absurd (not_refused_job old.file (job.Demo seed count target pace) why some.can refused)

-- Where a cause holds nothing has changed but on Err, and but for the snapshot that was due.
pub cause_untouched : {honest : Bool} {words : List (List ℕ)} {old now : Image} {why : Stop} → Touches honest words old.file old now
    → HasCause words old.file why → LeavesAll words old now
cause_untouched (inl none) cause = inl none
cause_untouched (inr some) (inl none) = absurd (none.1 some.0 some.1)
cause_untouched {honest = honest} {words = words} {old = old} {now = now} (inr some) (inr cause) =
    inr (
      some.0,
      some.1,
      left_so honest some.0 old now cause.1 some.2
          (subst (λ (j : Job). IsJobRefused old.file j cause.1) (one_job words cause.0 some.0 cause.3 some.1) cause.4),
    )

-- What `go` brings up where it refuses a leg.

-- a fault of the host, or want of memory, is no such refusal
pub brings_nothing : {H : Type 0} (m : HostModel H) (target : ℕ) (pace : Pace) (old new : H) (error : HostError)
    → BringsUp m (job.Go target pace) old new (of_host error)
brings_nothing m target pace old new Fault = λ leg. absurd leg
brings_nothing m target pace old new NoMemory = λ leg. absurd leg

-- the first sync came before
pub brings_synced : {H : Type 0} {m : HostModel H} {old middle new : H} → Leads m Stays old middle
    → (IsTrue m.tells → (m.tally old).syncs ≤ (m.tally middle).syncs) → IsBroughtUp m middle new → IsBroughtUp m old new
brings_synced {m = m} stays more brought = record {
  durable = brought.durable;
  stands = λ tells h is represents.
      brought.stands tells h is (subst (RepresentsRun h) (sym (stays_contents stays)) represents);
  synced = λ tells. omega (arith, more tells, brought.synced tells);
}

-- the program's words are one command
pub brings_words : {H : Type 0} (m : HostModel H) (words : List (List ℕ)) (one : Job) (refusal : Refusal) (old new : H)
    → IsJob words one → BringsUp m one old new refusal → BringsUpWords m words old new (stop.Refused refusal)
brings_words m words one refusal old new is brought = λ job why is_job same.
    subst (λ (r : Refusal). BringsUp m job old new r) (inside same)
    (subst (λ (j : Job). BringsUp m j old new refusal) (one_job words one job is is_job) brought) where
      inside : {a b : Refusal} → stop.Refused a ≡ stop.Refused b → a ≡ b
      inside same = cc

pub brings_none : {H : Type 0} (m : HostModel H) (words : List (List ℕ)) (old new : H) → BringsUpWords m words old new stop.Words
brings_none m words old new = λ job why is_job same. absurd (cc)

-- What a run of a command is to the program.
pub begins_run : {H : Type 0} {m : HostModel H} {words : List (List ℕ)} {job : Job} {old new : H} → IsJob words job
    → JobBegins m job old new → HasBegun m words old new
begins_run is begun = record {
  synced = begun.synced;
  before = begun.before;
  durable = begun.durable;
  since = leads_more begun.since (λ start image step. run_touches is step);
}

pub begins_or_not : {H : Type 0} {m : HostModel H} {words : List (List ℕ)} {job : Job} {old new : H} {why : Refusal} → IsJob words job
    → JobBeginsOrNot m job old new why → HasBegunOrNot m words old new (stop.Refused why)
begins_or_not is (inl none) = inl (
  none.0,
  inr (elim none.1 [
    | inl device ↦ inl (ap stop.Refused device)
    | inr memory ↦ inr (ap stop.Refused memory)
  ]),
)
begins_or_not is (inr begun) = inr (begins_run is begun)

-- no call was made
pub begins_no_words : {H : Type 0} (m : HostModel H) (words : List (List ℕ)) (host : H) → HasBegunOrNot m words host host stop.Words
begins_no_words m words host = inl (leads_none m host (λ image. refl), inl refl)

pub begins_no_memory : {H : Type 0} (m : HostModel H) (words : List (List ℕ)) (host : H)
    → HasBegunOrNot m words host host (stop.Refused refusal.NoMemory)
begins_no_memory m words host = inl (leads_none m host (λ image. refl), inr (inr refl))

nothing_touched : {honest : Bool} {words : List (List ℕ)} {files : ℕ → List ℕ} {old now : Image} → now ≡ old
    → CallTouches honest words files old now
nothing_touched same = record {
  touches = inl (record {
    files = ap (λ (image : Image). image.file) same;
    out = ap (λ (image : Image). image.said channels.Out) same;
  });
  err = ap (λ (image : Image). image.said channels.Err) same;
}

-- where it led
pub begun_leads : {H : Type 0} {m : HostModel H} {words : List (List ℕ)} {old new : H} → HasBegun m words old new
    → Leads m (CallTouches m.crashes.is_honest words (m.contents old).file) old new
begun_leads begun = leads_before (λ image. nothing_touched refl) begun.before begun.since

pub run_leads : {H : Type 0} {m : HostModel H} {words : List (List ℕ)} {old new : H} {why : Stop} → HasBegunOrNot m words old new why
    → Leads m (CallTouches m.crashes.is_honest words (m.contents old).file) old new
run_leads (inl none) = leads_more none.0 (λ start image same. nothing_touched same)
run_leads (inr begun) = begun_leads begun

pub leads_run : {H : Type 0} {m : HostModel H} {honest : Bool} {words : List (List ℕ)} {files : ℕ → List ℕ} {old new : H}
    → Leads m (CallTouches honest words files) old new → Leads m (Touches honest words files) old new
leads_run run = leads_more run (λ start image step. step.touches)

pub leads_told : {H : Type 0} {m : HostModel H} {honest : Bool} {words : List (List ℕ)} {files : ℕ → List ℕ} {why : Stop}
    {old middle new : H} {status : ℕ} → Leads m (CallTouches honest words files) old middle → WasReported m why middle new status
    → Leads m (Touches honest words files) old new
leads_told {honest = honest} {words = words} {files = files} run told =
    leads_then run told.spoke.leads (λ start image step. step.touches)
    (λ start between image step part. touches_told {honest = honest} {words = words} {files = files} step.touches part)
