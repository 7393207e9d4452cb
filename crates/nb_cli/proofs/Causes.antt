-- Which causes exclude each other.
use Rattle.std.proofs.Common.{◌≡◌, ◌⊎◌, inl, inr, ℕ, List, [], get_or, refl, sym, ap, subst, ◌∙◌, arith}
use Rattle.nb_host.specs.Image.{Image}
use Rattle.nb_format.proofs.Snapshots.{one_snapshot}
use Rattle.nb_format.proofs.SnapshotRefusals.{snapshot_none}
use Rattle.nb_journal.specs.Entries.{Progress}
use Rattle.nb_journal.specs.Form.{Log, IsFresh, IsJournal, IsDamagedAt, progress_of}
use Rattle.nb_journal.specs.Offsets.{journal_file}
use Rattle.nb_journal.proofs.Callers.{fresh_alone, not_both, one_damage, one_journal}
use Rattle.nb_engine.specs.declared.refusal.Refusal.{Refusal}
use Rattle.nb_engine.specs.declared.refusal.Refusal.TheVariants as refusal
use Rattle.nb_engine.specs.Sessions.{IsNoLeg, IsGoRefused, IsGoReady, IsOfGo, IsOfResume}
use Rattle.nb_engine.specs.Refusal.{NeedsNoCause, damaged_journal}
use Rattle.nb_engine.specs.Shown.{IsShowRefused}
use Rattle.nb_cli.specs.declared.stop.Stop.{Stop}
use Rattle.nb_cli.specs.declared.stop.Stop.TheVariants as stop
use Rattle.nb_cli.specs.declared.words.Job.{Job}
use Rattle.nb_cli.specs.declared.words.Job.TheVariants as job
use Rattle.nb_cli.specs.Words.{IsJob}
use Rattle.nb_engine.specs.Start.{Start, HasStart, IsNoStart, IsStartReady, IsStartRefused, IsOfStart}
use Rattle.nb_cli.specs.Stop.{HasRefusalLine}
use Rattle.nb_cli.specs.Once.{IsOnceReady, IsOnceRefused}
use Rattle.nb_cli.specs.Make.{IsMakeReady, IsMakeRefused, IsOfMake}
use Rattle.nb_cli.specs.Demo.{IsDemoReady, IsDemoRefused, IsOfDemo}
use Rattle.nb_cli.proofs.Commands.{one_job}
use Rattle.nb_cli.specs.Answer.{IsJobReady, IsJobRefused, IsJobDamaged, HasCause}

-- ---- a start

same_start : (a b : Start) → a.params ≡ b.params → a.bodies ≡ b.bodies → a.time ≡ b.time → a ≡ b
same_start a b params bodies time =
    ap (λ p. record a { params = p }) params ∙ ap (λ xs. record b { bodies = xs; time = a.time }) bodies
    ∙ ap (λ t. record b { time = t }) time

-- the files spell one start only
pub one_start : {files : ℕ → List ℕ} {a b : Start} → HasStart files a → HasStart files b → a ≡ b
one_start {files} {a} {b} first second =
    let p = first.parameters in let q = second.parameters in
    let params : a.params ≡ b.params = cc in
    let same = one_snapshot first.snapshot second.snapshot in
    same_start a b params same.0 same.1

-- Where `once` can be done nothing else holds.
pub not_refused : {files : ℕ → List ℕ} {target : ℕ} {start : Start} {why : Refusal} → IsOnceReady files target start → IsOnceRefused files target why → ⊥
not_refused ready (inl none) = let p = ready.starts.parameters in let q = none.1.refused in cc
not_refused ready (inr (inl none)) =
    let p = snapshot_none _ _ _ ready.starts.snapshot in let q = none.2.refused in cc
not_refused ready (inr (inr beyond)) =
    let same = one_start ready.starts beyond.1.starts in let p = ready.takes in let q = beyond.1.refused in cc

fresh_no_damage : (offset : ℕ) (file : List ℕ) → IsFresh file → IsDamagedAt offset file → ⊥
fresh_no_damage offset file (inl short) damaged = absurd (omega (arith, short, damaged.started.long))
fresh_no_damage offset file (inr shut) damaged = shut damaged.started.gate

-- Where a run can be started nothing else holds.
not_start : {files : ℕ → List ℕ} {start : Start} {why : Refusal} → IsStartReady files start → IsStartRefused files why → ⊥
not_start ready (inl none) = fresh_alone none.1.0 0 _ ready.fresh (inl none.1.1)
not_start ready (inr (inl none)) = fresh_no_damage none.0 _ ready.fresh none.2
not_start ready (inr (inr (_, inl none))) = let p = ready.starts.parameters in let q = none.1.refused in cc
not_start ready (inr (inr (_, inr (inl none)))) =
    let p = snapshot_none _ _ _ ready.starts.snapshot in let q = none.2.refused in cc
not_start ready (inr (inr (_, inr (inr none)))) =
    let same = one_start ready.starts none.1 in let p = ready.light in let q = none.2 in cc

-- Where there is a journal none is missing.
pub not_shown : {file : List ℕ} {why : Refusal} (log : Log) → IsJournal log file → IsShowRefused file why → ⊥
not_shown log journal (inl none) = fresh_alone log 0 _ none.1 (inl journal)
not_shown log journal (inr none) = not_both log none.0 _ journal none.2

-- Where `go` can lead there nothing else holds.
pub not_gone : (files : ℕ → List ℕ) (target : ℕ) {why : Refusal} → IsGoReady target files → IsGoRefused target files why → ⊥
not_gone files target can (inl none) = not_shown can.0 can.1 none
not_gone files target {why = why} can (inr none) =
    let same = one_journal none.0 can.0 (files journal_file) none.1 can.1 in
    can.2 why (subst (λ (l : Log). IsNoLeg target (progress_of l) why) same none.2)

-- Where `make` can be done neither file holds anything.
not_there : {files : ℕ → List ℕ} {why : Refusal} → IsMakeReady files → IsMakeRefused files why → ⊥
not_there can there = elim there.some [
  | inl params ↦ params can.params
  | inr init ↦ init can.init
]

-- Where `demo` can be done nothing else holds.
not_demo : (files : ℕ → List ℕ) (target : ℕ) {why : Refusal} → IsDemoReady files target → IsDemoRefused files target why → ⊥
not_demo files target can (inl run) = fresh_alone run.1.0 0 _ can.fresh (inl run.1.1)
not_demo files target can (inr (inl damaged)) = fresh_no_damage damaged.0 _ can.fresh damaged.2
not_demo files target can (inr (inr (inl there))) = not_there can.can there.1
not_demo files target can (inr (inr (inr far))) = absurd (omega (arith, can.few, far.2))

pub not_refused_job : (files : ℕ → List ℕ) (job : Job) (why : Refusal) → IsJobReady files job → IsJobRefused files job why → ⊥
not_refused_job files (job.Start pages) why ready refused = not_start ready.1 refused
not_refused_job files (job.Go target pace) why ready refused = not_gone files target ready refused
not_refused_job files (job.Resume pace) why ready refused = not_shown ready.0 ready.1 refused
not_refused_job files (job.Once target) why ready refused = not_refused ready.1 refused
not_refused_job files job.Show why ready refused = not_shown ready.0 ready.1 refused
not_refused_job files (job.Make seed count) why ready refused = not_there ready refused
not_refused_job files (job.Demo seed count target pace) why ready refused = not_demo files target ready refused

pub no_cause : {words : List (List ℕ)} {files : ℕ → List ℕ} {why : Stop} (job : Job)
    → IsJob words job → IsJobReady files job → HasCause words files why → ⊥
no_cause job is ready (inl none) = none.1 job is
no_cause {words = words} {files = files} job is ready (inr some) =
    let P : Job → Type 0 = λ j. IsJobRefused files j some.1 in
    not_refused_job files job some.1 ready (subst P (one_job words some.0 job some.3 is) some.4)

-- Two causes don't hold together.
one_refusal : {files : ℕ → List ℕ} {target : ℕ} {a b : Refusal} → IsOnceRefused files target a → IsOnceRefused files target b → a ≡ b
one_refusal (inl first) (inl second) = let p = first.1.refused in let q = second.1.refused in let r = first.2 in let s = second.2 in cc
one_refusal (inl first) (inr (inl second)) = let p = first.1.refused in let q = second.2.parameters in absurd (cc)
one_refusal (inl first) (inr (inr second)) = let p = first.1.refused in let q = second.1.starts.parameters in absurd (cc)
one_refusal (inr (inl first)) (inl second) = let p = first.2.parameters in let q = second.1.refused in absurd (cc)
one_refusal (inr (inl first)) (inr (inl second)) = let p = first.2.refused in let q = second.2.refused in let r = first.3 in let s = second.3 in cc
one_refusal (inr (inl first)) (inr (inr second)) =
    let p = first.2.refused in let q = snapshot_none _ _ _ second.1.starts.snapshot in absurd (cc)
one_refusal (inr (inr first)) (inl second) = let p = first.1.starts.parameters in let q = second.1.refused in absurd (cc)
one_refusal (inr (inr first)) (inr (inl second)) =
    let p = snapshot_none _ _ _ first.1.starts.snapshot in let q = second.2.refused in absurd (cc)
one_refusal (inr (inr first)) (inr (inr second)) =
    let same = one_start first.1.starts second.1.starts in let p = first.1.refused in let q = second.1.refused in cc

one_shown : {file : List ℕ} {a b : Refusal} → IsShowRefused file a → IsShowRefused file b → a ≡ b
one_shown (inl first) (inl second) = first.0 ∙ sym second.0
one_shown (inl first) (inr second) = absurd (fresh_no_damage second.0 _ first.1 second.2)
one_shown (inr first) (inl second) = absurd (fresh_no_damage first.0 _ second.1 first.2)
one_shown (inr first) (inr second) =
    first.1 ∙ ap damaged_journal (one_damage first.0 second.0 _ first.2 second.2) ∙ sym second.1

one_no_start : {files : ℕ → List ℕ} {a b : Refusal} → IsNoStart files a → IsNoStart files b → a ≡ b
one_no_start (inl first) (inl second) = let p = first.1.refused in let q = second.1.refused in let r = first.2 in let s = second.2 in cc
one_no_start (inl first) (inr (inl second)) = let p = first.1.refused in let q = second.2.parameters in absurd (cc)
one_no_start (inl first) (inr (inr second)) = let p = first.1.refused in let q = second.1.parameters in absurd (cc)
one_no_start (inr (inl first)) (inl second) = let p = first.2.parameters in let q = second.1.refused in absurd (cc)
one_no_start (inr (inl first)) (inr (inl second)) = let p = first.2.refused in let q = second.2.refused in let r = first.3 in let s = second.3 in cc
one_no_start (inr (inl first)) (inr (inr second)) =
    let p = first.2.refused in let q = snapshot_none _ _ _ second.1.snapshot in absurd (cc)
one_no_start (inr (inr first)) (inl second) = let p = first.1.parameters in let q = second.1.refused in absurd (cc)
one_no_start (inr (inr first)) (inr (inl second)) =
    let p = snapshot_none _ _ _ first.1.snapshot in let q = second.2.refused in absurd (cc)
one_no_start (inr (inr first)) (inr (inr second)) =
    let same = one_start first.1 second.1 in let p = first.2 in let q = second.2 in cc

one_start_refusal : {files : ℕ → List ℕ} {a b : Refusal} → IsStartRefused files a → IsStartRefused files b → a ≡ b
one_start_refusal (inl first) (inl second) = first.0 ∙ sym second.0
one_start_refusal (inl first) (inr (inl second)) = absurd (not_both first.1.0 second.0 _ first.1.1 second.2)
one_start_refusal (inl first) (inr (inr second)) = absurd (fresh_alone first.1.0 0 _ second.0 (inl first.1.1))
one_start_refusal (inr (inl first)) (inl second) = absurd (not_both second.1.0 first.0 _ second.1.1 first.2)
one_start_refusal (inr (inl first)) (inr (inl second)) =
    first.1 ∙ ap damaged_journal (one_damage first.0 second.0 _ first.2 second.2) ∙ sym second.1
one_start_refusal (inr (inl first)) (inr (inr second)) = absurd (fresh_no_damage first.0 _ second.0 first.2)
one_start_refusal (inr (inr first)) (inl second) = absurd (fresh_alone second.1.0 0 _ first.0 (inl second.1.1))
one_start_refusal (inr (inr first)) (inr (inl second)) = absurd (fresh_no_damage second.0 _ first.0 second.2)
one_start_refusal (inr (inr first)) (inr (inr second)) = one_no_start first.1 second.1

one_leg_refusal : (target : ℕ) (s : Progress) {a b : Refusal} → IsNoLeg target s a → IsNoLeg target s b → a ≡ b
one_leg_refusal target s (inl first) (inl second) = first.1 ∙ sym second.1
one_leg_refusal target s (inl first) (inr second) = absurd (first.0 second.0)
one_leg_refusal target s (inr first) (inl second) = absurd (second.0 first.0)
one_leg_refusal target s (inr first) (inr second) = first.2 ∙ sym second.2

one_go_refusal : (files : ℕ → List ℕ) (target : ℕ) {a b : Refusal} → IsGoRefused target files a → IsGoRefused target files b → a ≡ b
one_go_refusal files target (inl first) (inl second) = one_shown first second
one_go_refusal files target (inl first) (inr second) = absurd (not_shown second.0 second.1 first)
one_go_refusal files target (inr first) (inl second) = absurd (not_shown first.0 first.1 second)
one_go_refusal files target {a = a} (inr first) (inr second) =
    let same = one_journal first.0 second.0 (files journal_file) first.1 second.1 in
    one_leg_refusal target (progress_of second.0) (subst (λ (l : Log). IsNoLeg target (progress_of l) a) same first.2) second.2

one_demo_refusal : (files : ℕ → List ℕ) (target : ℕ) {a b : Refusal} → IsDemoRefused files target a → IsDemoRefused files target b
    → a ≡ b
one_demo_refusal files target (inl first) (inl second) = first.0 ∙ sym second.0
one_demo_refusal files target (inl first) (inr (inl second)) = absurd (not_both first.1.0 second.0 _ first.1.1 second.2)
one_demo_refusal files target (inl first) (inr (inr (inl second))) = absurd (fresh_alone first.1.0 0 _ second.0 (inl first.1.1))
one_demo_refusal files target (inl first) (inr (inr (inr second))) = absurd (fresh_alone first.1.0 0 _ second.0 (inl first.1.1))
one_demo_refusal files target (inr (inl first)) (inl second) = absurd (not_both second.1.0 first.0 _ second.1.1 first.2)
one_demo_refusal files target (inr (inl first)) (inr (inl second)) =
    first.1 ∙ ap damaged_journal (one_damage first.0 second.0 _ first.2 second.2) ∙ sym second.1
one_demo_refusal files target (inr (inl first)) (inr (inr (inl second))) = absurd (fresh_no_damage first.0 _ second.0 first.2)
one_demo_refusal files target (inr (inl first)) (inr (inr (inr second))) = absurd (fresh_no_damage first.0 _ second.0 first.2)
one_demo_refusal files target (inr (inr (inl first))) (inl second) = absurd (fresh_alone second.1.0 0 _ first.0 (inl second.1.1))
one_demo_refusal files target (inr (inr (inl first))) (inr (inl second)) = absurd (fresh_no_damage second.0 _ first.0 second.2)
one_demo_refusal files target (inr (inr (inl first))) (inr (inr (inl second))) = first.1.named ∙ sym second.1.named
one_demo_refusal files target (inr (inr (inl first))) (inr (inr (inr second))) = absurd (not_there second.1 first.1)
one_demo_refusal files target (inr (inr (inr first))) (inl second) = absurd (fresh_alone second.1.0 0 _ first.0 (inl second.1.1))
one_demo_refusal files target (inr (inr (inr first))) (inr (inl second)) = absurd (fresh_no_damage second.0 _ first.0 second.2)
one_demo_refusal files target (inr (inr (inr first))) (inr (inr (inl second))) = absurd (not_there first.1 second.1)
one_demo_refusal files target (inr (inr (inr first))) (inr (inr (inr second))) = first.3 ∙ sym second.3

one_job_refusal : (files : ℕ → List ℕ) (job : Job) {a b : Refusal} → IsJobRefused files job a → IsJobRefused files job b → a ≡ b
one_job_refusal files (job.Start pages) first second = one_start_refusal first second
one_job_refusal files (job.Go target pace) first second = one_go_refusal files target first second
one_job_refusal files (job.Resume pace) first second = one_shown first second
one_job_refusal files (job.Once target) first second = one_refusal first second
one_job_refusal files job.Show first second = one_shown first second
one_job_refusal files (job.Make seed count) first second = first.named ∙ sym second.named
one_job_refusal files (job.Demo seed count target pace) first second = one_demo_refusal files target first second

pub one_cause : {words : List (List ℕ)} {files : ℕ → List ℕ} {a b : Stop} → HasCause words files a → HasCause words files b → a ≡ b
one_cause (inl first) (inl second) = first.0 ∙ sym second.0
one_cause (inl first) (inr second) = absurd (first.1 second.0 second.3)
one_cause (inr first) (inl second) = absurd (second.1 first.0 first.3)
one_cause {words = words} {files = files} (inr first) (inr second) =
    let P : Job → Type 0 = λ j. IsJobRefused files j first.1 in
    let moved = subst P (one_job words first.0 second.0 first.3 second.3) first.4 in
    first.2 ∙ ap stop.Refused (one_job_refusal files second.0 moved second.4) ∙ sym second.2

-- Why a command isn't done: it needs no cause, or it is refused, or spoilt.
abbrev pub IsCause : (ℕ → List ℕ) → Job → Refusal → Type 0
IsCause files job why = NeedsNoCause why ⊎ IsJobRefused files job why ⊎ IsJobDamaged files job why

-- the cause that a command met in an image that is as before
pub cause_still : {old now : Image} {why : Refusal} (job : Job) → now ≡ old → IsCause now.file job why → IsCause old.file job why
cause_still {why = why} job same cause = subst (λ (image : Image). IsCause image.file job why) same cause

-- a command that is never spoilt
pub never_spoilt : (files : ℕ → List ℕ) (job : Job) {why : Refusal} → NeedsNoCause why ⊎ IsJobRefused files job why
    → IsCause files job why
never_spoilt files job (inl free) = inl free
never_spoilt files job (inr refused) = inr (inl refused)

-- ---- which refusals the commands give

pub given_by_start : (why : Refusal) → IsOfStart why → HasRefusalLine why
given_by_start (refusal.Params error) of_start = of_start
given_by_start (refusal.Snapshot error) of_start = of_start
given_by_start (refusal.TooHeavy grav mass) of_start = tt
given_by_start refusal.NotStarted of_start = absurd of_start
given_by_start refusal.Started of_start = tt
given_by_start (refusal.LegOpen target time) of_start = absurd of_start
given_by_start (refusal.TickLimit ticks) of_start = absurd of_start
given_by_start refusal.InitThere of_start = absurd of_start
given_by_start (refusal.TooMany count) of_start = absurd of_start
given_by_start refusal.Device of_start = tt
given_by_start (refusal.Damaged place) of_start = tt
given_by_start refusal.NoMemory of_start = tt

pub given_by_go : (why : Refusal) → IsOfGo why → HasRefusalLine why
given_by_go (refusal.Params error) of_go = absurd of_go
given_by_go (refusal.Snapshot error) of_go = absurd of_go
given_by_go (refusal.TooHeavy grav mass) of_go = absurd of_go
given_by_go refusal.NotStarted of_go = tt
given_by_go refusal.Started of_go = absurd of_go
given_by_go (refusal.LegOpen target time) of_go = tt
given_by_go (refusal.TickLimit ticks) of_go = tt
given_by_go refusal.InitThere of_go = absurd of_go
given_by_go (refusal.TooMany count) of_go = absurd of_go
given_by_go refusal.Device of_go = tt
given_by_go (refusal.Damaged place) of_go = tt
given_by_go refusal.NoMemory of_go = tt

pub given_by_resume : (why : Refusal) → IsOfResume why → HasRefusalLine why
given_by_resume (refusal.Params error) of_resume = absurd of_resume
given_by_resume (refusal.Snapshot error) of_resume = absurd of_resume
given_by_resume (refusal.TooHeavy grav mass) of_resume = absurd of_resume
given_by_resume refusal.NotStarted of_resume = tt
given_by_resume refusal.Started of_resume = absurd of_resume
given_by_resume (refusal.LegOpen target time) of_resume = absurd of_resume
given_by_resume (refusal.TickLimit ticks) of_resume = absurd of_resume
given_by_resume refusal.InitThere of_resume = absurd of_resume
given_by_resume (refusal.TooMany count) of_resume = absurd of_resume
given_by_resume refusal.Device of_resume = tt
given_by_resume (refusal.Damaged place) of_resume = tt
given_by_resume refusal.NoMemory of_resume = tt

pub given_by_make : (why : Refusal) → IsOfMake why → HasRefusalLine why
given_by_make refusal.InitThere of_make = tt
given_by_make refusal.Device of_make = tt
given_by_make refusal.NoMemory of_make = tt
given_by_make _ of_make = absurd of_make

pub given_by_demo : (why : Refusal) → IsOfDemo why → HasRefusalLine why
given_by_demo refusal.Started of_demo = tt
given_by_demo refusal.InitThere of_demo = tt
given_by_demo (refusal.TickLimit ticks) of_demo = tt
given_by_demo refusal.Device of_demo = tt
given_by_demo (refusal.Damaged place) of_demo = tt
given_by_demo refusal.NoMemory of_demo = tt
given_by_demo _ of_demo = absurd of_demo
