-- A folder that is sound stays so, whatever command runs.
use Rattle.std.proofs.Common.{◌≡◌, ◌≢◌, ◌∙◌, inl, inr, ℕ, ◌+◌, ◌%◌, ◌^◌, ◌<◌, ◌≤◌, Bool, true, Some, List, [], ◌∷◌, ◌++◌, length, refl, ap, sym, subst, arith, IsTrue}
use Rattle.std.specs.Prelude.{All}
use Rattle.std.specs.Int.{abs_diff}
use Rattle.std.proofs.lemmas.Bool.{cases_eq}
use Rattle.std.proofs.lemmas.Bool.Decides.{nat_tests}
use Rattle.std.proofs.lemmas.List.{take_all}
use Rattle.std.proofs.lemmas.List.Sums.{count_by-le-length, sum_by-le}
use Rattle.nb_host.specs.declared.host.Channel.{Channel}
use Rattle.nb_host.specs.declared.host.Channel.TheVariants as channels
use Rattle.nb_host.specs.Crashes.{EverySince}
use Rattle.nb_host.specs.Image.{Image}
use Rattle.nb_host.specs.Meaning.{HostModel, Leads}
use Rattle.nb_host.proofs.Callers.{every_since}
use Rattle.nb_model.specs.declared.body.Body.{Body}
use Rattle.nb_model.specs.Leapfrog.{escaped_count}
use Rattle.nb_model.specs.Legs.{directions_to}
use Rattle.nb_model.specs.Limits.{most_bodies}
use Rattle.nb_format.specs.Lines.{made_line}
use Rattle.nb_format.specs.Snapshot.{AreStoredBodies}
use Rattle.nb_format.proofs.Snapshots.{snapshot_whole}
use Rattle.nb_journal.specs.declared.entry.Entry.{Entry}
use Rattle.nb_journal.specs.Form.{Log, IsFresh, IsJournal, IsCleanJournal, IsLawful, progress_of}
use Rattle.nb_journal.specs.Offsets.{journal_file}
use Rattle.nb_journal.proofs.Callers.{fresh_alone}
use Rattle.nb_engine.specs.Acknowledged.{IsAcknowledgedUpTo, IsOtherText}
use Rattle.nb_engine.specs.Files.{init_file}
use Rattle.nb_engine.specs.Histories.{History, run_of, ticks_of, IsHistory}
use Rattle.nb_engine.specs.Represents.{snap_of, RepresentsHistory, IsSoundImage}
use Rattle.nb_engine.specs.Sessions.{GoLeads, ResumeLeads}
use Rattle.nb_engine.specs.Start.{Start, started, StartLeads}
use Rattle.nb_engine.specs.Steps.{played, GoesOn, SaidPrefixOf}
use Rattle.nb_engine.proofs.Callers.{LineTellsOne, told_goes, small_log, ticks-legged, told_other, append_is_other, started_is_other, done_is_other, once_is_other, folder_is_other, made_is_other, demo_is_other, params_are_other, spared, represents_kept, history-played, started_history, length-steps}
use Rattle.nb_cli.specs.declared.words.Job.{Job}
use Rattle.nb_cli.specs.declared.words.Job.TheVariants as job
use Rattle.nb_cli.specs.Telling.{IsStartDone, IsGoDone, IsResumeDone, IsDoneThenSaid, LeadsThenSays}
use Rattle.nb_cli.specs.Answer.{IsOncePartlyDone, IsJobPartlyDone, Touches}
use Rattle.nb_cli.specs.Make.{IsMakePartlyDone}
use Rattle.nb_cli.specs.Demo.{coordinate_sum, demo_list, summary_line, IsDemoPartlyDone}
use Rattle.nb_cli.proofs.Commands.{paced, once_fits}
use Rattle.nb_cli.proofs.DemoStages.{IsLedOn, fresh_made, started_on, led_on}
use Rattle.nb_cli.specs.Once.{once_file, once_ticks, list_at, IsOnceReady}
use Rattle.nb_cli.specs.Show.{show_text}
use Rattle.nb_cli.specs.Words.{IsJob}

-- ---- what stays sound

fresh_still : (old new : Image) → new.file journal_file ≡ old.file journal_file → new.said channels.Out ≡ old.said channels.Out
    → IsFresh (old.file journal_file) × IsAcknowledgedUpTo 0 (old.said channels.Out) → IsSoundImage new
fresh_still old new file said fresh =
    inl (subst IsFresh (sym file) fresh.0, subst (IsAcknowledgedUpTo 0) (sym said) fresh.1)

-- the files are as they were, and no more was told
sound_same : {old new : Image} → new.file ≡ old.file → new.said channels.Out ≡ old.said channels.Out → IsSoundImage old
    → IsSoundImage new
sound_same {old = old} {new = new} files said (inl fresh) = fresh_still old new (ap (λ (f : ℕ → List ℕ). f journal_file) files) said fresh
sound_same {old = old} {new = new} files said (inr run) =
    let at = λ (number : ℕ). ap (λ (f : ℕ → List ℕ). f number) files in
    inr (
      run.0,
      run.1,
      record {
        run = represents_kept run.0 old new run.2.run (at _) (at _) (at _) (λ j some within. at _);
        acknowledged = subst (IsAcknowledgedUpTo (ticks_of run.0)) (sym said) run.2.acknowledged;
      },
    )

-- No file changed but that of `once`, and a front of a text was said that tells of no tick.
sound_beside : {old new : Image} {text : List ℕ} → IsOtherText text
    → ((number : ℕ) → number ≢ once_file → new.file number ≡ old.file number)
    → SaidPrefixOf text (old.said channels.Out) (new.said channels.Out) → IsSoundImage old → IsSoundImage new
sound_beside {old = old} {new = new} {text = text} other files said (inl fresh) =
    inl (
      subst IsFresh (sym (files journal_file (omega arith))) fresh.0,
      subst (IsAcknowledgedUpTo 0) (sym said.2) (told_other 0 said.0 (old.said channels.Out) text other fresh.1),
    )
sound_beside {old = old} {new = new} {text = text} other files said (inr run) =
    inr (
      run.0,
      run.1,
      record {
        run =
            spared run.0.log (run_of run.0) (ticks_of run.0) old new run.2.run
            (subst (IsCleanJournal run.0.log) (sym (files journal_file (omega arith))) run.2.run.journal)
            (files init_file (omega arith)) (files (3 + ticks_of run.0 % 2) (omega arith))
            (λ j some within. files (snap_of j) (omega arith));
        acknowledged = subst (IsAcknowledgedUpTo (ticks_of run.0)) (sym said.2)
            (told_other (ticks_of run.0) said.0 (old.said channels.Out) text other run.2.acknowledged);
      },
    )

-- The files are as they were, and a front of such a text was said.
sound_said : {old new : Image} {text : List ℕ} → IsOtherText text → new.file ≡ old.file
    → SaidPrefixOf text (old.said channels.Out) (new.said channels.Out) → IsSoundImage old → IsSoundImage new
sound_said other files said sound = sound_beside other (λ number apart. ap (λ (f : ℕ → List ℕ). f number) files) said sound

-- ---- the sessions of a run

-- calls that keep a folder sound, and then a front of a line that tells of no tick
sound_then : {by : Image → Image → Type 0} {Did : Image → Image → List ℕ → Type 0} {old new : Image}
    → ((between : Image) → by old between → IsSoundImage between)
    → ((between : Image) (line : List ℕ) → Did old between line → IsOtherText line) → LeadsThenSays by Did old new
    → IsSoundImage new
sound_then sound other then =
    let before = sound then.between then.leads in
    elim then.told [
      | inl same ↦ sound_same then.files same before
      | inr some ↦ sound_said (other then.between some.0 some.1) then.files some.2 before
    ]

sound_goes : LineTellsOne → {most : ℕ} {h : History} {old new : Image} → IsHistory h → IsAcknowledgedUpTo (ticks_of h) (old.said channels.Out)
    → GoesOn most h old new → IsSoundImage new
sound_goes law {h = h} is told goes =
    inr (played goes.done h, history-played goes.done h is, record { run = goes.represents; acknowledged = told_goes law is told goes })

sound_start : {old new : Image} → IsSoundImage old → StartLeads true old new → IsSoundImage new
sound_start {old = old} {new = new} (inl fresh) leads = elim (leads.begins refl fresh.0) [
  | inl still ↦ inl (still, subst (IsAcknowledgedUpTo 0) (sym (ap (λ (f : Channel → List ℕ). f channels.Out) leads.others.said)) fresh.1)
  | inr run ↦ inr (
    started run.0,
    started_history old.file run.0 run.1.starts run.1.light,
    record {
      run = run.2;
      acknowledged = subst (IsAcknowledgedUpTo 0) (sym (ap (λ (f : Channel → List ℕ). f channels.Out) leads.others.said)) fresh.1;
    },
  )
]
sound_start {old = old} (inr run) leads =
    let journal = run.2.run.journal.journal in
    let same = leads.idle (λ start ready. fresh_alone run.0.log 0 (old.file journal_file) ready.fresh (inl journal)) in
    sound_same (ap (λ (i : Image). i.file) same) (ap (λ (i : Image). i.said channels.Out) same) (inr run)

no_journal : (old : Image) → IsFresh (old.file journal_file) → (log : Log) → IsJournal log (old.file journal_file) → ⊥
no_journal old fresh log journal = fresh_alone log 0 (old.file journal_file) fresh (inl journal)

sound_go : LineTellsOne → {target : ℕ} {old new : Image} → IsSoundImage old → GoLeads true target old new → IsSoundImage new
sound_go law {old = old} (inl fresh) leads =
    let same = leads.session.idle (no_journal old fresh.0) in
    sound_same {old = old} (ap (λ (i : Image). i.file) same) (ap (λ (i : Image). i.said channels.Out) same) (inl fresh)
sound_go law {target = target} {old = old} (inr run) leads = elim (leads.goes refl run.0 run.1 run.2.run) [
  | inl goes ↦ sound_goes law run.1 run.2.acknowledged goes
  | inr goes ↦
      let here = sym (ticks-legged target run.0) in
      sound_goes law goes.0 (subst (λ (k : ℕ). IsAcknowledgedUpTo k (old.said channels.Out)) here run.2.acknowledged) goes.1
]

sound_resume : LineTellsOne → {old new : Image} → IsSoundImage old → ResumeLeads true old new → IsSoundImage new
sound_resume law {old = old} (inl fresh) leads =
    let same = leads.session.idle (no_journal old fresh.0) in
    sound_same {old = old} (ap (λ (i : Image). i.file) same) (ap (λ (i : Image). i.said channels.Out) same) (inl fresh)
sound_resume law (inr run) leads = sound_goes law run.1 run.2.acknowledged (leads.goes refl run.0 run.1 run.2.run)

-- ---- each command

told_start : {old between : Image} {line : List ℕ} → IsStartDone old between line → IsOtherText line
told_start did =
    let snapshot = did.ready.starts.snapshot in
    subst IsOtherText (sym did.line_is)
    (started_is_other (length did.start.bodies) did.start.time (omega (arith, snapshot.stored.count)) snapshot.fits)

told_go : {target : ℕ} {old between : Image} {line : List ℕ} → IsGoDone target old between line → IsOtherText line
told_go did =
    subst IsOtherText (sym did.line_is)
    (done_is_other did.done.time did.done.ticks did.done.gone did.fits.time did.fits.ticks did.fits.gone)

told_resume : {old between : Image} {line : List ℕ} → IsResumeDone old between line → IsOtherText line
told_resume did =
    subst IsOtherText (sym did.line_is)
    (done_is_other did.done.time did.done.ticks did.done.gone did.fits.time did.fits.ticks did.fits.gone)

sound_once : (target : ℕ) (start : Start) {files : ℕ → List ℕ} {old new : Image} → target < 2 ^ 64 → IsOnceReady files target start
    → IsOncePartlyDone target start old new → IsSoundImage old → IsSoundImage new
sound_once target start fits ready partly sound =
    let snapshot = ready.starts.snapshot in
    let ways = directions_to start.time target in
    let many = length-steps start.params ways start.bodies in
    let few = count_by-le-length (λ (b : Body). b.out) (list_at target start) in
    sound_beside
    (once_is_other target (once_ticks target start) (escaped_count (list_at target start)) fits
    (omega (arith, snapshot.fits)) (omega (arith, few, many, snapshot.stored.count)))
    partly.others partly.out sound

show_is_other : (log : Log) → IsLawful log → IsOtherText (show_text log)
show_is_other log lawful =
    let now = progress_of log in
    let small = small_log log lawful in
    append_is_other
    (folder_is_other now.time now.ticks now.target log.count now.gone small.time (omega (arith, small.ticks)) small.target
    (omega (arith, lawful.count)) (omega (arith, small.gone, lawful.count)))
    (params_are_other log.params lawful.params)

-- ---- `make`

-- Where a run is represented the initial snapshot holds something.
no_init : {h : History} {image : Image} → RepresentsHistory h image → image.file init_file ≡ [] → ⊥
no_init {h = h} {image = image} run empty =
    let long = snapshot_whole run.run.start in
    let none : length (image.file init_file) ≡ 0 = ap length empty in
    omega (arith, long, none)

sound_make : {seed count : ℕ} {old new : Image} → count ≤ most_bodies → IsMakePartlyDone seed count old new → IsSoundImage old
    → IsSoundImage new
sound_make {count = count} {old = old} few make (inl fresh) =
    inl (
      subst IsFresh (sym (make.others journal_file (omega arith) (omega arith))) fresh.0,
      subst (IsAcknowledgedUpTo 0) (sym make.out.2)
          (told_other 0 make.out.0 (old.said channels.Out) (made_line count) (made_is_other count (omega (arith, few))) fresh.1),
    )
sound_make few make (inr run) = absurd (no_init run.2 make.can.init)

-- ---- `demo`

-- a session that is done and told is one that leads there and tells a front, all of it
told_whole : {by : Image → Image → Type 0} {Did : Image → Image → List ℕ → Type 0} {old new : Image} → IsDoneThenSaid by Did old new
    → LeadsThenSays by Did old new
told_whole told = record {
  between = told.between;
  leads = told.leads;
  files = told.files;
  told = inr (
    told.line,
    told.done,
    (
      length told.line,
      omega arith,
      told.out ∙ ap (λ (l : List ℕ). told.between.said channels.Out ++ l) (sym (take_all (length told.line) told.line (omega arith))),
    ),
  );
}

-- the coordinates of stored bodies
small_sum : (bodies : List Body) → AreStoredBodies bodies → coordinate_sum bodies < 10 ^ 64
small_sum bodies stored =
    let sum = sum_by-le (λ (b : Body). b.at.x + b.at.y + b.at.z) (2 ^ 42) bodies small in
    omega (arith, sum, stored.count) where
      small : All (λ (b : Body). b.at.x + b.at.y + b.at.z ≤ 2 ^ 42) bodies
      small i d below = let box = (stored.each i d below).valid.at in omega (arith, box.x, box.y, box.z)

-- the bodies of the last snapshot
stored_list : (seed count target : ℕ) {middle last : Image} → IsLedOn true seed count target middle last
    → AreStoredBodies (demo_list seed count target)
stored_list seed count target led = elim (cases_eq target 0) [
  | inl none ↦ (led.snapshot init_file (λ _. refl) (λ some. absurd (some none))).stored
  | inr some ↦ (led.snapshot (snap_of target) (λ none. absurd (some none)) (λ _. refl)).stored
]

told_sum : (seed count target : ℕ) → count ≤ most_bodies → AreStoredBodies (demo_list seed count target)
    → IsOtherText (summary_line seed count target)
told_sum seed count target few stored =
    let bodies = demo_list seed count target in
    let gone = count_by-le-length (λ (b : Body). b.out) bodies in
    demo_is_other count (escaped_count bodies) (coordinate_sum bodies) (omega (arith, few)) (omega (arith, gone, stored.count))
    (small_sum bodies stored)

pub sound_demo : LineTellsOne → (seed count target : ℕ) {old new : Image} → count ≤ most_bodies
    → IsDemoPartlyDone true seed count target old new → IsSoundImage old → IsSoundImage new
sound_demo law seed count target {old = old} {new = new} few demo (inl fresh) = elim demo.does [
  | inl making ↦ fresh_still old new (making.others journal_file (omega arith) (omega arith)) making.out fresh
  | inr makes ↦
      let made : IsSoundImage makes.made = inl (
        fresh_made demo.can makes.makes,
        subst (IsAcknowledgedUpTo 0) (sym (ap (λ (f : Channel → List ℕ). f channels.Out) makes.makes.others.said)) fresh.1,
      ) in
      elim makes.next [
        | inl then ↦ sound_then (λ between leads. sound_start made leads) (λ between line did. told_start did) then
        | inr does ↦
            let begun =
            sound_then (λ between leads. sound_start made leads) (λ between line did. told_start did) (told_whole does.does) in
            elim does.next [
              | inl then ↦
                  sound_then (λ between leads. sound_go law {target = target} begun leads) (λ between line did. told_go did) then
              | inr last ↦
                  let gone =
                  sound_then (λ between leads. sound_go law {target = target} begun leads) (λ between line did. told_go did)
                  (told_whole last.does) in
                  let led = led_on true seed count target (started_on true seed count target demo.can makes.makes does.does) last.does in
                  sound_said (told_sum seed count target few (stored_list seed count target led)) last.next.files last.next.out gone
            ]
      ]
]
sound_demo law seed count target {old = old} few demo (inr run) =
    absurd (fresh_alone run.0.log 0 (old.file journal_file) demo.can.fresh (inl run.2.run.journal.journal))

job_sound : LineTellsOne → (words : List (List ℕ)) (files : ℕ → List ℕ) (job : Job) {old new : Image} → IsJob words job → IsSoundImage old
    → IsJobPartlyDone true files job old new → IsSoundImage new
job_sound law words files (job.Start pages) is sound then =
    sound_then (λ between leads. sound_start sound leads) (λ between line did. told_start did) then
job_sound law words files (job.Go target pace) is sound then =
    sound_then (λ between leads. sound_go law {target = target} sound leads) (λ between line did. told_go did) then
job_sound law words files (job.Resume pace) is sound then =
    sound_then (λ between leads. sound_resume law sound leads) (λ between line did. told_resume did) then
job_sound law words files (job.Once target) is sound then = sound_once target then.0 (once_fits words target is) then.1 then.2 sound
job_sound law words files job.Show is sound then =
    sound_said (show_is_other then.0 then.1.lawful) then.2.files then.2.out sound
job_sound law words files (job.Make seed count) is sound then = sound_make (paced words (job.Make seed count) is) then sound
job_sound law words files (job.Demo seed count target pace) is sound then =
    sound_demo law seed count target (paced words (job.Demo seed count target pace) is).0 then sound

-- ---- the program

touches_sound : LineTellsOne → {words : List (List ℕ)} {files : ℕ → List ℕ} {old new : Image} → IsSoundImage old → Touches true words files old new
    → IsSoundImage new
touches_sound law sound (inl none) = sound_same none.files none.out sound
touches_sound law {words = words} {files = files} sound (inr some) = job_sound law words files some.0 some.1 sound some.2

-- Where each image at entry is sound, each one since is.
pub stays_sound : LineTellsOne → {H : Type 0} (m : HostModel H) {words : List (List ℕ)} {files : ℕ → List ℕ} {old new : H}
    → Leads m (Touches m.crashes.is_honest words files) old new
    → ((image : Image) → IsTrue m.crashes.is_honest → m.crashes.may_leave old image → IsSoundImage image)
    → EverySince m.crashes IsSoundImage old new
stays_sound law m {words = words} {files = files} leads sound image honest since =
    let yes : m.crashes.is_honest ≡ true = honest in
    every_since IsSoundImage m.includes_only_now leads.images (λ start known is. sound start known is)
    (λ start later known is touched.
    touches_sound law {words = words} {files = files} (sound start known is)
    (subst (λ (b : Bool). Touches b words files start later) yes touched)) image honest since
