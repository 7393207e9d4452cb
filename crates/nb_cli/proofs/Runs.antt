-- What a run of a command has changed, by its steps, in what reads and in the images.
use Rattle.std.proofs.Common.{◌≡◌, ◌≢◌, ◌≤◌, ◌⊎◌, inl, inr, ℕ, List, ◌++◌, take, refl, ap, sym, subst, ◌∙◌, arith, Bool, Some, IsTrue, IsOk, Result, Ok, Err, rules, ◌+◌}
use Rattle.std.proofs.lemmas.List.{append-nil}
use Rattle.nb_model.specs.Leapfrog.{escaped_count}
use Rattle.nb_host.specs.declared.host.Channel.{Channel}
use Rattle.nb_host.specs.declared.host.Channel.TheVariants as channels
use Rattle.nb_host.specs.declared.host.HostError.{HostError}
use Rattle.nb_host.specs.declared.host.HostError.TheVariants.{Fault, NoMemory}
use Rattle.nb_host.specs.Crashes.{Stays}
use Rattle.nb_host.specs.Image.{Image, FileBecomes, SaysPart}
use Rattle.nb_host.specs.Meaning.{HostModel, Leads, RanSaying, RanSyncing, IsDurable, CallTally}
use Rattle.nb_host.proofs.Callers.{goes_on, leads_more, leads_before, stays_contents, stopped_after, ok_is_no_error}
use Rattle.nb_format.specs.Lines.{once_line}
use Rattle.nb_format.specs.Snapshot.{IsSnapshot}
use Rattle.nb_format.specs.Writer.{IsFinishedAs}
use Rattle.nb_engine.specs.declared.going.Done.{Done}
use Rattle.nb_engine.specs.declared.refusal.Refusal.{Refusal}
use Rattle.nb_engine.specs.declared.refusal.Refusal.TheVariants as refusal
use Rattle.nb_engine.specs.declared.shown.Shown.{Shown}
use Rattle.nb_engine.specs.Refusal.{of_host, NeedsNoCause}
use Rattle.nb_engine.specs.Shown.{TellsLog}
use Rattle.nb_journal.specs.Form.{Log, IsJournal}
use Rattle.nb_journal.specs.Offsets.{journal_file}
use Rattle.nb_cli.specs.declared.words.Job.{Job}
use Rattle.nb_cli.specs.declared.words.Job.TheVariants as job
use Rattle.nb_engine.specs.Start.{Start}
use Rattle.nb_cli.specs.Once.{once_file, once_ticks, list_at, IsOnceReady}
use Rattle.nb_cli.specs.OnceAnswer.{TellsOnce, BecomesAny, OnceLeads}
use Rattle.nb_cli.specs.Show.{folder_text, show_text}
use Rattle.nb_engine.specs.Steps.{SaidPrefixOf}
use Rattle.nb_cli.specs.Answer.{IsOncePartlyDone, JobTouches, JobBegins, JobBeginsOrNot, exactly, CountsJob, SyncsJob}

pub Out≢Err : ◌≡◌ {A = Channel} channels.Err channels.Out → ⊥
Out≢Err same = cc

-- the line of a start at the target
abbrev pub line_at : ℕ → Start → List ℕ
line_at target start = once_line target (once_ticks target start) (escaped_count (list_at target start))

-- the line that was made of the answer is that of the start
line_of-answer : {target : ℕ} {start : Start} {done : Done} (line : List ℕ) → line ≡ once_line done.time done.ticks done.gone
    → TellsOnce target start done → line ≡ line_at target start
line_of-answer {target} {start} {done} line is tells =
    is ∙ ap (λ (t : ℕ). once_line t done.ticks done.gone) tells.time ∙ ap (λ (k : ℕ). once_line target k done.gone) tells.ticks
    ∙ ap (λ (n : ℕ). once_line target (once_ticks target start) n) tells.gone

-- What `once` may have written.

pub others_still : {files : ℕ → List ℕ} {target : ℕ} {old now : Image} → OnceLeads files target old now → (number : ℕ)
    → number ≢ once_file → now.file number ≡ old.file number
others_still (inl same) number spared = ap (λ (image : Image). image.file number) same
others_still (inr some) number spared = some.2.others number spared

pub said_still : {files : ℕ → List ℕ} {target : ℕ} {old now : Image} → OnceLeads files target old now → now.said ≡ old.said
said_still (inl same) = ap (λ (image : Image). image.said) same
said_still (inr some) = some.2.said

-- only the file was changed
within_file : {P : List ℕ → List ℕ → Type 0} {target : ℕ} {start : Start} {old now : Image}
    → FileBecomes once_file P old now → IsOncePartlyDone target start old now
within_file {old = old} changed =
    let out = ap (λ (f : Channel → List ℕ). f channels.Out) changed.said in
    record {
      others = changed.others;
      out = (0, omega arith, out ∙ sym (append-nil (old.said channels.Out)));
      said_last = inl out;
    }

pub touched_by_file : {honest : Bool} {files : ℕ → List ℕ} {target : ℕ} {old now : Image} → OnceLeads files target old now
    → JobTouches honest files (job.Once target) old now
touched_by_file (inl same) =
    record { touches = inl same; err = ap (λ (image : Image). image.said channels.Err) same }
touched_by_file (inr some) = record {
  touches = inr (some.0, some.1, within_file some.2);
  err = ap (λ (f : Channel → List ℕ). f channels.Err) some.2.said;
}

-- The line is to be said: the file is the snapshot.
pub record IsToSay (files : ℕ → List ℕ) (target : ℕ) (line : List ℕ) (now : Image) : Type 0 where
  pub start : Start
  pub ready : IsOnceReady files target start
  pub line_is : line ≡ line_at target start
  pub snapshot : IsSnapshot (now.file once_file) (list_at target start) target

pub to_say : {target : ℕ} {old middle now : Image} {done : Done} (line : List ℕ) → middle ≡ old
    → ((start : Start) × IsOnceReady middle.file target start × TellsOnce target start done
    × FileBecomes once_file (IsFinishedAs (list_at target start) target) middle now)
    → line ≡ once_line done.time done.ticks done.gone → IsToSay old.file target line now
to_say {target = target} line same done is = record {
  start = done.0;
  ready = subst (λ (i : Image). IsOnceReady i.file target done.0) same done.1;
  line_is = line_of-answer line is done.2;
  snapshot = done.3.file;
}

-- a front of it was said
touched_by_line : {honest : Bool} {files : ℕ → List ℕ} {target : ℕ} {old middle now : Image} (line : List ℕ) → OnceLeads files target old middle
    → IsToSay files target line middle → SaysPart channels.Out line middle now → JobTouches honest files (job.Once target) old now
touched_by_line {target = target} {old = old} {middle = middle} {now = now} line wrote tells part =
    let P : List ℕ → Type 0 = λ text. SaidPrefixOf text (old.said channels.Out) (now.said channels.Out) in
    let Q : (ℕ → List ℕ) → Type 0 = λ files. IsSnapshot (files once_file) (list_at target tells.start) target in
    let out = ap (λ (f : Channel → List ℕ). f channels.Out) (said_still wrote) in
    record {
      touches = inr (
        tells.start,
        tells.ready,
        record {
          others = λ number spared. ap (λ (f : ℕ → List ℕ). f number) part.2.files ∙ others_still wrote number spared;
          out = subst P tells.line_is
              (part.0, part.1, part.2.said ∙ ap (λ (said : List ℕ). said ++ take part.0 line) out);
          said_last = inr (subst Q (sym part.2.files) tells.snapshot);
        },
      );
      err = part.2.others channels.Err Out≢Err ∙ ap (λ (f : Channel → List ℕ). f channels.Err) (said_still wrote);
    }

-- Over a host.

-- so far nothing was written
pub leads_none_written : {H : Type 0} {m : HostModel H} {files : ℕ → List ℕ} {target : ℕ} {old new : H} → Leads m Stays old new
    → Leads m (OnceLeads files target) old new
leads_none_written stays = leads_more stays (λ start image same. inl same)

-- the file is written where `once` can be done
pub leads_written : {H : Type 0} {m : HostModel H} {files : ℕ → List ℕ} {target : ℕ} {old middle new : H} → Leads m Stays old middle
    → (IsTrue m.tells → (start : Start) × IsOnceReady files target start)
    → Leads m (FileBecomes once_file BecomesAny) middle new → Leads m (OnceLeads files target) old new
leads_written {m = m} {files = files} {target = target} {middle = middle} {new = new} stays ready wrote =
    let later : Leads m (OnceLeads files target) middle new = record {
      contents = λ told. let start = ready told in inr (start.0, start.1, wrote.contents told);
      images = record {
        follows = λ honest.
            let start = ready (m.tells_if_honest honest) in
            (leads_more {T = OnceLeads files target} wrote (λ before after becomes. inr (start.0, start.1, becomes))).images.follows honest;
      };
    } in
    leads_before (λ image. inl refl) stays later

-- the files are those from before calls that change nothing
pub leads_from : {H : Type 0} {m : HostModel H} {target : ℕ} {old middle new : H} → m.contents middle ≡ m.contents old
    → Leads m (OnceLeads (m.contents middle).file target) middle new
    → Leads m (OnceLeads (m.contents old).file target) middle new
leads_from {m = m} {target = target} {middle = middle} {new = new} same leads =
    subst (λ (i : Image). Leads m (OnceLeads i.file target) middle new) same leads

-- behind the first sync
pub leads_synced : {H : Type 0} {m : HostModel H} {files : ℕ → List ℕ} {target : ℕ} {old middle new : H} → Leads m Stays old middle
    → Leads m (OnceLeads files target) middle new → Leads m (OnceLeads files target) old new
leads_synced synced wrote = leads_before (λ image. inl refl) synced wrote

pub leads_file : {H : Type 0} {m : HostModel H} {honest : Bool} {files : ℕ → List ℕ} {target : ℕ} {old new : H}
    → Leads m (OnceLeads files target) old new → Leads m (JobTouches honest files (job.Once target)) old new
leads_file wrote = leads_more wrote (λ start image step. touched_by_file step)

-- The line is said once the file is durable, so a front of it stands in no image in which the file isn't the snapshot.
pub leads_line : {H : Type 0} {m : HostModel H} {honest : Bool} {files : ℕ → List ℕ} {target : ℕ} {old middle new : H} (line : List ℕ)
    → Leads m (OnceLeads files target) old middle → IsDurable m middle
    → (IsTrue m.tells → IsToSay files target line (m.contents middle)) → Leads m (SaysPart channels.Out line) middle new
    → Leads m (JobTouches honest files (job.Once target)) old new
leads_line {m = m} {files = files} {target = target} line wrote durable tells said = record {
  contents = λ told. touched_by_line line (wrote.contents told) (tells told) (said.contents told);
  images = goes_on wrote.images said.images (λ start image step. touched_by_file step)
      (λ start between image honest one left two.
      touched_by_line line one
      (subst (λ (i : Image). IsToSay files target line i) (sym (durable between honest left)) (tells (m.tells_if_honest honest)))
      two);
}

-- What a run owes to the counts.

-- what the program makes of how its line was said
abbrev pub said_answer : Result (Unit {0}) HostError → Result (Unit {0}) Refusal
said_answer (Ok tt) = Ok tt
said_answer (Err error) = Err (of_host error)

-- a device fault or want of memory, behind so many syncs at most
pub syncs_free : (syncs : ℕ) (why : Refusal) (before behind : ℕ) → NeedsNoCause why → behind ≤ before + syncs
    → SyncsJob (exactly syncs) (Err why) before behind
syncs_free syncs why before behind (inl is) few = subst (λ w. SyncsJob (exactly syncs) (Err w) before behind) (sym is) few
syncs_free syncs why before behind (inr is) few = subst (λ w. SyncsJob (exactly syncs) (Err w) before behind) (sym is) few

-- a refusal by a cause, behind one sync
pub syncs_once : (more : ℕ) (why : Refusal) (before behind : ℕ) → behind ≡ before + 1 → SyncsJob (exactly (more + 1)) (Err why) before behind
syncs_once more (refusal.Params _) before behind one = one
syncs_once more (refusal.Snapshot _) before behind one = one
syncs_once more (refusal.TooHeavy _ _) before behind one = one
syncs_once more refusal.NotStarted before behind one = one
syncs_once more refusal.Started before behind one = one
syncs_once more (refusal.LegOpen _ _) before behind one = one
syncs_once more (refusal.TickLimit _) before behind one = one
syncs_once more refusal.InitThere before behind one = one
syncs_once more (refusal.TooMany _) before behind one = one
syncs_once more refusal.Device before behind one = omega (arith, one)
syncs_once more (refusal.Damaged _) before behind one = one
syncs_once more refusal.NoMemory before behind one = omega (arith, one)

pub free_or_not : (why : Refusal) → NeedsNoCause why ⊎ (NeedsNoCause why → ⊥)
free_or_not refusal.Device = inl (inl refl)
free_or_not refusal.NoMemory = inl (inr refl)
free_or_not (refusal.Params e) = inr never where
  never : ((refusal.Params e) ≡ refusal.Device) ⊎ ((refusal.Params e) ≡ refusal.NoMemory) → ⊥
  never (inl is) = cc
  never (inr is) = cc
free_or_not (refusal.Snapshot e) = inr never where
  never : ((refusal.Snapshot e) ≡ refusal.Device) ⊎ ((refusal.Snapshot e) ≡ refusal.NoMemory) → ⊥
  never (inl is) = cc
  never (inr is) = cc
free_or_not (refusal.TooHeavy g m) = inr never where
  never : ((refusal.TooHeavy g m) ≡ refusal.Device) ⊎ ((refusal.TooHeavy g m) ≡ refusal.NoMemory) → ⊥
  never (inl is) = cc
  never (inr is) = cc
free_or_not refusal.NotStarted = inr never where
  never : (refusal.NotStarted ≡ refusal.Device) ⊎ (refusal.NotStarted ≡ refusal.NoMemory) → ⊥
  never (inl is) = cc
  never (inr is) = cc
free_or_not refusal.Started = inr never where
  never : (refusal.Started ≡ refusal.Device) ⊎ (refusal.Started ≡ refusal.NoMemory) → ⊥
  never (inl is) = cc
  never (inr is) = cc
free_or_not (refusal.LegOpen t n) = inr never where
  never : ((refusal.LegOpen t n) ≡ refusal.Device) ⊎ ((refusal.LegOpen t n) ≡ refusal.NoMemory) → ⊥
  never (inl is) = cc
  never (inr is) = cc
free_or_not (refusal.TickLimit n) = inr never where
  never : ((refusal.TickLimit n) ≡ refusal.Device) ⊎ ((refusal.TickLimit n) ≡ refusal.NoMemory) → ⊥
  never (inl is) = cc
  never (inr is) = cc
free_or_not refusal.InitThere = inr never where
  never : (refusal.InitThere ≡ refusal.Device) ⊎ (refusal.InitThere ≡ refusal.NoMemory) → ⊥
  never (inl is) = cc
  never (inr is) = cc
free_or_not (refusal.TooMany n) = inr never where
  never : ((refusal.TooMany n) ≡ refusal.Device) ⊎ ((refusal.TooMany n) ≡ refusal.NoMemory) → ⊥
  never (inl is) = cc
  never (inr is) = cc
free_or_not (refusal.Damaged p) = inr never where
  never : ((refusal.Damaged p) ≡ refusal.Device) ⊎ ((refusal.Damaged p) ≡ refusal.NoMemory) → ⊥
  never (inl is) = cc
  never (inr is) = cc

-- the first sync failed
pub counts_unsynced : {H T : Type 0} {m : HostModel H} {by : Image → Image → Type 0} {old new : H}
    {result : Result T HostError} {error : HostError} (more : ℕ) → RanSyncing m 1 Fault by old new result → result ≡ Err error
    → CountsJob m (exactly (more + 1)) old new (Err (of_host error))
counts_unsynced {old = old} {new = new} {error = error} more ran is = record {
  count = ran.count;
  rose = λ err. ran.rose (is ∙ ap Err (by_device error err));
  spared = λ other. ran.spared (λ err. other (to_device error (sym is ∙ err)));
  refused = λ told. ap (λ (f : Channel → ℕ). f channels.Err) ran.refused;
  heard = λ told ok. absurd (search rules);
  syncs = λ told. syncs_free (more + 1) (of_host error) _ _ (free_by_host error) (omega (arith, ran.at_most told));
} where
  by_device : (error : HostError) → ◌≡◌ {A = Result (Unit {0}) Refusal} (Err (of_host error)) (Err refusal.Device) → error ≡ Fault
  by_device Fault err = refl
  by_device NoMemory err = cc

  to_device : {T : Type 0} (error : HostError) → ◌≡◌ {A = Result T HostError} (Err error) (Err Fault)
      → ◌≡◌ {A = Result (Unit {0}) Refusal} (Err (of_host error)) (Err refusal.Device)
  to_device Fault err = refl
  to_device NoMemory err = cc

  free_by_host : (error : HostError) → NeedsNoCause (of_host error)
  free_by_host Fault = inl refl
  free_by_host NoMemory = inr refl

-- the command refused, behind the first sync
pub counts_refused : {H S T : Type 0} {m : HostModel H} {one two : Image → Image → Type 0} {old middle new : H}
    {first : Result S HostError} {result : Result T Refusal} {why : Refusal} (more : ℕ) → IsOk first
    → RanSyncing m 1 Fault one old middle first → RanSyncing m more refusal.Device two middle new result
    → result ≡ Err why → ((NeedsNoCause why → ⊥) → m.tally new ≡ m.tally middle)
    → CountsJob m (exactly (more + 1)) old new (Err why)
counts_refused {m = m} {old = old} {middle = middle} {new = new} {why = why} more ok before after is unsynced =
    let same = before.spared (ok_is_no_error ok) in
    record {
      count = subst (λ n. n ≤ m.faults new) same after.count;
      rose = λ err. stopped_after same (after.rose (is ∙ ap Err (inside err)));
      spared = λ never. after.spared (λ err. never (ap Err (inside (sym is ∙ err)))) ∙ same;
      refused = λ told. ap (λ (f : Channel → ℕ). f channels.Err) (after.refused ∙ before.refused);
      heard = λ told fine. absurd (search rules);
      syncs = λ told. elim (free_or_not why) [
        | inl free ↦ syncs_free (more + 1) why _ _ free (omega (arith, before.at_most told, after.at_most told))
        | inr cause ↦ syncs_once more why _ _
            (ap (λ (t : CallTally). t.syncs) (unsynced cause) ∙ before.synced told ok)
      ];
    } where
      inside : {T : Type 0} {a b : Refusal} → ◌≡◌ {A = Result T Refusal} (Err a) (Err b) → a ≡ b
      inside same = cc

-- a line on Out behind all syncs
pub counts_said : {H T E : Type 0} {m : HostModel H} {fault : E} {by : Image → Image → Type 0} {old middle new : H}
    {result : Result T E} {line : List ℕ} {answer : Result (Unit {0}) HostError} (syncs : ℕ)
    → RanSyncing m syncs fault by old middle result → IsOk result → RanSaying m channels.Out line middle new answer
    → CountsJob m (exactly syncs) old new (said_answer answer)
counts_said {m = m} {new = new} {answer = answer} syncs ran ok spoke =
    let spared = ran.spared (ok_is_no_error ok) in
    record {
      count = subst (λ n. n ≤ m.faults new) spared spoke.count;
      rose = λ err. stopped_after spared (spoke.rose (device answer err));
      spared = λ never. spoke.spared (λ err. never (ap said_answer err)) ∙ spared;
      refused = λ told. (spoke.refused told).others channels.Err Out≢Err
          ∙ ap (λ (f : Channel → ℕ). f channels.Err) ran.refused;
      heard = λ told fine. (spoke.refused told).spared (went answer fine)
          ∙ ap (λ (f : Channel → ℕ). f channels.Out) ran.refused;
      syncs = λ told. counted answer _ _ (spoke.syncs ∙ ran.synced told ok);
    } where
      device : (answer : Result (Unit {0}) HostError) → said_answer answer ≡ Err refusal.Device → answer ≡ Err Fault
      device (Ok tt) err = cc
      device (Err Fault) err = refl
      device (Err NoMemory) err = cc

      went : (answer : Result (Unit {0}) HostError) → IsOk (said_answer answer) → IsOk answer
      went (Ok tt) fine = refl
      went (Err Fault) fine = absurd (search rules)
      went (Err NoMemory) fine = absurd (search rules)

      counted : (answer : Result (Unit {0}) HostError) (before behind : ℕ) → behind ≡ before + syncs
          → SyncsJob (exactly syncs) (said_answer answer) before behind
      counted (Ok tt) before behind all = all
      counted (Err Fault) before behind all = omega (arith, all)
      counted (Err NoMemory) before behind all = omega (arith, all)

-- What a run that is refused is behind its first sync, and what before.

pub host_needless : (error : HostError) → NeedsNoCause (of_host error)
host_needless Fault = inl refl
host_needless NoMemory = inr refl

pub unsynced_run : {H : Type 0} (m : HostModel H) (job : Job) (error : HostError) {old new : H} → Leads m Stays old new
    → JobBeginsOrNot m job old new (of_host error)
unsynced_run m job error stays = inl (stays, host_needless error)

pub begun_run : {H : Type 0} (m : HostModel H) (job : Job) (why : Refusal) {old new : H} → JobBegins m job old new
    → JobBeginsOrNot m job old new why
begun_run m job why begun = inr begun

-- behind the first sync nothing was changed
pub still_run : {H : Type 0} {m : HostModel H} {honest : Bool} {files : ℕ → List ℕ} (job : Job) {old new : H} → Leads m Stays old new
    → Leads m (JobTouches honest files job) old new
still_run job stays =
    leads_more stays (λ start image same. record { touches = inl same; err = ap (λ (i : Image). i.said channels.Err) same })

-- What `show` says.

-- The text is to be said: it is the journal's.
pub record IsToShow (files : ℕ → List ℕ) (text : List ℕ) : Type 0 where
  pub log : Log
  pub journal : IsJournal log (files journal_file)
  pub text_is : text ≡ show_text log

pub to_show : {old middle : Image} {shown : Shown} (text : List ℕ) → middle ≡ old
    → ((log : Log) × IsJournal log (middle.file journal_file) × TellsLog log shown)
    → text ≡ folder_text (record { time = shown.time; ticks = shown.ticks; target = shown.target; gone = shown.gone }) shown.count shown.params
    → IsToShow old.file text
to_show {shown = shown} text same found is =
    let log = found.0 in
    let tells = found.2 in
    record {
      log = log;
      journal = subst (λ (i : Image). IsJournal log (i.file journal_file)) same found.1;
      text_is =
          let time = tells.time in
          let ticks = tells.ticks in
          let target = tells.target in
          let gone = tells.gone in
          let count = tells.count in
          let params = tells.params in
          is ∙ cc;
    }

shown_by_part : {honest : Bool} {files : ℕ → List ℕ} {old now : Image} (text : List ℕ) → IsToShow files text → SaysPart channels.Out text old now
    → JobTouches honest files job.Show old now
shown_by_part {old = old} {now = now} text shows part =
    let P : List ℕ → Type 0 = λ t. SaidPrefixOf t (old.said channels.Out) (now.said channels.Out) in
    record {
      touches = inr (
        shows.log,
        shows.journal,
        record { files = part.2.files; out = subst P shows.text_is (part.0, part.1, part.2.said) },
      );
      err = part.2.others channels.Err Out≢Err;
    }

-- The text is said behind calls that changed nothing.
pub leads_shown : {H : Type 0} {m : HostModel H} {honest : Bool} {files : ℕ → List ℕ} {old middle new : H} (text : List ℕ) → Leads m Stays old middle
    → (IsTrue m.tells → IsToShow files text) → Leads m (SaysPart channels.Out text) middle new
    → Leads m (JobTouches honest files job.Show) old new
leads_shown {m = m} {honest = honest} {files = files} {middle = middle} {new = new} text stays shows said =
    let later : Leads m (JobTouches honest files job.Show) middle new = record {
      contents = λ told. shown_by_part text (shows told) (said.contents told);
      images = record {
        follows = λ known.
            let shown = shows (m.tells_if_honest known) in
            (leads_more {T = JobTouches honest files job.Show} said (λ before after part. shown_by_part text shown part)).images.follows known;
      };
    } in
    leads_before (λ image. record { touches = inl refl; err = refl }) stays later

same_image : (a b : Image) → a.file ≡ b.file → a.said ≡ b.said → a ≡ b
same_image a b files said =
    ap (λ (f : ℕ → List ℕ). record a { file = f }) files ∙ ap (λ (s : Channel → List ℕ). record b { said = s }) said

-- Behind a sync, calls that change nothing, and a say, what reads is durable.
pub durable_said : {H : Type 0} (m : HostModel H) {old middle new : H} {channel : Channel} {text : List ℕ} → IsDurable m old
    → Leads m Stays old middle → Leads m (SaysPart channel text) middle new → IsDurable m new
durable_said m {old = old} {middle = middle} {new = new} durable stays said = λ image honest is.
    let second = (said.images.follows honest).now image is in
    let between = second.0 in
    let first = (stays.images.follows honest).now between second.1 in
    let before : between ≡ m.contents old = first.2 ∙ durable first.0 honest first.1 in
    let reads = said.contents (m.tells_if_honest honest) in
    let files : image.file ≡ (m.contents new).file =
    second.2.2.files ∙ ap (λ (i : Image). i.file) (before ∙ sym (stays_contents stays)) ∙ sym reads.2.files in
    same_image image (m.contents new) files (m.leaves_said new image honest is)
