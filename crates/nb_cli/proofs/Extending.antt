-- The folder extends what it was by a session, whatever its command is and whatever becomes of it.
use Rattle.std.proofs.Common.{◌≡◌, ◌≢◌, ◌⊎◌, inl, inr, ◌∙◌, refl, sym, ap, subst, ℕ, zero, suc, ◌+◌, ◌%◌, ◌*◌, ◌^◌, ◌-◌, max, ◌<◌, ◌≤◌, Bool, true, Result, Ok, List, [], ◌∷◌, ◌++◌, length, take, Contains, arith, append-nil, append_assoc, IsTrue}
use Rattle.std.proofs.Math.Nat.{div-le_self}
use Rattle.std.proofs.lemmas.List.Elements.{All-contains, All-from_recursion}
use Rattle.nb_host.specs.declared.host.Channel.{Channel}
use Rattle.nb_host.specs.declared.host.Channel.TheVariants as channels
use Rattle.nb_host.specs.Image.{Image, SaysPart}
use Rattle.nb_host.specs.Crashes.{Stays}
use Rattle.nb_host.specs.Meaning.{HostModel, Leads, IsDurable}
use Rattle.nb_host.proofs.Callers.{weaken, goes_on, leads_then, stays_contents}
use Rattle.nb_model.specs.declared.body.Body.{Body}
use Rattle.nb_format.specs.Snapshot.{IsFinishedSnapshot}
use Rattle.nb_format.proofs.Snapshots.{snapshot_whole}
use Rattle.nb_journal.specs.Form.{Log, IsFresh, IsJournal}
use Rattle.nb_journal.specs.Offsets.{journal_file}
use Rattle.nb_journal.proofs.Callers.{fresh_alone}
use Rattle.nb_engine.specs.Files.{params_file, init_file}
use Rattle.nb_engine.specs.Frame.{IsOutsideRun, EachImage}
use Rattle.nb_engine.specs.declared.going.Pace.{Pace}
use Rattle.nb_engine.specs.Histories.{Run, legs_in, History, run_of, ticks_of, IsHistory, legged}
use Rattle.nb_engine.specs.Represents.{snap_of, RepresentsRun, IsSoundImage}
use Rattle.nb_engine.specs.Sessions.{GoLeads, ResumeLeads}
use Rattle.nb_engine.specs.Start.{Start, started, StartLeads}
use Rattle.nb_engine.specs.Steps.{lines_after, tick_line_of, SaidPrefixOf, SaidLinesOf, played, GoesOn}
use Rattle.nb_engine.proofs.Callers.{run-ticked, ticks-ticked, run-legged, ticks-legged, history-played, represents_kept, started_history, leads_from_durable}
use Rattle.nb_cli.specs.declared.stop.Stop.{Stop}
use Rattle.nb_cli.specs.declared.stop.Stop.TheVariants as stop
use Rattle.nb_cli.specs.declared.words.Job.{Job}
use Rattle.nb_cli.specs.declared.words.Job.TheVariants as job
use Rattle.nb_cli.specs.Telling.{LeadsThenSays}
use Rattle.nb_cli.specs.Once.{once_file}
use Rattle.nb_cli.specs.Make.{made_start, IsMadeFrom, IsMakePartlyDone}
use Rattle.nb_cli.specs.Demo.{IsDemoReady, demo_text, IsDemoPartlyDone}
use Rattle.nb_cli.specs.Words.{IsJob, IsNoCommand}
use Rattle.nb_cli.specs.Answer.{IsUntouched, IsOncePartlyDone, IsJobPartlyDone, Touches, CallTouches, HasBegun, HasBegunOrNot, WasReported}
use Rattle.nb_cli.specs.Worlds.{IsLater, KeepsSnapshots, TakesTicks, MayAdd, StartsDemo, MayStart, GoesFurther, start_files, IsLeftAlone, Extends, ExtendsOrNot}
use Rattle.nb_cli.proofs.Commands.{one_job}
use Rattle.nb_cli.proofs.DemoStages.{IsStartedOn, two_apart, kept_made, same_made, fresh_made, started_on}
use Rattle.nb_cli.proofs.Lasting.{no_run, later_same, later_then}
use Rattle.nb_cli.proofs.MadeStarts.{made_ready, made_only}
use Rattle.nb_cli.proofs.Statuses.{told_kept, free_answer}

-- ---- what is said

-- More was said behind what was said before.
abbrev Grows : List ℕ → List ℕ → Type 0
Grows old new = (more : List ℕ) × (new ≡ old ++ more)

pub same_grows : (old new : List ℕ) → new ≡ old → Grows old new
same_grows old new same = ([], same ∙ sym (append-nil old))

grows_then : (old between new : List ℕ) → Grows old between → Grows between new → Grows old new
grows_then old between new first second =
    (first.0 ++ second.0, second.1 ∙ ap (λ (l : List ℕ). l ++ second.0) first.1 ∙ append_assoc old first.0 second.0)

front_grows : (text old new : List ℕ) → SaidPrefixOf text old new → Grows old new
front_grows text old new front = (take front.0 text, front.2)

lines_grow : (run : Run) (k done : ℕ) (old new : List ℕ) → SaidLinesOf run k done old new → Grows old new
lines_grow run k zero old new said = same_grows old new said
lines_grow run k (suc n) old new said =
    let lines = lines_after run k n in
    let last = take said.0 (tick_line_of run (suc (k + n))) in
    (lines ++ last, said.2 ∙ append_assoc old lines last)

-- ---- where the files are as they were

files_at : (old new : Image) → new.file ≡ old.file → (number : ℕ) → new.file number ≡ old.file number
files_at old new files number = ap (λ (f : ℕ → List ℕ). f number) files

run_same : (h : History) (old new : Image) → new.file ≡ old.file → RepresentsRun h old → RepresentsRun h new
run_same h old new files represents =
    let at = files_at old new files in
    represents_kept h old new represents (at _) (at _) (at _) (λ j some within. at _)

adds_none : (job : Job) → MayAdd job []
adds_none (job.Start pages) = refl
adds_none (job.Go target pace) = inl refl
adds_none (job.Resume pace) = refl
adds_none job.Show = refl
adds_none (job.Once target) = refl
adds_none (job.Make seed count) = refl
adds_none (job.Demo seed count target pace) = refl

-- the run is where it was
still_there : (job : Job) (h : History) (old new : Image) → IsHistory h → RepresentsRun h new → KeepsSnapshots h old new
    → GoesFurther job h old new
still_there job h old new is represents kept = record {
  legs = [];
  asked = adds_none job;
  later = h;
  is = is;
  represents = represents;
  is_later = later_same h;
  still = λ none. refl;
  kept = kept;
}

pub extends_same : (job : Job) (old new : Image) → new.file ≡ old.file → Grows (old.said channels.Out) (new.said channels.Out)
    → Extends job old new
extends_same job old new files grows =
    let at = files_at old new files in
    record {
      goes = λ h is represents. still_there job h old new is (run_same h old new files represents) (λ j within finished. at (snap_of j));
      starts = λ fresh. inl (subst IsFresh (sym (at journal_file)) fresh);
      others = λ number alone. at number;
      inputs = λ none number few. at number;
      told = grows;
    }

-- ---- a session of a run, and its line

begun_told : (job : Job) (old between new : Image) → new.file ≡ between.file → MayStart job old between → MayStart job old new
begun_told (job.Start pages) old between new files may = record {
  start = may.start;
  ready = may.ready;
  is = may.is;
  represents = run_same (started may.start) between new files may.represents;
}
begun_told (job.Go target pace) old between new files never = absurd never
begun_told (job.Resume pace) old between new files never = absurd never
begun_told job.Show old between new files never = absurd never
begun_told (job.Once target) old between new files never = absurd never
begun_told (job.Make seed count) old between new files never = absurd never
begun_told (job.Demo seed count target pace) old between new files may = record {
  can = may.can;
  made = same_made files may.made;
  legs = may.legs;
  asked = may.asked;
  run = may.run;
  is = may.is;
  represents = run_same may.run between new files may.represents;
  is_later = may.is_later;
}

-- something more is said
extends_told : (job : Job) (old between new : Image) → Extends job old between → new.file ≡ between.file
    → Grows (between.said channels.Out) (new.said channels.Out) → Extends job old new
extends_told job old between new before files grows =
    let at = files_at between new files in
    record {
      goes = λ h is represents.
          let goes = before.goes h is represents in
          record {
            legs = goes.legs;
            asked = goes.asked;
            later = goes.later;
            is = goes.is;
            represents = run_same goes.later between new files goes.represents;
            is_later = goes.is_later;
            still = goes.still;
            kept = λ j within finished. at (snap_of j) ∙ goes.kept j within finished;
          };
      starts = λ fresh. elim (before.starts fresh) [
        | inl still ↦ inl (subst IsFresh (sym (at journal_file)) still)
        | inr may ↦ inr (begun_told job old between new files may)
      ];
      others = λ number alone. at number ∙ before.others number alone;
      inputs = λ none number few. at number ∙ before.inputs none number few;
      told = grows_then (old.said channels.Out) (between.said channels.Out) (new.said channels.Out) before.told grows;
    }

extends_then : (job : Job) {by : Image → Image → Type 0} {Did : Image → Image → List ℕ → Type 0} (old new : Image)
    → ((between : Image) → by old between → Extends job old between) → LeadsThenSays by Did old new → Extends job old new
extends_then job old new extends then =
    extends_told job old then.between new (extends then.between then.leads) then.files (elim then.told [
      | inl same ↦ same_grows (then.between.said channels.Out) (new.said channels.Out) same
      | inr some ↦ front_grows some.0 (then.between.said channels.Out) (new.said channels.Out) some.2
    ])

-- ---- `start`

-- `start` writes none of these files.
start_apart : (number : ℕ) → (number ≤ 1) ⊎ (6 ≤ number) → Contains start_files number → ⊥
start_apart number alone among =
    All-contains (λ file. file ≢ number) (journal_file ∷ 3 ∷ 5 ∷ []) number
    (All-from_recursion (λ file. file ≢ number) (journal_file ∷ 3 ∷ 5 ∷ [])
    (apart 2 (omega arith) (inl (omega arith)) alone, (apart 3 (omega arith) (inl (omega arith)) alone, (apart 5 (omega arith) (inr refl) alone, tt))))
    among refl where
      apart : (file : ℕ) → 2 ≤ file → (file ≤ 3) ⊎ (file ≡ 5) → (number ≤ 1) ⊎ (6 ≤ number) → file ≢ number
      apart file low high alone same = absurd (omega (arith, low, high, alone, same))

start_extends : (pages : ℕ) (old new : Image) → StartLeads true old new → Extends (job.Start pages) old new
start_extends pages old new leads = record {
  goes = λ h is represents.
      let same = leads.idle (λ start ready. no_run h old ready.fresh represents) in
      let files = ap (λ (i : Image). i.file) same in
      still_there (job.Start pages) h old new is (run_same h old new files represents)
      (λ j within finished. files_at old new files (snap_of j));
  starts = λ fresh. elim (leads.begins refl fresh) [
    | inl still ↦ inl still
    | inr run ↦ inr (record {
      start = run.0;
      ready = run.1;
      is = started_history old.file run.0 run.1.starts run.1.light;
      represents = run.2;
    })
  ];
  others = λ number alone. leads.others.others number alone;
  inputs = λ none number few. leads.others.others number (start_apart number (inl few));
  told = same_grows (old.said channels.Out) (new.said channels.Out) (ap (λ (f : Channel → List ℕ). f channels.Out) leads.others.said);
}

-- ---- `go` and `resume`

run_played : (n : ℕ) (h : History) → run_of (played n h) ≡ run_of h
run_played zero h = refl
run_played (suc n) h = run-ticked (played n h) ∙ run_played n h

ticks_played : (n : ℕ) (h : History) → ticks_of (played n h) ≡ n + ticks_of h
ticks_played zero h = omega arith
ticks_played (suc n) h = omega (arith, ticks-ticked (played n h), ticks_played n h)

-- the run some ticks later, and with a leg more
later_played : (n : ℕ) (h : History) → IsLater [] h (played n h)
later_played n h =
    let run = run_played n h in
    record {
      params = ap (λ (r : Run). r.params) run;
      bodies = ap (λ (r : Run). r.bodies) run;
      begin = ap (λ (r : Run). r.begin) run;
      legs = ap (λ (r : Run). r.legs) run ∙ sym (append-nil (legs_in h.log.entries));
      ticks = omega (arith, ticks_played n h);
    }

later_legged : (target : ℕ) (h : History) → IsLater (target ∷ []) h (legged target h)
later_legged target h = record {
  params = refl;
  bodies = refl;
  begin = refl;
  legs = ap (λ (r : Run). r.legs) (run-legged target h);
  ticks = omega (arith, ticks-legged target h);
}

-- with legs that were added, and then ticks
later_on : (legs : List ℕ) (n : ℕ) (h g : History) → IsLater legs h g → IsLater legs h (played n g)
later_on legs n h g later = subst (λ (l : List ℕ). IsLater l h (played n g)) (append-nil legs) (later_then later (later_played n g))

goes_further : (job : Job) (legs : List ℕ) (h g : History) {most : ℕ} {old new : Image} → MayAdd job legs → TakesTicks job
    → IsHistory g → IsLater legs h g → GoesOn most g old new → GoesFurther job h old new
goes_further job legs h g {old = old} asked takes is later goes = record {
  legs = legs;
  asked = asked;
  later = played goes.done g;
  is = history-played goes.done g is;
  represents = goes.represents;
  is_later = later_on legs goes.done h g later;
  still = λ none. absurd (none takes);
  kept = λ j within finished.
      goes.kept j (omega (arith, within, later.ticks))
      (subst (λ (xs : List Body). IsFinishedSnapshot (length xs) (old.file (snap_of j))) (sym later.bodies) finished);
}

no_journal : (old : Image) → IsFresh (old.file journal_file) → (log : Log) → IsJournal log (old.file journal_file) → ⊥
no_journal old fresh log journal = fresh_alone log 0 (old.file journal_file) fresh (inl journal)

-- where no run is there nothing changes
fresh_same : (old new : Image) → new ≡ old → IsFresh (old.file journal_file) → IsFresh (new.file journal_file)
fresh_same old new same fresh = subst (λ (i : Image). IsFresh (i.file journal_file)) (sym same) fresh

said_same : (old new : Image) → new ≡ old → Grows (old.said channels.Out) (new.said channels.Out)
said_same old new same =
    same_grows (old.said channels.Out) (new.said channels.Out) (ap (λ (i : Image). i.said channels.Out) same)

goes_grow : {most : ℕ} {g : History} (old new : Image) → GoesOn most g old new → Grows (old.said channels.Out) (new.said channels.Out)
goes_grow {g = g} old new goes = lines_grow (run_of g) (ticks_of g) goes.done (old.said channels.Out) (new.said channels.Out) goes.said

go_grows : {target : ℕ} (old new : Image) → IsSoundImage old → GoLeads true target old new
    → Grows (old.said channels.Out) (new.said channels.Out)
go_grows old new (inl fresh) leads = said_same old new (leads.session.idle (no_journal old fresh.0))
go_grows old new (inr run) leads = elim (leads.goes refl run.0 run.1 run.2.run) [
  | inl goes ↦ goes_grow old new goes
  | inr goes ↦ goes_grow old new goes.1
]

go_extends : (target : ℕ) (job : Job) (old new : Image) → MayAdd job (target ∷ []) → TakesTicks job
    → ((number : ℕ) → IsLeftAlone job number → IsOutsideRun number) → IsSoundImage old → GoLeads true target old new
    → Extends job old new
go_extends target job old new asked takes apart sound leads = record {
  goes = λ h is represents. elim (leads.goes refl h is represents) [
    | inl goes ↦ goes_further job [] h h (adds_none job) takes is (later_same h) goes
    | inr goes ↦ goes_further job (target ∷ []) h (legged target h) asked takes goes.0 (later_legged target h) goes.1
  ];
  starts = λ fresh. inl (fresh_same old new (leads.session.idle (no_journal old fresh)) fresh);
  others = λ number alone. leads.session.apart.files number (apart number alone);
  inputs = λ none number few. leads.session.apart.files number (inl few);
  told = go_grows old new sound leads;
}

resume_grows : (old new : Image) → IsSoundImage old → ResumeLeads true old new
    → Grows (old.said channels.Out) (new.said channels.Out)
resume_grows old new (inl fresh) leads = said_same old new (leads.session.idle (no_journal old fresh.0))
resume_grows old new (inr run) leads = goes_grow old new (leads.goes refl run.0 run.1 run.2.run)

resume_extends : (pace : Pace) (old new : Image) → IsSoundImage old → ResumeLeads true old new → Extends (job.Resume pace) old new
resume_extends pace old new sound leads = record {
  goes = λ h is represents.
      goes_further (job.Resume pace) [] h h refl tt is (later_same h) (leads.goes refl h is represents);
  starts = λ fresh. inl (fresh_same old new (leads.session.idle (no_journal old fresh)) fresh);
  others = λ number alone. leads.session.apart.files number alone;
  inputs = λ none number few. leads.session.apart.files number (inl few);
  told = resume_grows old new sound leads;
}

-- ---- `once`, `show` and `make`

once_extends : (target : ℕ) (start : Start) (old new : Image) → IsOncePartlyDone target start old new → Extends (job.Once target) old new
once_extends target start old new partly = record {
  goes = λ h is represents.
      still_there (job.Once target) h old new is
      (represents_kept h old new represents (partly.others journal_file (omega arith)) (partly.others init_file (omega arith))
      (partly.others (3 + ticks_of h % 2) (slot_apart (ticks_of h)))
      (λ j some within. partly.others (snap_of j) (omega arith)))
      (λ j within finished. partly.others (snap_of j) (omega arith));
  starts = λ fresh. inl (subst IsFresh (sym (partly.others journal_file (omega arith))) fresh);
  others = λ number alone. partly.others number alone;
  inputs = λ none number few. partly.others number (λ same. absurd (omega (arith, few, same)));
  told = front_grows _ (old.said channels.Out) (new.said channels.Out) partly.out;
} where
  slot_apart : (k : ℕ) → 3 + k % 2 ≢ once_file
  slot_apart k same = absurd (omega (arith, same))

-- Where a run is represented the initial snapshot holds something.
no_init : (h : History) (image : Image) → RepresentsRun h image → image.file init_file ≡ [] → ⊥
no_init h image represents empty =
    let long = snapshot_whole represents.start in
    let none : length (image.file init_file) ≡ 0 = ap length empty in
    omega (arith, long, none)

make_extends : (seed count : ℕ) (old new : Image) → IsMakePartlyDone seed count old new → Extends (job.Make seed count) old new
make_extends seed count old new make = record {
  goes = λ h is represents. absurd (no_init h old represents make.can.init);
  starts = λ fresh. inl (subst IsFresh (sym (make.others journal_file (omega arith) (omega arith))) fresh);
  others = λ number alone.
      make.others number (λ same. absurd (omega (arith, alone, same))) (λ same. absurd (omega (arith, alone, same)));
  inputs = λ none number few. absurd (none make.can);
  told = front_grows _ (old.said channels.Out) (new.said channels.Out) make.out;
}

-- ---- `demo`

-- the run of what was made, where it is started
demo_begun : (seed count target : ℕ) (old made between new : Image) → IsDemoReady old.file target → IsMadeFrom seed count old made
    → StartLeads true made between → new.file ≡ between.file → IsFresh (new.file journal_file) ⊎ StartsDemo seed count target old new
demo_begun seed count target old made between new can makes leads files =
    let fresh = fresh_made can makes in
    elim (leads.begins refl fresh) [
      | inl still ↦ inl (subst IsFresh (sym (files_at between new files journal_file)) still)
      | inr run ↦
          let start = made_start seed count in
          let ready = made_ready seed count made.file makes.made fresh in
          let same = made_only seed count makes.made run.1 in
          inr (record {
            can = can;
            made = same_made files (kept_made
                (leads.others.others params_file (start_apart params_file (inl (omega arith))))
                (leads.others.others init_file (start_apart init_file (inl (omega arith)))) makes.made);
            legs = [];
            asked = inl refl;
            run = started start;
            is = started_history made.file start ready.starts ready.light;
            represents = run_same (started start) between new files
                (subst (λ (s : Start). RepresentsRun (started s) between) same run.2);
            is_later = later_same (started start);
          })
    ]

-- and where it is led
demo_led : (seed count target : ℕ) (old middle between new : Image) → IsDemoReady old.file target
    → IsStartedOn true seed count target old middle → GoLeads true target middle between → new.file ≡ between.file
    → StartsDemo seed count target old new
demo_led seed count target old middle between new can begun leads files =
    let first = started (made_start seed count) in
    let apart = leads.session.apart in
    let made = same_made files
    (kept_made (apart.files params_file (inl (omega arith))) (apart.files init_file (inl (omega arith))) begun.made) in
    elim (leads.goes refl first begun.history begun.represents) [
      | inl goes ↦ record {
        can = can;
        made = made;
        legs = [];
        asked = inl refl;
        run = played goes.done first;
        is = history-played goes.done first begun.history;
        represents = run_same (played goes.done first) between new files goes.represents;
        is_later = later_played goes.done first;
      }
      | inr goes ↦ record {
        can = can;
        made = made;
        legs = target ∷ [];
        asked = inr refl;
        run = played goes.1.done (legged target first);
        is = history-played goes.1.done (legged target first) goes.0;
        represents = run_same (played goes.1.done (legged target first)) between new files goes.1.represents;
        is_later = later_on (target ∷ []) goes.1.done first (legged target first) (later_legged target first);
      }
    ]

demo_starts : (seed count target : ℕ) (old new : Image) → IsDemoPartlyDone true seed count target old new
    → IsFresh (new.file journal_file) ⊎ StartsDemo seed count target old new
demo_starts seed count target old new demo = elim demo.does [
  | inl making ↦ inl (subst IsFresh (sym (making.others journal_file (omega arith) (omega arith))) demo.can.fresh)
  | inr makes ↦ elim makes.next [
    | inl then ↦ demo_begun seed count target old makes.made then.between new demo.can makes.makes then.leads then.files
    | inr does ↦
        let begun = started_on true seed count target demo.can makes.makes does.does in
        elim does.next [
          | inl then ↦ inr (demo_led seed count target old does.between then.between new demo.can begun then.leads then.files)
          | inr last ↦ inr (demo_led seed count target old does.between last.does.between new demo.can begun last.does.leads
              (last.next.files ∙ last.does.files))
        ]
  ]
]

-- files beside those of a run, which its ticks leave alone
demo_beside : (seed count target number : ℕ) (old new : Image) → (8 ≤ number) × (number < 16)
    → IsDemoPartlyDone true seed count target old new → new.file number ≡ old.file number
demo_beside seed count target number old new beside demo = elim demo.does [
  | inl making ↦ making.others number (λ same. absurd (omega (arith, beside.0, same))) (λ same. absurd (omega (arith, beside.0, same)))
  | inr makes ↦
      let made = makes.makes.others.others number
      (two_apart params_file init_file number (λ same. omega (arith, beside.0, same)) (λ same. omega (arith, beside.0, same))) in
      elim makes.next [
        | inl then ↦ files_at then.between new then.files number ∙ begins then.between then.leads ∙ made
        | inr does ↦
            let begun = files_at does.does.between does.between does.does.files number ∙ begins does.does.between does.does.leads ∙ made in
            elim does.next [
              | inl then ↦ files_at then.between new then.files number ∙ then.leads.session.apart.files number (inr beside) ∙ begun
              | inr last ↦
                  files_at last.between new last.next.files number ∙ files_at last.does.between last.between last.does.files number
                  ∙ last.does.leads.session.apart.files number (inr beside) ∙ begun
            ]
      ]
] where
  begins : {made : Image} (between : Image) → StartLeads true made between → between.file number ≡ made.file number
  begins between leads = leads.others.others number (start_apart number (inr (omega (arith, beside.0))))

pub demo_extends : (seed count target : ℕ) (pace : Pace) (old new : Image) → IsDemoPartlyDone true seed count target old new
    → Extends (job.Demo seed count target pace) old new
demo_extends seed count target pace old new demo = record {
  goes = λ h is represents. absurd (no_run h old demo.can.fresh represents);
  starts = λ fresh. demo_starts seed count target old new demo;
  others = λ number alone. demo_beside seed count target number old new alone demo;
  inputs = λ none number few. absurd (none demo.can.can);
  told = front_grows (demo_text seed count target) (old.said channels.Out) (new.said channels.Out) (demo.out refl);
}

-- ---- every command

job_extends : (job : Job) (old new : Image) → IsSoundImage old → IsJobPartlyDone true old.file job old new → Extends job old new
job_extends (job.Start pages) old new sound then =
    extends_then (job.Start pages) old new (λ between leads. start_extends pages old between leads) then
job_extends (job.Go target pace) old new sound then =
    extends_then (job.Go target pace) old new
    (λ between leads. go_extends target (job.Go target pace) old between (inr refl) tt (λ number alone. alone) sound leads) then
job_extends (job.Resume pace) old new sound then =
    extends_then (job.Resume pace) old new (λ between leads. resume_extends pace old between sound leads) then
job_extends (job.Once target) old new sound then = once_extends target then.0 old new then.2
job_extends job.Show old new sound then =
    extends_same job.Show old new then.2.files (front_grows _ (old.said channels.Out) (new.said channels.Out) then.2.out)
job_extends (job.Make seed count) old new sound then = make_extends seed count old new then
job_extends (job.Demo seed count target pace) old new sound then = demo_extends seed count target pace old new then

touches_extends : (words : List (List ℕ)) (job : Job) (old new : Image) → IsJob words job → IsSoundImage old
    → Touches true words old.file old new → Extends job old new
touches_extends words job old new is sound (inl none) =
    extends_same job old new none.files (same_grows (old.said channels.Out) (new.said channels.Out) none.out)
touches_extends words job old new is sound (inr some) =
    job_extends job old new sound
    (subst (λ (j : Job). IsJobPartlyDone true old.file j old new) (one_job words some.0 job some.1 is) some.2)

-- ---- the program

-- Each image behind the first sync extends what read at entry.
each_extends : {H : Type 0} (m : HostModel H) (words : List (List ℕ)) (job : Job) (old synced new : H) → IsJob words job
    → IsSoundImage (m.contents old) → Leads m Stays old synced → IsDurable m synced
    → Leads m (CallTouches m.crashes.is_honest words (m.contents old).file) synced new
    → EachImage m (Extends job (m.contents old)) synced new
each_extends m words job old synced new is sound before durable since = record {
  follows = λ honest. (weaken behind.images (λ start image extends. extends honest)).follows honest;
} where
  touched : (image : Image) → CallTouches m.crashes.is_honest words (m.contents old).file (m.contents synced) image
      → IsTrue m.crashes.is_honest → Extends job (m.contents old) image
  touched image step honest =
      let yes : m.crashes.is_honest ≡ true = honest in
      touches_extends words job (m.contents old) image is sound
      (subst (λ (b : Bool). Touches b words (m.contents old).file (m.contents old) image) yes
      (subst (λ (i : Image). Touches m.crashes.is_honest words (m.contents old).file i image) (stays_contents before) step.touches))

  behind : Leads m (λ start image. IsTrue m.crashes.is_honest → Extends job (m.contents old) image) synced new
  behind =
      leads_from_durable (CallTouches m.crashes.is_honest words (m.contents old).file)
      (λ start image. IsTrue m.crashes.is_honest → Extends job (m.contents old) image) durable since
      (λ tells image step. touched image step)

-- where it is done
pub done_extends : {H : Type 0} (m : HostModel H) (words : List (List ℕ)) (job : Job) {old new : H} {status : ℕ} → IsJob words job
    → IsSoundImage (m.contents old) → HasBegun m words old new → ExtendsOrNot m job old new status
done_extends m words job {old = old} {new = new} is sound begun = inr (record {
  synced = begun.synced;
  before = begun.before;
  durable = begun.durable;
  since = each_extends m words job old begun.synced new is sound begun.before begun.durable begun.since;
})

Err≢Out : ◌≡◌ {A = Channel} channels.Out channels.Err → ⊥
Err≢Out same = cc

-- why not is said on Err, which changes nothing else
untouched_told : {why : List ℕ} (start between image : Image) → Stays start between → SaysPart channels.Err why between image
    → IsUntouched start image
untouched_told start between image same part = record {
  files = part.2.files ∙ ap (λ (i : Image). i.file) same;
  out = part.2.others channels.Out Err≢Out ∙ ap (λ (i : Image). i.said channels.Out) same;
}

why_told : (job : Job) {why : List ℕ} (start between image : Image) → Extends job start between
    → SaysPart channels.Err why between image → Extends job start image
why_told job start between image extends part =
    extends_told job start between image extends part.2.files
    (same_grows (between.said channels.Out) (image.said channels.Out) (part.2.others channels.Out Err≢Out))

-- and where it is refused, and this is told
pub refused_extends : {H : Type 0} (m : HostModel H) (words : List (List ℕ)) (job : Job) {why : Stop} {old middle new : H} {status : ℕ}
    → IsJob words job → (why ≡ stop.Words → IsNoCommand words) → IsSoundImage (m.contents old)
    → HasBegunOrNot m words old middle why → WasReported m why middle new status → ExtendsOrNot m job old new status
refused_extends m words job is none_is sound (inl none) told = inl (
  leads_then none.0 told.spoke.leads (λ start image same. record {
    files = ap (λ (i : Image). i.file) same;
    out = ap (λ (i : Image). i.said channels.Out) same;
  }) (λ start between image same part. untouched_told start between image same part),
  elim none.1 [
    | inl words_are ↦ absurd (none_is words_are job is)
    | inr free ↦ free_answer free (told_kept told)
  ],
)
refused_extends m words job {old = old} {middle = middle} is none_is sound (inr begun) told = inr (record {
  synced = begun.synced;
  before = begun.before;
  durable = begun.durable;
  since = goes_on (each_extends m words job old begun.synced middle is sound begun.before begun.durable begun.since)
      told.spoke.leads.images (λ start image extends. extends)
      (λ start between image honest extends left part. why_told job (m.contents old) between image extends part);
})
