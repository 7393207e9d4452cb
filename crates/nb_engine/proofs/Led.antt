-- Where a run is when its last leg has ended.
use Rattle.std.proofs.Common.{◌≡◌, ◌≢◌, ℕ, zero, suc, ◌≤◌, ◌⊎◌, inl, inr, Bool, true, false, List, [], ◌∷◌, length, refl, sym, ap, subst, ◌∙◌, arith}
use Rattle.std.specs.Prelude.{Contains, ◌==◌, if◌then◌else◌}
use Rattle.std.specs.Int.{abs_diff}
use Rattle.std.proofs.lemmas.Bool.Decides.{nat_tests}
use Rattle.nb_host.specs.Image.{Image}
use Rattle.nb_host.specs.Meaning.{HostModel}
use Rattle.nb_model.specs.Leapfrog.{escaped_count}
use Rattle.nb_format.specs.Snapshot.{IsFinishedSnapshot}
use Rattle.nb_journal.specs.Counters.{Counters, Answers, counters_after}
use Rattle.nb_journal.specs.declared.entry.Entry.{Entry}
use Rattle.nb_journal.specs.declared.entry.Entry.TheVariants.{Leg, Tick}
use Rattle.nb_journal.specs.Entries.{Progress, progress_after, after_all}
use Rattle.nb_journal.specs.Form.{IsLawful, initial_progress, progress_of}
use Rattle.nb_engine.specs.declared.going.Done.{Done}
use Rattle.nb_engine.specs.Files.{init_file}
use Rattle.nb_engine.specs.Histories.{state_at, time_at, IsDueAfter, History, run_of, ticks_of, IsHistory, legged}
use Rattle.nb_engine.specs.Represents.{snap_of, Represents}
use Rattle.nb_engine.specs.Sessions.{ticks_left, aimed_at, ticks_to, IsLed}
use Rattle.nb_engine.specs.Steps.{played, IsCheckpoint, HasPlayed, HoldsDueSnapshots}
use Rattle.nb_engine.proofs.DueNow.{due_by}
use Rattle.nb_engine.proofs.LongerLogs.{ticks-ended}
use Rattle.nb_engine.proofs.Paths.{time-now}

-- ---- how many bodies are out

-- What the entries come to is what their last tick tells, or what was so before them.
record IsLastTick (s : Progress) (entries : List Entry) : Type 0 where
  number : ℕ
  gone : ℕ
  there : Contains entries (Tick number gone)
  ticks : (after_all entries s).ticks ≡ number
  gone_is : (after_all entries s).gone ≡ gone

record IsWithoutTick (s : Progress) (entries : List Entry) : Type 0 where
  ticks : (after_all entries s).ticks ≡ s.ticks
  gone_is : (after_all entries s).gone ≡ s.gone

behind : (entry : Entry) (entries : List Entry) (one : Entry) → Contains entries one → Contains (entry ∷ entries) one
behind entry entries one (k, below, is) = (suc k, omega arith, is)

last_tick : (s : Progress) (entries : List Entry) → IsLastTick s entries ⊎ IsWithoutTick s entries
last_tick s [] = inr (record { ticks = refl; gone_is = refl })
last_tick s (Leg target ∷ entries) = elim (last_tick (progress_after (Leg target) s) entries) [
  | inl last ↦ inl (record {
    number = last.number;
    gone = last.gone;
    there = behind (Leg target) entries (Tick last.number last.gone) last.there;
    ticks = last.ticks;
    gone_is = last.gone_is;
  })
  | inr none ↦ inr (record { ticks = none.ticks; gone_is = none.gone_is })
]
last_tick s (Tick number gone ∷ entries) = elim (last_tick (progress_after (Tick number gone) s) entries) [
  | inl last ↦ inl (record {
    number = last.number;
    gone = last.gone;
    there = behind (Tick number gone) entries (Tick last.number last.gone) last.there;
    ticks = last.ticks;
    gone_is = last.gone_is;
  })
  | inr none ↦ inl (record {
    number = number;
    gone = gone;
    there = (0, omega arith, refl);
    ticks = none.ticks;
    gone_is = none.gone_is;
  })
]

-- the journal tells how many bodies are out after the last tick
pub gone-now : (h : History) → IsHistory h → (progress_of h.log).gone ≡ escaped_count (state_at (run_of h) (ticks_of h))
gone-now h is = elim (last_tick (initial_progress h.log) h.log.entries) [
  | inl last ↦
      last.gone_is ∙ (is.truthful last.number last.gone last.there).gone_is
      ∙ ap (λ (k : ℕ). escaped_count (state_at (run_of h) k)) (sym last.ticks)
  | inr none ↦
      none.gone_is ∙ is.gone ∙ ap (λ (k : ℕ). escaped_count (state_at (run_of h) k)) (sym none.ticks)
]

-- ---- back at the time of the begin

-- what is known of finished snapshots of that time
abbrev pub SnapshotIsBack : Type 0
SnapshotIsBack = (h : History) (image : Image) (i : ℕ) → IsHistory h → Represents h.log (run_of h) (ticks_of h) image
    → escaped_count (state_at (run_of h) (ticks_of h)) ≡ escaped_count h.bodies → 1 ≤ i → i ≤ ticks_of h
    → time_at (run_of h) i ≡ h.log.begin_time → IsFinishedSnapshot (length h.bodies) (image.file (snap_of i))
    → image.file (snap_of i) ≡ image.file init_file

begin_time-played : (n : ℕ) (h : History) → (played n h).log.begin_time ≡ h.log.begin_time
begin_time-played zero h = refl
begin_time-played (suc n) h = begin_time-played n h

begin_gone-played : (n : ℕ) (h : History) → (played n h).log.begin_gone ≡ h.log.begin_gone
begin_gone-played zero h = refl
begin_gone-played (suc n) h = begin_gone-played n h

-- a snapshot is due after the last tick where its leg has ended
due_ended : (h : History) → IsLawful h.log → 1 ≤ ticks_of h → (progress_of h.log).time ≡ (progress_of h.log).target
    → IsDueAfter (run_of h) (ticks_of h)
due_ended h lawful some ended = due_by h lawful (some, inr ended)

-- So that of the last tick of a leg is the initial one.
back_again : SnapshotIsBack → {H : Type 0} {m : HostModel H} (h : History) {journal : Counters} {host : H} → IsCheckpoint m h journal host
    → HoldsDueSnapshots m h host → (progress_of h.log).time ≡ (progress_of h.log).target
    → (progress_of h.log).time ≡ h.log.begin_time → 1 ≤ ticks_of h → (progress_of h.log).gone ≡ h.log.begin_gone
    → (m.contents host).file (snap_of (ticks_of h)) ≡ (m.contents host).file init_file
back_again law {m = m} h {host = host} at date ended time some gone =
    let lawful = at.represents.journal.journal.lawful in
    law h (m.contents host) (ticks_of h) at.is at.represents (sym (gone-now h at.is) ∙ gone ∙ at.is.gone) some (omega arith)
    (sym (time-now h lawful) ∙ time) (date (ticks_of h) (due_ended h lawful some ended) (omega arith))

-- ---- at the end of a leg

pub led : SnapshotIsBack → {H : Type 0} {m : HostModel H} {n : ℕ} {h : History} {first : Image} {journal : Counters} {host : H}
    {done : Done} → HasPlayed m n h first journal host → HoldsDueSnapshots m (played n h) host → journal.progress.time ≡ journal.progress.target
    → done.time ≡ journal.progress.time → done.ticks ≡ journal.progress.ticks → done.gone ≡ journal.progress.gone
    → IsLed n h first done (m.contents host)
led law {m = m} {n = n} {h = h} {host = host} {done = done} has date ended time ticks gone =
    let last = played n h in
    let answers = has.at.answers in
    let closed = subst (λ (c : Counters). c.progress.time ≡ c.progress.target) answers ended in
    record {
      is = has.at.is;
      represents = has.at.represents;
      ended = sym (ticks-ended last has.at.represents.journal.journal.lawful closed);
      complete = date;
      kept = has.kept;
      others = has.others;
      said = has.said;
      cells = has.cells;
      time_is = time ∙ ap (λ (c : Counters). c.progress.time) answers;
      ticks_is = ticks ∙ ap (λ (c : Counters). c.progress.ticks) answers;
      gone_is = gone ∙ ap (λ (c : Counters). c.progress.gone) answers ∙ gone-now last has.at.is;
      back = λ again some none.
          let number : done.ticks ≡ ticks_of last = ticks ∙ ap (λ (c : Counters). c.progress.ticks) answers in
          subst (λ (k : ℕ). (m.contents host).file (snap_of k) ≡ (m.contents host).file init_file) (sym number)
          (back_again law last has.at date closed
          (sym (time ∙ ap (λ (c : Counters). c.progress.time) answers) ∙ again ∙ sym (begin_time-played n h))
          (subst (λ (k : ℕ). 1 ≤ k) number some)
          (sym (gone ∙ ap (λ (c : Counters). c.progress.gone) answers) ∙ none ∙ sym (begin_gone-played n h)));
    }

-- ---- where a session aims

pub aimed_here : (target : ℕ) (h : History) → target ≡ (progress_of h.log).time → aimed_at target h ≡ h
aimed_here target h same =
    let yes : (target == (progress_of h.log).time) ≡ true = grind (arith, nat_tests) in
    ap (λ (b : Bool). if b then h else legged target h) yes

pub aimed_away : (target : ℕ) (h : History) → target ≢ (progress_of h.log).time → aimed_at target h ≡ legged target h
aimed_away target h apart =
    let no : (target == (progress_of h.log).time) ≡ false = grind (arith, nat_tests) in
    ap (λ (b : Bool). if b then h else legged target h) no

pub no_ticks : (target : ℕ) (h : History) → target ≡ (progress_of h.log).time → ticks_to target h ≡ 0
no_ticks target h same = omega (arith, same)

-- the ticks that are left of a leg that was added
pub left_of_leg : (target : ℕ) (h : History) (journal : Counters) → Answers h.log journal
    → ticks_left (counters_after (Leg target) journal).progress ≡ ticks_to target h
left_of_leg target h journal answers = ap (λ (c : Counters). abs_diff c.progress.time target) answers

pub left_of : (h : History) (journal : Counters) → Answers h.log journal
    → ticks_left journal.progress ≡ ticks_left (progress_of h.log)
left_of h journal answers = ap (λ (c : Counters). ticks_left c.progress) answers

-- a history led to the target, as it stands
pub led_here : (target : ℕ) (h : History) {first image : Image} {done : Done} → target ≡ (progress_of h.log).time
    → IsLed 0 h first done image → IsLed (ticks_to target h) (aimed_at target h) first done image
led_here target h {first = first} {image = image} {done = done} same is =
    subst (λ (l : History). IsLed (ticks_to target h) l first done image) (sym (aimed_here target h same))
    (subst (λ (n : ℕ). IsLed n h first done image) (sym (no_ticks target h same)) is)

pub led_away : (target : ℕ) (h : History) {first image : Image} {done : Done} → target ≢ (progress_of h.log).time
    → IsLed (ticks_to target h) (legged target h) first done image
    → IsLed (ticks_to target h) (aimed_at target h) first done image
led_away target h {first = first} {image = image} {done = done} apart is =
    subst (λ (l : History). IsLed (ticks_to target h) l first done image) (sym (aimed_away target h apart)) is
