-- What lasts of a run through invocations.
use Rattle.std.proofs.Common.{◌≡◌, ◌⊎◌, inl, inr, ◌∙◌, refl, sym, ap, subst, ℕ, ◌≤◌, List, [], ◌∷◌, ◌++◌, length, arith, append-nil, append_assoc}
use Rattle.nb_host.specs.declared.host.Channel.TheVariants as channels
use Rattle.nb_host.specs.Image.{Image}
use Rattle.nb_model.specs.declared.body.Body.{Body}
use Rattle.nb_format.specs.Snapshot.{IsFinishedSnapshot}
use Rattle.nb_format.proofs.Snapshots.{one_snapshot}
use Rattle.nb_journal.specs.Form.{Log, IsFresh}
use Rattle.nb_journal.specs.Offsets.{journal_file}
use Rattle.nb_journal.proofs.Callers.{fresh_alone, one_journal}
use Rattle.nb_engine.specs.Acknowledged.{Acknowledges}
use Rattle.nb_engine.specs.Histories.{legs_in, run_length, History, run_of, ticks_of, IsHistory}
use Rattle.nb_engine.specs.Represents.{snap_of, IsSnapshotOf, RepresentsRun, RepresentsHistory, IsSoundImage}
use Rattle.nb_engine.specs.Start.{Start, started}
use Rattle.nb_engine.proofs.Callers.{ticks-within}
use Rattle.nb_cli.specs.declared.words.Job.{Job}
use Rattle.nb_cli.specs.declared.words.Job.TheVariants as job
use Rattle.nb_cli.specs.Make.{made_start}
use Rattle.nb_cli.specs.Worlds.{IsLater, KeepsSnapshots, MayAdd, MayStart, Invocation, AreInvocations, image_after, asked_by, asked_for, IsAmong, IsNew, IsStartOf, WasStarted, Lasts}

-- ---- one image, one run

pub one_history : (image : Image) (h other : History) → RepresentsRun h image → RepresentsRun other image → h ≡ other
one_history image h other first second =
    let log = one_journal h.log other.log (image.file journal_file) first.journal.journal second.journal.journal in
    let bodies = one_snapshot first.start second.start in
    ap (λ (l : Log). record h { log = l }) log ∙ ap (λ (b : List Body). record other { bodies = b }) bodies.0

-- Where the journal is fresh no run is represented.
pub no_run : (h : History) (image : Image) → IsFresh (image.file journal_file) → RepresentsRun h image → ⊥
no_run h image fresh represents = fresh_alone h.log 0 (image.file journal_file) fresh (inl represents.journal.journal)

-- The run that a sound image represents is a history, and no tick beyond was acknowledged.
pub run_of_sound : (image : Image) (h : History) → IsSoundImage image → RepresentsRun h image → IsHistory h × RepresentsHistory h image
run_of_sound image h (inl none) represents = absurd (no_run h image none.0 represents)
run_of_sound image h (inr run) represents =
    let same = one_history image run.0 h run.2.run represents in
    subst (λ (x : History). IsHistory x × RepresentsHistory x image) same (run.1, run.2)

-- ---- what is known of the run of one image

pub ticks_within_run : (image : Image) (h : History) → RepresentsRun h image → ticks_of h ≤ run_length (run_of h)
ticks_within_run image h represents = ticks-within h represents.journal.journal.lawful

pub finished_is_right : (image : Image) (h : History) (j : ℕ) → RepresentsRun h image → 1 ≤ j → j ≤ ticks_of h
    → IsFinishedSnapshot (length h.bodies) (image.file (snap_of j)) → IsSnapshotOf (run_of h) j (image.file (snap_of j))
finished_is_right image h j represents some within finished =
    represents.right j some within (record { more = omega (arith, finished.whole); open_gate = finished.opened })

-- ---- a run that goes on

pub later_same : (h : History) → IsLater [] h h
later_same h = record { params = refl; bodies = refl; begin = refl; legs = sym (append-nil (legs_in h.log.entries)); ticks = omega arith }

pub later_then : {a b : List ℕ} {h g k : History} → IsLater a h g → IsLater b g k → IsLater (a ++ b) h k
later_then {a} {b} {h} first second = record {
  params = second.params ∙ first.params;
  bodies = second.bodies ∙ first.bodies;
  begin = second.begin ∙ first.begin;
  legs = second.legs ∙ ap (λ (l : List ℕ). l ++ b) first.legs ∙ append_assoc (legs_in h.log.entries) a b;
  ticks = omega (arith, first.ticks, second.ticks);
}

kept_then : {more : List ℕ} {h g : History} (a b c : Image) → IsLater more h g → KeepsSnapshots h a b → KeepsSnapshots g b c
    → KeepsSnapshots h a c
kept_then {h = h} a b c later first second j within finished =
    let same = first j within finished in
    let still : IsFinishedSnapshot (length h.bodies) (b.file (snap_of j)) =
    subst (λ (f : List ℕ). IsFinishedSnapshot (length h.bodies) f) (sym same) finished in
    second j (omega (arith, later.ticks, within))
    (subst (λ (xs : List Body). IsFinishedSnapshot (length xs) (b.file (snap_of j))) (sym later.bodies) still)
    ∙ same

lasts_on : (first : Image) (invocations : List Invocation) (h : History) → IsSoundImage first → AreInvocations first invocations
    → RepresentsRun h first → Lasts h first (image_after first invocations)
lasts_on first [] h sound are represents =
    let is = run_of_sound first h sound represents in
    record {
      legs = [];
      later = h;
      is = is.0;
      represents = is.1;
      is_later = later_same h;
      kept = λ j within finished. refl;
    }
lasts_on first (invocation ∷ invocations) h sound are represents =
    let goes = are.1.goes h (run_of_sound first h sound represents).0 represents in
    let rest = lasts_on invocation.after invocations goes.later are.0 are.2 goes.represents in
    record {
      legs = goes.legs ++ rest.legs;
      later = rest.later;
      is = rest.is;
      represents = rest.represents;
      is_later = later_then goes.is_later rest.is_later;
      kept = kept_then first invocation.after (image_after invocation.after invocations) goes.is_later goes.kept rest.kept;
    }

-- ---- soundness, and what was told

sound_on : (first : Image) (invocations : List Invocation) → IsSoundImage first → AreInvocations first invocations → IsSoundImage (image_after first invocations)
sound_on first [] sound are = sound
sound_on first (invocation ∷ invocations) sound are = sound_on invocation.after invocations are.0 are.2

pub stay_sound : (first : Image) (invocations : List Invocation) → IsNew first → AreInvocations first invocations → IsSoundImage (image_after first invocations)
stay_sound first invocations new are = sound_on first invocations (inl (new.fresh, new.untold)) are

pub told_is_done : (image : Image) (k : ℕ) → IsSoundImage image → Acknowledges (image.said channels.Out) k → 1 ≤ k
    → (h : History) × IsHistory h × RepresentsHistory h image × (k ≤ ticks_of h)
told_is_done image k (inl none) told some = let few = none.1 k told in absurd (omega (arith, few, some))
told_is_done image k (inr run) told some = (run.0, run.1, run.2, run.2.acknowledged k told)

-- ---- a list in two parts

image_after-append : (first : Image) (before behind : List Invocation) → image_after first (before ++ behind) ≡ image_after (image_after first before) behind
image_after-append first [] behind = refl
image_after-append first (invocation ∷ before) behind = image_after-append invocation.after before behind

those_before : (first : Image) (before behind : List Invocation) → AreInvocations first (before ++ behind) → AreInvocations first before
those_before first [] behind are = tt
those_before first (invocation ∷ before) behind are = (are.0, are.1, those_before invocation.after before behind are.2)

those_behind : (first : Image) (before behind : List Invocation) → AreInvocations first (before ++ behind)
    → AreInvocations (image_after first before) behind
those_behind first [] behind are = are
those_behind first (invocation ∷ before) behind are = those_behind invocation.after before behind are.2

pub lasts : (first : Image) (before behind : List Invocation) (h : History) → IsNew first → AreInvocations first (before ++ behind)
    → RepresentsRun h (image_after first before) → Lasts h (image_after first before) (image_after first (before ++ behind))
lasts first before behind h new are represents =
    subst (λ (i : Image). Lasts h (image_after first before) i) (sym (image_after-append first before behind))
    (lasts_on (image_after first before) behind h (stay_sound first before new (those_before first before behind are))
    (those_behind first before behind are) represents)

-- ---- legs that were asked for

among_more : (legs ys xs : List ℕ) → IsAmong legs xs → IsAmong legs (ys ++ xs)
among_more [] ys xs among = tt
among_more (x ∷ legs) [] xs among = among
among_more (x ∷ legs) (y ∷ ys) xs among = inr (among_more (x ∷ legs) ys xs among)

among_join : (a b xs ys : List ℕ) → IsAmong a xs → IsAmong b ys → IsAmong (a ++ b) (xs ++ ys)
among_join [] b xs ys first second = among_more b xs ys second
among_join (x ∷ a) b [] ys first second = absurd first
among_join (x ∷ a) b (z ∷ xs) ys (inl here) second = inl (here.0, among_join a b xs ys here.1 second)
among_join (x ∷ a) b (z ∷ xs) ys (inr later) second = inr (among_join (x ∷ a) b xs ys later second)

none_or_one : (legs : List ℕ) (target : ℕ) → (legs ≡ []) ⊎ (legs ≡ target ∷ []) → IsAmong legs (target ∷ [])
none_or_one legs target (inl none) = subst (λ (l : List ℕ). IsAmong l (target ∷ [])) (sym none) tt
none_or_one legs target (inr one) = subst (λ (l : List ℕ). IsAmong l (target ∷ [])) (sym one) (inl (refl, tt))

added_asked : (job : Job) (legs : List ℕ) → MayAdd job legs → IsAmong legs (asked_by job)
added_asked (job.Start pages) legs none = subst (λ (l : List ℕ). IsAmong l []) (sym none) tt
added_asked (job.Go target pace) legs may = none_or_one legs target may
added_asked (job.Resume pace) legs none = subst (λ (l : List ℕ). IsAmong l []) (sym none) tt
added_asked job.Show legs none = subst (λ (l : List ℕ). IsAmong l []) (sym none) tt
added_asked (job.Once target) legs none = subst (λ (l : List ℕ). IsAmong l []) (sym none) tt
added_asked (job.Make seed count) legs none = subst (λ (l : List ℕ). IsAmong l []) (sym none) tt
added_asked (job.Demo seed count target pace) legs none = subst (λ (l : List ℕ). IsAmong l (target ∷ [])) (sym none) tt

-- Behind an image that represents a run its legs are followed by legs that were asked for.
pub record AreAsked (before legs asked : List ℕ) : Type 0 where
  pub more : List ℕ
  pub legs_are : legs ≡ before ++ more
  pub among : IsAmong more asked

asked_on : (first : Image) (invocations : List Invocation) (g h : History) → IsSoundImage first → AreInvocations first invocations
    → RepresentsRun g first → RepresentsRun h (image_after first invocations)
    → AreAsked (legs_in g.log.entries) (legs_in h.log.entries) (asked_for invocations)
asked_on first [] g h sound are before behind = record {
  more = [];
  legs_are = ap (λ (x : History). legs_in x.log.entries) (one_history first h g behind before) ∙ sym (append-nil (legs_in g.log.entries));
  among = tt;
}
asked_on first (invocation ∷ invocations) g h sound are before behind =
    let goes = are.1.goes g (run_of_sound first g sound before).0 before in
    let rest = asked_on invocation.after invocations goes.later h are.0 are.2 goes.represents behind in
    record {
      more = goes.legs ++ rest.more;
      legs_are = rest.legs_are ∙ ap (λ (l : List ℕ). l ++ rest.more) goes.is_later.legs
          ∙ append_assoc (legs_in g.log.entries) goes.legs rest.more;
      among = among_join goes.legs rest.more (asked_by invocation.job) (asked_for invocations)
          (added_asked invocation.job goes.legs goes.asked) rest.among;
    }

-- a run that a invocation started, and of what
pub record IsBegunBy (job : Job) (old new : Image) : Type 0 where
  pub start : Start
  pub is : IsStartOf job old.file start
  pub legs : List ℕ
  pub run : History
  pub represents : RepresentsRun run new
  pub is_later : IsLater legs (started start) run
  pub asked : IsAmong (legs_in run.log.entries) (asked_by job)

begun_by : (job : Job) (old new : Image) → MayStart job old new → IsBegunBy job old new
begun_by (job.Start pages) old new may = record {
  start = may.start;
  is = may.ready;
  legs = [];
  run = started may.start;
  represents = may.represents;
  is_later = later_same (started may.start);
  asked = tt;
}
begun_by (job.Go target pace) old new never = absurd never
begun_by (job.Resume pace) old new never = absurd never
begun_by job.Show old new never = absurd never
begun_by (job.Once target) old new never = absurd never
begun_by (job.Make seed count) old new never = absurd never
begun_by (job.Demo seed count target pace) old new may = record {
  start = made_start seed count;
  is = (may.can, refl);
  legs = may.legs;
  run = may.run;
  represents = may.represents;
  is_later = may.is_later;
  asked = subst (λ (l : List ℕ). IsAmong l (target ∷ [])) (sym may.is_later.legs) (none_or_one may.legs target may.asked);
}

pub all_asked : (first : Image) (invocations : List Invocation) (h : History) → IsFresh (first.file journal_file) → AreInvocations first invocations
    → RepresentsRun h (image_after first invocations) → IsAmong (legs_in h.log.entries) (asked_for invocations)
all_asked first [] h fresh are behind = absurd (no_run h first fresh behind)
all_asked first (invocation ∷ invocations) h fresh are behind = elim (are.1.starts fresh) [
  | inl still ↦ among_more (legs_in h.log.entries) (asked_by invocation.job) (asked_for invocations)
      (all_asked invocation.after invocations h still are.2 behind)
  | inr may ↦
      let begun = begun_by invocation.job first invocation.after may in
      let rest = asked_on invocation.after invocations begun.run h are.0 are.2 begun.represents behind in
      subst (λ (l : List ℕ). IsAmong l (asked_by invocation.job ++ asked_for invocations)) (sym rest.legs_are)
      (among_join (legs_in begun.run.log.entries) rest.more (asked_by invocation.job) (asked_for invocations) begun.asked rest.among)
]

-- ---- which invocation started the run

pub was_started : (first : Image) (invocations : List Invocation) (h : History) → IsFresh (first.file journal_file) → AreInvocations first invocations
    → RepresentsRun h (image_after first invocations) → WasStarted first invocations h
was_started first [] h fresh are behind = absurd (no_run h first fresh behind)
was_started first (invocation ∷ invocations) h fresh are behind = elim (are.1.starts fresh) [
  | inl still ↦
      let was = was_started invocation.after invocations h still are.2 behind in
      record {
        before = invocation ∷ was.before;
        invocation = was.invocation;
        behind = was.behind;
        are = ap (λ (l : List Invocation). invocation ∷ l) was.are;
        fresh = was.fresh;
        start = was.start;
        is = was.is;
        params = was.params;
        bodies = was.bodies;
        begin = was.begin;
      }
  | inr may ↦
      let begun = begun_by invocation.job first invocation.after may in
      let rest = lasts_on invocation.after invocations begun.run are.0 are.2 begun.represents in
      let same = one_history (image_after invocation.after invocations) h rest.later behind rest.represents.run in
      let later = later_then begun.is_later rest.is_later in
      record {
        before = [];
        invocation = invocation;
        behind = invocations;
        are = refl;
        fresh = fresh;
        start = begun.start;
        is = begun.is;
        params = ap (λ (x : History). x.log.params) same ∙ later.params;
        bodies = ap (λ (x : History). x.bodies) same ∙ later.bodies;
        begin = ap (λ (x : History). x.log.begin_time) same ∙ later.begin;
      }
]
