-- A run, and what its journal tells of it.
use Rattle.std.specs.Prelude.{◌≡◌, ℕ, suc, ◌≤◌, List, [], ◌∷◌, ◌++◌, length, Contains}
use Rattle.nb_model.specs.declared.body.Body.{Body}
use Rattle.nb_model.specs.declared.params.Params.{Params}
use Rattle.nb_model.specs.Leapfrog.{escaped_count}
use Rattle.nb_model.specs.Legs.{directions, time_after, state_after, AreLegs, IsSnapshotDue}
use Rattle.nb_model.specs.Valid.{IsValidBodies}
use Rattle.nb_journal.specs.declared.entry.Entry.{Entry}
use Rattle.nb_journal.specs.declared.entry.Entry.TheVariants.{Leg, Tick}
use Rattle.nb_journal.specs.Form.{Log, progress_of}

-- A run: its parameters, the bodies at its begin, the time then, and its legs, each by its target.
pub record Run : Type 0 where
  pub params : Params
  pub bodies : List Body
  pub begin : ℕ
  pub legs : List ℕ

-- the list after the first k ticks of a run, and the time then
abbrev pub state_at : Run → ℕ → List Body
state_at run k = state_after run.params run.bodies run.begin run.legs k

abbrev pub time_at : Run → ℕ → ℕ
time_at run k = time_after run.begin run.legs k

-- a snapshot is due after tick k
abbrev pub IsDueAfter : Run → ℕ → Type 0
IsDueAfter run k = IsSnapshotDue run.params run.begin run.legs k

-- how many ticks a run has
abbrev pub run_length : Run → ℕ
run_length run = length (directions run.begin run.legs)

-- The bodies are valid, and the legs are those of a run.
pub record IsRun (run : Run) : Type 0 where
  pub bodies : IsValidBodies run.params run.bodies
  pub legs : AreLegs run.begin run.legs

-- ---- what a journal tells

-- A run so far: what its journal tells, and the bodies at its begin, which the journal doesn't tell.
pub record History : Type 0 where
  pub log : Log
  pub bodies : List Body

-- the targets of the legs among the entries, in order
abbrev pub legs_in : List Entry → List ℕ
legs_in [] = []
legs_in (Leg target ∷ entries) = target ∷ legs_in entries
legs_in (Tick number gone ∷ entries) = legs_in entries

abbrev pub run_of : History → Run
run_of h = record { params = h.log.params; bodies = h.bodies; begin = h.log.begin_time; legs = legs_in h.log.entries }

-- how many ticks are done
abbrev pub ticks_of : History → ℕ
ticks_of h = (progress_of h.log).ticks

-- A tick of the journal is one of those that are done, with the number of bodies that were out after it.
pub record IsRecordedTick (h : History) (number gone : ℕ) : Type 0 where
  pub done : number ≤ ticks_of h
  pub gone_is : gone ≡ escaped_count (state_at (run_of h) number)

-- The journal tells the truth of a run with these bodies. That its ticks are 1 to the last, in order, and lead along its
-- legs, is so of every lawful log.
pub record IsHistory (h : History) : Type 0 where
  pub run : IsRun (run_of h)
  pub count : h.log.count ≡ length h.bodies
  pub gone : h.log.begin_gone ≡ escaped_count h.bodies
  pub truthful : (number gone : ℕ) → Contains h.log.entries (Tick number gone) → IsRecordedTick h number gone

-- ---- one entry more

abbrev pub with_entry_of : Entry → History → History
with_entry_of entry h = record { log = record h.log { entries = h.log.entries ++ entry ∷ [] }; bodies = h.bodies }

-- the entry of the next tick
abbrev pub next_tick : History → Entry
next_tick h = Tick (suc (ticks_of h)) (escaped_count (state_at (run_of h) (suc (ticks_of h))))

-- the history with one tick more, and with one leg more
abbrev pub ticked : History → History
ticked h = with_entry_of (next_tick h) h

abbrev pub legged : ℕ → History → History
legged target h = with_entry_of (Leg target) h
