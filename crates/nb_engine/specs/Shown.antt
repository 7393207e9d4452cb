-- What `show` answers.
use Rattle.std.specs.Prelude.{◌≡◌, ◌⊎◌, ⊤, ℕ, ◌≤◌, List}
use Rattle.nb_model.specs.Limits.{most_bodies, most_ticks}
use Rattle.nb_journal.specs.Form.{Log, progress_of, IsFresh, IsDamagedAt}
use Rattle.nb_engine.specs.declared.refusal.Refusal.{Refusal}
use Rattle.nb_engine.specs.declared.refusal.Refusal.TheVariants as refusal
use Rattle.nb_engine.specs.declared.shown.Shown.{Shown}
use Rattle.nb_engine.specs.Refusal.{damaged_journal}

-- the numbers of a journal
pub record TellsLog (log : Log) (shown : Shown) : Type 0 where
  pub time : shown.time ≡ (progress_of log).time
  pub ticks : shown.ticks ≡ (progress_of log).ticks
  pub target : shown.target ≡ (progress_of log).target
  pub count : shown.count ≡ log.count
  pub gone : shown.gone ≡ (progress_of log).gone
  pub params : shown.params ≡ log.params

-- Why nothing is shown of a journal file: none is started, or it is damaged, and the refusal says where. No file has both
-- causes, and a journal has none.
abbrev pub IsShowRefused : List ℕ → Refusal → Type 0
IsShowRefused file why =
    ((why ≡ refusal.NotStarted) × IsFresh file) ⊎ ((offset : ℕ) × (why ≡ damaged_journal offset) × IsDamagedAt offset file)

-- The numbers are within those of a run, whatever the host tells.
pub record IsInReach (shown : Shown) : Type 0 where
  pub ticks : shown.ticks ≤ most_ticks
  pub count : shown.count ≤ most_bodies
  pub gone : shown.gone ≤ shown.count

-- a refusal that `show` gives, whatever the host tells
abbrev pub IsOfShow : Refusal → Type 0
IsOfShow refusal.NotStarted = ⊤
IsOfShow refusal.Device = ⊤
IsOfShow (refusal.Damaged _) = ⊤
IsOfShow refusal.NoMemory = ⊤
IsOfShow _ = ⊥
