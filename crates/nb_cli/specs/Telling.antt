-- The sessions of a run, and the lines that they are told by.
use Rattle.std.specs.Prelude.{◌≡◌, ◌⊎◌, ℕ, ◌^◌, ◌<◌, List, ◌++◌, length}
use Rattle.nb_host.specs.declared.host.Channel.TheVariants as channels
use Rattle.nb_host.specs.Image.{Image}
use Rattle.nb_format.specs.Lines.{started_line, done_line}
use Rattle.nb_journal.specs.Form.{Log, IsJournal, progress_of}
use Rattle.nb_journal.specs.Offsets.{journal_file}
use Rattle.nb_engine.specs.declared.going.Done.{Done}
use Rattle.nb_engine.specs.Histories.{History, IsHistory}
use Rattle.nb_engine.specs.Represents.{RepresentsRun}
use Rattle.nb_engine.specs.Sessions.{ticks_left, aimed_at, ticks_to, IsLed, IsGoReady, IsResumeReady}
use Rattle.nb_engine.specs.Start.{Start, IsStartReady, RepresentsStart}
use Rattle.nb_engine.specs.Steps.{SaidPrefixOf}

-- ---- what they do

-- `start` is done: the folder represents the run that it starts, and this is its line.
pub record IsStartDone (old new : Image) (line : List ℕ) : Type 0 where
  pub start : Start
  pub ready : IsStartReady old.file start
  pub begun : RepresentsStart start new
  pub line_is : line ≡ started_line (length start.bodies) start.time

-- numbers of 64 bits, as in every answer
pub record IsInWords (done : Done) : Type 0 where
  pub time : done.time < 2 ^ 64
  pub ticks : done.ticks < 2 ^ 64
  pub gone : done.gone < 2 ^ 64

-- `go` is done: what the folder represented was led to the target, and this is its line.
pub record IsGoDone (target : ℕ) (old new : Image) (line : List ℕ) : Type 0 where
  pub done : Done
  pub fits : IsInWords done
  pub there : done.time ≡ target
  pub could : IsGoReady target old.file
  pub led : (h : History) → IsHistory h → RepresentsRun h old → IsLed (ticks_to target h) (aimed_at target h) old done new
  pub line_is : line ≡ done_line done.time done.ticks done.gone

-- `resume` is done: what the folder represented was led to the end of its last leg, and this is its line.
pub record IsResumeDone (old new : Image) (line : List ℕ) : Type 0 where
  pub done : Done
  pub fits : IsInWords done
  pub there : (log : Log) → IsJournal log (old.file journal_file) → done.time ≡ (progress_of log).target
  pub could : IsResumeReady old.file
  pub led : (h : History) → IsHistory h → RepresentsRun h old → IsLed (ticks_left (progress_of h.log)) h old done new
  pub line_is : line ≡ done_line done.time done.ticks done.gone

-- Calls led so, and this is done; then its line was said.
pub record IsDoneThenSaid (by : Image → Image → Type 0) (Did : Image → Image → List ℕ → Type 0) (old new : Image) : Type 0 where
  pub between : Image
  pub leads : by old between
  pub line : List ℕ
  pub done : Did old between line
  pub files : new.file ≡ between.file
  pub out : new.said channels.Out ≡ between.said channels.Out ++ line
  pub err : new.said channels.Err ≡ between.said channels.Err

-- Calls lead so, done or not; and a front of a line is said only behind what is done, which it tells.
pub record LeadsThenSays (by : Image → Image → Type 0) (Did : Image → Image → List ℕ → Type 0) (old new : Image) : Type 0 where
  pub between : Image
  pub leads : by old between
  pub files : new.file ≡ between.file
  pub told : (new.said channels.Out ≡ between.said channels.Out)
      ⊎ ((line : List ℕ) × Did old between line
      × SaidPrefixOf line (between.said channels.Out) (new.said channels.Out))

-- Calls lead so, and say nothing on Err.
pub record LeadsWithoutErr (by : Image → Image → Type 0) (old new : Image) : Type 0 where
  pub leads : by old new
  pub err : new.said channels.Err ≡ old.said channels.Err

-- A front of a text was said on Out, and no file changed.
pub record SaysPrefix (text : List ℕ) (old new : Image) : Type 0 where
  pub files : new.file ≡ old.file
  pub out : SaidPrefixOf text (old.said channels.Out) (new.said channels.Out)
