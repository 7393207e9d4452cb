-- What a `Journal` keeps of its file.
use Rattle.std.specs.Prelude.{◌≡◌, ℕ, ◌+◌, ◌*◌, ◌≤◌, [], length}
use Rattle.std.specs.Int.{abs_diff}
use Rattle.nb_model.specs.declared.params.Params.{Params}
use Rattle.nb_model.specs.Limits.{most_bodies, most_ticks}
use Rattle.nb_model.specs.Valid.{AreInRange}
use Rattle.nb_journal.specs.declared.entry.Entry.{Entry}
use Rattle.nb_journal.specs.declared.form.Heading.{Heading}
use Rattle.nb_journal.specs.Entries.{Progress, progress_after}
use Rattle.nb_journal.specs.Form.{Log, progress_of}

-- the parameters, how many bodies there are, the time at the start, how many entries there are, and what they come to
pub record Counters : Type 0 where
  pub params : Params
  pub count : ℕ
  pub begin_time : ℕ
  pub entries : ℕ
  pub progress : Progress

abbrev pub counters_of : Log → Counters
counters_of log = record {
  params = log.params;
  count = log.count;
  begin_time = log.begin_time;
  entries = length log.entries;
  progress = progress_of log;
}

-- the counters are those of the log
abbrev pub Answers : Log → Counters → Type 0
Answers log counters = counters ≡ counters_of log

-- the counters after one more entry
abbrev pub counters_after : Entry → Counters → Counters
counters_after entry counters =
    record counters { entries = counters.entries + 1; progress = progress_after entry counters.progress }

-- the log of a heading, without entries
abbrev pub log_under : Heading → Log
log_under heading = record {
  version = heading.version;
  params = heading.params;
  count = heading.count;
  begin_time = heading.time;
  begin_gone = heading.gone;
  entries = [];
}

-- the heading of a log
abbrev pub heading_of : Log → Heading
heading_of log = record {
  version = log.version;
  params = log.params;
  count = log.count;
  time = log.begin_time;
  gone = log.begin_gone;
}

-- the log of a run that is to be started, in the form's present version
abbrev pub new_log : Params → ℕ → ℕ → ℕ → Log
new_log params count time gone =
    log_under (record { version = 2; params = params; count = count; time = time; gone = gone })

-- What holds of each `Journal`, whatever its host tells. So the counts of ticks and of entries stay small, and no offset in
-- the file is too large for its type.
pub record AreInReach (counters : Counters) : Type 0 where
  pub params : AreInRange counters.params
  pub count : counters.count ≤ most_bodies
  pub gone : counters.progress.gone ≤ counters.count
  pub ticks : counters.progress.ticks + abs_diff counters.progress.time counters.progress.target ≤ most_ticks
  pub entries : counters.entries ≤ 2 * counters.progress.ticks + 1
  pub ended : counters.progress.time ≡ counters.progress.target
      → counters.entries ≤ 2 * counters.progress.ticks
