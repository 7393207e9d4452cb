-- The command `show`: what it says of the folder's journal.
use Rattle.std.specs.Prelude.{ℕ, List, ◌++◌}
use Rattle.nb_model.specs.declared.params.Params.{Params}
use Rattle.nb_format.specs.Lines.{folder_line}
use Rattle.nb_format.specs.ParamsText.{canonical_text}
use Rattle.nb_journal.specs.Entries.{Progress}
use Rattle.nb_journal.specs.Form.{Log, progress_of}

-- the folder line, and the lines of the seven parameters
abbrev pub folder_text : Progress → ℕ → Params → List ℕ
folder_text progress count params =
    folder_line progress.time progress.ticks progress.target count progress.gone ++ canonical_text params

-- the text of a journal
abbrev pub show_text : Log → List ℕ
show_text log = folder_text (progress_of log) log.count log.params
