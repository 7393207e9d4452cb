use Rattle.std.proofs.Common.{refl, codes}
use Rattle.nb_format.specs.Lines.{started_line, tick_line, done_line, folder_line, once_line, made_line, demo_line}
use Rattle.nb_format.proofs.SaidLines.{literal, number, word, ends, canonical-one_line}
use Rattle.nb_format.proofs.line_laws.law_said_lines.Goals as goal

pub returns-clause-started : goal.returns-clause-started
unfolding started_line
returns-clause-started c = λ bodies time few_bodies few_time. ends (number (word (number (literal (codes "started bodies ") refl) bodies few_bodies) (codes " time ") refl) time few_time)

pub returns-clause-tick : goal.returns-clause-tick
unfolding tick_line
returns-clause-tick c = λ k time out few_k few_time few_out. ends (number (word (number (word (number (literal (codes "tick ") refl) k few_k) (codes " time ") refl) time few_time) (codes " out ") refl) out few_out)

pub returns-clause-done : goal.returns-clause-done
unfolding done_line
returns-clause-done c = λ time ticks out few_time few_ticks few_out. ends (number (word (number (word (number (literal (codes "done time ") refl) time few_time) (codes " ticks ") refl) ticks few_ticks) (codes " out ") refl) out few_out)

pub returns-clause-folder : goal.returns-clause-folder
unfolding folder_line
returns-clause-folder c = λ time ticks target bodies out few_time few_ticks few_target few_bodies few_out. ends (number (word (number (word (number (word (number (word (number (literal (codes "folder time ") refl) time few_time) (codes " ticks ") refl) ticks few_ticks) (codes " target ") refl) target few_target) (codes " bodies ") refl) bodies few_bodies) (codes " out ") refl) out few_out)

pub returns-clause-parameter : goal.returns-clause-parameter
returns-clause-parameter c = λ params are which within. canonical-one_line params are which within

pub returns-clause-once : goal.returns-clause-once
unfolding once_line
returns-clause-once c = λ time ticks out few_time few_ticks few_out. ends (number (word (number (word (number (literal (codes "once time ") refl) time few_time) (codes " ticks ") refl) ticks few_ticks) (codes " out ") refl) out few_out)

pub returns-clause-made : goal.returns-clause-made
unfolding made_line
returns-clause-made c = λ bodies few_bodies. ends (number (literal (codes "made bodies ") refl) bodies few_bodies)

pub returns-clause-demo : goal.returns-clause-demo
unfolding demo_line
returns-clause-demo c = λ bodies out sum few_bodies few_out few_sum. ends (number (word (number (word (number (literal (codes "demo bodies ") refl) bodies few_bodies) (codes " out ") refl) out few_out) (codes " sum ") refl) sum few_sum)
