use Rattle.std.proofs.Common.{sym, ap, ◌∙◌}
use Rattle.nb_host.specs.Meaning.{asked_of_none}
use Rattle.nb_journal.specs.declared.form.Heading.{Heading}
use Rattle.nb_journal.specs.Counters.{log_under}
use Rattle.nb_journal.specs.Form.{header}
use Rattle.nb_journal.proofs.Headings.{header_under}
use Rattle.nb_journal.proofs.heading.said.Goals as goal

pub returns-then-not-is_page-clause-none : goal.returns-then-not-is_page-clause-none
returns-then-not-is_page-clause-none c = λ none log lawful is.
    asked_of_none (c.if-not-is_page.ensures.1 (is ∙ header_under log
    ∙ ap (λ (h : Heading). header 83 (log_under h)) (sym (c.parse_heading-heading.ensures log lawful is))))
