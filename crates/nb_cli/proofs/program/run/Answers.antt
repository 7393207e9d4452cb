use Rattle.std.proofs.Common.{ap, Err}
use Rattle.nb_cli.proofs.Statuses.{begins_run, begins_or_not, begins_no_words, begins_no_memory, brings_words, brings_none, run_reason, no_words_reason}
use Rattle.nb_cli.proofs.Commands.{paced}
use Rattle.nb_cli.proofs.program.run.Goals as goal

pub run_job-requires : goal.run_job-requires
run_job-requires g c = paced _ c.in-Ok.job c.in-Ok.ensures.command

pub returns-in-Ok-run_job-clause-begun : goal.returns-in-Ok-run_job-clause-begun
returns-in-Ok-run_job-clause-begun g c = begins_run c.in-Ok.ensures.command c.in-Ok-run_job.ensures.begun

pub returns-in-Err-clause-run : goal.returns-in-Err-clause-run
returns-in-Err-clause-run g c = begins_or_not c.in-Ok.ensures.command c.in-Err.ensures.run

pub returns-in-Err-clause-cause : goal.returns-in-Err-clause-cause
returns-in-Err-clause-cause g c told = run_reason c.in-Ok.job c.in-Ok.ensures.command (c.in-Err.ensures.cause told)

pub returns-in-Err-clause-brought : goal.returns-in-Err-clause-brought
returns-in-Err-clause-brought g c =
    brings_words g.H.Host.meaning _ c.in-Ok.job c.in-Err.refusal c.args.host.now c.run_job.new.host c.in-Ok.ensures.command
    c.in-Err.ensures.brought

pub returns-in-Err-Refused-clause-run : goal.returns-in-Err-Refused-clause-run
returns-in-Err-Refused-clause-run g c = begins_no_words g.H.Host.meaning _ c.args.host.now

pub returns-in-Err-NoMemory-clause-run : goal.returns-in-Err-NoMemory-clause-run
returns-in-Err-NoMemory-clause-run g c = begins_no_memory g.H.Host.meaning _ c.args.host.now

pub returns-in-Err-Refused-clause-words : goal.returns-in-Err-Refused-clause-words
returns-in-Err-Refused-clause-words g c = λ same. c.in-Err-Refused.ensures.refused (ap Err c.in-Err-Refused.field-0-is)

pub returns-in-Err-Refused-clause-cause : goal.returns-in-Err-Refused-clause-cause
returns-in-Err-Refused-clause-cause g c = λ told. no_words_reason (c.in-Err-Refused.ensures.refused (ap Err c.in-Err-Refused.field-0-is))

pub returns-in-Err-Refused-clause-brought : goal.returns-in-Err-Refused-clause-brought
returns-in-Err-Refused-clause-brought g c = brings_none g.H.Host.meaning _ c.args.host.now c.args.host.now
