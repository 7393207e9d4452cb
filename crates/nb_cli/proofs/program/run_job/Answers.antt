use Rattle.nb_cli.proofs.program.run_job.Goals as goal

pub returns-in-Start-clause-cause : goal.returns-in-Start-clause-cause
returns-in-Start-clause-cause g c = rw c.in-Start.is c.run_start.ensures.cause

pub returns-in-Make-clause-cause : goal.returns-in-Make-clause-cause
returns-in-Make-clause-cause g c = rw c.in-Make.is c.run_make.ensures.cause

pub returns-in-Demo-clause-cause : goal.returns-in-Demo-clause-cause
returns-in-Demo-clause-cause g c = rw c.in-Demo.is c.run_demo.ensures.cause
