-- What the crash leaves is one of the images of before, and then the only one.
use Rattle.nb_host.specs.Memory.{events_of}
use Rattle.nb_host.proofs.DiskSteps.{crash_image, crash_durable, follows_crash}
use Rattle.nb_host.proofs.memory.MemoryHost.crash.Goals as goal

pub returns-clause-image : goal.returns-clause-image
returns-clause-image c = crash_image (events_of c.args.self.now) _ c.args.outcome c.in_ok-crash.ensures.ok

pub returns-clause-durable : goal.returns-clause-durable
returns-clause-durable c = λ image _ is.
    crash_durable (events_of c.args.self.now) _ c.args.outcome c.in_ok-crash.ensures.ok image is

pub returns-clause-images : goal.returns-clause-images
returns-clause-images c = follows_crash events_of c.args.self.now _ c.args.outcome c.in_ok-crash.ensures.ok
