use Rattle.nb_cli.proofs.Lasting.{one_history, ticks_within_run, finished_is_right, lasts, all_asked, was_started, stay_sound, told_is_done}
use Rattle.nb_cli.specs.Worlds.{image_after}
use Rattle.nb_cli.proofs.worlds.law_worlds.Goals as goal

pub returns-clause-one : goal.returns-clause-one
returns-clause-one c image h other first second = one_history image h other first second

pub returns-clause-started : goal.returns-clause-started
returns-clause-started c first invocations h new are represents = was_started first invocations h new.fresh are represents

pub returns-clause-lasts : goal.returns-clause-lasts
returns-clause-lasts c first before behind h new are represents = lasts first before behind h new are represents

pub returns-clause-asked : goal.returns-clause-asked
returns-clause-asked c first invocations h new are represents =
    (all_asked first invocations h new.fresh are represents, ticks_within_run (image_after first invocations) h represents)

pub returns-clause-told : goal.returns-clause-told
returns-clause-told c first invocations k new are told some =
    told_is_done (image_after first invocations) k (stay_sound first invocations new are) told some

pub returns-clause-snapshots : goal.returns-clause-snapshots
returns-clause-snapshots c image h j represents some within finished =
    finished_is_right image h j represents some within finished

pub returns-clause-sound : goal.returns-clause-sound
returns-clause-sound c first invocations new are = stay_sound first invocations new are
