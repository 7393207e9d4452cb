use Rattle.std.proofs.Common.{◌≡◌, ◌⊎◌, inl, inr, IsTrue, IsOk, Ok, Err, ap, ◌∙◌, rules}
use Rattle.nb_host.specs.declared.host.Channel.TheVariants as channels
use Rattle.nb_host.specs.Image.{Image}
use Rattle.nb_host.proofs.Callers.{ok_is_no_error}
use Rattle.nb_engine.specs.Refusal.{NeedsNoCause, of_host}
use Rattle.nb_engine.proofs.Callers.{durable_said}
use Rattle.nb_cli.specs.Make.{made_start}
use Rattle.nb_cli.specs.Demo.{IsDemoRefused, demo_list, summary_line}
use Rattle.nb_cli.proofs.DemoCalls.{session_refused, session_unsaid, session_said}
use Rattle.nb_cli.proofs.DemoStages.{fresh_made}
use Rattle.nb_cli.proofs.DemoRuns.{found_ran, found_so, made_ran, made_so, reading_ran, reading_so, started_ran, started_so, led_ran, led_so, summed_ran, demo_all, begun_told, few_told, list_told, length_list, line_told, needless_of_demo, unlike_of_demo, made_of_demo, made_needless, never_behind}
use Rattle.nb_cli.proofs.Runs.{host_needless}
use Rattle.nb_cli.proofs.demo_command.demo.Goals as goal

-- ---- where it finds something

pub returns-in_err-find_nothing-clause-ran : goal.returns-in_err-find_nothing-clause-ran
returns-in_err-find_nothing-clause-ran g c =
    let m = g.H.Host.meaning in
    let seed = c.args.seed in
    let count = c.args.count in
    let target = c.args.target in
    let why = c.in_err-find_nothing.field-0.0 in
    let handed_on : c.from_residual.result ≡ Err why = search rules in
    session_refused (found_ran m seed count target c.find_nothing.ensures.ran)
    c.in_err-find_nothing.was handed_on (λ device. device) (λ device. device)

-- ---- where the files aren't made

pub returns-in_err-make-clause-cause : goal.returns-in_err-make-clause-cause
returns-in_err-make-clause-cause g c =
    let m = g.H.Host.meaning in
    let seed = c.args.seed in
    let count = c.args.count in
    let target = c.args.target in
    let fine_0 : IsOk c.find_nothing.result = search rules in
    let so_0 = found_so m seed count target c.requires.durable fine_0 c.find_nothing.ensures.ran c.in_ok-find_nothing.ensures.can in
    let why = c.in_err-make.field-0.0 in
    let handed_on : c.from_residual-in_err-make.result ≡ Err why = search rules in
    let cause : IsTrue m.tells → NeedsNoCause why ⊎ IsDemoRefused (m.contents c.args.host.now).file target why = λ told.
    let facts = so_0.facts told in
    inl (made_needless facts.0 (ap (λ (i : Image). i.file) facts.1) (c.in_err-make.ensures.cause told)) in
    rw handed_on cause

pub returns-in_err-make-clause-refusals : goal.returns-in_err-make-clause-refusals
returns-in_err-make-clause-refusals g c =
    let why = c.in_err-make.field-0.0 in
    let handed_on : c.from_residual-in_err-make.result ≡ Err why = search rules in
    rw handed_on (made_of_demo why c.in_err-make.ensures.refusals)

pub returns-in_err-make-clause-ran : goal.returns-in_err-make-clause-ran
returns-in_err-make-clause-ran g c =
    let m = g.H.Host.meaning in
    let seed = c.args.seed in
    let count = c.args.count in
    let target = c.args.target in
    let fine_0 : IsOk c.find_nothing.result = search rules in
    let so_0 = found_so m seed count target c.requires.durable fine_0 c.find_nothing.ensures.ran c.in_ok-find_nothing.ensures.can in
    let why = c.in_err-make.field-0.0 in
    let handed_on : c.from_residual-in_err-make.result ≡ Err why = search rules in
    session_refused (made_ran m seed count target so_0 c.make.ensures.ran)
    c.in_err-make.was handed_on (λ device. device) (λ device. device)

-- ---- or don't read so

pub returns-in_err-find_made-clause-cause : goal.returns-in_err-find_made-clause-cause
returns-in_err-find_made-clause-cause g c =
    let m = g.H.Host.meaning in
    let seed = c.args.seed in
    let count = c.args.count in
    let target = c.args.target in
    let fine_0 : IsOk c.find_nothing.result = search rules in
    let so_0 = found_so m seed count target c.requires.durable fine_0 c.find_nothing.ensures.ran c.in_ok-find_nothing.ensures.can in
    let fine_1 : IsOk c.make.result = search rules in
    let so_1 = made_so m seed count target fine_1 so_0 c.make.ensures.ran c.in_ok-make.ensures.durable c.in_ok-make.ensures.done in
    let why = c.in_err-find_made.field-0.0 in
    let handed_on : c.from_residual-in_err-find_made.result ≡ Err why = search rules in
    let cause : IsTrue m.tells → NeedsNoCause why ⊎ IsDemoRefused (m.contents c.args.host.now).file target why = λ told.
    inl (c.in_err-find_made.ensures.cause told (so_1.facts told).makes.made) in
    rw handed_on cause

pub returns-in_err-find_made-clause-ran : goal.returns-in_err-find_made-clause-ran
returns-in_err-find_made-clause-ran g c =
    let m = g.H.Host.meaning in
    let seed = c.args.seed in
    let count = c.args.count in
    let target = c.args.target in
    let fine_0 : IsOk c.find_nothing.result = search rules in
    let so_0 = found_so m seed count target c.requires.durable fine_0 c.find_nothing.ensures.ran c.in_ok-find_nothing.ensures.can in
    let fine_1 : IsOk c.make.result = search rules in
    let so_1 = made_so m seed count target fine_1 so_0 c.make.ensures.ran c.in_ok-make.ensures.durable c.in_ok-make.ensures.done in
    let why = c.in_err-find_made.field-0.0 in
    let handed_on : c.from_residual-in_err-find_made.result ≡ Err why = search rules in
    session_refused (reading_ran m seed count target so_1 c.find_made.ensures.ran)
    c.in_err-find_made.was handed_on (λ device. device) (λ device. device)

-- ---- where the run isn't started

pub start_made-requires-clause-durable : goal.start_made-requires-clause-durable
start_made-requires-clause-durable g c =
    let m = g.H.Host.meaning in
    let seed = c.args.seed in
    let count = c.args.count in
    let target = c.args.target in
    let fine_0 : IsOk c.find_nothing.result = search rules in
    let so_0 = found_so m seed count target c.requires.durable fine_0 c.find_nothing.ensures.ran c.in_ok-find_nothing.ensures.can in
    let fine_1 : IsOk c.make.result = search rules in
    let so_1 = made_so m seed count target fine_1 so_0 c.make.ensures.ran c.in_ok-make.ensures.durable c.in_ok-make.ensures.done in
    let fine_2 : IsOk c.find_made.result = search rules in
    let so_2 = reading_so m seed count target fine_2 so_1 c.find_made.ensures.ran in
    so_2.durable

pub returns-in_err-start_made-clause-cause : goal.returns-in_err-start_made-clause-cause
returns-in_err-start_made-clause-cause g c =
    let m = g.H.Host.meaning in
    let seed = c.args.seed in
    let count = c.args.count in
    let target = c.args.target in
    let fine_0 : IsOk c.find_nothing.result = search rules in
    let so_0 = found_so m seed count target c.requires.durable fine_0 c.find_nothing.ensures.ran c.in_ok-find_nothing.ensures.can in
    let fine_1 : IsOk c.make.result = search rules in
    let so_1 = made_so m seed count target fine_1 so_0 c.make.ensures.ran c.in_ok-make.ensures.durable c.in_ok-make.ensures.done in
    let fine_2 : IsOk c.find_made.result = search rules in
    let so_2 = reading_so m seed count target fine_2 so_1 c.find_made.ensures.ran in
    let why = c.in_err-start_made.field-0.0 in
    let handed_on : c.from_residual-in_err-start_made.result ≡ Err why = search rules in
    let cause : IsTrue m.tells → NeedsNoCause why ⊎ IsDemoRefused (m.contents c.args.host.now).file target why = λ told.
    let facts = so_2.facts told in
    inl (c.in_err-start_made.ensures.cause told seed facts.makes.made (fresh_made facts.can facts.makes)) in
    rw handed_on cause

pub returns-in_err-start_made-clause-ran : goal.returns-in_err-start_made-clause-ran
returns-in_err-start_made-clause-ran g c =
    let m = g.H.Host.meaning in
    let seed = c.args.seed in
    let count = c.args.count in
    let target = c.args.target in
    let fine_0 : IsOk c.find_nothing.result = search rules in
    let so_0 = found_so m seed count target c.requires.durable fine_0 c.find_nothing.ensures.ran c.in_ok-find_nothing.ensures.can in
    let fine_1 : IsOk c.make.result = search rules in
    let so_1 = made_so m seed count target fine_1 so_0 c.make.ensures.ran c.in_ok-make.ensures.durable c.in_ok-make.ensures.done in
    let fine_2 : IsOk c.find_made.result = search rules in
    let so_2 = reading_so m seed count target fine_2 so_1 c.find_made.ensures.ran in
    let why = c.in_err-start_made.field-0.0 in
    let handed_on : c.from_residual-in_err-start_made.result ≡ Err why = search rules in
    session_refused (started_ran m seed count target so_2 c.start_made.ensures.ran)
    c.in_err-start_made.was handed_on (λ device. device) (λ device. device)

-- ---- or led

pub returns-in_err-done-clause-cause : goal.returns-in_err-done-clause-cause
returns-in_err-done-clause-cause g c =
    let m = g.H.Host.meaning in
    let seed = c.args.seed in
    let count = c.args.count in
    let target = c.args.target in
    let fine_0 : IsOk c.find_nothing.result = search rules in
    let so_0 = found_so m seed count target c.requires.durable fine_0 c.find_nothing.ensures.ran c.in_ok-find_nothing.ensures.can in
    let fine_1 : IsOk c.make.result = search rules in
    let so_1 = made_so m seed count target fine_1 so_0 c.make.ensures.ran c.in_ok-make.ensures.durable c.in_ok-make.ensures.done in
    let fine_2 : IsOk c.find_made.result = search rules in
    let so_2 = reading_so m seed count target fine_2 so_1 c.find_made.ensures.ran in
    let fine_3 : IsOk c.start_made.result = search rules in
    let so_3 = started_so m seed count target fine_3 so_2 c.start_made.ensures.ran c.in_ok-start_made.ensures.durable c.in_ok-start_made.ensures.done in
    let why = c.in_err-done.field-0.0 in
    let handed_on : c.from_residual-in_err-done.result ≡ Err why = search rules in
    let cause : IsTrue m.tells → NeedsNoCause why ⊎ IsDemoRefused (m.contents c.args.host.now).file target why = λ told.
    let begun = begun_told m seed count target so_3 told in
    inl (c.in_err-done.ensures.cause told (made_start seed count) begun.history begun.represents (few_told m seed count target so_3 told)) in
    rw handed_on cause

pub returns-in_err-done-clause-ran : goal.returns-in_err-done-clause-ran
returns-in_err-done-clause-ran g c =
    let m = g.H.Host.meaning in
    let seed = c.args.seed in
    let count = c.args.count in
    let target = c.args.target in
    let fine_0 : IsOk c.find_nothing.result = search rules in
    let so_0 = found_so m seed count target c.requires.durable fine_0 c.find_nothing.ensures.ran c.in_ok-find_nothing.ensures.can in
    let fine_1 : IsOk c.make.result = search rules in
    let so_1 = made_so m seed count target fine_1 so_0 c.make.ensures.ran c.in_ok-make.ensures.durable c.in_ok-make.ensures.done in
    let fine_2 : IsOk c.find_made.result = search rules in
    let so_2 = reading_so m seed count target fine_2 so_1 c.find_made.ensures.ran in
    let fine_3 : IsOk c.start_made.result = search rules in
    let so_3 = started_so m seed count target fine_3 so_2 c.start_made.ensures.ran c.in_ok-start_made.ensures.durable c.in_ok-start_made.ensures.done in
    let why = c.in_err-done.field-0.0 in
    let handed_on : c.from_residual-in_err-done.result ≡ Err why = search rules in
    session_refused (led_ran m seed count target so_3 c.lead_made.ensures.ran)
    c.in_err-done.was handed_on (λ device. device) (λ device. device)

-- ---- where its bodies aren't read back

pub returns-in_err-sum-clause-cause : goal.returns-in_err-sum-clause-cause
returns-in_err-sum-clause-cause g c =
    let m = g.H.Host.meaning in
    let seed = c.args.seed in
    let count = c.args.count in
    let target = c.args.target in
    let fine_0 : IsOk c.find_nothing.result = search rules in
    let so_0 = found_so m seed count target c.requires.durable fine_0 c.find_nothing.ensures.ran c.in_ok-find_nothing.ensures.can in
    let fine_1 : IsOk c.make.result = search rules in
    let so_1 = made_so m seed count target fine_1 so_0 c.make.ensures.ran c.in_ok-make.ensures.durable c.in_ok-make.ensures.done in
    let fine_2 : IsOk c.find_made.result = search rules in
    let so_2 = reading_so m seed count target fine_2 so_1 c.find_made.ensures.ran in
    let fine_3 : IsOk c.start_made.result = search rules in
    let so_3 = started_so m seed count target fine_3 so_2 c.start_made.ensures.ran c.in_ok-start_made.ensures.durable c.in_ok-start_made.ensures.done in
    let fine_4 : IsOk c.lead_made.result = search rules in
    let so_4 = led_so m seed count target fine_4 so_3 c.lead_made.ensures.ran c.in_ok-done.ensures.durable c.in_ok-done.ensures.done in
    let why = c.in_err-sum.field-0.0 in
    let handed_on : c.from_residual-in_err-sum.result ≡ Err why = search rules in
    let cause : IsTrue m.tells → NeedsNoCause why ⊎ IsDemoRefused (m.contents c.args.host.now).file target why = λ told.
    elim c.in_err-sum.ensures.cause [
      | inl needless ↦ inl needless
      | inr unlike ↦ absurd (unlike.cause told (demo_list seed count target, list_told m seed count target so_4 told c.last_snapshot.result c.last_snapshot.ensures.none c.last_snapshot.ensures.some, length_list m seed count target))
    ] in
    rw handed_on cause

pub returns-in_err-sum-clause-refusals : goal.returns-in_err-sum-clause-refusals
returns-in_err-sum-clause-refusals g c =
    let why = c.in_err-sum.field-0.0 in
    let handed_on : c.from_residual-in_err-sum.result ≡ Err why = search rules in
    rw handed_on (elim c.in_err-sum.ensures.cause [
      | inl needless ↦ needless_of_demo needless
      | inr unlike ↦ unlike_of_demo unlike
    ])

pub returns-in_err-sum-clause-ran : goal.returns-in_err-sum-clause-ran
returns-in_err-sum-clause-ran g c =
    let m = g.H.Host.meaning in
    let seed = c.args.seed in
    let count = c.args.count in
    let target = c.args.target in
    let fine_0 : IsOk c.find_nothing.result = search rules in
    let so_0 = found_so m seed count target c.requires.durable fine_0 c.find_nothing.ensures.ran c.in_ok-find_nothing.ensures.can in
    let fine_1 : IsOk c.make.result = search rules in
    let so_1 = made_so m seed count target fine_1 so_0 c.make.ensures.ran c.in_ok-make.ensures.durable c.in_ok-make.ensures.done in
    let fine_2 : IsOk c.find_made.result = search rules in
    let so_2 = reading_so m seed count target fine_2 so_1 c.find_made.ensures.ran in
    let fine_3 : IsOk c.start_made.result = search rules in
    let so_3 = started_so m seed count target fine_3 so_2 c.start_made.ensures.ran c.in_ok-start_made.ensures.durable c.in_ok-start_made.ensures.done in
    let fine_4 : IsOk c.lead_made.result = search rules in
    let so_4 = led_so m seed count target fine_4 so_3 c.lead_made.ensures.ran c.in_ok-done.ensures.durable c.in_ok-done.ensures.done in
    let why = c.in_err-sum.field-0.0 in
    let handed_on : c.from_residual-in_err-sum.result ≡ Err why = search rules in
    session_refused (reading_ran m seed count target so_4 c.sum_coordinates.ensures.ran)
    c.in_err-sum.was handed_on (λ device. device) (λ device. device)

-- ---- where its last line isn't said

pub returns-in_err-say-clause-cause : goal.returns-in_err-say-clause-cause
returns-in_err-say-clause-cause g c =
    let m = g.H.Host.meaning in
    let why = of_host c.in_err-say.field-0.0 in
    let handed_on : c.from_residual-in_err-say.result ≡ Err why = search rules in
    let cause : IsTrue m.tells → NeedsNoCause why ⊎ IsDemoRefused (m.contents c.args.host.now).file c.args.target why = λ told.
    inl (host_needless c.in_err-say.field-0.0) in
    rw handed_on cause

pub returns-in_err-say-clause-ran : goal.returns-in_err-say-clause-ran
returns-in_err-say-clause-ran g c =
    let m = g.H.Host.meaning in
    let seed = c.args.seed in
    let count = c.args.count in
    let target = c.args.target in
    let fine_0 : IsOk c.find_nothing.result = search rules in
    let so_0 = found_so m seed count target c.requires.durable fine_0 c.find_nothing.ensures.ran c.in_ok-find_nothing.ensures.can in
    let fine_1 : IsOk c.make.result = search rules in
    let so_1 = made_so m seed count target fine_1 so_0 c.make.ensures.ran c.in_ok-make.ensures.durable c.in_ok-make.ensures.done in
    let fine_2 : IsOk c.find_made.result = search rules in
    let so_2 = reading_so m seed count target fine_2 so_1 c.find_made.ensures.ran in
    let fine_3 : IsOk c.start_made.result = search rules in
    let so_3 = started_so m seed count target fine_3 so_2 c.start_made.ensures.ran c.in_ok-start_made.ensures.durable c.in_ok-start_made.ensures.done in
    let fine_4 : IsOk c.lead_made.result = search rules in
    let so_4 = led_so m seed count target fine_4 so_3 c.lead_made.ensures.ran c.in_ok-done.ensures.durable c.in_ok-done.ensures.done in
    let fine_5 : IsOk c.sum_coordinates.result = search rules in
    let so_5 = reading_so m seed count target fine_5 so_4 c.sum_coordinates.ensures.ran in
    let line = c.bytes.result.now in
    let same : IsTrue m.tells → line ≡ summary_line seed count target = λ told.
    let begun = begun_told m seed count target so_3 told in
    line_told seed count target c.in_ok-done.done.gone c.in_ok-sum.sum line (c.bytes.ensures.value ∙ c.demo_line-line.ensures)
    (c.in_ok-done.ensures.gone told (made_start seed count) begun.history begun.represents)
    (c.in_ok-sum.ensures.sum told (demo_list seed count target) (list_told m seed count target so_4 told c.last_snapshot.result c.last_snapshot.ensures.none c.last_snapshot.ensures.some)) in
    let error = c.in_err-say.field-0.0 in
    let handed_on : c.from_residual-in_err-say.result ≡ Err (of_host error) = search rules in
    summed_ran m seed count target line so_5 (session_unsaid error c.say.ensures.spoke c.in_err-say.was handed_on) same

-- ---- behind the files no refusal but a needless one

pub returns-in_err-start_made-clause-unsynced : goal.returns-in_err-start_made-clause-unsynced
returns-in_err-start_made-clause-unsynced g c =
    let m = g.H.Host.meaning in
    let seed = c.args.seed in
    let count = c.args.count in
    let target = c.args.target in
    let fine_0 : IsOk c.find_nothing.result = search rules in
    let so_0 = found_so m seed count target c.requires.durable fine_0 c.find_nothing.ensures.ran c.in_ok-find_nothing.ensures.can in
    let fine_1 : IsOk c.make.result = search rules in
    let so_1 = made_so m seed count target fine_1 so_0 c.make.ensures.ran c.in_ok-make.ensures.durable c.in_ok-make.ensures.done in
    let fine_2 : IsOk c.find_made.result = search rules in
    let so_2 = reading_so m seed count target fine_2 so_1 c.find_made.ensures.ran in
    let why = c.in_err-start_made.field-0.0 in
    let handed_on : c.from_residual-in_err-start_made.result ≡ Err why = search rules in
    let needless : IsTrue m.tells → NeedsNoCause why = λ told.
    let facts = so_2.facts told in
    c.in_err-start_made.ensures.cause told seed facts.makes.made (fresh_made facts.can facts.makes) in
    rw handed_on (never_behind m needless)

pub returns-in_err-done-clause-unsynced : goal.returns-in_err-done-clause-unsynced
returns-in_err-done-clause-unsynced g c =
    let m = g.H.Host.meaning in
    let seed = c.args.seed in
    let count = c.args.count in
    let target = c.args.target in
    let fine_0 : IsOk c.find_nothing.result = search rules in
    let so_0 = found_so m seed count target c.requires.durable fine_0 c.find_nothing.ensures.ran c.in_ok-find_nothing.ensures.can in
    let fine_1 : IsOk c.make.result = search rules in
    let so_1 = made_so m seed count target fine_1 so_0 c.make.ensures.ran c.in_ok-make.ensures.durable c.in_ok-make.ensures.done in
    let fine_2 : IsOk c.find_made.result = search rules in
    let so_2 = reading_so m seed count target fine_2 so_1 c.find_made.ensures.ran in
    let fine_3 : IsOk c.start_made.result = search rules in
    let so_3 = started_so m seed count target fine_3 so_2 c.start_made.ensures.ran c.in_ok-start_made.ensures.durable c.in_ok-start_made.ensures.done in
    let why = c.in_err-done.field-0.0 in
    let handed_on : c.from_residual-in_err-done.result ≡ Err why = search rules in
    let needless : IsTrue m.tells → NeedsNoCause why = λ told.
    let begun = begun_told m seed count target so_3 told in
    c.in_err-done.ensures.cause told (made_start seed count) begun.history begun.represents (few_told m seed count target so_3 told) in
    rw handed_on (never_behind m needless)

pub returns-in_err-sum-clause-unsynced : goal.returns-in_err-sum-clause-unsynced
returns-in_err-sum-clause-unsynced g c =
    let m = g.H.Host.meaning in
    let seed = c.args.seed in
    let count = c.args.count in
    let target = c.args.target in
    let fine_0 : IsOk c.find_nothing.result = search rules in
    let so_0 = found_so m seed count target c.requires.durable fine_0 c.find_nothing.ensures.ran c.in_ok-find_nothing.ensures.can in
    let fine_1 : IsOk c.make.result = search rules in
    let so_1 = made_so m seed count target fine_1 so_0 c.make.ensures.ran c.in_ok-make.ensures.durable c.in_ok-make.ensures.done in
    let fine_2 : IsOk c.find_made.result = search rules in
    let so_2 = reading_so m seed count target fine_2 so_1 c.find_made.ensures.ran in
    let fine_3 : IsOk c.start_made.result = search rules in
    let so_3 = started_so m seed count target fine_3 so_2 c.start_made.ensures.ran c.in_ok-start_made.ensures.durable c.in_ok-start_made.ensures.done in
    let fine_4 : IsOk c.lead_made.result = search rules in
    let so_4 = led_so m seed count target fine_4 so_3 c.lead_made.ensures.ran c.in_ok-done.ensures.durable c.in_ok-done.ensures.done in
    let why = c.in_err-sum.field-0.0 in
    let handed_on : c.from_residual-in_err-sum.result ≡ Err why = search rules in
    let needless : IsTrue m.tells → NeedsNoCause why = λ told.
    elim c.in_err-sum.ensures.cause [
      | inl needless ↦ needless
      | inr unlike ↦ absurd (unlike.cause told (demo_list seed count target, list_told m seed count target so_4 told c.last_snapshot.result c.last_snapshot.ensures.none c.last_snapshot.ensures.some, length_list m seed count target))
    ] in
    rw handed_on (never_behind m needless)

pub returns-in_err-say-clause-unsynced : goal.returns-in_err-say-clause-unsynced
returns-in_err-say-clause-unsynced g c =
    let m = g.H.Host.meaning in
    let why = of_host c.in_err-say.field-0.0 in
    let handed_on : c.from_residual-in_err-say.result ≡ Err why = search rules in
    rw handed_on (never_behind m (λ told. host_needless c.in_err-say.field-0.0))

-- ---- where it is done

pub returns-clause-done : goal.returns-clause-done
returns-clause-done g c =
    let m = g.H.Host.meaning in
    let seed = c.args.seed in
    let count = c.args.count in
    let target = c.args.target in
    let fine_0 : IsOk c.find_nothing.result = search rules in
    let so_0 = found_so m seed count target c.requires.durable fine_0 c.find_nothing.ensures.ran c.in_ok-find_nothing.ensures.can in
    let fine_1 : IsOk c.make.result = search rules in
    let so_1 = made_so m seed count target fine_1 so_0 c.make.ensures.ran c.in_ok-make.ensures.durable c.in_ok-make.ensures.done in
    let fine_2 : IsOk c.find_made.result = search rules in
    let so_2 = reading_so m seed count target fine_2 so_1 c.find_made.ensures.ran in
    let fine_3 : IsOk c.start_made.result = search rules in
    let so_3 = started_so m seed count target fine_3 so_2 c.start_made.ensures.ran c.in_ok-start_made.ensures.durable c.in_ok-start_made.ensures.done in
    let fine_4 : IsOk c.lead_made.result = search rules in
    let so_4 = led_so m seed count target fine_4 so_3 c.lead_made.ensures.ran c.in_ok-done.ensures.durable c.in_ok-done.ensures.done in
    let fine_5 : IsOk c.sum_coordinates.result = search rules in
    let so_5 = reading_so m seed count target fine_5 so_4 c.sum_coordinates.ensures.ran in
    let line = c.bytes.result.now in
    let same : IsTrue m.tells → line ≡ summary_line seed count target = λ told.
    let begun = begun_told m seed count target so_3 told in
    line_told seed count target c.in_ok-done.done.gone c.in_ok-sum.sum line (c.bytes.ensures.value ∙ c.demo_line-line.ensures)
    (c.in_ok-done.ensures.gone told (made_start seed count) begun.history begun.represents)
    (c.in_ok-sum.ensures.sum told (demo_list seed count target) (list_told m seed count target so_4 told c.last_snapshot.result c.last_snapshot.ensures.none c.last_snapshot.ensures.some)) in
    λ told. demo_all m seed count target line so_5 told (same told) (c.in_ok-say.ensures.spoke.said told)

pub returns-clause-sum : goal.returns-clause-sum
returns-clause-sum g c =
    let m = g.H.Host.meaning in
    let seed = c.args.seed in
    let count = c.args.count in
    let target = c.args.target in
    let fine_0 : IsOk c.find_nothing.result = search rules in
    let so_0 = found_so m seed count target c.requires.durable fine_0 c.find_nothing.ensures.ran c.in_ok-find_nothing.ensures.can in
    let fine_1 : IsOk c.make.result = search rules in
    let so_1 = made_so m seed count target fine_1 so_0 c.make.ensures.ran c.in_ok-make.ensures.durable c.in_ok-make.ensures.done in
    let fine_2 : IsOk c.find_made.result = search rules in
    let so_2 = reading_so m seed count target fine_2 so_1 c.find_made.ensures.ran in
    let fine_3 : IsOk c.start_made.result = search rules in
    let so_3 = started_so m seed count target fine_3 so_2 c.start_made.ensures.ran c.in_ok-start_made.ensures.durable c.in_ok-start_made.ensures.done in
    let fine_4 : IsOk c.lead_made.result = search rules in
    let so_4 = led_so m seed count target fine_4 so_3 c.lead_made.ensures.ran c.in_ok-done.ensures.durable c.in_ok-done.ensures.done in
    let fine_5 : IsOk c.sum_coordinates.result = search rules in
    let so_5 = reading_so m seed count target fine_5 so_4 c.sum_coordinates.ensures.ran in
    λ told. c.in_ok-sum.ensures.sum told (demo_list seed count target) (list_told m seed count target so_4 told c.last_snapshot.result c.last_snapshot.ensures.none c.last_snapshot.ensures.some)

pub returns-clause-durable : goal.returns-clause-durable
returns-clause-durable g c =
    let m = g.H.Host.meaning in
    let seed = c.args.seed in
    let count = c.args.count in
    let target = c.args.target in
    let fine_0 : IsOk c.find_nothing.result = search rules in
    let so_0 = found_so m seed count target c.requires.durable fine_0 c.find_nothing.ensures.ran c.in_ok-find_nothing.ensures.can in
    let fine_1 : IsOk c.make.result = search rules in
    let so_1 = made_so m seed count target fine_1 so_0 c.make.ensures.ran c.in_ok-make.ensures.durable c.in_ok-make.ensures.done in
    let fine_2 : IsOk c.find_made.result = search rules in
    let so_2 = reading_so m seed count target fine_2 so_1 c.find_made.ensures.ran in
    let fine_3 : IsOk c.start_made.result = search rules in
    let so_3 = started_so m seed count target fine_3 so_2 c.start_made.ensures.ran c.in_ok-start_made.ensures.durable c.in_ok-start_made.ensures.done in
    let fine_4 : IsOk c.lead_made.result = search rules in
    let so_4 = led_so m seed count target fine_4 so_3 c.lead_made.ensures.ran c.in_ok-done.ensures.durable c.in_ok-done.ensures.done in
    let fine_5 : IsOk c.sum_coordinates.result = search rules in
    let so_5 = reading_so m seed count target fine_5 so_4 c.sum_coordinates.ensures.ran in
    durable_said m channels.Out c.bytes.result.now so_5.durable c.in_ok-say.ensures.spoke.leads

pub returns-clause-ran : goal.returns-clause-ran
returns-clause-ran g c =
    let m = g.H.Host.meaning in
    let seed = c.args.seed in
    let count = c.args.count in
    let target = c.args.target in
    let fine_0 : IsOk c.find_nothing.result = search rules in
    let so_0 = found_so m seed count target c.requires.durable fine_0 c.find_nothing.ensures.ran c.in_ok-find_nothing.ensures.can in
    let fine_1 : IsOk c.make.result = search rules in
    let so_1 = made_so m seed count target fine_1 so_0 c.make.ensures.ran c.in_ok-make.ensures.durable c.in_ok-make.ensures.done in
    let fine_2 : IsOk c.find_made.result = search rules in
    let so_2 = reading_so m seed count target fine_2 so_1 c.find_made.ensures.ran in
    let fine_3 : IsOk c.start_made.result = search rules in
    let so_3 = started_so m seed count target fine_3 so_2 c.start_made.ensures.ran c.in_ok-start_made.ensures.durable c.in_ok-start_made.ensures.done in
    let fine_4 : IsOk c.lead_made.result = search rules in
    let so_4 = led_so m seed count target fine_4 so_3 c.lead_made.ensures.ran c.in_ok-done.ensures.durable c.in_ok-done.ensures.done in
    let fine_5 : IsOk c.sum_coordinates.result = search rules in
    let so_5 = reading_so m seed count target fine_5 so_4 c.sum_coordinates.ensures.ran in
    let line = c.bytes.result.now in
    let same : IsTrue m.tells → line ≡ summary_line seed count target = λ told.
    let begun = begun_told m seed count target so_3 told in
    line_told seed count target c.in_ok-done.done.gone c.in_ok-sum.sum line (c.bytes.ensures.value ∙ c.demo_line-line.ensures)
    (c.in_ok-done.ensures.gone told (made_start seed count) begun.history begun.represents)
    (c.in_ok-sum.ensures.sum told (demo_list seed count target) (list_told m seed count target so_4 told c.last_snapshot.result c.last_snapshot.ensures.none c.last_snapshot.ensures.some)) in
    let said : IsOk c.say.result = search rules in
    summed_ran m seed count target line so_5
    (session_said c.say.ensures.spoke (λ faulted. absurd (cc)) (λ faulted. absurd (ok_is_no_error said faulted)) (λ _. said)) same
