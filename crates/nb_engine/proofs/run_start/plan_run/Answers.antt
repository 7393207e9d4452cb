use Rattle.std.proofs.Common.{◌≡◌, ◌⊎◌, inr, ◌*◌, ◌<◌, ◌≤◌, Err, ap, ◌∙◌, IsTrue, arith, rules}
use Rattle.nb_host.proofs.Callers.{stays_contents, ok_is_no_error}
use Rattle.nb_model.specs.Limits.{gm_limit}
use Rattle.nb_format.specs.Reader.{time_of}
use Rattle.nb_engine.specs.declared.init_file.Census.{Census}
use Rattle.nb_engine.specs.Refusal.{NeedsNoCause, of_snapshot}
use Rattle.nb_engine.specs.Start.{Start, IsStartRefused}
use Rattle.nb_engine.proofs.Beginnings.{reads_then, reads_as, snapshot_is_fault, header_now, refused_then, params_then, start_then, no_params_then, parameters_of_start, refused_by_snapshot, too_heavy, light_enough}
use Rattle.nb_engine.proofs.run_start.plan_run.Goals as goal

-- Where the parameters are refused.

pub returns-in_err-params-clause-cause : goal.returns-in_err-params-clause-cause
returns-in_err-params-clause-cause g c =
    let why = c.in_err-params.field-0.0 in
    let files = (g.H.Host.meaning.contents c.args.host.now).file in
    let handed_on : c.from_residual-in_err-params.result ≡ Err why = search rules in
    let cause : IsTrue g.H.Host.meaning.tells → NeedsNoCause why ⊎ IsStartRefused files why = λ told.
    no_params_then (stays_contents c.in_ok-find_none.ensures.ran.leads) (c.in_ok-find_none.ensures.fresh told)
    (c.in_err-params.ensures.cause told) in
    rw handed_on cause

pub returns-in_err-params-clause-refusals : goal.returns-in_err-params-clause-refusals
returns-in_err-params-clause-refusals g c =
    let why = c.in_err-params.field-0.0 in
    let handed_on : c.from_residual-in_err-params.result ≡ Err why = search rules in
    rw handed_on (parameters_of_start why c.in_err-params.ensures.refusals)

-- Where the snapshot is.

pub returns-in_err-reader-clause-cause : goal.returns-in_err-reader-clause-cause
returns-in_err-reader-clause-cause g c =
    let error = c.in_err-reader.field-0.0 in
    let files = (g.H.Host.meaning.contents c.args.host.now).file in
    let one = stays_contents c.in_ok-find_none.ensures.ran.leads in
    let two = stays_contents c.in_ok-params.ensures.ran.leads ∙ one in
    let handed_on : c.from_residual-in_err-reader.result ≡ Err (of_snapshot error) = search rules in
    let cause : IsTrue g.H.Host.meaning.tells → NeedsNoCause (of_snapshot error) ⊎ IsStartRefused files (of_snapshot error) =
    λ told.
    refused_by_snapshot error (c.in_ok-find_none.ensures.fresh told) (params_then one (c.in_ok-params.ensures.spelled told))
    (λ by. refused_then two (c.in_err-reader.ensures.first told by)) in
    rw handed_on cause

pub returns-in_err-reader-clause-ran : goal.returns-in_err-reader-clause-ran
returns-in_err-reader-clause-ran g c =
    let error = c.in_err-reader.field-0.0 in
    let handed_on : c.from_residual-in_err-reader.result ≡ Err (of_snapshot error) = search rules in
    reads_as
    (reads_then (reads_then c.find_none.ensures.ran (search rules) c.parameters.ensures.ran) (search rules) c.begin.ensures.ran)
    (λ faulted. c.in_err-reader.was ∙ ap Err (snapshot_is_fault error (cc))) (λ fault. search rules)

pub returns-in_err-census-clause-cause : goal.returns-in_err-census-clause-cause
returns-in_err-census-clause-cause g c =
    let error = c.in_err-census.field-0.0 in
    let files = (g.H.Host.meaning.contents c.args.host.now).file in
    let one = stays_contents c.in_ok-find_none.ensures.ran.leads in
    let two = stays_contents c.in_ok-params.ensures.ran.leads ∙ one in
    let three = stays_contents c.in_ok-reader.ensures.ran.leads ∙ two in
    let handed_on : c.from_residual-in_err-census.result ≡ Err (of_snapshot error) = search rules in
    let cause : IsTrue g.H.Host.meaning.tells → NeedsNoCause (of_snapshot error) ⊎ IsStartRefused files (of_snapshot error) =
    λ told.
    let read = header_now (stays_contents c.in_ok-reader.ensures.ran.leads) (c.in_ok-reader.ensures.header told) in
    refused_by_snapshot error (c.in_ok-find_none.ensures.fresh told) (params_then one (c.in_ok-params.ensures.spelled told))
    (λ by. refused_then three (c.in_err-census.ensures.bad by told read)) in
    rw handed_on cause

pub returns-in_err-census-clause-ran : goal.returns-in_err-census-clause-ran
returns-in_err-census-clause-ran g c =
    let error = c.in_err-census.field-0.0 in
    let handed_on : c.from_residual-in_err-census.result ≡ Err (of_snapshot error) = search rules in
    reads_as
    (reads_then
    (reads_then (reads_then c.find_none.ensures.ran (search rules) c.parameters.ensures.ran) (search rules) c.begin.ensures.ran)
    (search rules) c.survey.ensures.ran)
    (λ faulted. c.in_err-census.was ∙ ap Err (snapshot_is_fault error (cc))) (λ fault. search rules)

-- Where its bodies are too heavy.

pub returns-then-from-clause-cause : goal.returns-then-from-clause-cause
returns-then-from-clause-cause g c told =
    let one = stays_contents c.in_ok-find_none.ensures.ran.leads in
    let two = stays_contents c.in_ok-params.ensures.ran.leads ∙ one in
    let three = stays_contents c.in_ok-reader.ensures.ran.leads ∙ two in
    let read = header_now (stays_contents c.in_ok-reader.ensures.ran.leads) (c.in_ok-reader.ensures.header told) in
    let whole = c.in_ok-census.ensures.whole told read in
    let start : Start = record { params = c.in_ok-params.params; bodies = whole.0; time = time_of c.in_ok-reader.reader } in
    let heavy : gm_limit ≤ c.in_ok-params.params.grav * c.in_ok-census.census.mass = grind arith in
    inr (too_heavy start (c.in_ok-find_none.ensures.fresh told)
    (start_then three (params_then one (c.in_ok-params.ensures.spelled told)) whole.2)
    (ap (λ (x : Census). x.mass) whole.1) heavy)

pub returns-then-from-clause-ran : goal.returns-then-from-clause-ran
returns-then-from-clause-ran g c =
    reads_as
    (reads_then
    (reads_then (reads_then c.find_none.ensures.ran (search rules) c.parameters.ensures.ran) (search rules) c.begin.ensures.ran)
    (search rules) c.survey.ensures.ran)
    (λ faulted. absurd (cc)) (λ fault. absurd (ok_is_no_error (search rules) fault))

-- Where it can begin.

pub returns-clause-ready : goal.returns-clause-ready
returns-clause-ready g c told =
    let one = stays_contents c.in_ok-find_none.ensures.ran.leads in
    let two = stays_contents c.in_ok-params.ensures.ran.leads ∙ one in
    let three = stays_contents c.in_ok-reader.ensures.ran.leads ∙ two in
    let read = header_now (stays_contents c.in_ok-reader.ensures.ran.leads) (c.in_ok-reader.ensures.header told) in
    let whole = c.in_ok-census.ensures.whole told read in
    let params = c.in_ok-params.params in
    let start : Start = record { params = params; bodies = whole.0; time = time_of c.in_ok-reader.reader } in
    let light : params.grav * c.in_ok-census.census.mass < gm_limit = grind arith in (
      start,
      record {
        fresh = c.in_ok-find_none.ensures.fresh told;
        starts = start_then three (params_then one (c.in_ok-params.ensures.spelled told)) whole.2;
        light = light_enough start (ap (λ (x : Census). x.mass) whole.1) light;
      },
      λ t. record { params = params; time = c.time-time.ensures t; census = whole.1 t },
    )

pub returns-clause-ran : goal.returns-clause-ran
returns-clause-ran g c =
    reads_as
    (reads_then
    (reads_then (reads_then c.find_none.ensures.ran (search rules) c.parameters.ensures.ran) (search rules) c.begin.ensures.ran)
    (search rules) c.survey.ensures.ran)
    (λ faulted. absurd (cc)) (λ fault. absurd (ok_is_no_error (search rules) fault))
