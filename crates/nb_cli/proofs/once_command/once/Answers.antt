use Rattle.std.proofs.Common.{rules, ◌≡◌, ◌⊎◌, inr, Err, refl, sym, ap, ◌∙◌, arith, IsTrue}
use Rattle.std.specs.Prelude.{replicate}
use Rattle.nb_host.proofs.Callers.{stays_contents, stays_both}
use Rattle.nb_model.specs.Leapfrog.{escaped_count, steps}
use Rattle.nb_format.specs.Reader.{time_of}
use Rattle.nb_engine.specs.declared.init_file.Census.{Census}
use Rattle.nb_engine.specs.Refusal.{NeedsNoCause, of_snapshot}
use Rattle.nb_engine.specs.Start.{Start, HasStart}
use Rattle.nb_cli.specs.Once.{list_at, IsOnceReady, IsOnceRefused}
use Rattle.nb_cli.proofs.Starts.{refused_by_reader, header_read, refused_still, once_refusal-many, start_read, list_at-taken, written_list, parameters_of_once, snapshot_of_once, start_of_once}
use Rattle.nb_cli.proofs.Runs.{leads_none_written, leads_written}
use Rattle.nb_cli.proofs.once_command.once.Goals as goal

-- Where the snapshot is refused.

pub returns-in_err-survey-clause-cause : goal.returns-in_err-survey-clause-cause
returns-in_err-survey-clause-cause g c =
    let error = c.in_err-survey.field-0.0 in
    let files = (g.H.Host.meaning.contents c.args.host.now).file in
    let same = (stays_contents c.in_ok-reader.ensures.ran.leads) ∙ (stays_contents c.in_ok-params.ensures.ran.leads) in
    let handed_on : c.from_residual-in_err-survey.result ≡ Err (of_snapshot error) = search rules in
    let why : IsTrue g.H.Host.meaning.tells → NeedsNoCause (of_snapshot error) ⊎ IsOnceRefused files c.args.target (of_snapshot error) = λ told.
    let read = header_read (stays_contents c.in_ok-reader.ensures.ran.leads) (c.in_ok-reader.ensures.header told) in
    refused_by_reader error (c.in_ok-params.ensures.spelled told) (λ by. refused_still same (c.in_err-survey.ensures.bad by told read)) in
    rw handed_on why

pub returns-in_err-bodies-clause-cause : goal.returns-in_err-bodies-clause-cause
returns-in_err-bodies-clause-cause g c =
    let error = c.in_err-bodies.field-0.0 in
    let files = (g.H.Host.meaning.contents c.args.host.now).file in
    let same = (stays_contents c.in_ok-reader.ensures.ran.leads) ∙ (stays_contents c.in_ok-params.ensures.ran.leads) in
    let handed_on : c.from_residual-in_err-bodies.result ≡ Err (of_snapshot error) = search rules in
    let why : IsTrue g.H.Host.meaning.tells → NeedsNoCause (of_snapshot error) ⊎ IsOnceRefused files c.args.target (of_snapshot error) = λ told.
    let read = header_read (stays_contents c.in_ok-reader.ensures.ran.leads) (c.in_ok-reader.ensures.header told) in
    refused_by_reader error (c.in_ok-params.ensures.spelled told) (λ by. refused_still same (c.in_err-bodies.ensures.bad by told read)) in
    rw handed_on why

-- Where the start isn't taken.

pub returns-then-count-gt-MOST_ONCE_BODIES-clause-cause : goal.returns-then-count-gt-MOST_ONCE_BODIES-clause-cause
returns-then-count-gt-MOST_ONCE_BODIES-clause-cause g c told =
    let same = (stays_contents c.in_ok-reader.ensures.ran.leads) ∙ (stays_contents c.in_ok-params.ensures.ran.leads) in
    let read = header_read (stays_contents c.in_ok-reader.ensures.ran.leads) (c.in_ok-reader.ensures.header told) in
    let whole = c.in_ok-survey.ensures.whole told read in
    let start : Start = record { params = c.in_ok-params.params; bodies = whole.0; time = time_of c.in_ok-reader.reader } in
    inr (inr (inr (
      start,
      record {
        starts = start_read same (c.in_ok-params.ensures.spelled told) whole.2 refl refl;
        refused = once_refusal-many c.args.target start c.count-count.result (sym (ap (λ (x : Census). x.count) whole.1) ∙ c.in_ok-survey.ensures.full ∙ sym c.count-count.ensures.value) (omega arith);
      },
    )))

pub returns-in-Some-clause-cause : goal.returns-in-Some-clause-cause
returns-in-Some-clause-cause g c told =
    let same = (stays_contents c.in_ok-reader.ensures.ran.leads) ∙ (stays_contents c.in_ok-params.ensures.ran.leads) in
    let read = header_read (stays_contents c.in_ok-reader.ensures.ran.leads) (c.in_ok-reader.ensures.header told) in
    let start : Start = record { params = c.in_ok-params.params; bodies = c.deref.result.now; time = c.time-time.result } in
    let starts : HasStart (g.H.Host.meaning.contents c.args.host.now).file start = start_read same (c.in_ok-params.ensures.spelled told) (c.in_ok-bodies.ensures.whole told read) c.deref.ensures.value c.time-time.ensures in
    inr (inr (inr (start, record { starts = starts; refused = sym c.once_refusal.ensures ∙ c.in-Some.is })))

-- Where it is.

pub returns-clause-done : goal.returns-clause-done
returns-clause-done g c told =
    let same = (stays_contents c.in_ok-reader.ensures.ran.leads) ∙ (stays_contents c.in_ok-params.ensures.ran.leads) in
    let read = header_read (stays_contents c.in_ok-reader.ensures.ran.leads) (c.in_ok-reader.ensures.header told) in
    let start : Start = record { params = c.in_ok-params.params; bodies = c.deref.result.now; time = c.time-time.result } in
    let starts : HasStart (g.H.Host.meaning.contents c.args.host.now).file start = start_read same (c.in_ok-params.ensures.spelled told) (c.in_ok-bodies.ensures.whole told read) c.deref.ensures.value c.time-time.ensures in
    let ready : IsOnceReady (g.H.Host.meaning.contents c.args.host.now).file c.args.target start = record { starts = starts; takes = sym c.once_refusal.ensures ∙ c.in_default.is } in
    let unchanged = (stays_contents c.in_ok-bodies.ensures.ran.leads) ∙ same in
    let listed : c.deref-3.result.now ≡ list_at c.args.target start =
    c.deref-3.ensures.value ∙ list_at-taken c.in_ok-params.params c.deref.result.now c.time-time.result c.args.target c.leg_to-leg.ensures.ways (c.in_ok-advance.ensures.taken ∙ ap (steps c.in_ok-params.params (replicate c.leg_to-leg.result.ticks c.leg_to-leg.result.way)) (sym c.deref.ensures.value)) in (
      start,
      ready,
      record { time = refl; ticks = c.leg_to-leg.ensures.ticks; gone = c.escaped_count-gone.ensures ∙ ap escaped_count (c.deref-2.ensures.value ∙ sym c.deref-3.ensures.value ∙ listed) },
      written_list unchanged listed (c.in_ok-write_bodies.ensures.written told),
    )

-- What it leaves at each moment.

pub returns-in_err-reader-clause-ran : goal.returns-in_err-reader-clause-ran
returns-in_err-reader-clause-ran g c = record {
  leads = leads_none_written (stays_both c.in_ok-params.ensures.ran.leads c.in_err-reader.ensures.ran.leads);
  count = search rules;
  rose = search rules;
  spared = search rules;
  refused = search rules;
  synced = search rules;
  at_most = search rules;
}

pub returns-in_err-survey-clause-ran : goal.returns-in_err-survey-clause-ran
returns-in_err-survey-clause-ran g c = record {
  leads = leads_none_written
      (stays_both (stays_both c.in_ok-params.ensures.ran.leads c.in_ok-reader.ensures.ran.leads) c.in_err-survey.ensures.ran.leads);
  count = search rules;
  rose = search rules;
  spared = search rules;
  refused = search rules;
  synced = search rules;
  at_most = search rules;
}

pub returns-then-count-gt-MOST_ONCE_BODIES-clause-ran : goal.returns-then-count-gt-MOST_ONCE_BODIES-clause-ran
returns-then-count-gt-MOST_ONCE_BODIES-clause-ran g c = record {
  leads = leads_none_written
      (stays_both (stays_both c.in_ok-params.ensures.ran.leads c.in_ok-reader.ensures.ran.leads) c.in_ok-survey.ensures.ran.leads);
  count = search rules;
  rose = search rules;
  spared = search rules;
  refused = search rules;
  synced = search rules;
  at_most = search rules;
}

pub returns-in_err-bodies-clause-ran : goal.returns-in_err-bodies-clause-ran
returns-in_err-bodies-clause-ran g c = record {
  leads = leads_none_written
      (stays_both (stays_both c.in_ok-params.ensures.ran.leads c.in_ok-reader.ensures.ran.leads) c.in_err-bodies.ensures.ran.leads);
  count = search rules;
  rose = search rules;
  spared = search rules;
  refused = search rules;
  synced = search rules;
  at_most = search rules;
}

pub returns-in-Some-clause-ran : goal.returns-in-Some-clause-ran
returns-in-Some-clause-ran g c = record {
  leads = leads_none_written
      (stays_both (stays_both c.in_ok-params.ensures.ran.leads c.in_ok-reader.ensures.ran.leads) c.in_ok-bodies.ensures.ran.leads);
  count = search rules;
  rose = search rules;
  spared = search rules;
  refused = search rules;
  synced = search rules;
  at_most = search rules;
}

pub returns-in_err-advance-clause-ran : goal.returns-in_err-advance-clause-ran
returns-in_err-advance-clause-ran g c = record {
  leads = leads_none_written
      (stays_both (stays_both c.in_ok-params.ensures.ran.leads c.in_ok-reader.ensures.ran.leads) c.in_ok-bodies.ensures.ran.leads);
  count = search rules;
  rose = search rules;
  spared = search rules;
  refused = search rules;
  synced = search rules;
  at_most = search rules;
}

pub returns-in_err-write_bodies-clause-ran : goal.returns-in_err-write_bodies-clause-ran
returns-in_err-write_bodies-clause-ran g c =
    let same = (stays_contents c.in_ok-reader.ensures.ran.leads) ∙ (stays_contents c.in_ok-params.ensures.ran.leads) in
    let ready : IsTrue g.H.Host.meaning.tells → (start : Start) × IsOnceReady (g.H.Host.meaning.contents c.args.host.now).file c.args.target start = λ told.
    let read = header_read (stays_contents c.in_ok-reader.ensures.ran.leads) (c.in_ok-reader.ensures.header told) in
    let start : Start = record { params = c.in_ok-params.params; bodies = c.deref.result.now; time = c.time-time.result } in (
      start,
      record {
        starts = start_read same (c.in_ok-params.ensures.spelled told) (c.in_ok-bodies.ensures.whole told read) c.deref.ensures.value c.time-time.ensures;
        takes = sym c.once_refusal.ensures ∙ c.in_default.is;
      },
    ) in
    record {
      leads = leads_written
          (stays_both (stays_both c.in_ok-params.ensures.ran.leads c.in_ok-reader.ensures.ran.leads) c.in_ok-bodies.ensures.ran.leads)
          ready c.in_err-write_bodies.ensures.ran.leads;
      count = search rules;
      rose = search rules;
      spared = search rules;
      refused = search rules;
      synced = search rules;
      at_most = search rules;
    }

pub returns-clause-ran : goal.returns-clause-ran
returns-clause-ran g c =
    let same = (stays_contents c.in_ok-reader.ensures.ran.leads) ∙ (stays_contents c.in_ok-params.ensures.ran.leads) in
    let ready : IsTrue g.H.Host.meaning.tells → (start : Start) × IsOnceReady (g.H.Host.meaning.contents c.args.host.now).file c.args.target start = λ told.
    let read = header_read (stays_contents c.in_ok-reader.ensures.ran.leads) (c.in_ok-reader.ensures.header told) in
    let start : Start = record { params = c.in_ok-params.params; bodies = c.deref.result.now; time = c.time-time.result } in (
      start,
      record {
        starts = start_read same (c.in_ok-params.ensures.spelled told) (c.in_ok-bodies.ensures.whole told read) c.deref.ensures.value c.time-time.ensures;
        takes = sym c.once_refusal.ensures ∙ c.in_default.is;
      },
    ) in
    record {
      leads = leads_written
          (stays_both (stays_both c.in_ok-params.ensures.ran.leads c.in_ok-reader.ensures.ran.leads) c.in_ok-bodies.ensures.ran.leads)
          ready c.in_ok-write_bodies.ensures.ran.leads;
      count = search rules;
      rose = search rules;
      spared = search rules;
      refused = search rules;
      synced = search rules;
      at_most = search rules;
    }

-- Which refusals it gives.

pub returns-in_err-params-clause-refusals : goal.returns-in_err-params-clause-refusals
returns-in_err-params-clause-refusals g c =
    let why = c.in_err-params.field-0.0 in
    let handed_on : c.from_residual.result ≡ Err why = search rules in
    rw handed_on (parameters_of_once why c.in_err-params.ensures.refusals)

pub returns-in_err-reader-clause-refusals : goal.returns-in_err-reader-clause-refusals
returns-in_err-reader-clause-refusals g c =
    let error = c.in_err-reader.field-0.0 in
    let handed_on : c.from_residual-in_err-reader.result ≡ Err (of_snapshot error) = search rules in
    rw handed_on (snapshot_of_once error)

pub returns-in_err-survey-clause-refusals : goal.returns-in_err-survey-clause-refusals
returns-in_err-survey-clause-refusals g c =
    let error = c.in_err-survey.field-0.0 in
    let handed_on : c.from_residual-in_err-survey.result ≡ Err (of_snapshot error) = search rules in
    rw handed_on (snapshot_of_once error)

pub returns-in_err-bodies-clause-refusals : goal.returns-in_err-bodies-clause-refusals
returns-in_err-bodies-clause-refusals g c =
    let error = c.in_err-bodies.field-0.0 in
    let handed_on : c.from_residual-in_err-bodies.result ≡ Err (of_snapshot error) = search rules in
    rw handed_on (snapshot_of_once error)

pub returns-in-Some-clause-refusals : goal.returns-in-Some-clause-refusals
returns-in-Some-clause-refusals g c =
    let start : Start = record { params = c.in_ok-params.params; bodies = c.deref.result.now; time = c.time-time.result } in
    start_of_once c.args.target start (sym c.once_refusal.ensures ∙ c.in-Some.is)
