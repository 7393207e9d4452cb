use Rattle.std.proofs.Common.{◌≡◌, [], ◌∷◌, Err, sym, ap, ◌∙◌, subst, arith, rules}
use Rattle.nb_tick.specs.declared.tick_error.TickError.TheVariants.{Fault, Damaged}
use Rattle.nb_tick.specs.Slots.{drifted_file}
use Rattle.nb_tick.specs.Steps.{drifted_one}
use Rattle.nb_tick.specs.Writer.{WriterValue, HasCopied}
use Rattle.nb_tick.proofs.Calls.{among_one, went_none, went_on, went_to}
use Rattle.nb_tick.proofs.Phases.{drifted_known, cant_known}
use Rattle.nb_tick.proofs.Written.{copied_none, copied_more, cant_copy_later}
use Rattle.nb_tick.proofs.drifting.drift_known.Goals as goal

pub loop-index-init : goal.loop-index-init
loop-index-init g c =
    let m = g.H.Host.meaning in
    let made = drifted_one c.args.params.now c.args.way in
    let none : WriterValue = record { file = drifted_file; count = 0 } in
    record {
      went = went_none m (drifted_file ∷ []) c.args.cache.now c.args.host.now c.requires.in_step;
      file = ap (λ (w : WriterValue). w.file) c.new-writer.ensures;
      copied = subst (λ (w : WriterValue). HasCopied m made c.args.from 0 0 c.args.cache.now c.args.host.now none c.args.cache.now c.args.host.now w)
          (sym c.new-writer.ensures) (copied_none m made c.args.from 0 c.args.cache.now c.args.host.now none);
    }

pub loop-index-preserved : goal.loop-index-preserved
loop-index-preserved g c =
    let so_far = c.loop-index.invariant in
    record {
      went = went_on so_far.went (among_one so_far.file) c.drift_record.ensures.ran (search rules);
      file = c.drift_record.ensures.file ∙ so_far.file;
      copied = copied_more g.H.Host.meaning (drifted_one c.args.params.now c.args.way) c.args.from (omega arith) c.requires.apart so_far.went.writes
          so_far.copied c.in_ok-drift_record.ensures.copied;
    }

pub returns-in_err-drift_record-clause-damaged : goal.returns-in_err-drift_record-clause-damaged
returns-in_err-drift_record-clause-damaged g c = λ name is.
    let m = g.H.Host.meaning in
    let so_far = c.loop-index.invariant in
    let error : c.drift_record.result ≡ Err (Damaged name) = search rules in
    cant_known m c.args.params.now c.args.from drifted_file c.args.count c.args.cache.now c.args.host.now c.requires.empty c.requires.count
    (cant_copy_later m (drifted_one c.args.params.now c.args.way) c.args.from (omega arith) c.loop-index-test.true c.requires.apart so_far.file
    so_far.went.writes so_far.copied (c.drift_record.ensures.damaged name error))

pub returns-in_err-drift_record-clause-ran : goal.returns-in_err-drift_record-clause-ran
returns-in_err-drift_record-clause-ran g c =
    let so_far = c.loop-index.invariant in
    went_to so_far.went (among_one so_far.file) c.drift_record.ensures.ran
    (λ faulted. let error : c.drift_record.result ≡ Err Fault = search rules in error) (λ error. search rules)

pub returns-clause-drifted : goal.returns-clause-drifted
returns-clause-drifted g c = λ tells bodies valid long state.
    let m = g.H.Host.meaning in
    let so_far = c.loop-index.invariant in
    let all : c.loop-index.index ≡ c.args.count = omega (arith, c.loop-index-test.false, c.loop-index.auto.index-end) in
    let made = drifted_one c.args.params.now c.args.way in
    drifted_known m c.args.params.now c.args.from drifted_file c.args.count c.args.cache.now c.args.host.now c.requires.empty
    c.args.way c.loop-index.cache c.loop-index.host c.loop-index.writer so_far.file
    (subst (λ n. HasCopied m made c.args.from 0 n c.args.cache.now c.args.host.now (record { file = drifted_file; count = 0 }) c.loop-index.cache c.loop-index.host c.loop-index.writer)
    all so_far.copied)
    tells bodies long state
