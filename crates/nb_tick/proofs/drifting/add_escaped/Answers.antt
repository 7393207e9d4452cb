use Rattle.std.proofs.Common.{◌≡◌, [], ◌∷◌, Err, refl, ◌∙◌, subst, arith, rules}
use Rattle.nb_tick.specs.declared.tick_error.TickError.TheVariants.{Fault, Damaged}
use Rattle.nb_tick.specs.Steps.{resting_one}
use Rattle.nb_tick.specs.Writer.{HasCopied}
use Rattle.nb_tick.proofs.Calls.{among_one, went_none, went_on, went_to}
use Rattle.nb_tick.proofs.Written.{copied_none, copied_more, cant_copy_later}
use Rattle.nb_tick.proofs.drifting.add_escaped.Goals as goal

pub loop-index-init : goal.loop-index-init
loop-index-init g c = record {
  went = went_none g.H.Host.meaning (c.args.writer.now.file ∷ []) c.args.cache.now c.args.host.now c.requires.in_step;
  file = refl;
  copied = copied_none g.H.Host.meaning resting_one c.args.from c.args.begin c.args.cache.now c.args.host.now c.args.writer.now;
}

pub loop-index-preserved : goal.loop-index-preserved
loop-index-preserved g c =
    let so_far = c.loop-index.invariant in
    record {
      went = went_on so_far.went (among_one so_far.file) c.add_record.ensures.ran (search rules);
      file = c.add_record.ensures.file ∙ so_far.file;
      copied = copied_more g.H.Host.meaning resting_one c.args.from (omega (arith, c.loop-index.auto.index)) c.requires.apart so_far.went.writes
          so_far.copied c.in_ok-add_record.ensures.copied;
    }

pub returns-in_err-add_record-clause-damaged : goal.returns-in_err-add_record-clause-damaged
returns-in_err-add_record-clause-damaged g c = λ name is.
    let so_far = c.loop-index.invariant in
    let error : c.add_record.result ≡ Err (Damaged name) = search rules in
    cant_copy_later g.H.Host.meaning resting_one c.args.from (omega (arith, c.loop-index.auto.index)) c.loop-index-test.true c.requires.apart so_far.file
    so_far.went.writes so_far.copied (c.add_record.ensures.damaged name error)

pub returns-in_err-add_record-clause-ran : goal.returns-in_err-add_record-clause-ran
returns-in_err-add_record-clause-ran g c =
    let so_far = c.loop-index.invariant in
    went_to so_far.went (among_one so_far.file) c.add_record.ensures.ran
    (λ faulted. let error : c.add_record.result ≡ Err Fault = search rules in error) (λ error. search rules)

pub returns-clause-copied : goal.returns-clause-copied
returns-clause-copied g c =
    let all : c.loop-index.index ≡ c.args.count =
    omega (arith, c.loop-index-test.false, c.loop-index.auto.index-end, c.requires.begin) in
    subst (λ n. HasCopied g.H.Host.meaning resting_one c.args.from c.args.begin n c.args.cache.now c.args.host.now c.args.writer.now c.loop-index.cache c.loop-index.host c.loop-index.writer)
    all c.loop-index.invariant.copied
