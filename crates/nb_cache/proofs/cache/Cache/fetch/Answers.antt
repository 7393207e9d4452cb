use Rattle.std.proofs.Common.{◌∙◌, rules}
use Rattle.nb_host.proofs.Callers.{stopped_after}
use Rattle.nb_cache.proofs.Callers.{writes_again}
use Rattle.nb_cache.proofs.Fetching.{fetches_none, fetches_at}
use Rattle.nb_cache.proofs.cache.Cache.fetch.Goals as goal

pub loop-name-init : goal.loop-name-init
loop-name-init g c =
    fetches_none g.H.Host.meaning c.args.self.now c.args.host.now c.len.ensures.sound c.requires.in_step

pub bring-requires-clause-in_step : goal.bring-requires-clause-in_step
bring-requires-clause-in_step g c = c.loop-name.invariant.writes.in_step

pub loop-name-preserved : goal.loop-name-preserved
loop-name-preserved g c =
    fetches_at g.H.Host.meaning c.args.self.now c.args.host.now c.args.names.now c.loop-name.name-index _
    c.loop-name-test.true c.loop-name.self c.loop-name.host c.loop-name.invariant c.bring.new.self c.bring.new.host
    c.requires.rising c.in_ok-bring.ensures.resident c.in_ok-bring.ensures.whole c.bring.ensures.unwritten
    c.bring.ensures.sound c.bring.ensures.ran.writes (c.bring.ensures.ran.spared (search rules))

pub returns-clause-ran : goal.returns-clause-ran
returns-clause-ran g c = record {
  writes = c.loop-name.invariant.writes;
  rose = search rules;
  spared = λ _. c.loop-name.invariant.spared;
}

pub returns-in_err-bring-clause-ran : goal.returns-in_err-bring-clause-ran
returns-in_err-bring-clause-ran g c = record {
  writes = writes_again c.loop-name.invariant.writes c.bring.ensures.ran.writes;
  rose = λ faulted. stopped_after c.loop-name.invariant.spared (c.bring.ensures.ran.rose (search rules));
  spared = λ never. c.bring.ensures.ran.spared (search rules) ∙ c.loop-name.invariant.spared;
}
