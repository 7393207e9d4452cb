use Rattle.std.proofs.Common.{◌≡◌, Err, ◌∙◌, rules}
use Rattle.std.proofs.lemmas.Result.{on_ok_weaker}
use Rattle.nb_cache.proofs.Callers.{no_file, writes_again, ran_more, ran_as, ran_then}
use Rattle.nb_force.specs.declared.force_error.ForceError.TheVariants.{Damaged}
use Rattle.nb_force.proofs.Takes.{never, no_tree_after, takes_after, no_range_after}
use Rattle.nb_force.proofs.Walks.{finished_kicks, same_many}
use Rattle.nb_force.proofs.groups.group.Goals as goal

pub hand_over-requires-clause-walks : goal.hand_over-requires-clause-walks
hand_over-requires-clause-walks g c =
    same_many c.begin_walks.new.pool.walks c.finish.new.pool.walks c.finish.ensures.targets ∙ c.in_ok-begin_walks.ensures.length

pub returns-in_err-begin_walks-clause-damaged : goal.returns-in_err-begin_walks-clause-damaged
returns-in_err-begin_walks-clause-damaged g c = λ name is.
    let error : c.begin_walks.result ≡ Err (Damaged name) = search rules in
    never c.args.from c.args.end (c.begin_walks.ensures.damaged name error c.args.params.now)

pub returns-in_err-begin_walks-clause-ran : goal.returns-in_err-begin_walks-clause-ran
returns-in_err-begin_walks-clause-ran g c =
    ran_more (λ file has. absurd (no_file file has)) (ran_as c.begin_walks.ensures.ran (λ faulted. search rules) (λ error. search rules))

pub returns-in_err-finish-clause-damaged : goal.returns-in_err-finish-clause-damaged
returns-in_err-finish-clause-damaged g c = λ name is.
    let error : c.finish.result ≡ Err (Damaged name) = search rules in
    never c.args.from c.args.end (no_tree_after c.begin_walks.ensures.ran.writes (c.finish.ensures.damaged name error))

pub returns-in_err-finish-clause-ran : goal.returns-in_err-finish-clause-ran
returns-in_err-finish-clause-ran g c =
    ran_more (λ file has. absurd (no_file file has))
    (ran_as (ran_then c.begin_walks.ensures.ran (search rules) c.finish.ensures.ran) (λ faulted. search rules) (λ error. search rules))

pub returns-clause-takes : goal.returns-clause-takes
returns-clause-takes g c =
    on_ok_weaker c.hand_over.result
    (λ takes.
    takes_after (writes_again c.begin_walks.ensures.ran.writes c.finish.ensures.ran.writes) c.args.from c.args.end
    (takes c.args.params.now
    (finished_kicks g.H.Host.meaning c.args.params.now c.args.tree.now c.args.cache.now c.begin_walks.new.cache c.finish.new.cache
    c.args.host.now c.begin_walks.new.host c.finish.new.host c.args.from c.begin_walks.new.pool.walks c.finish.new.pool.walks
    c.begin_walks.ensures.ran.writes c.finish.ensures.ran.writes c.finish.ensures.targets c.in_ok-finish.ensures.forces c.in_ok-begin_walks.ensures.targets)))
    c.hand_over.ensures.takes

pub returns-clause-damaged : goal.returns-clause-damaged
returns-clause-damaged g c = λ name is.
    no_range_after (writes_again c.begin_walks.ensures.ran.writes c.finish.ensures.ran.writes) c.args.from c.args.end
    (c.hand_over.ensures.damaged name is c.args.params.now
    (finished_kicks g.H.Host.meaning c.args.params.now c.args.tree.now c.args.cache.now c.begin_walks.new.cache c.finish.new.cache
    c.args.host.now c.begin_walks.new.host c.finish.new.host c.args.from c.begin_walks.new.pool.walks c.finish.new.pool.walks
    c.begin_walks.ensures.ran.writes c.finish.ensures.ran.writes c.finish.ensures.targets c.in_ok-finish.ensures.forces c.in_ok-begin_walks.ensures.targets))

pub returns-clause-ran : goal.returns-clause-ran
returns-clause-ran g c = ran_then c.begin_walks.ensures.ran (search rules) (ran_then c.finish.ensures.ran (search rules) c.hand_over.ensures.ran)
