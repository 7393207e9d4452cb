use Rattle.std.proofs.Common.{◌≡◌, [], Err, false, IsTrue, rules}
use Rattle.nb_host.proofs.Callers.{ok_is_no_error}
use Rattle.nb_cache.specs.View.{seen}
use Rattle.nb_walk.proofs.Callers.{all_finished}
use Rattle.nb_force.specs.declared.force_error.ForceError.TheVariants.{Fault, Damaged}
use Rattle.nb_force.proofs.Calls.{goes_none, goes_on, goes_ends, goes_done}
use Rattle.nb_force.proofs.Finishing.{some_wants, pages_cacheable, keeps_then, advance_on, fetch_no_tree}
use Rattle.nb_force.proofs.Walks.{sums_below}
use Rattle.nb_force.proofs.rounds.finish.Goals as goal

pub returns-in_err-done-clause-damaged : goal.returns-in_err-done-clause-damaged
returns-in_err-done-clause-damaged g c = λ name is.
    let error : c.advance.result ≡ Err (Damaged name) = search rules in
    let m = g.H.Host.meaning in
    record {
      file = c.advance.ensures.file name error;
      cause = λ tells bodies of_tree.
          ok_is_no_error
          (c.advance.ensures.tree (m.contents c.args.host.now) bodies (c.requires.in_step tells) of_tree
          (c.requires.begun.on c.args.params.now bodies c.args.tree.now (seen m c.args.cache.now c.args.host.now) of_tree)).0 error;
    }

pub loop-done-init : goal.loop-done-init
loop-done-init g c =
    let m = g.H.Host.meaning in
    record {
      goes = goes_none m [] c.args.cache.now c.args.host.now c.requires.in_step;
      kept = c.advance.ensures.kept;
      paused = c.in_ok-done.ensures.paused;
      on = λ tells bodies of_tree.
          (c.advance.ensures.tree (m.contents c.args.host.now) bodies (c.requires.in_step tells) of_tree
          (c.requires.begun.on c.args.params.now bodies c.args.tree.now (seen m c.args.cache.now c.args.host.now) of_tree)).1;
    }

pub fetch_wanted-requires-clause-some : goal.fetch_wanted-requires-clause-some
fetch_wanted-requires-clause-some g c =
    let not_done : c.loop-done.done ≡ false = search rules in
    let paused = c.loop-done.invariant.paused in
    some_wants c.args.tree.now c.loop-done.pool.walks c.loop-done.pool.wants (paused.waits not_done) paused.wants

pub fetch_wanted-requires-clause-names : goal.fetch_wanted-requires-clause-names
fetch_wanted-requires-clause-names g c =
    pages_cacheable c.args.tree.now c.loop-done.pool.wants c.requires.files.0 c.requires.files.1 c.loop-done.invariant.paused.wants.pages

pub returns-in_err-fetch_wanted-clause-damaged : goal.returns-in_err-fetch_wanted-clause-damaged
returns-in_err-fetch_wanted-clause-damaged g c = λ name is.
    let error : c.fetch_wanted.result ≡ Err (Damaged name) = search rules in
    let so_far = c.loop-done.invariant in
    fetch_no_tree c.args.params.now c.args.tree.now c.args.cache.now c.loop-done.cache c.args.host.now c.loop-done.host so_far.goes.writes
    c.loop-done.pool c.loop-done.done name so_far.paused so_far.on (c.fetch_wanted.ensures.named name error) (c.fetch_wanted.ensures.short name error)

pub returns-in_err-fetch_wanted-clause-ran : goal.returns-in_err-fetch_wanted-clause-ran
returns-in_err-fetch_wanted-clause-ran g c =
    goes_ends c.loop-done.invariant.goes c.fetch_wanted.ensures.ran (λ faulted. search rules) (λ error. search rules)

pub returns-in_err-done-2-clause-damaged : goal.returns-in_err-done-2-clause-damaged
returns-in_err-done-2-clause-damaged g c = λ name is.
    let error : c.advance-in-loop-done.result ≡ Err (Damaged name) = search rules in
    let so_far = c.loop-done.invariant in
    let goes = goes_on so_far.goes c.fetch_wanted.ensures.ran (search rules) in
    record {
      file = c.advance-in-loop-done.ensures.file name error;
      cause = λ tells bodies of_tree.
          ok_is_no_error
          (advance_on c.args.params.now c.args.tree.now c.args.cache.now c.fetch_wanted.new.cache c.args.host.now c.fetch_wanted.new.host goes.writes
          c.loop-done.pool.walks c.advance-in-loop-done.new.pool.walks c.advance-in-loop-done.result c.advance-in-loop-done.ensures.tree
          tells bodies of_tree (so_far.on tells bodies of_tree)).0 error;
    }

pub returns-in_err-done-2-clause-ran : goal.returns-in_err-done-2-clause-ran
returns-in_err-done-2-clause-ran g c =
    goes_done (goes_on c.loop-done.invariant.goes c.fetch_wanted.ensures.ran (search rules))
    (λ is. let error : c.advance-in-loop-done.result ≡ Err Fault = search rules in c.advance-in-loop-done.ensures.no_fault error)

pub loop-done-smaller : goal.loop-done-smaller
loop-done-smaller g c =
    let brought = c.in_ok-fetch_wanted.ensures.resident in
    c.in_ok-done-2.ensures.lower c.loop-done.pool.wants brought.name c.loop-done.invariant.paused.wants brought.there brought.resident

pub loop-done-preserved : goal.loop-done-preserved
loop-done-preserved g c =
    let so_far = c.loop-done.invariant in
    let goes = goes_on so_far.goes c.fetch_wanted.ensures.ran (search rules) in
    record {
      goes = goes;
      kept = keeps_then so_far.kept c.advance-in-loop-done.ensures.kept;
      paused = c.in_ok-done-2.ensures.paused;
      on = λ tells bodies of_tree.
          (advance_on c.args.params.now c.args.tree.now c.args.cache.now c.fetch_wanted.new.cache c.args.host.now c.fetch_wanted.new.host goes.writes
          c.loop-done.pool.walks c.advance-in-loop-done.new.pool.walks c.advance-in-loop-done.result c.advance-in-loop-done.ensures.tree
          tells bodies of_tree (so_far.on tells bodies of_tree)).1;
    }

pub returns-clause-range : goal.returns-clause-range
returns-clause-range g c =
    let kept = c.loop-done.invariant.kept in
    sums_below c.args.params.now c.args.tree.now c.loop-done.pool.walks c.requires.tree.gm kept.range (kept.within (c.requires.begun.within c.args.tree.now.mass))

pub returns-clause-forces : goal.returns-clause-forces
returns-clause-forces g c = λ tells bodies of_tree.
    let done : IsTrue c.loop-done.done = search rules in
    let so_far = c.loop-done.invariant in
    all_finished c.args.params.now bodies c.args.tree.now (seen g.H.Host.meaning c.args.cache.now c.args.host.now c.args.tree.now.cells) c.loop-done.pool.walks
    (so_far.on tells bodies of_tree) (so_far.paused.finished done)
