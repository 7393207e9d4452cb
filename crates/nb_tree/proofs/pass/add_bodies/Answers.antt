use Rattle.std.proofs.Common.{◌≡◌, Err, Some, sym, ap, ◌∙◌, arith, rules}
use Rattle.nb_cache.specs.View.{seen}
use Rattle.nb_cache.proofs.Callers.{no_file}
use Rattle.nb_tree.specs.declared.tree_error.TreeError.TheVariants.{Fault, Damaged}
use Rattle.nb_tree.proofs.Calls.{goes_on, goes_ends}
use Rattle.nb_tree.proofs.Deepest.{next_of_lies, lies_of_next, summed_more, summed_all}
use Rattle.nb_tree.proofs.Moves.{same_file, front_on, held_on, held_back, misplaced_back, reads_on}
use Rattle.nb_tree.proofs.Sorted.{front_sorted}
use Rattle.nb_tree.proofs.pass.add_bodies.Goals as goal

pub returns-in_err-body-clause-damaged : goal.returns-in_err-body-clause-damaged
returns-in_err-body-clause-damaged g c = λ name is tells held.
    let error : c.take.result ≡ Err (Damaged name) = search rules in
    let before = seen g.H.Host.meaning c.args.cache.now c.args.host.now in
    let now = seen g.H.Host.meaning c.loop-key.cache c.loop-key.host in
    let file = c.args.reader.now.file in
    let same = same_file file c.loop-key.invariant.goes (no_file file) tells in
    misplaced_back c.loop-key.invariant.reads before now same
    (c.take.ensures.damaged name error tells
    (held_on c.loop-key.invariant.reads before now same (c.loop-key.invariant.held tells held)))

pub returns-in_err-body-clause-ran : goal.returns-in_err-body-clause-ran
returns-in_err-body-clause-ran g c =
    goes_ends c.loop-key.invariant.goes c.take.ensures.ran
    (λ faulted. let error : c.take.result ≡ Err Fault = search rules in error) (λ error. search rules)

pub loop-key-preserved : goal.loop-key-preserved
loop-key-preserved g c =
    let inv = c.loop-key.invariant in
    let before = seen g.H.Host.meaning c.args.cache.now c.args.host.now in
    let now = seen g.H.Host.meaning c.loop-key.cache c.loop-key.host in
    let file = c.args.reader.now.file in
    let lies = c.lies_in.ensures.0 (search rules) in
    let one = c.in_ok-body.ensures.reads in
    record {
      reader = c.take.ensures.reader;
      reads = reads_on inv.reads one (omega (arith, c.plus-sums.ensures.count, c.of.ensures.count));
      small = c.plus-sums.ensures.small;
      some = λ none. absurd (omega (arith, c.plus-sums.ensures.count, c.of.ensures.count));
      goes = goes_on inv.goes c.take.ensures.ran (search rules);
      at = λ tells front fronts at.
          c.in_ok-body.ensures.at tells front
          (front_on inv.reads before now (same_file file inv.goes (no_file file) tells) fronts)
          (inv.at tells front fronts at);
      held = λ tells held.
          let same = same_file file inv.goes (no_file file) tells in
          held_back inv.reads one before now same (c.in_ok-body.ensures.held tells (held_on inv.reads before now same (inv.held tells held)));
      sums = λ tells front fronts at first.
          let here = inv.at tells front fronts at in
          let next = next_of_lies here lies in
          let same_body : c.in_ok-body.body ≡ lies.next.body = rw lies.there at c.in_ok-body.ensures.body in
          summed_more (front_sorted fronts) c.args.key c.args.reader.now.taken first c.loop-key.reader.taken c.loop-key.sums
          c.of.result c.plus-sums.result c.in_ok-body.body inv.reads.taken next (next.there ∙ ap Some (sym same_body))
          (record { count = c.of.ensures.count; mass = c.of.ensures.mass; x = c.of.ensures.x; y = c.of.ensures.y; z = c.of.ensures.z })
          (record {
            count = c.plus-sums.ensures.count;
            mass = c.plus-sums.ensures.mass;
            x = c.plus-sums.ensures.x;
            y = c.plus-sums.ensures.y;
            z = c.plus-sums.ensures.z;
          })
          (inv.sums tells front fronts at first);
    }

pub returns-clause-sums : goal.returns-clause-sums
returns-clause-sums g c = λ tells front fronts at first.
    let inv = c.loop-key.invariant in
    summed_all (front_sorted fronts) c.args.key c.args.reader.now.taken first c.loop-key.reader.taken c.loop-key.sums inv.reads.taken
    (next_of_lies at c.requires.lies)
    (λ next. absurd (let lies = c.lies_in.ensures.1 (lies_of_next (inv.at tells front fronts at) next) in let not = c.loop-key-test.false in search rules))
    (inv.sums tells front fronts at first)
