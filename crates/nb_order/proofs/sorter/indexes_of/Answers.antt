use Rattle.std.proofs.Common.{◌≡◌, ◌+◌, ◌<◌, [], Err, refl, sym, subst, ap, ◌∙◌, arith, rules}
use Rattle.std.specs.Prelude.{All, ◌⊎◌}
use Rattle.std.specs.Map.{values_of}
use Rattle.std.proofs.lemmas.List.Elements.{All-nil}
use Rattle.nb_host.specs.declared.page_name.PageName.{PageName}
use Rattle.nb_host.proofs.Callers.{stopped_after}
use Rattle.nb_cache.specs.View.{seen}
use Rattle.nb_cache.proofs.Callers.{no_file, writes_begins, writes_again}
use Rattle.nb_order.specs.Files.{HasBody, IsDouble}
use Rattle.nb_order.specs.Indexes.{AreReadTo}
use Rattle.nb_order.specs.declared.order_error.OrderError.TheVariants.{Fault, Damaged}
use Rattle.nb_order.proofs.Sorting.{read_none}
use Rattle.nb_order.proofs.sorter.indexes_of.Goals as goal

pub loop-index-init : goal.loop-index-init
loop-index-init g c = record {
  writes = writes_begins g.H.Host.meaning [] c.args.cache.now c.args.host.now c.requires.in_step;
  spared = refl;
  numbers = subst (λ es. All (λ number. number < 0) (values_of es)) (sym c.new-indexes.ensures.empty) (All-nil (λ number. number < 0));
  count = c.new-indexes.ensures.len;
  read = λ tells. read_none g.O.Order.rank_of (seen g.H.Host.meaning c.args.cache.now c.args.host.now c.args.from) c.new-indexes.result.entries c.new-indexes.ensures.empty;
}

pub loop-index-preserved : goal.loop-index-preserved
loop-index-preserved g c =
    let so_far = c.loop-index.invariant in
    record {
      writes = writes_again so_far.writes c.add_index.ensures.ran.writes;
      spared = c.add_index.ensures.ran.spared (search rules) ∙ so_far.spared;
      numbers = c.in_ok-add_index.ensures.numbers;
      count = omega (arith, so_far.count, c.in_ok-add_index.ensures.count);
      read = λ tells.
          let same = so_far.writes.view tells c.args.from (no_file c.args.from) in
          subst (λ file. AreReadTo g.O.Order.rank_of file (c.loop-index.index + 1) c.add_index.new.indexes.entries) same
          (c.in_ok-add_index.ensures.read tells
          (subst (λ file. AreReadTo g.O.Order.rank_of file c.loop-index.index c.loop-index.indexes.entries) (sym same) (so_far.read tells)));
    }

pub returns-in_err-add_index-clause-page : goal.returns-in_err-add_index-clause-page
returns-in_err-add_index-clause-page g c = λ name is.
    let error : c.add_index.result ≡ Err (Damaged name) = search rules in
    ap (λ (n : PageName). n.file) (c.add_index.ensures.page name error)

pub returns-in_err-add_index-clause-shown : goal.returns-in_err-add_index-clause-shown
returns-in_err-add_index-clause-shown g c = λ name is tells.
    let so_far = c.loop-index.invariant in
    let error : c.add_index.result ≡ Err (Damaged name) = search rules in
    let same = so_far.writes.view tells c.args.from (no_file c.args.from) in
    record {
      index = c.loop-index.index;
      below = c.loop-index-test.true;
      page = c.add_index.ensures.page name error;
      cause = subst (λ file. (HasBody file c.loop-index.index → ⊥) ⊎ IsDouble g.O.Order.rank_of file c.loop-index.index) same
          (c.add_index.ensures.cause name error tells
          (subst (λ file. AreReadTo g.O.Order.rank_of file c.loop-index.index c.loop-index.indexes.entries) (sym same) (so_far.read tells)));
    }

pub returns-in_err-add_index-clause-ran : goal.returns-in_err-add_index-clause-ran
returns-in_err-add_index-clause-ran g c = record {
  writes = writes_again c.loop-index.invariant.writes c.add_index.ensures.ran.writes;
  rose = λ faulted.
      let error : c.add_index.result ≡ Err Fault = search rules in
      stopped_after c.loop-index.invariant.spared (c.add_index.ensures.ran.rose error);
  spared = λ never.
      c.add_index.ensures.ran.spared (λ error. never (search rules)) ∙ c.loop-index.invariant.spared;
}

pub returns-clause-ran : goal.returns-clause-ran
returns-clause-ran g c = record { writes = c.loop-index.invariant.writes; rose = λ faulted. absurd (cc); spared = λ _. c.loop-index.invariant.spared }

pub returns-clause-read : goal.returns-clause-read
returns-clause-read g c = λ tells.
    let all : c.loop-index.index ≡ c.args.count = omega (arith, c.loop-index-test.false) in
    subst (λ n. AreReadTo g.O.Order.rank_of (seen g.H.Host.meaning c.args.cache.now c.args.host.now c.args.from) n c.loop-index.indexes.entries) all (c.loop-index.invariant.read tells)
