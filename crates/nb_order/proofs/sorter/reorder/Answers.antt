use Rattle.std.proofs.Common.{◌≡◌, ℕ, IsTrue, List, [], ◌∷◌, Err, length, inl, sym, ap, subst, ◌∙◌, rules}
use Rattle.std.specs.Map.{values_of}
use Rattle.std.proofs.lemmas.Result.{on_ok_weaker}
use Rattle.nb_model.specs.declared.body.Body.{Body}
use Rattle.nb_cache.specs.View.{seen}
use Rattle.nb_cache.proofs.Callers.{no_file, other_file, may_write, ran_as, ran_then, ran_again}
use Rattle.nb_record.specs.Order.{sorted_by}
use Rattle.nb_order.specs.Files.{IsSortedCopy}
use Rattle.nb_order.specs.Indexes.{HasFirst, AreReadTo, AreIndexesOf, IsCopyOf}
use Rattle.nb_order.specs.declared.order_error.OrderError.TheVariants.{Fault, Damaged}
use Rattle.nb_order.proofs.Reading.{held_first, first_of, length-first_of, has_first, never_unsortable}
use Rattle.nb_order.specs.Errors.{of_cache}
use Rattle.nb_order.proofs.Refusing.{fault_handed_on}
use Rattle.nb_order.proofs.Sorting.{read_numbers}
use Rattle.nb_order.proofs.sorter.reorder.Goals as goal

-- a copy of each list that the file holds, and of its first bodies, is a sorted copy
sorted_copy : (rank : Body → ℕ) (count : ℕ) (from to : List ℕ) (entries : List ((ℕ × ℕ) × ℕ)) → AreReadTo rank from count entries
    → ((bodies list : List Body) → HasFirst from bodies → AreIndexesOf bodies (values_of entries) list → IsCopyOf from bodies to list)
    → IsSortedCopy rank count from to
sorted_copy rank count from to entries all copied = record {
  bodies = λ list holds long. (copy list (held_first from list holds) long).holds;
  kicks = λ kick list holds long.
      let is = copy list (held_first from list holds.bodies) long in
      record { bodies = is.holds; kicks = is.kicks kick holds.kicks };
  padded = (copy (first_of from count) (has_first from count all.has) (length-first_of from count)).padded;
} where
  copy : (bodies : List Body) → HasFirst from bodies → length bodies ≡ count → IsCopyOf from bodies to (sorted_by rank bodies)
  copy bodies first long = copied bodies (sorted_by rank bodies) first (read_numbers rank from count entries bodies all first long)

pub returns-clause-sorted : goal.returns-clause-sorted
returns-clause-sorted g c =
    on_ok_weaker c.copy.result
    (λ copied tells.
    let from = seen g.H.Host.meaning c.args.cache.now c.args.host.now c.args.from in
    let to = seen g.H.Host.meaning c.copy.new.cache c.copy.new.host c.args.to in
    let stays = c.empty.ensures.ran.writes.view tells c.args.from (other_file c.requires.differ)
    ∙ c.indexes_of.ensures.ran.writes.view tells c.args.from (no_file c.args.from) in
    sorted_copy g.O.Order.rank_of c.args.count from to c.in_ok-indexes.indexes.entries (c.in_ok-indexes.ensures.read tells)
    (λ bodies list first numbered.
    subst (λ file. IsCopyOf file bodies to list) stays
    (copied tells bodies list (subst (λ file. HasFirst file bodies) (sym stays) first) numbered)))
    c.copy.ensures.copied

pub returns-clause-damaged : goal.returns-clause-damaged
returns-clause-damaged g c = λ name is.
    let never : IsTrue g.H.Host.meaning.tells → ⊥ = λ tells.
    let from = seen g.H.Host.meaning c.args.cache.now c.args.host.now c.args.from in
    let stays = c.empty.ensures.ran.writes.view tells c.args.from (other_file c.requires.differ)
    ∙ c.indexes_of.ensures.ran.writes.view tells c.args.from (no_file c.args.from) in
    let all = c.in_ok-indexes.ensures.read tells in
    let bodies = first_of from c.args.count in
    let first = has_first from c.args.count all.has in
    c.copy.ensures.damaged name is tells bodies (sorted_by g.O.Order.rank_of bodies)
    (subst (λ file. HasFirst file bodies) (sym stays) first)
    (read_numbers g.O.Order.rank_of from c.args.count c.in_ok-indexes.indexes.entries bodies all first (length-first_of from c.args.count)) in
    record {
      file = c.copy.ensures.page name is;
      shown = λ tells. absurd (never tells);
      listed = λ tells bodies holds long different. never tells;
    }

pub returns-in_err-indexes-clause-damaged : goal.returns-in_err-indexes-clause-damaged
returns-in_err-indexes-clause-damaged g c = λ name is.
    let error : c.indexes_of.result ≡ Err (Damaged name) = search rules in
    record {
      file = inl (c.indexes_of.ensures.page name error);
      shown = λ tells. c.indexes_of.ensures.shown name error tells;
      listed = λ tells bodies holds long different.
          never_unsortable g.O.Order.rank_of c.args.from c.args.count (seen g.H.Host.meaning c.args.cache.now c.args.host.now c.args.from) name bodies
          (c.indexes_of.ensures.shown name error tells) holds long different;
    }

pub returns-clause-ran : goal.returns-clause-ran
returns-clause-ran g c =
    ran_again (ran_then c.indexes_of.ensures.ran (search rules) c.empty.ensures.ran) (search rules) c.copy.ensures.ran

pub returns-in_err-indexes-clause-ran : goal.returns-in_err-indexes-clause-ran
returns-in_err-indexes-clause-ran g c = record {
  writes = may_write (c.args.to ∷ []) c.indexes_of.ensures.ran.writes;
  rose = λ faulted.
      let error : c.indexes_of.result ≡ Err Fault = search rules in
      c.indexes_of.ensures.ran.rose error;
  spared = search rules;
}

pub returns-in_err-empty-clause-ran : goal.returns-in_err-empty-clause-ran
returns-in_err-empty-clause-ran g c =
    let handed_on : c.from_residual-in_err-empty.result ≡ Err (of_cache c.in_err-empty.field-0.0) = search rules in
    ran_as (ran_then c.indexes_of.ensures.ran (search rules) c.empty.ensures.ran)
    (λ faulted. c.in_err-empty.was ∙ ap Err (fault_handed_on c.in_err-empty.field-0.0 (cc)))
    (λ error. search rules)
