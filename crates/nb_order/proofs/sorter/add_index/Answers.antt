use Rattle.std.proofs.Common.{◌≡◌, ℕ, ◌<◌, ◌+◌, List, Err, inl, inr, subst, sym, ap, ◌∙◌, arith, rules}
use Rattle.std.specs.Prelude.{All}
use Rattle.std.specs.Map.{values_of}
use Rattle.std.specs.BTreeMap.{insert_entry}
use Rattle.std.proofs.lemmas.Map.Views.{All-values-insert_entry}
use Rattle.nb_cache.specs.View.{seen}
use Rattle.nb_order.specs.declared.order_error.OrderError.TheVariants.{Damaged}
use Rattle.nb_order.proofs.Sorting.{key_order, read_more, read_double}
use Rattle.nb_order.proofs.sorter.add_index.Goals as goal

-- one more number
more_numbers : (es fs : List ((ℕ × ℕ) × ℕ)) (key : ℕ × ℕ) (n : ℕ) → All (λ number. number < n) (values_of es)
    → fs ≡ insert_entry key_order es key n → All (λ number. number < n + 1) (values_of fs)
more_numbers es fs key n numbers is =
    subst (λ l. All (λ number. number < n + 1) (values_of l)) (sym is)
    (All-values-insert_entry key_order key n (λ number. number < n + 1) es (λ k d below. omega (arith, numbers k d below)) (omega arith))

pub returns-in-None-clause-numbers : goal.returns-in-None-clause-numbers
returns-in-None-clause-numbers g c =
    more_numbers c.args.indexes.now.entries c.insert.new.self.entries (c.rank.result, c.in_ok-body.body.id) c.args.index
    c.requires.numbers c.in_ok-insert.ensures.entries

pub returns-in-None-clause-read : goal.returns-in-None-clause-read
returns-in-None-clause-read g c = λ tells all.
    let here = c.in_ok-body.ensures.read tells in
    read_more g.O.Order.rank_of (seen g.H.Host.meaning c.args.cache.now c.args.host.now c.args.from) c.in_ok-body.body c.args.index
    c.args.indexes.now.entries c.insert.new.self.entries (c.rank.result, c.in_ok-body.body.id) here.0 here.1
    (ap (λ r. (r, c.in_ok-body.body.id)) c.rank.ensures) all (sym c.in-None.is ∙ c.in_ok-insert.ensures.old)
    c.in_ok-insert.ensures.entries c.insert.ensures.ordered

pub returns-in_err-body-clause-page : goal.returns-in_err-body-clause-page
returns-in_err-body-clause-page g c = λ name is.
    let error : c.body_at.result ≡ Err (Damaged name) = search rules in
    (c.body_at.ensures.damaged name error).page

pub returns-in_err-body-clause-cause : goal.returns-in_err-body-clause-cause
returns-in_err-body-clause-cause g c = λ name is tells all.
    let error : c.body_at.result ≡ Err (Damaged name) = search rules in
    inl ((c.body_at.ensures.damaged name error).cause tells)

pub returns-in-Some-clause-cause : goal.returns-in-Some-clause-cause
returns-in-Some-clause-cause g c = λ name is tells all.
    let here = c.in_ok-body.ensures.read tells in
    inr (read_double g.O.Order.rank_of (seen g.H.Host.meaning c.args.cache.now c.args.host.now c.args.from) c.in_ok-body.body c.args.index
    c.args.indexes.now.entries (c.rank.result, c.in_ok-body.body.id) c.in-Some.field-0 here.0 here.1
    (ap (λ r. (r, c.in_ok-body.body.id)) c.rank.ensures) all c.requires.numbers
    (sym c.in-Some.is ∙ c.in_ok-insert.ensures.old))
