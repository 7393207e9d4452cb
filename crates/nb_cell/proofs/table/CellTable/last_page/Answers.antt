use Rattle.std.proofs.Common.{◌≡◌, ◌%◌, Err, rules, sym, ap, ◌∙◌}
use Rattle.std.specs.Option.{unwrap_or}
use Rattle.nb_cell.specs.declared.cell_error.CellError.TheVariants.{Fault, Damaged}
use Rattle.nb_cell.specs.Chains.{first_page}
use Rattle.nb_cell.proofs.Calls.{walks_first, walks_on, walks_ran, walks_end, outside_damaged, walks_damaged}
use Rattle.nb_cell.proofs.table.CellTable.last_page.Goals as goal

pub returns-then-page-self-clause-damaged : goal.returns-then-page-self-clause-damaged
returns-then-page-self-clause-damaged g c = λ name is.
    let same : c.name.result ≡ name = cc in
    let starts : c.number.result % c.chain_count.result ≡ first_page c.args.self.now.bits c.args.key =
    ap (λ n. n % c.chain_count.result) c.number.ensures.number ∙ ap (λ n. c.args.key % n) c.chain_count.ensures.value in
    outside_damaged g.H.Host.meaning c.args.self.now c.args.key c.args.cache.now c.args.host.now (c.number.result % c.chain_count.result) name
    (sym same ∙ c.name.ensures) starts c.if-page-self.true

pub loop-next-init : goal.loop-next-init
loop-next-init g c =
    let starts : c.number.result % c.chain_count.result ≡ first_page c.args.self.now.bits c.args.key =
    ap (λ n. n % c.chain_count.result) c.number.ensures.number ∙ ap (λ n. c.args.key % n) c.chain_count.ensures.value in
    walks_first g.H.Host.meaning c.args.self.now c.args.key c.args.cache.now c.args.host.now (c.number.result % c.chain_count.result) starts
    c.if-page-self.false c.requires.in_step

pub returns-in_err-next-clause-damaged : goal.returns-in_err-next-clause-damaged
returns-in_err-next-clause-damaged g c = λ name is.
    let error : c.next_page.result ≡ Err (Damaged name) = search rules in
    walks_damaged name c.loop-next.invariant (c.next_page.ensures.named name error) (c.next_page.ensures.damaged name error)

pub returns-in_err-next-clause-ran : goal.returns-in_err-next-clause-ran
returns-in_err-next-clause-ran g c =
    walks_ran c.loop-next.invariant c.next_page.ensures.ran
    (λ faulted. let error : c.next_page.result ≡ Err Fault = search rules in error) (λ error. search rules)

pub loop-next-preserved : goal.loop-next-preserved
loop-next-preserved g c =
    walks_on c.in-Some.next c.loop-next.invariant (rw c.in-Some.is at c.in_ok-next.ensures.later) c.in_ok-next.ensures.past
    (λ tells. c.in_ok-next.ensures.next tells ∙ ap (λ o. unwrap_or o 0) c.in-Some.is) c.next_page.ensures.ran (search rules)

pub returns-in-None-clause-ends : goal.returns-in-None-clause-ends
returns-in-None-clause-ends g c =
    walks_end c.loop-next.invariant c.in_ok-next.ensures.past
    (λ tells. c.in_ok-next.ensures.next tells ∙ ap (λ o. unwrap_or o 0) c.in-None.is)

pub returns-in-None-clause-ran : goal.returns-in-None-clause-ran
returns-in-None-clause-ran g c =
    walks_ran c.loop-next.invariant c.next_page.ensures.ran (λ faulted. absurd (cc)) (λ error. search rules)
