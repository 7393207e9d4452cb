use Rattle.std.proofs.Common.{◌≡◌, sym, ◌∙◌, arith}
use Rattle.nb_record.specs.Fields.{u64_at}
use Rattle.nb_record.specs.Records.{cell_record}
use Rattle.nb_record.proofs.Searching.{find_here, find_on, find_end}
use Rattle.nb_record.proofs.cell_page.CellPage.index_of.Goals as goal

pub returns-then-key_at-number-clause-index : goal.returns-then-key_at-number-clause-index
returns-then-key_at-number-clause-index c =
    let here : u64_at 0 (cell_record c.loop-i.i c.args.self.now) ≡ c.args.key = sym c.key_at.ensures ∙ c.if-key_at-number.true ∙ c.number-number.ensures.number in
    sym (c.loop-i.invariant ∙ find_here c.count-count.result c.loop-i.i c.args.key c.args.self.now c.loop-i-test.true here)

pub loop-i-preserved : goal.loop-i-preserved
loop-i-preserved c =
    c.loop-i.invariant
    ∙ find_on c.count-count.result c.loop-i.i c.args.key c.args.self.now c.loop-i-test.true
    (λ here. c.if-key_at-number.false (c.key_at.ensures ∙ here ∙ sym c.number-number.ensures.number))

pub returns-clause-index : goal.returns-clause-index
returns-clause-index c =
    sym (c.loop-i.invariant ∙ find_end c.count-count.result c.loop-i.i c.args.key c.args.self.now (omega arith))
