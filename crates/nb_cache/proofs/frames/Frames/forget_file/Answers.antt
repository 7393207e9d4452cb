use Rattle.std.proofs.Common.{◌+◌, subst, ◌≡◌, ◌∙◌, ◌-◌, length, arith, sym}
use Rattle.nb_cache.specs.Stock.{HasFrames}
use Rattle.nb_cache.specs.View.{held_names}
use Rattle.nb_cache.proofs.Forgetting.{forgets_none, forgets_next, forgets_there, kept_all}
use Rattle.nb_cache.proofs.frames.Frames.forget_file.Goals as goal

pub loop-init : goal.loop-init
loop-init c = (c.len-resident.ensures.count, forgets_none c.args.file c.args.self.now c.len-resident.ensures.sound c.requires)

pub pass-requires-clause-resident : goal.pass-requires-clause-resident
pass-requires-clause-resident c =
    forgets_there c.args.file c.loop.counter c.args.self.now c.loop.self c.in-Some.name c.loop.invariant.1
    (omega (arith, c.loop-test.true, c.loop.invariant.0)) (sym c.last.ensures ∙ c.in-Some.is)

pub pass-requires-clause-frames : goal.pass-requires-clause-frames
pass-requires-clause-frames c =
    subst (λ n. HasFrames (n + 1) c.loop.self) (sym c.loop.invariant.1.pages) c.loop.invariant.1.frames

pub loop-preserved : goal.loop-preserved
loop-preserved c = (
  c.loop.invariant.0,
  forgets_next c.args.file c.loop.counter c.args.self.now c.loop.self c.in-Some.name c.loop.invariant.1
      (omega (arith, c.loop-test.true, c.loop.invariant.0)) (sym c.last.ensures ∙ c.in-Some.is) c.pass.new.self
      c.pass.ensures.gone c.pass.ensures.moved c.pass.ensures.others c.pass.ensures.pages c.pass.ensures.frames
      c.pass.ensures.sound,
)

pub returns-clause-resident : goal.returns-clause-resident
returns-clause-resident c =
    let none : length (held_names c.args.self.now.held) - c.loop.counter ≡ 0 =
    omega (arith, c.loop-test.false, c.loop.invariant.0) in
    c.loop.invariant.1.names
    ∙ kept_all c.args.file (length (held_names c.args.self.now.held) - c.loop.counter) (held_names c.args.self.now.held) none
