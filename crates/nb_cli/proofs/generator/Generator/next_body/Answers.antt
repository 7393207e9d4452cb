use Rattle.std.proofs.Common.{◌≡◌, ◌+◌, ◌*◌, ◌%◌, ℕ, sym, ap, ◌∙◌, add-zero, arith, rules, w64, FitsSigned}
use Rattle.std.proofs.lemmas.Int.{to_z-of_z}
use Rattle.rand_core.specs.Steps.{stream_of}
use Rattle.rand_xoshiro.specs.SplitMix64.{splitmix_steps}
use Rattle.nb_cli.specs.Make.{generator_state}
use Rattle.nb_cli.proofs.Generating.{word_given, stream_left, at_next, same_body}
use Rattle.nb_cli.proofs.generator.Generator.next_body.Goals as goal

pub returns-clause-body : goal.returns-clause-body
returns-clause-body c = λ seed n has.
    let at0 : stream_of splitmix_steps c.args.self.now.rng ≡ stream_of splitmix_steps (generator_state seed (7 * n + 0)) =
    has.words ∙ ap (λ (k : ℕ). stream_of splitmix_steps (generator_state seed k)) (sym (add-zero (7 * n))) in
    let at1 = at_next seed (7 * n + 0) (7 * n + 1) (omega arith) (stream_left (generator_state seed (7 * n + 0)) c.next_u64.ensures at0) in
    let at2 = at_next seed (7 * n + 1) (7 * n + 2) (omega arith) (c.coordinate.ensures.moved (generator_state seed (7 * n + 1)) at1) in
    let at3 = at_next seed (7 * n + 2) (7 * n + 3) (omega arith) (c.coordinate-2.ensures.moved (generator_state seed (7 * n + 2)) at2) in
    let at4 = at_next seed (7 * n + 3) (7 * n + 4) (omega arith) (c.coordinate-3.ensures.moved (generator_state seed (7 * n + 3)) at3) in
    let at5 = at_next seed (7 * n + 4) (7 * n + 5) (omega arith) (c.velocity.ensures.moved (generator_state seed (7 * n + 4)) at4) in
    let at6 = at_next seed (7 * n + 5) (7 * n + 6) (omega arith) (c.velocity-2.ensures.moved (generator_state seed (7 * n + 5)) at5) in
    let counted : c.velocity-3.new.self.index + 1 ≡ n + 1 =
    omega (arith, has.count_is, c.coordinate.ensures.index, c.coordinate-2.ensures.index, c.coordinate-3.ensures.index, c.velocity.ensures.index, c.velocity-2.ensures.index, c.velocity-3.ensures.index) in
    let fits : FitsSigned w64 c.velocity.result = search rules in
    let fits-2 : FitsSigned w64 c.velocity-2.result = search rules in
    let fits-3 : FitsSigned w64 c.velocity-3.result = search rules in
    same_body counted
    (ap (λ (w : ℕ). 1 + w % 1000) (word_given (generator_state seed (7 * n + 0)) c.next_u64.ensures at0))
    (c.coordinate.ensures.value (generator_state seed (7 * n + 1)) at1)
    (c.coordinate-2.ensures.value (generator_state seed (7 * n + 2)) at2)
    (c.coordinate-3.ensures.value (generator_state seed (7 * n + 3)) at3)
    (to_z-of_z w64 c.velocity.result fits ∙ c.velocity.ensures.value (generator_state seed (7 * n + 4)) at4)
    (to_z-of_z w64 c.velocity-2.result fits-2 ∙ c.velocity-2.ensures.value (generator_state seed (7 * n + 5)) at5)
    (to_z-of_z w64 c.velocity-3.result fits-3 ∙ c.velocity-3.ensures.value (generator_state seed (7 * n + 6)) at6)

pub returns-clause-moved : goal.returns-clause-moved
returns-clause-moved c = λ seed n has.
    let at0 : stream_of splitmix_steps c.args.self.now.rng ≡ stream_of splitmix_steps (generator_state seed (7 * n + 0)) =
    has.words ∙ ap (λ (k : ℕ). stream_of splitmix_steps (generator_state seed k)) (sym (add-zero (7 * n))) in
    let at1 = at_next seed (7 * n + 0) (7 * n + 1) (omega arith) (stream_left (generator_state seed (7 * n + 0)) c.next_u64.ensures at0) in
    let at2 = at_next seed (7 * n + 1) (7 * n + 2) (omega arith) (c.coordinate.ensures.moved (generator_state seed (7 * n + 1)) at1) in
    let at3 = at_next seed (7 * n + 2) (7 * n + 3) (omega arith) (c.coordinate-2.ensures.moved (generator_state seed (7 * n + 2)) at2) in
    let at4 = at_next seed (7 * n + 3) (7 * n + 4) (omega arith) (c.coordinate-3.ensures.moved (generator_state seed (7 * n + 3)) at3) in
    let at5 = at_next seed (7 * n + 4) (7 * n + 5) (omega arith) (c.velocity.ensures.moved (generator_state seed (7 * n + 4)) at4) in
    let at6 = at_next seed (7 * n + 5) (7 * n + 6) (omega arith) (c.velocity-2.ensures.moved (generator_state seed (7 * n + 5)) at5) in
    let counted : c.velocity-3.new.self.index + 1 ≡ n + 1 =
    omega (arith, has.count_is, c.coordinate.ensures.index, c.coordinate-2.ensures.index, c.coordinate-3.ensures.index, c.velocity.ensures.index, c.velocity-2.ensures.index, c.velocity-3.ensures.index) in
    record {
      count_is = counted;
      words = at_next seed (7 * n + 6) (7 * (n + 1)) (omega arith) (c.velocity-3.ensures.moved (generator_state seed (7 * n + 6)) at6);
    }
