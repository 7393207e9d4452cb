use Rattle.std.proofs.Common.{◌≡◌, ◌<◌, ◌/◌, ◌^◌, ap, ◌∙◌, arith, w64, to_z, of_z, ◌-ℤ◌, pos}
use Rattle.std.proofs.lemmas.Int.{ints}
use Rattle.nb_cli.specs.Make.{velocity_of}
use Rattle.nb_cli.proofs.Generating.{word_given, stream_left}
use Rattle.nb_cli.proofs.generator.Generator.velocity.Goals as goal

pub returns-clause-value : goal.returns-clause-value
returns-clause-value c = λ state at.
    let small : c.next_u64.result / 2 ^ 52 < 4096 = omega arith in
    let plain : to_z w64 (of_z w64 (to_z w64 (c.next_u64.result / 2 ^ 52) -ℤ pos 2048)) ≡ velocity_of c.next_u64.result = omega (arith, ints) in
    plain ∙ ap velocity_of (word_given state c.next_u64.ensures at)

pub returns-clause-moved : goal.returns-clause-moved
returns-clause-moved c = λ state at. stream_left state c.next_u64.ensures at
