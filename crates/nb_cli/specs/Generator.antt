-- The generator of bodies, as its calls leave it.
use Rattle.std.specs.Prelude.{◌≡◌, ℕ, ◌*◌}
use Rattle.rand_core.specs.Steps.{stream_of}
use Rattle.rand_xoshiro.specs.SplitMix64.{splitmix_steps}
use Rattle.nb_cli.specs.declared.generator.Generator.{Generator}
use Rattle.nb_cli.specs.Make.{words_a_body, generator_state}

-- It gives the words of SplitMix64 from this state on.
abbrev pub IsAtState : ℕ → Generator → Type 0
IsAtState state generator = stream_of splitmix_steps generator.rng ≡ stream_of splitmix_steps state

-- It has made so many bodies of this seed.
pub record HasGenerated (seed count : ℕ) (generator : Generator) : Type 0 where
  pub count_is : generator.index ≡ count
  pub words : IsAtState (generator_state seed (words_a_body * count)) generator
