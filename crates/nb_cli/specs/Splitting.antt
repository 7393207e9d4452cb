-- How `clap` splits the words behind a command, and what is made of its refusals.
use Rattle.std.specs.Prelude.{ℕ, option_and_then, option_map, Option, Some, List, [], ◌∷◌}
use Rattle.clap.specs.declared.error.kind.ErrorKind.{ErrorKind}
use Rattle.clap.specs.declared.error.kind.ErrorKind.TheVariants as kind
use Rattle.nb_format.specs.Digits.{number_of}
use Rattle.nb_cli.specs.declared.words.Given.{Given}
use Rattle.nb_cli.specs.declared.words.WordsError.{WordsError}
use Rattle.nb_cli.specs.declared.words.WordsError.TheVariants as words
use Rattle.nb_cli.specs.Words.{Numbers}

-- Want of memory is told as such, and everything else is that the words are no command.
abbrev pub of_parse : ErrorKind → WordsError
of_parse kind.OutOfMemory = words.NoMemory
of_parse _ = words.Refused

-- the numbers that words spell, in their order, where each spells one
abbrev pub numbers_in : List (List ℕ) → Option (List ℕ)
numbers_in [] = Some []
numbers_in (word ∷ words) = option_and_then (λ n. option_map (λ numbers. n ∷ numbers) (numbers_in words)) (number_of word)

-- what was given, as lists
abbrev pub lists_of : Given → Numbers
lists_of given = record {
  arguments = given.arguments.items;
  pages = given.pages.items;
  walks = given.walks.items;
}
