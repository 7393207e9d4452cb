-- Which words are a command: those after the program's name, of which the first is the command's own.
use Rattle.std.specs.Prelude.{◌≡◌, ⊤, ℕ, ◌^◌, ◌≤◌, Bool, nat_eq, if◌then◌else◌, option_and_then, option_map, Option, Some, None, List, [], ◌∷◌, length, drop, codes}
use Rattle.std.specs.List.{starts_with}
use Rattle.std.specs.Str.{bytes_eq}
use Rattle.nb_engine.specs.declared.going.Pace.{Pace}
use Rattle.nb_engine.specs.Sessions.{IsPace}
use Rattle.nb_format.specs.Digits.{number_of}
use Rattle.nb_model.specs.Limits.{most_bodies}
use Rattle.nb_cli.specs.declared.words.Job.{Job}
use Rattle.nb_cli.specs.declared.words.Job.TheVariants as job

-- ---- what one word is

-- the two options
pub data OptionName : Type 0 where
  of_pages : OptionName
  of_walks : OptionName

-- What a word behind the command is, from the left.
pub data Kind : Type 0 where
  -- `--`: each word behind it is an argument
  ends_options : Kind
  -- an option whose value is the next word, whatever that is
  apart : OptionName → Kind
  -- an option with its value, this one, in one word
  attached : OptionName → List ℕ → Kind
  -- another word that begins with `-`
  unknown : Kind
  -- any other word
  argument : Kind

abbrev pub begins_with : List ℕ → List ℕ → Bool
begins_with word start = starts_with nat_eq word start

abbrev pub kind_of : List ℕ → Kind
kind_of word =
    if bytes_eq word (codes "--") then ends_options
    else if bytes_eq word (codes "--pages") then apart of_pages
    else if bytes_eq word (codes "--walks") then apart of_walks
    else if begins_with word (codes "--pages=") then attached of_pages (drop (length (codes "--pages=")) word)
    else if begins_with word (codes "--walks=") then attached of_walks (drop (length (codes "--walks=")) word)
    else if begins_with word (codes "-") then unknown
    else argument

-- ---- the words behind a command

-- What the words behind a command spell, all of it numbers: the arguments, and the values that each option is given, in the
-- order in which they stand.
pub record Numbers : Type 0 where
  pub arguments : List ℕ
  pub pages : List ℕ
  pub walks : List ℕ

abbrev pub no_numbers : Numbers
no_numbers = record { arguments = []; pages = []; walks = [] }

-- one number more, before the others of its kind
abbrev pub with_argument : ℕ → Numbers → Numbers
with_argument n numbers = record numbers { arguments = n ∷ numbers.arguments }

abbrev pub with_value : OptionName → ℕ → Numbers → Numbers
with_value of_pages n numbers = record numbers { pages = n ∷ numbers.pages }
with_value of_walks n numbers = record numbers { walks = n ∷ numbers.walks }

-- the number that a word spells, before those of the words behind it; none where it or one of them spells none
abbrev pub more_numbers : (ℕ → Numbers → Numbers) → List ℕ → Option Numbers → Option Numbers
more_numbers add word numbers = option_and_then (λ n. option_map (add n) numbers) (number_of word)

-- words that are arguments, whatever they are
abbrev pub arguments_of : List (List ℕ) → Option Numbers
arguments_of [] = Some no_numbers
arguments_of (word ∷ words) = more_numbers with_argument word (arguments_of words)

-- a word of this kind, before words of which it is known what they are as arguments, and what behind an option or none
abbrev pub at_word : Kind → List ℕ → Option Numbers → (Option OptionName → Option Numbers) → Option Numbers
at_word ends_options word arguments from = arguments
at_word (apart setting) word arguments from = from (Some setting)
at_word (attached setting value) word arguments from = more_numbers (with_value setting) value (from None)
at_word unknown word arguments from = None
at_word argument word arguments from = more_numbers with_argument word (from None)

-- the numbers of these words, taken from the left; where an option stands before them, the first of them is its value
unfoldable pub numbers_from : Option OptionName → List (List ℕ) → Option Numbers
numbers_from None [] = Some no_numbers
numbers_from (Some setting) [] = None
numbers_from (Some setting) (word ∷ words) = more_numbers (with_value setting) word (numbers_from None words)
numbers_from None (word ∷ words) = at_word (kind_of word) word (arguments_of words) (λ before. numbers_from before words)

-- the numbers of the words behind a command
abbrev pub numbers_behind : List (List ℕ) → Option Numbers
numbers_behind words = numbers_from None words

-- ---- commands

-- how many pages are in memory, and how many walks go on at a time, where the words don't say it
abbrev pub usual_pages : ℕ
usual_pages = 256

abbrev pub usual_walks : ℕ
usual_walks = 64

-- An option is what the words give it, once, or else what it usually is.
abbrev pub IsGivenOr : ℕ → List ℕ → ℕ → Type 0
IsGivenOr usual [] value = value ≡ usual
IsGivenOr usual (given ∷ []) value = value ≡ given
IsGivenOr usual _ value = ⊥

-- The pace is what the two options say, within its range.
pub record IsPaceOf (numbers : Numbers) (pace : Pace) : Type 0 where
  pub pages : IsGivenOr usual_pages numbers.pages pace.pages
  pub walks : IsGivenOr usual_walks numbers.walks pace.walks
  pub range : IsPace pace

-- How many pages `start` takes is what the one option says, within its range. It has no walks.
pub record ArePages (numbers : Numbers) (pages : ℕ) : Type 0 where
  pub given : IsGivenOr usual_pages numbers.pages pages
  pub least : 4 ≤ pages
  pub most : pages ≤ 2 ^ 18
  pub no_walks : numbers.walks ≡ []

-- numbers that are these arguments, without options
abbrev pub AreOnly : List ℕ → Numbers → Type 0
AreOnly arguments numbers = numbers ≡ record no_numbers { arguments = arguments }

-- The command of this name with these numbers is this one.
abbrev pub IsNamed : List ℕ → Numbers → Job → Type 0
IsNamed name numbers (job.Start pages) = (name ≡ codes "start") × (numbers.arguments ≡ []) × ArePages numbers pages
IsNamed name numbers (job.Go target pace) = (name ≡ codes "go") × (numbers.arguments ≡ target ∷ []) × IsPaceOf numbers pace
IsNamed name numbers (job.Resume pace) = (name ≡ codes "resume") × (numbers.arguments ≡ []) × IsPaceOf numbers pace
IsNamed name numbers job.Show = (name ≡ codes "show") × AreOnly [] numbers
IsNamed name numbers (job.Once target) = (name ≡ codes "once") × AreOnly (target ∷ []) numbers
IsNamed name numbers (job.Make seed count) =
    (name ≡ codes "make") × AreOnly (seed ∷ count ∷ []) numbers × (count ≤ most_bodies)
IsNamed name numbers (job.Demo seed count target pace) =
    (name ≡ codes "demo") × (numbers.arguments ≡ seed ∷ count ∷ target ∷ []) × (count ≤ most_bodies) × IsPaceOf numbers pace

-- The words are this command: its name, and then words that spell its numbers.
pub record IsJob (words : List (List ℕ)) (job : Job) : Type 0 where
  pub name : List ℕ
  pub behind : List (List ℕ)
  pub are : words ≡ name ∷ behind
  pub numbers : Numbers
  pub spelled : numbers_behind behind ≡ Some numbers
  pub named : IsNamed name numbers job

-- The words are no command.
abbrev pub IsNoCommand : List (List ℕ) → Type 0
IsNoCommand words = (job : Job) → IsJob words job → ⊥

-- The command's numbers are those that it can have.
abbrev pub IsPaced : Job → Type 0
IsPaced (job.Start pages) = (4 ≤ pages) × (pages ≤ 2 ^ 18)
IsPaced (job.Go target pace) = IsPace pace
IsPaced (job.Resume pace) = IsPace pace
IsPaced (job.Make seed count) = count ≤ most_bodies
IsPaced (job.Demo seed count target pace) = (count ≤ most_bodies) × IsPace pace
IsPaced _ = ⊤
