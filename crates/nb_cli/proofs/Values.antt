-- The numbers that the first of some words spell, read one by one.
use Rattle.std.proofs.Common.{◌≡◌, ◌∙◌, refl, sym, ap, ℕ, ◌+◌, ◌<◌, List, [], ◌∷◌, ◌++◌, length, drop, get_or, Option, Some, None, suc, append_assoc, add-one, drop-cons}
use Rattle.std.specs.Prelude.{option_map, option_and_then}
use Rattle.clap.specs.Walk.{Text}
use Rattle.nb_format.specs.Digits.{number_of}
use Rattle.nb_cli.specs.Splitting.{numbers_in}

-- of these words those before a place are read, and spell these numbers
abbrev pub AreRead : List Text → ℕ → List ℕ → Type 0
AreRead words i read = numbers_in words ≡ option_map (λ rest. read ++ rest) (numbers_in (drop i words))

abbrev before : Option ℕ → Option (List ℕ) → Option (List ℕ)
before n numbers = option_and_then (λ n. option_map (λ rest. n ∷ rest) numbers) n

one_more : (read : List ℕ) (n : ℕ) (o : Option (List ℕ))
    → option_map (λ rest. read ++ rest) (before (Some n) o) ≡ option_map (λ rest. (read ++ n ∷ []) ++ rest) o
one_more read n None = refl
one_more read n (Some rest) = ap Some (sym (append_assoc read (n ∷ []) rest))

word_next : (words : List Text) (i : ℕ) (word : Text) → i < length words → get_or words i [] ≡ word
    → numbers_in (drop i words) ≡ before (number_of word) (numbers_in (drop (i + 1) words))
word_next words i word within here =
    ap numbers_in (drop-cons words i [] within)
    ∙ ap (λ (x : Text). before (number_of x) (numbers_in (drop (suc i) words))) here
    ∙ ap (λ (k : ℕ). before (number_of word) (numbers_in (drop k words))) (sym (add-one i))

pub read_more : (words : List Text) (i : ℕ) (read : List ℕ) (word : Text) (n : ℕ) → AreRead words i read → i < length words
    → get_or words i [] ≡ word → number_of word ≡ Some n → AreRead words (i + 1) (read ++ n ∷ [])
read_more words i read word n so_far within here spelled =
    so_far
    ∙ ap (λ (o : Option (List ℕ)). option_map (λ rest. read ++ rest) o) (word_next words i word within here)
    ∙ ap (λ (o : Option ℕ). option_map (λ rest. read ++ rest) (before o (numbers_in (drop (i + 1) words)))) spelled
    ∙ one_more read n (numbers_in (drop (i + 1) words))

-- a word that spells no number
pub not_read : (words : List Text) (i : ℕ) (read : List ℕ) (word : Text) → AreRead words i read → i < length words
    → get_or words i [] ≡ word → number_of word ≡ None → numbers_in words ≡ None
not_read words i read word so_far within here none =
    so_far
    ∙ ap (λ (o : Option (List ℕ)). option_map (λ rest. read ++ rest) o) (word_next words i word within here)
    ∙ ap (λ (o : Option ℕ). option_map (λ rest. read ++ rest) (before o (numbers_in (drop (i + 1) words)))) none
