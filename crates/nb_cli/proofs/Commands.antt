-- Words are one command only, and its numbers are in their ranges.
use Rattle.std.proofs.Common.{◌≡◌, ◌∙◌, refl, sym, ap, subst, ℕ, ◌+◌, ◌^◌, ◌<◌, Option, None, Some, List, [], ◌∷◌, get_or, codes, arith}
use Rattle.std.specs.Prelude.{⊤, option_and_then, option_map}
use Rattle.std.proofs.lemmas.Bool.Decides.{nat_tests}
use Rattle.nb_format.specs.Digits.{number_of}
use Rattle.nb_engine.specs.declared.going.Pace.{Pace}
use Rattle.nb_cli.specs.declared.words.Job.{Job}
use Rattle.nb_cli.specs.declared.words.Job.TheVariants as job
use Rattle.nb_cli.specs.Words.{OptionName, of_pages, of_walks, Kind, ends_options, apart, attached, unknown, argument, kind_of, Numbers, no_numbers, with_argument, with_value, more_numbers, arguments_of, at_word, numbers_from, numbers_behind, usual_pages, usual_walks, IsGivenOr, IsPaceOf, IsNamed, IsJob, IsPaced}

-- ---- the numbers of a command

same_choice : (usual : ℕ) (given : List ℕ) (a b : ℕ) → IsGivenOr usual given a → IsGivenOr usual given b → a ≡ b
same_choice usual [] a b first second = first ∙ sym second
same_choice usual (x ∷ []) a b first second = first ∙ sym second
same_choice usual (x ∷ y ∷ given) a b first second = absurd first

same_pace : (numbers : Numbers) (a b : Pace) → IsPaceOf numbers a → IsPaceOf numbers b → a ≡ b
same_pace numbers a b first second =
    ap (λ (p : ℕ). record a { pages = p }) (same_choice usual_pages numbers.pages a.pages b.pages first.pages second.pages)
    ∙ ap (λ (w : ℕ). record b { walks = w }) (same_choice usual_walks numbers.walks a.walks b.walks first.walks second.walks)

-- ---- the name of a command

abbrev name_of : Job → List ℕ
name_of (job.Start pages) = codes "start"
name_of (job.Go target pace) = codes "go"
name_of (job.Resume pace) = codes "resume"
name_of job.Show = codes "show"
name_of (job.Once target) = codes "once"
name_of (job.Make seed count) = codes "make"
name_of (job.Demo seed count target pace) = codes "demo"

name_is : (name : List ℕ) (numbers : Numbers) (a : Job) → IsNamed name numbers a → name ≡ name_of a
name_is name numbers (job.Start pages) is = is.0
name_is name numbers (job.Go target pace) is = is.0
name_is name numbers (job.Resume pace) is = is.0
name_is name numbers job.Show is = is.0
name_is name numbers (job.Once target) is = is.0
name_is name numbers (job.Make seed count) is = is.0
name_is name numbers (job.Demo seed count target pace) is = is.0

-- the sum of the first two letters, which no two names share
abbrev letters : List ℕ → ℕ
letters name = get_or name 0 0 + get_or name 1 0

by_letters : (name : List ℕ) (numbers : Numbers) (a b : Job) → IsNamed name numbers a → IsNamed name numbers b
    → letters (name_of a) ≡ letters (name_of b) → a ≡ b
by_letters name numbers (job.Start p) (job.Start q) first second same =
    ap job.Start (same_choice usual_pages numbers.pages p q first.2.given second.2.given)
by_letters name numbers (job.Start p) _ first second same = absurd (omega (arith, same))
by_letters name numbers (job.Go t p) (job.Go u q) first second same =
    let both : t ∷ [] ≡ u ∷ [] = sym first.1 ∙ second.1 in
    let target : t ≡ u = cc in
    ap (λ (x : ℕ). job.Go x p) target ∙ ap (job.Go u) (same_pace numbers p q first.2 second.2)
by_letters name numbers (job.Go t p) _ first second same = absurd (omega (arith, same))
by_letters name numbers (job.Resume p) (job.Resume q) first second same = ap job.Resume (same_pace numbers p q first.2 second.2)
by_letters name numbers (job.Resume p) _ first second same = absurd (omega (arith, same))
by_letters name numbers job.Show job.Show first second same = refl
by_letters name numbers job.Show _ first second same = absurd (omega (arith, same))
by_letters name numbers (job.Once t) (job.Once u) first second same =
    let both : t ∷ [] ≡ u ∷ [] = sym (ap (λ (n : Numbers). n.arguments) first.1) ∙ ap (λ (n : Numbers). n.arguments) second.1 in
    let target : t ≡ u = cc in
    ap job.Once target
by_letters name numbers (job.Once t) _ first second same = absurd (omega (arith, same))
by_letters name numbers (job.Make s n) (job.Make t m) first second same =
    let both : s ∷ n ∷ [] ≡ t ∷ m ∷ [] = sym (ap (λ (n : Numbers). n.arguments) first.1) ∙ ap (λ (n : Numbers). n.arguments) second.1 in
    let seed : s ≡ t = cc in
    let count : n ≡ m = cc in
    ap (λ (x : ℕ). job.Make x n) seed ∙ ap (job.Make t) count
by_letters name numbers (job.Make s n) _ first second same = absurd (omega (arith, same))
by_letters name numbers (job.Demo s n t p) (job.Demo u m v q) first second same =
    let both : s ∷ n ∷ t ∷ [] ≡ u ∷ m ∷ v ∷ [] = sym first.1 ∙ second.1 in
    let seed : s ≡ u = cc in
    let count : n ≡ m = cc in
    let target : t ≡ v = cc in
    ap (λ (x : ℕ). job.Demo x n t p) seed ∙ ap (λ (x : ℕ). job.Demo u x t p) count
    ∙ ap (λ (x : ℕ). job.Demo u m x p) target ∙ ap (job.Demo u m v) (same_pace numbers p q first.3 second.3)
by_letters name numbers (job.Demo s n t p) _ first second same = absurd (omega (arith, same))

pub one_job : (words : List (List ℕ)) (a b : Job) → IsJob words a → IsJob words b → a ≡ b
one_job words a b first second =
    let lists : first.name ∷ first.behind ≡ second.name ∷ second.behind = sym first.are ∙ second.are in
    let name : first.name ≡ second.name = cc in
    let behind : first.behind ≡ second.behind = cc in
    let spelled : Some first.numbers ≡ Some second.numbers = sym first.spelled ∙ ap numbers_behind behind ∙ second.spelled in
    let numbers : first.numbers ≡ second.numbers = cc in
    let again : IsNamed first.name first.numbers b =
    subst (λ (n : List ℕ). IsNamed n first.numbers b) (sym name)
    (subst (λ (n : Numbers). IsNamed second.name n b) (sym numbers) second.named) in
    by_letters first.name first.numbers a b first.named again
    (ap letters (sym (name_is first.name first.numbers a first.named) ∙ name_is first.name first.numbers b again))

-- the numbers of a command are those that it can have
pub paced : (words : List (List ℕ)) (job : Job) → IsJob words job → IsPaced job
paced words (job.Start pages) is = (is.named.2.least, is.named.2.most)
paced words (job.Go target pace) is = is.named.2.range
paced words (job.Resume pace) is = is.named.2.range
paced words job.Show is = tt
paced words (job.Once target) is = tt
paced words (job.Make seed count) is = is.named.2
paced words (job.Demo seed count target pace) is = (is.named.2, is.named.3.range)

-- ---- the numbers that words spell

abbrev AreSmall : List ℕ → Type 0
AreSmall [] = ⊤
AreSmall (n ∷ numbers) = (n < 2 ^ 64) × AreSmall numbers

small_number : (text : List ℕ) (n : ℕ) → number_of text ≡ Some n → n < 2 ^ 64
small_number text n is = grind (arith, nat_tests)

-- with one argument more
small_argument : (word : List ℕ) (rest : Option Numbers) (numbers : Numbers)
    → more_numbers with_argument word rest ≡ Some numbers
    → ((r : Numbers) → rest ≡ Some r → AreSmall r.arguments) → AreSmall numbers.arguments
small_argument word rest numbers is before = by (number_of word) rest refl refl is where
  by : (n : Option ℕ) (r : Option Numbers) → number_of word ≡ n → rest ≡ r
      → option_and_then (λ m. option_map (with_argument m) r) n ≡ Some numbers → AreSmall numbers.arguments
  by None r spells are is = absurd (cc)
  by (Some n) None spells are is = absurd (cc)
  by (Some n) (Some r) spells are is =
      let same : with_argument n r ≡ numbers = cc in
      subst (λ (x : Numbers). AreSmall x.arguments) same (small_number word n spells, before r are)

-- with the value of an option more
small_value : (setting : OptionName) (word : List ℕ) (rest : Option Numbers) (numbers : Numbers)
    → more_numbers (with_value setting) word rest ≡ Some numbers
    → ((r : Numbers) → rest ≡ Some r → AreSmall r.arguments) → AreSmall numbers.arguments
small_value setting word rest numbers is before = by setting (number_of word) rest refl is where
  by : (s : OptionName) (n : Option ℕ) (r : Option Numbers) → rest ≡ r
      → option_and_then (λ m. option_map (with_value s m) r) n ≡ Some numbers → AreSmall numbers.arguments
  by s None r are is = absurd (cc)
  by s (Some n) None are is = absurd (cc)
  by of_pages (Some n) (Some r) are is =
      let same : with_value of_pages n r ≡ numbers = cc in
      subst (λ (x : Numbers). AreSmall x.arguments) same (before r are)
  by of_walks (Some n) (Some r) are is =
      let same : with_value of_walks n r ≡ numbers = cc in
      subst (λ (x : Numbers). AreSmall x.arguments) same (before r are)

small_arguments : (words : List (List ℕ)) (numbers : Numbers) → arguments_of words ≡ Some numbers → AreSmall numbers.arguments
small_arguments [] numbers is =
    let same : no_numbers ≡ numbers = cc in subst (λ (x : Numbers). AreSmall x.arguments) same tt
small_arguments (word ∷ words) numbers is =
    small_argument word (arguments_of words) numbers is (λ r are. small_arguments words r are)

small_kind : (kind : Kind) (word : List ℕ) (words : List (List ℕ)) (numbers : Numbers)
    → ((setting : OptionName) (r : Numbers) → numbers_from (Some setting) words ≡ Some r → AreSmall r.arguments)
    → ((r : Numbers) → numbers_from None words ≡ Some r → AreSmall r.arguments)
    → at_word kind word (arguments_of words) (λ before. numbers_from before words) ≡ Some numbers
    → AreSmall numbers.arguments
small_kind ends_options word words numbers apart_next next is = small_arguments words numbers is
small_kind (apart setting) word words numbers apart_next next is = apart_next setting numbers is
small_kind (attached setting value) word words numbers apart_next next is =
    small_value setting value (numbers_from None words) numbers is next
small_kind unknown word words numbers apart_next next is = absurd (cc)
small_kind argument word words numbers apart_next next is =
    small_argument word (numbers_from None words) numbers is next

small_none : (numbers : Numbers) → numbers_from None [] ≡ Some numbers → AreSmall numbers.arguments
unfolding numbers_from
small_none numbers is =
    let spelled : Some no_numbers ≡ Some numbers = is in
    let same : no_numbers ≡ numbers = cc in
    subst (λ (x : Numbers). AreSmall x.arguments) same tt

no_value : (setting : OptionName) (numbers : Numbers) → numbers_from (Some setting) [] ≡ Some numbers → AreSmall numbers.arguments
unfolding numbers_from
no_value setting numbers is = let none : None ≡ Some numbers = is in absurd (cc)

small_from : (before : Option OptionName) (words : List (List ℕ)) (numbers : Numbers) → numbers_from before words ≡ Some numbers
    → AreSmall numbers.arguments
unfolding numbers_from
small_from None [] numbers is = small_none numbers is
small_from (Some setting) [] numbers is = no_value setting numbers is
small_from (Some setting) (word ∷ words) numbers is =
    small_value setting word (numbers_from None words) numbers is (λ r are. small_from None words r are)
small_from None (word ∷ words) numbers is =
    small_kind (kind_of word) word words numbers
    (λ setting r are. small_from (Some setting) words r are) (λ r are. small_from None words r are) is

pub once_fits : (words : List (List ℕ)) (target : ℕ) → IsJob words (job.Once target) → target < 2 ^ 64
once_fits words target is =
    let only : is.numbers.arguments ≡ target ∷ [] = ap (λ (n : Numbers). n.arguments) is.named.1 in
    (subst AreSmall only (small_from None is.behind is.numbers is.spelled)).0
