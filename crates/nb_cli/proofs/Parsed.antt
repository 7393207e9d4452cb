-- From `clap`'s clauses to the numbers of the words.
use Rattle.std.proofs.Common.{◌≡◌, ℕ, codes, ◌⊎◌, inl, inr, ◌∙◌, refl, sym, ap, subst, Bool, true, false, if◌then◌else◌, List, [], ◌∷◌, map, Option, Some, None, is_some}
use Rattle.std.specs.Prelude.{find, option_map}
use Rattle.std.specs.Option.{option_map_or}
use Rattle.std.specs.Borrow.{Bor}
use Rattle.std.specs.Str.{bytes_eq}
use Rattle.clap.specs.Kinds.{Kinds, IsAmong, or_else}
use Rattle.clap.specs.Faults.{fault_of, default_fault, defaults_fault, settle_fault, walk_fault, entered_fault, level_fault}
use Rattle.clap.specs.Facts.{Entry}
use Rattle.clap.specs.Matches.{matched_of, raw_values}
use Rattle.clap.specs.Walk.{Text, Row, Rule, Held, walk, walk_from, nothing_held, finished, settled, with_default, has_row, rows_of, row_of}
use Rattle.clap.specs.Simple.{matches_of, entered, built}
use Rattle.clap.specs.declared.error.kind.ErrorKind.{ErrorKind}
use Rattle.clap.specs.declared.parser.matches.Found.{Found}
use Rattle.clap.proofs.WalkLemmas.{find-map}
use Rattle.nb_cli.specs.Splitting.{numbers_in}
use Rattle.nb_cli.specs.Words.{OptionName, of_pages, of_walks, numbers_behind}
use Rattle.nb_cli.proofs.Splits.{split_app, arguments_rule, option_rule, rules, shape, name_of, rest_fault, values_at, lists, all_numbers, numbers_of, Refuses, Gives, first, nothing, splits}

or_else-none : (k : Kinds) → or_else k [] ≡ k
or_else-none [] = refl
or_else-none (x ∷ k) = refl

-- no subcommand is entered, since there is none
nowhere : (stop : Option (Text × List Text)) → entered_fault (built split_app) stop ≡ []
nowhere None = refl
nowhere (Some p) = refl

not_entered : (stop : Option (Text × List Text)) → is_some (entered (built split_app) stop) ≡ false
not_entered None = refl
not_entered (Some p) = refl

-- no argument has a default
none_default : (a : Rule) (rows : List Row) → a.defaults ≡ [] → default_fault rows a ≡ []
none_default a rows none = go (has_row a.id rows) refl where
  go : (b : Bool) → has_row a.id rows ≡ b → default_fault rows a ≡ []
  go true e = rw e refl
  go false e = rw (e, none) refl

both_none : (a b : Kinds) → a ≡ [] → b ≡ [] → or_else a b ≡ []
both_none a b ea eb = rw (ea, eb) refl

no_defaults : (rows : List Row) → defaults_fault rows rules ≡ []
unfolding defaults_fault
no_defaults rows =
    both_none _ _ (none_default arguments_rule rows refl)
    (both_none _ _ (none_default (option_rule of_pages) (with_default rows arguments_rule) refl)
    (both_none _ _ (none_default (option_rule of_walks) (with_default (with_default rows arguments_rule) (option_rule of_pages)) refl) refl))

pub fault_is : (words : List Text) → fault_of split_app words ≡ rest_fault (walk_from nothing_held) words
fault_is words =
    let stop = (walk rules [] nothing_held words).stopped in
    let end = (walk rules [] nothing_held words).held in
    let plainly : fault_of split_app words ≡ level_fault shape [] nothing_held words false [] =
    (λ i. level_fault shape [] nothing_held words (not_entered stop i) (nowhere stop i)) in
    plainly
    ∙ ap (λ (d : Kinds). or_else (walk_fault shape [] (walk_from nothing_held) words) (or_else (settle_fault rules false end) (or_else d [])))
    (no_defaults (settled rules end).rows)
    ∙ ap (λ (k : Kinds). or_else (walk_fault shape [] (walk_from nothing_held) words) k) (or_else-none (settle_fault rules false end))

same_rows : (b : Bool) (rows : List Row) → (if b then rows else rows) ≡ rows
same_rows true rows = refl
same_rows false rows = refl

pub finished_is : (h : Held) → finished rules h ≡ (settled rules h).rows
finished_is h =
    let rows = (settled rules h).rows in
    ap (λ (r : List Row). with_default (with_default r (option_rule of_pages)) (option_rule of_walks)) (same_rows (has_row arguments_rule.id rows) rows)
    ∙ ap (λ (r : List Row). with_default r (option_rule of_walks)) (same_rows (has_row (option_rule of_pages).id rows) rows)
    ∙ same_rows (has_row (option_rule of_walks).id rows) rows

-- where the parse succeeds
pub parsed : (words : List Text) (f : Found) → fault_of split_app words ≡ [] → rows_of f ≡ matches_of split_app words
    → numbers_behind words ≡ numbers_of (lists (rows_of f))
parsed words f fine rows = go (splits words None first [] nothing) where
  go : Refuses (walk_from nothing_held) words (numbers_behind words) ⊎ Gives (walk_from nothing_held) words (numbers_behind words)
      → numbers_behind words ≡ numbers_of (lists (rows_of f))
  go (inl r) = let bad : r.kind ∷ r.kinds ≡ [] = sym r.fault ∙ sym (fault_is words) ∙ fine in cc
  go (inr g) =
      g.numbers_are
      ∙ ap numbers_of (sym g.lists_are)
      ∙ ap (λ (r : List Row). numbers_of (lists r)) (sym (finished_is (walk rules [] nothing_held words).held) ∙ sym rows)

-- where it fails, for another reason than want of memory
pub not_parsed : (words : List Text) (kind : ErrorKind) → IsAmong kind (fault_of split_app words) → numbers_behind words ≡ None
not_parsed words kind among = go (splits words None first [] nothing) where
  go : Refuses (walk_from nothing_held) words (numbers_behind words) ⊎ Gives (walk_from nothing_held) words (numbers_behind words)
      → numbers_behind words ≡ None
  go (inl r) = r.none
  go (inr g) = absurd (subst (λ (k : Kinds). IsAmong kind k) (fault_is words ∙ g.fault) among)

-- what `get_raw` reads
pub raw_at : (f : Found) (id : Text) → option_map_or (λ v. v) (option_map raw_values (matched_of f id)) [] ≡ values_at id (rows_of f)
raw_at f id =
    both (find (λ e. bytes_eq e.0.now id) f.entries.items)
    ∙ ap (λ (o : Option Row). option_map_or (λ r. r.values) o []) (find-map (λ r. bytes_eq r.id id) row_of f.entries.items) where
      both : (o : Option Entry) → option_map_or (λ v. v) (option_map raw_values (option_map (λ e. e.1) o)) [] ≡ option_map_or (λ r. r.values) (option_map row_of o) []
      both None = refl
      both (Some e) = refl

-- ---- what is made of a parse

given_text : (o : Option (Bor (List (Bor Text)))) → option_map_or (λ s. map (λ v. v.now) s.now) o [] ≡ option_map_or (λ v. v) (option_map (λ s. map (λ v. v.now) s.now) o) []
given_text None = refl
given_text (Some s) = refl

-- what `get_raw` gives are the values that stand in the rows
pub given_at : (f : Found) (id : Text) (o : Option (Bor (List (Bor Text)))) → option_map (λ s. map (λ v. v.now) s.now) o ≡ option_map raw_values (matched_of f id)
    → option_map_or (λ s. map (λ v. v.now) s.now) o [] ≡ values_at id (rows_of f)
given_at f id o is = given_text o ∙ ap (λ (t : Option (List Text)). option_map_or (λ v. v) t []) is ∙ raw_at f id

abbrev pub arguments_in : Found → List Text
arguments_in f = values_at (codes "arguments") (rows_of f)

abbrev pub values_in : OptionName → Found → List Text
values_in s f = values_at (name_of s) (rows_of f)

pub all_spelled : (f : Found) (a p w : List ℕ) → numbers_in (arguments_in f) ≡ Some a → numbers_in (values_in of_pages f) ≡ Some p
    → numbers_in (values_in of_walks f) ≡ Some w → numbers_of (lists (rows_of f)) ≡ Some (record { arguments = a; pages = p; walks = w })
all_spelled f a p w ea ep ew =
    ap (λ (o : Option (List ℕ)). all_numbers o (numbers_in (values_in of_pages f)) (numbers_in (values_in of_walks f))) ea
    ∙ ap (λ (o : Option (List ℕ)). all_numbers (Some a) o (numbers_in (values_in of_walks f))) ep
    ∙ ap (λ (o : Option (List ℕ)). all_numbers (Some a) (Some p) o) ew

pub no_arguments : (f : Found) → numbers_in (arguments_in f) ≡ None → numbers_of (lists (rows_of f)) ≡ None
no_arguments f none = ap (λ (o : Option (List ℕ)). all_numbers o (numbers_in (values_in of_pages f)) (numbers_in (values_in of_walks f))) none

second_none : (a w : Option (List ℕ)) → all_numbers a None w ≡ None
second_none None w = refl
second_none (Some a) w = refl

third_none : (a p : Option (List ℕ)) → all_numbers a p None ≡ None
third_none None p = refl
third_none (Some a) None = refl
third_none (Some a) (Some p) = refl

pub no_pages : (f : Found) → numbers_in (values_in of_pages f) ≡ None → numbers_of (lists (rows_of f)) ≡ None
no_pages f none =
    ap (λ (o : Option (List ℕ)). all_numbers (numbers_in (arguments_in f)) o (numbers_in (values_in of_walks f))) none
    ∙ second_none (numbers_in (arguments_in f)) (numbers_in (values_in of_walks f))

pub no_walks : (f : Found) → numbers_in (values_in of_walks f) ≡ None → numbers_of (lists (rows_of f)) ≡ None
no_walks f none =
    ap (λ (o : Option (List ℕ)). all_numbers (numbers_in (arguments_in f)) (numbers_in (values_in of_pages f)) o) none
    ∙ third_none (numbers_in (arguments_in f)) (numbers_in (values_in of_pages f))
