-- What `clap` makes of the words behind a command: exactly what they spell, once each of them has to be a number.
use Rattle.std.proofs.Common.{◌≡◌, ◌⊎◌, ◌≤◌, inl, inr, ◌∙◌, refl, sym, ap, subst, ℕ, zero, suc, ◌==◌, ◌&&◌, Bool, true, false, not, List, [], ◌∷◌, ◌++◌, length, take, drop, Option, Some, None, codes, arith, nat_le, true≢false, append-nil, append_assoc}
use Rattle.std.specs.Prelude.{find, fold, option_map, option_and_then, slice_get}
use Rattle.std.specs.List.{before_first, position_or_len}
use Rattle.std.specs.Option.{option_map_or}
use Rattle.std.specs.Str.{bytes_eq, chars}
use Rattle.std.proofs.lemmas.Bool.Decides.{Decides-eqb}
use Rattle.std.proofs.lemmas.List.{take-append-drop, length-take-le}
use Rattle.std.proofs.lemmas.List.Sums.{prefix_len-le-length}
use Rattle.std.proofs.lemmas.Slice.Eq.{bytes_eq-Decides}
use Rattle.clap.specs.Lexer.{long_of, short_of}
use Rattle.clap.specs.Kinds.{Kinds, or_else}
use Rattle.clap.specs.Faults.{walk_fault, turn_fault, settle_fault, flags_fault, flag_word_fault, other_fault, word_fault, step_fault}
use Rattle.clap.specs.Walk.{Text, Rule, Row, Held, Walk, Waiting, idle, option, positional, Step, value as is_value, plain as is_plain, walked, word_met, after_step, to_positional, long_or_other, plain_word, settled, subcommand_met, used, with_values, reading_by, bundle_met}
use Rattle.clap.specs.Simple.{App, Shape, built, new_rule, new_shape}
use Rattle.clap.specs.Faults.{is_simple_and_free}
use Rattle.clap.specs.declared.builder.action.ArgAction.TheVariants.{Append}
use Rattle.clap.specs.declared.builder.range.ValueRange.{ValueRange}
use Rattle.clap.specs.declared.builder.value_parser.ValueParser.{ValueParser}
use Rattle.clap.specs.declared.builder.value_parser.ValueParser.TheVariants as vp
use Rattle.clap.specs.declared.error.kind.ErrorKind.{ErrorKind}
use Rattle.clap.specs.declared.error.kind.ErrorKind.TheVariants.{UnknownArgument, InvalidValue}
use Rattle.clap.specs.declared.parser.matches.ValueSource.TheVariants.{CommandLine}
use Rattle.nb_format.specs.Digits.{number_of}
use Rattle.nb_cli.specs.Words.{OptionName, of_pages, of_walks, Numbers, no_numbers, with_argument, with_value, more_numbers, arguments_of, numbers_from, Kind, kind_of, apart, attached, unknown, argument, begins_with, at_word}
use Rattle.nb_cli.specs.Splitting.{numbers_in}

-- ---- the command that splits

abbrev pub split_app : App
split_app = record {
  top = record (new_shape (codes "nbody")) {
    rules = record (new_rule (codes "arguments")) { action = Some Append }
        ∷ record (new_rule (codes "pages")) { long = Some (codes "pages"); action = Some Append }
        ∷ record (new_rule (codes "walks")) { long = Some (codes "walks"); action = Some Append }
        ∷ [];
    no_binary_name = true;
    disable_help_flag = true;
  };
  subs = [];
}

pub split_is_simple : is_simple_and_free split_app ≡ true
split_is_simple = refl

abbrev pub one_value : Option ValueRange
one_value = Some (record { start_inclusive = 1; end_inclusive = 1 })

abbrev pub text_parser : Option ValueParser
text_parser = Some vp.String

-- its arguments, once it is built
abbrev pub arguments_rule : Rule
arguments_rule = record (new_rule (codes "arguments")) { index = Some 1; action = Some Append; range = one_value; parser = text_parser }

-- the name of an option
abbrev pub name_of : OptionName → Text
name_of of_pages = codes "pages"
name_of of_walks = codes "walks"

abbrev pub option_rule : OptionName → Rule
option_rule setting =
    record (new_rule (name_of setting)) { long = Some (name_of setting); action = Some Append; range = one_value; parser = text_parser }

abbrev pub rules : List Rule
rules = arguments_rule ∷ option_rule of_pages ∷ option_rule of_walks ∷ []

abbrev pub shape : Shape
shape = record (new_shape (codes "nbody")) {
  rules = rules;
  no_binary_name = true;
  disable_help_flag = true;
  disable_help_subcommand = true;
  is_built = true;
}

-- ---- where the walk over the words stands

-- What waits to be kept: nothing, or one value, of an option or, where it is none, of the arguments.
pub data Pending : Type 0 where
  nothing : Pending
  one : Option OptionName → Text → Pending

abbrev pub id_of : Option OptionName → Text
id_of None = codes "arguments"
id_of (Some setting) = name_of setting

abbrev pub rule_at : Option OptionName → Rule
rule_at None = arguments_rule
rule_at (Some setting) = option_rule setting

abbrev pub pending : Pending → Option (Text × List Text)
pending nothing = None
pending (one which v) = Some (id_of which, v ∷ [])

abbrev pub held : List Row → Pending → Held
held rows p = record { rows = rows; pending = pending p; skip = 0 }

-- an option was met, and its value wasn't yet
abbrev pub opened : List Row → OptionName → Held
opened rows setting = record { rows = rows; pending = Some (name_of setting, []); skip = 0 }

-- a word of the arguments came last, or none did
pub data Ready : Type 0 where
  first : Ready
  later : Ready

abbrev pub waits : Ready → Waiting
waits first = idle
waits later = positional

abbrev pub at : Bool → Waiting → Held → Walk
at t q h = record { held = h; waiting = q; position = 1; is_trailing = t; stopped = None }

-- the rows with what waits
abbrev pub kept : List Row → Pending → List Row
kept rows nothing = rows
kept rows (one which v) = used (rule_at which) (v ∷ []) rows

kept_is : (rows : List Row) (p : Pending) → (settled rules (held rows p)).rows ≡ kept rows p
kept_is rows nothing = refl
kept_is rows (one None v) = refl
kept_is rows (one (Some of_pages) v) = refl
kept_is rows (one (Some of_walks) v) = refl

fine : (rows : List Row) (p : Pending) → settle_fault rules false (held rows p) ≡ []
fine rows nothing = refl
fine rows (one None v) = refl
fine rows (one (Some of_pages) v) = refl
fine rows (one (Some of_walks) v) = refl

-- ---- what is kept, as lists

pub record Lists : Type 0 where
  pub arguments : List Text
  pub pages : List Text
  pub walks : List Text

abbrev pub values_at : Text → List Row → List Text
values_at id rows = option_map_or (λ r. r.values) (find (λ r. bytes_eq r.id id) rows) []

abbrev pub lists : List Row → Lists
lists rows = record {
  arguments = values_at (codes "arguments") rows;
  pages = values_at (codes "pages") rows;
  walks = values_at (codes "walks") rows;
}

abbrev pub no_lists : Lists
no_lists = record { arguments = []; pages = []; walks = [] }

abbrev pub one_of : Option OptionName → Text → Lists
one_of None v = record no_lists { arguments = v ∷ [] }
one_of (Some of_pages) v = record no_lists { pages = v ∷ [] }
one_of (Some of_walks) v = record no_lists { walks = v ∷ [] }

abbrev pub joined : Lists → Lists → Lists
joined a b = record { arguments = a.arguments ++ b.arguments; pages = a.pages ++ b.pages; walks = a.walks ++ b.walks }

same_lists : {a p w a' p' w' : List Text} → a ≡ a' → p ≡ p' → w ≡ w'
    → ◌≡◌ {A = Lists} (record { arguments = a; pages = p; walks = w }) (record { arguments = a'; pages = p'; walks = w' })
same_lists ea ep ew = λ i. record { arguments = ea i; pages = ep i; walks = ew i }

joined-none : (a : Lists) → joined a no_lists ≡ a
joined-none a = same_lists (append-nil a.arguments) (append-nil a.pages) (append-nil a.walks)

joined_assoc : (a b c : Lists) → joined (joined a b) c ≡ joined a (joined b c)
joined_assoc a b c = same_lists (append_assoc a.arguments b.arguments c.arguments) (append_assoc a.pages b.pages c.pages) (append_assoc a.walks b.walks c.walks)

abbrev pub with_more : Text → List Text → Rule → List Row → List Row
with_more id vs a rows = with_values id (reading_by a) CommandLine vs rows

-- the values of an id gain these
values_at-with : (id : Text) (vs : List Text) (a : Rule) (rows : List Row) → bytes_eq id id ≡ true
    → values_at id (with_more id vs a rows) ≡ values_at id rows ++ vs
values_at-with id vs a [] same = rw same refl
values_at-with id vs a (r ∷ rows) same = go (bytes_eq r.id id) refl (values_at-with id vs a rows same) where
  go : (b : Bool) → bytes_eq r.id id ≡ b → values_at id (with_more id vs a rows) ≡ values_at id rows ++ vs
      → values_at id (with_more id vs a (r ∷ rows)) ≡ values_at id (r ∷ rows) ++ vs
  go true e rest = rw (e, e) refl
  go false e rest = rw (e, e) rest

-- and those of another id stay
values_at-other : (id other : Text) (vs : List Text) (a : Rule) (rows : List Row) → bytes_eq id other ≡ false
    → values_at other (with_more id vs a rows) ≡ values_at other rows
values_at-other id other vs a [] differ = rw differ refl
values_at-other id other vs a (r ∷ rows) differ = go (bytes_eq r.id id) refl (values_at-other id other vs a rows differ) where
  go : (b : Bool) → bytes_eq r.id id ≡ b → values_at other (with_more id vs a rows) ≡ values_at other rows
      → values_at other (with_more id vs a (r ∷ rows)) ≡ values_at other (r ∷ rows)
  go true e rest =
      let same : r.id ≡ id = (bytes_eq-Decides r.id id).0 e in
      let not_it : bytes_eq r.id other ≡ false = subst (λ (i : Text). bytes_eq i other ≡ false) (sym same) differ in
      rw (e, not_it) refl
  go false e rest = go2 (bytes_eq r.id other) refl where
    go2 : (b : Bool) → bytes_eq r.id other ≡ b → values_at other (with_more id vs a (r ∷ rows)) ≡ values_at other (r ∷ rows)
    go2 true f = rw (e, f) refl
    go2 false f = rw (e, f) rest

lists-used : (which : Option OptionName) (v : Text) (rows : List Row)
    → lists (used (rule_at which) (v ∷ []) rows) ≡ joined (lists rows) (one_of which v)
lists-used None v rows = same_lists (values_at-with (codes "arguments") (v ∷ []) arguments_rule rows refl)
    (values_at-other (codes "arguments") (codes "pages") (v ∷ []) arguments_rule rows refl ∙ sym (append-nil _))
    (values_at-other (codes "arguments") (codes "walks") (v ∷ []) arguments_rule rows refl ∙ sym (append-nil _))
lists-used (Some of_pages) v rows = same_lists
    (values_at-other (codes "pages") (codes "arguments") (v ∷ []) (option_rule of_pages) rows refl ∙ sym (append-nil _))
    (values_at-with (codes "pages") (v ∷ []) (option_rule of_pages) rows refl)
    (values_at-other (codes "pages") (codes "walks") (v ∷ []) (option_rule of_pages) rows refl ∙ sym (append-nil _))
lists-used (Some of_walks) v rows = same_lists
    (values_at-other (codes "walks") (codes "arguments") (v ∷ []) (option_rule of_walks) rows refl ∙ sym (append-nil _))
    (values_at-other (codes "walks") (codes "pages") (v ∷ []) (option_rule of_walks) rows refl ∙ sym (append-nil _))
    (values_at-with (codes "walks") (v ∷ []) (option_rule of_walks) rows refl)

-- ---- their numbers

abbrev pub all_numbers : Option (List ℕ) → Option (List ℕ) → Option (List ℕ) → Option Numbers
all_numbers a p w = option_and_then (λ a. option_and_then (λ p. option_map (λ w. record { arguments = a; pages = p; walks = w }) w) p) a

abbrev pub numbers_of : Lists → Option Numbers
numbers_of l = all_numbers (numbers_in l.arguments) (numbers_in l.pages) (numbers_in l.walks)

abbrev pub adding : Option OptionName → ℕ → Numbers → Numbers
adding None = with_argument
adding (Some setting) = with_value setting

abbrev pub prepended : Option ℕ → Option (List ℕ) → Option (List ℕ)
prepended n ns = option_and_then (λ n. option_map (λ ns. n ∷ ns) ns) n

abbrev pub added : (ℕ → Numbers → Numbers) → Option ℕ → Option Numbers → Option Numbers
added add n numbers = option_and_then (λ n. option_map (add n) numbers) n

added-none : (add : ℕ → Numbers → Numbers) (n : Option ℕ) → added add n None ≡ None
added-none add None = refl
added-none add (Some n) = refl

argument_first : (n : Option ℕ) (a p w : Option (List ℕ)) → all_numbers (prepended n a) p w ≡ added with_argument n (all_numbers a p w)
argument_first None a p w = refl
argument_first (Some n) None p w = refl
argument_first (Some n) (Some a) None w = refl
argument_first (Some n) (Some a) (Some p) None = refl
argument_first (Some n) (Some a) (Some p) (Some w) = refl

pages_first : (n : Option ℕ) (a p w : Option (List ℕ)) → all_numbers a (prepended n p) w ≡ added (with_value of_pages) n (all_numbers a p w)
pages_first n None p w = sym (added-none (with_value of_pages) n)
pages_first None (Some a) p w = refl
pages_first (Some n) (Some a) None w = refl
pages_first (Some n) (Some a) (Some p) None = refl
pages_first (Some n) (Some a) (Some p) (Some w) = refl

walks_first : (n : Option ℕ) (a p w : Option (List ℕ)) → all_numbers a p (prepended n w) ≡ added (with_value of_walks) n (all_numbers a p w)
walks_first n None p w = sym (added-none (with_value of_walks) n)
walks_first n (Some a) None w = sym (added-none (with_value of_walks) n)
walks_first None (Some a) (Some p) w = refl
walks_first (Some n) (Some a) (Some p) None = refl
walks_first (Some n) (Some a) (Some p) (Some w) = refl

numbers_of-joined : (which : Option OptionName) (v : Text) (l : Lists)
    → numbers_of (joined (one_of which v) l) ≡ more_numbers (adding which) v (numbers_of l)
numbers_of-joined None v l = argument_first (number_of v) (numbers_in l.arguments) (numbers_in l.pages) (numbers_in l.walks)
numbers_of-joined (Some of_pages) v l = pages_first (number_of v) (numbers_in l.arguments) (numbers_in l.pages) (numbers_in l.walks)
numbers_of-joined (Some of_walks) v l = walks_first (number_of v) (numbers_in l.arguments) (numbers_in l.pages) (numbers_in l.walks)

-- ---- words from a place on

abbrev pub rest_fault : Walk → List Text → Kinds
rest_fault w words = or_else (walk_fault shape [] w words) (settle_fault rules false (fold (walked rules []) w words).held)

abbrev pub rows_behind : Walk → List Text → List Row
rows_behind w words = (settled rules (fold (walked rules []) w words).held).rows

abbrev pub now : Walk → List Row
now w = (settled rules w.held).rows

-- the words are refused, and aren't what is wanted
pub record Refuses (w : Walk) (words : List Text) (numbers : Option Numbers) : Type 0 where
  pub kind : ErrorKind
  pub kinds : Kinds
  pub fault : rest_fault w words ≡ kind ∷ kinds
  pub none : numbers ≡ None

-- they are split, and are what is wanted where all of it is numbers
pub record Gives (w : Walk) (words : List Text) (numbers : Option Numbers) : Type 0 where
  pub more : Lists
  pub fault : rest_fault w words ≡ []
  pub lists_are : lists (rows_behind w words) ≡ joined (lists (now w)) more
  pub numbers_are : numbers ≡ numbers_of more

abbrev pub Splits : Walk → List Text → Option Numbers → Type 0
Splits w words numbers = Refuses w words numbers ⊎ Gives w words numbers

fault_on : (w : Walk) (word : Text) (words : List Text) → turn_fault shape [] w word ≡ []
    → rest_fault w (word ∷ words) ≡ rest_fault (walked rules [] w word) words
unfolding walk_fault
fault_on w word words none =
    ap (λ (k : Kinds). or_else (or_else k (walk_fault shape [] (walked rules [] w word) words))
    (settle_fault rules false (fold (walked rules []) (walked rules [] w word) words).held)) none

fault_here : (w : Walk) (word : Text) (words : List Text) (kind : ErrorKind) (kinds : Kinds) → turn_fault shape [] w word ≡ kind ∷ kinds
    → (more : Kinds) × (rest_fault w (word ∷ words) ≡ kind ∷ more)
unfolding walk_fault
fault_here w word words kind kinds here = (
  _,
  ap (λ (k : Kinds). or_else (or_else k (walk_fault shape [] (walked rules [] w word) words))
      (settle_fault rules false (fold (walked rules []) (walked rules [] w word) words).held)) here,
)

-- a word that is kept
keeps_on : (w then : Walk) (which : Option OptionName) (word v : Text) (words : List Text) (numbers : Option Numbers)
    → turn_fault shape [] w word ≡ [] → walked rules [] w word ≡ then
    → lists (now then) ≡ joined (lists (now w)) (one_of which v)
    → Splits then words numbers → Splits w (word ∷ words) (more_numbers (adding which) v numbers)
keeps_on w then which word v words numbers none to gains (inl r) = inl (record {
  kind = r.kind;
  kinds = r.kinds;
  fault = fault_on w word words none ∙ ap (λ (x : Walk). rest_fault x words) to ∙ r.fault;
  none = ap (more_numbers (adding which) v) r.none ∙ added-none (adding which) (number_of v);
})
keeps_on w then which word v words numbers none to gains (inr g) = inr (record {
  more = joined (one_of which v) g.more;
  fault = fault_on w word words none ∙ ap (λ (x : Walk). rest_fault x words) to ∙ g.fault;
  lists_are = ap (λ (x : Walk). lists (rows_behind x words)) to ∙ g.lists_are
      ∙ ap (λ (l : Lists). joined l g.more) gains ∙ joined_assoc (lists (now w)) (one_of which v) g.more;
  numbers_are = ap (more_numbers (adding which) v) g.numbers_are ∙ sym (numbers_of-joined which v g.more);
})

-- a word that is only passed
passes_on : (w then : Walk) (word : Text) (words : List Text) (numbers : Option Numbers)
    → turn_fault shape [] w word ≡ [] → walked rules [] w word ≡ then → lists (now then) ≡ lists (now w)
    → Splits then words numbers → Splits w (word ∷ words) numbers
passes_on w then word words numbers none to stays (inl r) = inl (record {
  kind = r.kind;
  kinds = r.kinds;
  fault = fault_on w word words none ∙ ap (λ (x : Walk). rest_fault x words) to ∙ r.fault;
  none = r.none;
})
passes_on w then word words numbers none to stays (inr g) = inr (record {
  more = g.more;
  fault = fault_on w word words none ∙ ap (λ (x : Walk). rest_fault x words) to ∙ g.fault;
  lists_are = ap (λ (x : Walk). lists (rows_behind x words)) to ∙ g.lists_are ∙ ap (λ (l : Lists). joined l g.more) stays;
  numbers_are = g.numbers_are;
})

-- the end
ends : (t : Bool) (q : Waiting) (rows : List Row) (p : Pending) → Splits (at t q (held rows p)) [] (Some no_numbers)
unfolding walk_fault
ends t q rows p = inr (record {
  more = no_lists;
  fault = fine rows p;
  lists_are = sym (joined-none (lists (now (at t q (held rows p)))));
  numbers_are = refl;
})

-- ---- one word behind `--`

trailing_walk : (q : Waiting) (rows : List Row) (p : Pending) (word : Text)
    → walked rules [] (at true q (held rows p)) word ≡ at true positional (held (kept rows p) (one None word))
unfolding walked
trailing_walk q rows nothing word = refl
trailing_walk q rows (one None v) word = refl
trailing_walk q rows (one (Some of_pages) v) word = refl
trailing_walk q rows (one (Some of_walks) v) word = refl

trailing_fault : (q : Waiting) (rows : List Row) (p : Pending) (word : Text) → turn_fault shape [] (at true q (held rows p)) word ≡ []
trailing_fault q rows nothing word = refl
trailing_fault q rows (one None v) word = refl
trailing_fault q rows (one (Some of_pages) v) word = refl
trailing_fault q rows (one (Some of_walks) v) word = refl

-- what is kept when one value more waits
gains_one : (t : Bool) (q : Waiting) (t' : Bool) (q' : Waiting) (rows : List Row) (p : Pending) (which : Option OptionName) (v : Text)
    → lists (now (at t' q' (held (kept rows p) (one which v)))) ≡ joined (lists (now (at t q (held rows p)))) (one_of which v)
gains_one t q t' q' rows p which v =
    ap lists (kept_is (kept rows p) (one which v)) ∙ lists-used which v (kept rows p)
    ∙ ap (λ (r : List Row). joined (lists r) (one_of which v)) (sym (kept_is rows p))

trailing_splits : (q : Waiting) (rows : List Row) (p : Pending) (words : List Text) → Splits (at true q (held rows p)) words (arguments_of words)
trailing_splits q rows p [] = ends true q rows p
trailing_splits q rows p (word ∷ words) =
    keeps_on (at true q (held rows p)) (at true positional (held (kept rows p) (one None word))) None word word words (arguments_of words)
    (trailing_fault q rows p word) (trailing_walk q rows p word) (gains_one true q true positional rows p None word)
    (trailing_splits positional (kept rows p) (one None word) words)

-- ---- one word before it

-- the word is neither `--` nor a flag that is known or refused: it is an argument or a value
pub record IsPlain (word : Text) : Type 0 where
  pub dashes : bytes_eq word (codes "--") ≡ false
  pub long : long_of word ≡ None
  pub short : (short_of word ≡ None) ⊎ ((flags : Text) × (short_of word ≡ Some flags) × (slice_get (chars flags) 0 ≡ None))

-- the word is a flag that is refused
pub record IsBad (word : Text) : Type 0 where
  pub dashes : bytes_eq word (codes "--") ≡ false
  pub fault : (h : Held) → flag_word_fault rules false (long_of word) word (record h { skip = 0 }) ≡ UnknownArgument ∷ []

bundle_plain : (k : ℕ) (flags : Text) (h : Held) → slice_get (chars flags) 0 ≡ None → bundle_met rules k flags 0 is_plain h ≡ (h, is_plain)
unfolding bundle_met
bundle_plain zero flags h none = refl
bundle_plain (suc k) flags h none = rw none refl

flags_plain : (k : ℕ) (flags : Text) (h : Held) → slice_get (chars flags) 0 ≡ None → flags_fault rules false k flags 0 h ≡ []
unfolding flags_fault
flags_plain zero flags h none = refl
flags_plain (suc k) flags h none = rw none refl

-- what a plain word is made of
plain_other : (q : Waiting) (word : Text) (rows : List Row) (p : Option (Text × List Text)) → IsPlain word
    → long_or_other rules q word (long_of word) (record { rows = rows; pending = p; skip = 0 })
    ≡ plain_word rules q word (record { rows = rows; pending = p; skip = 0 })
plain_other q word rows p plain = elim plain.short [
  | inl none ↦ rw (plain.long, none) refl
  | inr some ↦ rw (plain.long, some.1, bundle_plain (length some.0) some.0 (record { rows = rows; pending = p; skip = 0 }) some.2) refl
]

plain_other_fault : (word : Text) (rows : List Row) (p : Option (Text × List Text)) → IsPlain word
    → flag_word_fault rules false (long_of word) word (record { rows = rows; pending = p; skip = 0 }) ≡ []
plain_other_fault word rows p plain = elim plain.short [
  | inl none ↦ rw (plain.long, none) refl
  | inr some ↦ rw (plain.long, some.1, flags_plain (length some.0) some.0 (record { rows = rows; pending = p; skip = 0 }) some.2) refl
]

-- where a plain word is an argument
argument_met : (r : Ready) (rows : List Row) (p : Pending) (word : Text) → IsPlain word
    → word_met rules [] false (waits r) 1 word (held rows p) ≡ (held rows p, is_value)
argument_met first rows p word plain = rw plain.dashes (plain_other idle word rows (pending p) plain)
argument_met later rows p word plain = rw plain.dashes (plain_other positional word rows (pending p) plain)

argument_walk : (r : Ready) (rows : List Row) (p : Pending) (word : Text) → IsPlain word
    → walked rules [] (at false (waits r) (held rows p)) word ≡ at false positional (held (kept rows p) (one None word))
unfolding walked
argument_walk r rows p word plain =
    ap (λ (m : Held × Step). after_step rules word (at false (waits r) (held rows p)) m.0 m.1) (argument_met r rows p word plain) ∙ placed p where
      placed : (p : Pending) → to_positional rules (Some arguments_rule) word (at false (waits r) (held rows p)) (held rows p)
          ≡ at false positional (held (kept rows p) (one None word))
      placed nothing = refl
      placed (one None v) = refl
      placed (one (Some of_pages) v) = refl
      placed (one (Some of_walks) v) = refl

no_kinds : (a b : Kinds) → a ≡ [] → b ≡ [] → or_else a b ≡ []
no_kinds a b ea eb = rw (ea, eb) refl

argument_fault : (r : Ready) (rows : List Row) (p : Pending) (word : Text) → IsPlain word
    → turn_fault shape [] (at false (waits r) (held rows p)) word ≡ []
argument_fault r rows p word plain =
    no_kinds (word_fault shape [] false (waits r) word (held rows p)) _ (named r)
    (ap (λ (m : Held × Step). step_fault shape 1 m.0 m.1) (argument_met r rows p word plain) ∙ placed p) where
      named : (r : Ready) → word_fault shape [] false (waits r) word (held rows p) ≡ []
      named first = rw plain.dashes (plain_other_fault word rows (pending p) plain)
      named later = rw plain.dashes (plain_other_fault word rows (pending p) plain)

      placed : (p : Pending) → step_fault shape 1 (held rows p) is_value ≡ []
      placed nothing = refl
      placed (one None v) = refl
      placed (one (Some of_pages) v) = refl
      placed (one (Some of_walks) v) = refl

-- where it is the value of an option
value_walk : (rows : List Row) (s : OptionName) (word : Text) → IsPlain word
    → walked rules [] (at false (option (name_of s)) (opened rows s)) word ≡ at false idle (held rows (one (Some s) word))
unfolding walked
value_walk rows of_pages word plain =
    rw plain.dashes (ap (λ (m : Held × Step). after_step rules word (at false (option (name_of of_pages)) (opened rows of_pages)) m.0 m.1)
    (plain_other (option (name_of of_pages)) word rows (Some (name_of of_pages, [])) plain))
value_walk rows of_walks word plain =
    rw plain.dashes (ap (λ (m : Held × Step). after_step rules word (at false (option (name_of of_walks)) (opened rows of_walks)) m.0 m.1)
    (plain_other (option (name_of of_walks)) word rows (Some (name_of of_walks, [])) plain))

value_fault : (rows : List Row) (s : OptionName) (word : Text) → IsPlain word
    → turn_fault shape [] (at false (option (name_of s)) (opened rows s)) word ≡ []
value_fault rows of_pages word plain =
    rw plain.dashes (no_kinds _ _ (plain_other_fault word rows (Some (name_of of_pages, [])) plain)
    (ap (λ (m : Held × Step). step_fault shape 1 m.0 m.1) (plain_other (option (name_of of_pages)) word rows (Some (name_of of_pages, [])) plain)))
value_fault rows of_walks word plain =
    rw plain.dashes (no_kinds _ _ (plain_other_fault word rows (Some (name_of of_walks, [])) plain)
    (ap (λ (m : Held × Step). step_fault shape 1 m.0 m.1) (plain_other (option (name_of of_walks)) word rows (Some (name_of of_walks, [])) plain)))

-- ---- options

abbrev pub dashed : OptionName → Text
dashed of_pages = codes "--pages"
dashed of_walks = codes "--walks"

abbrev pub assigned : OptionName → Text
assigned of_pages = codes "--pages="
assigned of_walks = codes "--walks="

apart_walk : (r : Ready) (rows : List Row) (p : Pending) (s : OptionName)
    → walked rules [] (at false (waits r) (held rows p)) (dashed s) ≡ at false (option (name_of s)) (opened (kept rows p) s)
unfolding walked
apart_walk first rows nothing of_pages = refl
apart_walk first rows nothing of_walks = refl
apart_walk first rows (one None v) of_pages = refl
apart_walk first rows (one None v) of_walks = refl
apart_walk first rows (one (Some of_pages) v) of_pages = refl
apart_walk first rows (one (Some of_pages) v) of_walks = refl
apart_walk first rows (one (Some of_walks) v) of_pages = refl
apart_walk first rows (one (Some of_walks) v) of_walks = refl
apart_walk later rows nothing of_pages = refl
apart_walk later rows nothing of_walks = refl
apart_walk later rows (one None v) of_pages = refl
apart_walk later rows (one None v) of_walks = refl
apart_walk later rows (one (Some of_pages) v) of_pages = refl
apart_walk later rows (one (Some of_pages) v) of_walks = refl
apart_walk later rows (one (Some of_walks) v) of_pages = refl
apart_walk later rows (one (Some of_walks) v) of_walks = refl

apart_fault : (r : Ready) (rows : List Row) (p : Pending) (s : OptionName) → turn_fault shape [] (at false (waits r) (held rows p)) (dashed s) ≡ []
apart_fault first rows nothing of_pages = refl
apart_fault first rows nothing of_walks = refl
apart_fault first rows (one None v) of_pages = refl
apart_fault first rows (one None v) of_walks = refl
apart_fault first rows (one (Some of_pages) v) of_pages = refl
apart_fault first rows (one (Some of_pages) v) of_walks = refl
apart_fault first rows (one (Some of_walks) v) of_pages = refl
apart_fault first rows (one (Some of_walks) v) of_walks = refl
apart_fault later rows nothing of_pages = refl
apart_fault later rows nothing of_walks = refl
apart_fault later rows (one None v) of_pages = refl
apart_fault later rows (one None v) of_walks = refl
apart_fault later rows (one (Some of_pages) v) of_pages = refl
apart_fault later rows (one (Some of_pages) v) of_walks = refl
apart_fault later rows (one (Some of_walks) v) of_pages = refl
apart_fault later rows (one (Some of_walks) v) of_walks = refl

attached_walk : (r : Ready) (rows : List Row) (p : Pending) (s : OptionName) (value : Text)
    → walked rules [] (at false (waits r) (held rows p)) (assigned s ++ value)
    ≡ at false idle (held (used (option_rule s) (value ∷ []) (kept rows p)) nothing)
unfolding walked
attached_walk first rows nothing of_pages value = refl
attached_walk first rows nothing of_walks value = refl
attached_walk first rows (one None v) of_pages value = refl
attached_walk first rows (one None v) of_walks value = refl
attached_walk first rows (one (Some of_pages) v) of_pages value = refl
attached_walk first rows (one (Some of_pages) v) of_walks value = refl
attached_walk first rows (one (Some of_walks) v) of_pages value = refl
attached_walk first rows (one (Some of_walks) v) of_walks value = refl
attached_walk later rows nothing of_pages value = refl
attached_walk later rows nothing of_walks value = refl
attached_walk later rows (one None v) of_pages value = refl
attached_walk later rows (one None v) of_walks value = refl
attached_walk later rows (one (Some of_pages) v) of_pages value = refl
attached_walk later rows (one (Some of_pages) v) of_walks value = refl
attached_walk later rows (one (Some of_walks) v) of_pages value = refl
attached_walk later rows (one (Some of_walks) v) of_walks value = refl

attached_fault : (r : Ready) (rows : List Row) (p : Pending) (s : OptionName) (value : Text)
    → turn_fault shape [] (at false (waits r) (held rows p)) (assigned s ++ value) ≡ []
attached_fault first rows nothing of_pages value = refl
attached_fault first rows nothing of_walks value = refl
attached_fault first rows (one None v) of_pages value = refl
attached_fault first rows (one None v) of_walks value = refl
attached_fault first rows (one (Some of_pages) v) of_pages value = refl
attached_fault first rows (one (Some of_pages) v) of_walks value = refl
attached_fault first rows (one (Some of_walks) v) of_pages value = refl
attached_fault first rows (one (Some of_walks) v) of_walks value = refl
attached_fault later rows nothing of_pages value = refl
attached_fault later rows nothing of_walks value = refl
attached_fault later rows (one None v) of_pages value = refl
attached_fault later rows (one None v) of_walks value = refl
attached_fault later rows (one (Some of_pages) v) of_pages value = refl
attached_fault later rows (one (Some of_pages) v) of_walks value = refl
attached_fault later rows (one (Some of_walks) v) of_pages value = refl
attached_fault later rows (one (Some of_walks) v) of_walks value = refl

-- ---- what a word is

-- It begins with `-`, and is no option: it is no number either.
pub record IsUnknown (word : Text) : Type 0 where
  pub kind : kind_of word ≡ unknown
  pub number : number_of word ≡ None

abbrev pub Sort : Text → Type 0
Sort word =
    (word ≡ codes "--")
    ⊎ ((s : OptionName) × (word ≡ dashed s))
    ⊎ ((s : OptionName) × (value : Text) × (word ≡ assigned s ++ value))
    ⊎ (IsUnknown word × IsBad word)
    ⊎ (IsUnknown word × IsPlain word)
    ⊎ ((kind_of word ≡ argument) × IsPlain word)

and_false : (b : Bool) → (b && false) ≡ false
and_false true = refl
and_false false = refl

-- what begins with `-` is no number
no_number : (t : Text) → number_of (45 ∷ t) ≡ None
no_number t = rw (and_false (nat_le 1 (length (45 ∷ t)) && nat_le (length (45 ∷ t)) 20)) refl

abbrev pub is_equals : ℕ → Bool
is_equals c = c == 61

-- A name before a first `=` is one of the two only where the text is the name, or goes on with `=`.
at_equals : (t : Text) (s : OptionName) → before_first is_equals t ≡ name_of s
    → (t ≡ name_of s) ⊎ ((u : Text) × (t ≡ name_of s ++ 61 ∷ u))
at_equals t s is = go (drop (position_or_len is_equals t) t) parts where
  parts : t ≡ name_of s ++ drop (position_or_len is_equals t) t
  parts = sym (take-append-drop (position_or_len is_equals t) t) ∙ ap (λ (x : Text). x ++ drop (position_or_len is_equals t) t) is

  length_is : length (before_first is_equals t) ≡ position_or_len is_equals t
  length_is = length-take-le (position_or_len is_equals t) t (prefix_len-le-length (λ x. not (is_equals x)) t)

  longer : (s : OptionName) (c : ℕ) (u : Text) → is_equals c ≡ false → 6 ≤ position_or_len is_equals (name_of s ++ c ∷ u)
  longer of_pages c u differ = rw differ (omega arith)
  longer of_walks c u differ = rw differ (omega arith)

  five : (s : OptionName) → length (name_of s) ≡ 5
  five of_pages = refl
  five of_walks = refl

  go : (rest : Text) → t ≡ name_of s ++ rest → (t ≡ name_of s) ⊎ ((u : Text) × (t ≡ name_of s ++ 61 ∷ u))
  go [] e = inl (e ∙ append-nil (name_of s))
  go (c ∷ u) e = go2 (is_equals c) refl where
    go2 : (b : Bool) → is_equals c ≡ b → (t ≡ name_of s) ⊎ ((u : Text) × (t ≡ name_of s ++ 61 ∷ u))
    go2 true same =
        let here : c ≡ 61 = (Decides-eqb c 61).0 same in
        inr (u, e ∙ ap (λ (x : ℕ). name_of s ++ x ∷ u) here)
    go2 false differ =
        let more = longer s c u differ in
        let place : position_or_len is_equals t ≡ position_or_len is_equals (name_of s ++ c ∷ u) = ap (λ (x : Text). position_or_len is_equals x) e in
        let short : position_or_len is_equals t ≡ 5 = sym length_is ∙ ap length is ∙ five s in
        absurd (omega (arith, more, place, short))

-- The name of a flag that is no option isn't that of one.
not_named : (t : Text) (s : OptionName) → bytes_eq (45 ∷ 45 ∷ t) (dashed s) ≡ false → begins_with (45 ∷ 45 ∷ t) (assigned s) ≡ false
    → bytes_eq (name_of s) (before_first is_equals t) ≡ false
not_named t s not_whole not_part = go (bytes_eq (name_of s) (before_first is_equals t)) refl where
  whole : (s : OptionName) (t : Text) → t ≡ name_of s → bytes_eq (45 ∷ 45 ∷ t) (dashed s) ≡ true
  whole of_pages t e = rw e refl
  whole of_walks t e = rw e refl

  part : (s : OptionName) (t u : Text) → t ≡ name_of s ++ 61 ∷ u → begins_with (45 ∷ 45 ∷ t) (assigned s) ≡ true
  part of_pages t u e = rw e refl
  part of_walks t u e = rw e refl

  go : (b : Bool) → bytes_eq (name_of s) (before_first is_equals t) ≡ b → bytes_eq (name_of s) (before_first is_equals t) ≡ false
  go false e = e
  go true e = elim (at_equals t s (sym ((bytes_eq-Decides (name_of s) (before_first is_equals t)).0 e))) [
    | inl same ↦ absurd (true≢false (sym (whole s t same) ∙ not_whole))
    | inr more ↦ absurd (true≢false (sym (part s t more.0 more.1) ∙ not_part))
  ]

-- a word of `--` and more
sorts_long : (x : ℕ) (xs : Text) → Sort (45 ∷ 45 ∷ x ∷ xs)
sorts_long x xs = go1 (bytes_eq word (dashed of_pages)) refl where
  word : Text
  word = 45 ∷ 45 ∷ x ∷ xs

  is_attached : (s : OptionName) → begins_with word (assigned s) ≡ true → word ≡ assigned s ++ drop (length (assigned s)) word
  is_attached s e =
      sym (take-append-drop (length (assigned s)) word)
      ∙ ap (λ (f : Text). f ++ drop (length (assigned s)) word) (sym ((bytes_eq-Decides (assigned s) (take (length (assigned s)) word)).0 e))

  go5 : bytes_eq word (dashed of_pages) ≡ false → bytes_eq word (dashed of_walks) ≡ false → begins_with word (assigned of_pages) ≡ false
      → (b : Bool) → begins_with word (assigned of_walks) ≡ b → Sort word
  go5 e1 e2 e3 true e4 = inr (inr (inl (of_walks, drop 8 word, is_attached of_walks e4)))
  go5 e1 e2 e3 false e4 =
      let pages = not_named (x ∷ xs) of_pages e1 e3 in
      let walks = not_named (x ∷ xs) of_walks e2 e4 in
      inr (inr (inr (inl (
        record { kind = rw (e1, e2, e3, e4) refl; number = no_number (45 ∷ x ∷ xs) },
        record { dashes = refl; fault = λ h. rw (pages, walks) refl },
      ))))

  go3 : bytes_eq word (dashed of_pages) ≡ false → bytes_eq word (dashed of_walks) ≡ false
      → (b : Bool) → begins_with word (assigned of_pages) ≡ b → Sort word
  go3 e1 e2 true e3 = inr (inr (inl (of_pages, drop 8 word, is_attached of_pages e3)))
  go3 e1 e2 false e3 = go5 e1 e2 e3 (begins_with word (assigned of_walks)) refl

  go2 : bytes_eq word (dashed of_pages) ≡ false → (b : Bool) → bytes_eq word (dashed of_walks) ≡ b → Sort word
  go2 e1 true e2 = inr (inl (of_walks, (bytes_eq-Decides word (dashed of_walks)).0 e2))
  go2 e1 false e2 = go3 e1 e2 (begins_with word (assigned of_pages)) refl

  go1 : (b : Bool) → bytes_eq word (dashed of_pages) ≡ b → Sort word
  go1 true e1 = inr (inl (of_pages, (bytes_eq-Decides word (dashed of_pages)).0 e1))
  go1 false e1 = go2 e1 (bytes_eq word (dashed of_walks)) refl

flags_bad : (k : ℕ) (flags : Text) (x : ℕ) (h : Held) → slice_get (chars flags) 0 ≡ Some x → flags_fault rules false (suc k) flags 0 h ≡ UnknownArgument ∷ []
unfolding flags_fault
flags_bad k flags x h some = rw some refl

-- a test of equality, the other way round
turned : (c : ℕ) → (c == 45) ≡ false → (45 == c) ≡ false
turned c differ = go (45 == c) refl where
  go : (b : Bool) → (45 == c) ≡ b → (45 == c) ≡ false
  go true e = absurd (true≢false (ap (λ (x : ℕ). x == 45) ((Decides-eqb 45 c).0 e) ∙ differ))
  go false e = e

-- a word of `-` and more, but not of `--`
sorts_short : (d : ℕ) (u : Text) → (d == 45) ≡ false → Sort (45 ∷ d ∷ u)
sorts_short d u differ = go (slice_get (chars (d ∷ u)) 0) refl where
  unknown_word : IsUnknown (45 ∷ d ∷ u)
  unknown_word = record { kind = rw (differ, turned d differ) refl; number = no_number (d ∷ u) }

  long : long_of (45 ∷ d ∷ u) ≡ None
  long = rw differ refl

  short : short_of (45 ∷ d ∷ u) ≡ Some (d ∷ u)
  short = rw differ refl

  go : (o : Option ℕ) → slice_get (chars (d ∷ u)) 0 ≡ o → Sort (45 ∷ d ∷ u)
  go None none = inr (inr (inr (inr (inl (
    unknown_word,
    record { dashes = rw differ refl; long = long; short = inr (d ∷ u, short, none) },
  )))))
  go (Some x) some = inr (inr (inr (inl (
    unknown_word,
    record { dashes = rw differ refl; fault = λ h. rw (long, short) (flags_bad (length u) (d ∷ u) x (record h { skip = 0 }) some) },
  ))))

sorts_dash : (t : Text) → Sort (45 ∷ t)
sorts_dash [] = inr (inr (inr (inr (inl (
  record { kind = refl; number = refl },
  record { dashes = refl; long = refl; short = inl refl },
)))))
sorts_dash (d ∷ u) = go (d == 45) refl where
  long_word : (u : Text) → Sort (45 ∷ 45 ∷ u)
  long_word [] = inl refl
  long_word (x ∷ xs) = sorts_long x xs

  go : (b : Bool) → (d == 45) ≡ b → Sort (45 ∷ d ∷ u)
  go true same = subst (λ (x : ℕ). Sort (45 ∷ x ∷ u)) (sym ((Decides-eqb d 45).0 same)) (long_word u)
  go false differ = sorts_short d u differ

-- what a word is, in one of these ways
sorts : (word : Text) → Sort word
sorts [] = inr (inr (inr (inr (inr (refl, record { dashes = refl; long = refl; short = inl refl })))))
sorts (c ∷ t) = go (c == 45) refl where
  go : (b : Bool) → (c == 45) ≡ b → Sort (c ∷ t)
  go true same = subst (λ (x : ℕ). Sort (x ∷ t)) (sym ((Decides-eqb c 45).0 same)) (sorts_dash t)
  go false differ = inr (inr (inr (inr (inr (
    rw (differ, turned c differ) refl,
    record { dashes = rw differ refl; long = rw differ refl; short = inl (rw differ refl) },
  )))))

-- ---- all words

abbrev pub from : Option OptionName → Ready → List Row → Pending → Walk
from None r rows p = at false (waits r) (held rows p)
from (Some s) r rows p = at false (option (name_of s)) (opened rows s)

dashes_walk : (r : Ready) (rows : List Row) (p : Pending)
    → walked rules [] (at false (waits r) (held rows p)) (codes "--") ≡ at true (waits r) (held rows p)
unfolding walked
dashes_walk first rows p = refl
dashes_walk later rows p = refl

dashes_fault : (r : Ready) (rows : List Row) (p : Pending) → turn_fault shape [] (at false (waits r) (held rows p)) (codes "--") ≡ []
dashes_fault first rows p = refl
dashes_fault later rows p = refl

-- an option without its value yet has kept nothing
lists-opened : (rows : List Row) (s : OptionName) (q : Waiting) → lists (now (at false q (opened rows s))) ≡ lists rows
lists-opened rows of_pages q = same_lists
    (values_at-other (codes "pages") (codes "arguments") [] (option_rule of_pages) rows refl)
    (values_at-with (codes "pages") [] (option_rule of_pages) rows refl ∙ append-nil _)
    (values_at-other (codes "pages") (codes "walks") [] (option_rule of_pages) rows refl)
lists-opened rows of_walks q = same_lists
    (values_at-other (codes "walks") (codes "arguments") [] (option_rule of_walks) rows refl)
    (values_at-other (codes "walks") (codes "pages") [] (option_rule of_walks) rows refl)
    (values_at-with (codes "walks") [] (option_rule of_walks) rows refl ∙ append-nil _)

named_none : (q : Waiting) (word : Text) → subcommand_met [] q word ≡ None
named_none idle word = refl
named_none (option id) word = refl
named_none positional word = refl

-- a refused flag is refused wherever the walk stands
bad_fault : (q : Waiting) (rows : List Row) (p : Option (Text × List Text)) (word : Text) → IsBad word
    → (kinds : Kinds) × (turn_fault shape [] (at false q (record { rows = rows; pending = p; skip = 0 })) word ≡ UnknownArgument ∷ kinds)
bad_fault q rows p word bad =
    let h : Held = record { rows = rows; pending = p; skip = 0 } in
    let named : word_fault shape [] false q word h ≡ UnknownArgument ∷ [] =
    ap (λ (o : Option Text). other_fault shape o word h) (named_none q word) ∙ rw bad.dashes (bad.fault h) in (
      _,
      ap (λ (k : Kinds). or_else k (step_fault shape 1
          (word_met rules [] false q 1 word h).0 (word_met rules [] false q 1 word h).1)) named,
    )

-- An option that has no value when another flag comes, or the end, is refused.
doomed : (words : List Text) (q : Waiting) (rows : List Row) (s : OptionName)
    → (kinds : Kinds) × (rest_fault (at true q (opened rows s)) words ≡ InvalidValue ∷ kinds)
unfolding walk_fault
doomed [] q rows of_pages = (_, refl)
doomed [] q rows of_walks = (_, refl)
doomed (word ∷ words) q rows of_pages = fault_here (at true q (opened rows of_pages)) word words InvalidValue [] refl
doomed (word ∷ words) q rows of_walks = fault_here (at true q (opened rows of_walks)) word words InvalidValue [] refl

opened_dashes : (rows : List Row) (s : OptionName)
    → walked rules [] (at false (option (name_of s)) (opened rows s)) (codes "--") ≡ at true (option (name_of s)) (opened rows s)
unfolding walked
opened_dashes rows of_pages = refl
opened_dashes rows of_walks = refl

opened_apart : (rows : List Row) (s other : OptionName)
    → (kinds : Kinds) × (turn_fault shape [] (at false (option (name_of s)) (opened rows s)) (dashed other) ≡ InvalidValue ∷ kinds)
opened_apart rows of_pages of_pages = (_, refl)
opened_apart rows of_pages of_walks = (_, refl)
opened_apart rows of_walks of_pages = (_, refl)
opened_apart rows of_walks of_walks = (_, refl)

opened_attached : (rows : List Row) (s other : OptionName) (value : Text)
    → (kinds : Kinds) × (turn_fault shape [] (at false (option (name_of s)) (opened rows s)) (assigned other ++ value) ≡ InvalidValue ∷ kinds)
opened_attached rows of_pages of_pages value = (_, refl)
opened_attached rows of_pages of_walks value = (_, refl)
opened_attached rows of_walks of_pages value = (_, refl)
opened_attached rows of_walks of_walks value = (_, refl)

-- a word that is refused where it stands
refuses_here : (w : Walk) (word : Text) (words : List Text) (numbers : Option Numbers) (kind : ErrorKind)
    → ((kinds : Kinds) × (turn_fault shape [] w word ≡ kind ∷ kinds)) → numbers ≡ None → Splits w (word ∷ words) numbers
refuses_here w word words numbers kind here none =
    let fault = fault_here w word words kind here.0 here.1 in
    inl (record { kind = kind; kinds = fault.0; fault = fault.1; none = none })

abbrev pub Behind : List Text → Type 0
Behind words = (o : Option OptionName) (r : Ready) (rows : List Row) (p : Pending) → Splits (from o r rows p) words (numbers_from o words)

abbrev pub at_kind : Kind → Text → List Text → Option Numbers
at_kind kind word words = at_word kind word (arguments_of words) (λ before. numbers_from before words)

numbers_at : (word : Text) (words : List Text) → numbers_from None (word ∷ words) ≡ at_kind (kind_of word) word words
unfolding numbers_from
numbers_at word words = refl

attached_kind : (s : OptionName) (value : Text) → kind_of (assigned s ++ value) ≡ attached s value
attached_kind of_pages value = refl
attached_kind of_walks value = refl

apart_kind : (s : OptionName) → kind_of (dashed s) ≡ apart s
apart_kind of_pages = refl
apart_kind of_walks = refl

-- a word where no option waits for its value
on_word : (word : Text) (words : List Text) (r : Ready) (rows : List Row) (p : Pending) → Sort word → Behind words
    → Splits (from None r rows p) (word ∷ words) (at_kind (kind_of word) word words)
on_word word words r rows p (inl is) behind =
    subst (λ (x : Text). Splits (from None r rows p) (x ∷ words) (at_kind (kind_of x) x words)) (sym is)
    (passes_on (from None r rows p) (at true (waits r) (held rows p)) (codes "--") words (arguments_of words)
    (dashes_fault r rows p) (dashes_walk r rows p) refl (trailing_splits (waits r) rows p words))
on_word word words r rows p (inr (inl some)) behind =
    subst (λ (x : Text). Splits (from None r rows p) (x ∷ words) (at_kind (kind_of x) x words)) (sym some.1)
    (subst (λ (k : Kind). Splits (from None r rows p) (dashed some.0 ∷ words) (at_kind k (dashed some.0) words)) (sym (apart_kind some.0))
    (passes_on (from None r rows p) (from (Some some.0) r (kept rows p) nothing) (dashed some.0) words (numbers_from (Some some.0) words)
    (apart_fault r rows p some.0) (apart_walk r rows p some.0)
    (lists-opened (kept rows p) some.0 (option (name_of some.0)) ∙ ap lists (sym (kept_is rows p)))
    (behind (Some some.0) r (kept rows p) nothing)))
on_word word words r rows p (inr (inr (inl some))) behind =
    let s = some.0 in
    let v = some.1 in
    subst (λ (x : Text). Splits (from None r rows p) (x ∷ words) (at_kind (kind_of x) x words)) (sym some.2)
    (subst (λ (k : Kind). Splits (from None r rows p) ((assigned s ++ v) ∷ words) (at_kind k (assigned s ++ v) words)) (sym (attached_kind s v))
    (keeps_on (from None r rows p) (from None first (used (option_rule s) (v ∷ []) (kept rows p)) nothing) (Some s) (assigned s ++ v) v words
    (numbers_from None words) (attached_fault r rows p s v) (attached_walk r rows p s v)
    (lists-used (Some s) v (kept rows p) ∙ ap (λ (x : List Row). joined (lists x) (one_of (Some s) v)) (sym (kept_is rows p)))
    (behind None first (used (option_rule s) (v ∷ []) (kept rows p)) nothing)))
on_word word words r rows p (inr (inr (inr (inl both)))) behind =
    refuses_here (from None r rows p) word words (at_kind (kind_of word) word words) UnknownArgument (bad_fault (waits r) rows (pending p) word both.1)
    (ap (λ (k : Kind). at_kind k word words) both.0.kind)
on_word word words r rows p (inr (inr (inr (inr (inl both))))) behind =
    subst (λ (n : Option Numbers). Splits (from None r rows p) (word ∷ words) n)
    (ap (λ (n : Option ℕ). added with_argument n (numbers_from None words)) both.0.number
    ∙ sym (ap (λ (k : Kind). at_kind k word words) both.0.kind))
    (keeps_on (from None r rows p) (from None later (kept rows p) (one None word)) None word word words (numbers_from None words)
    (argument_fault r rows p word both.1) (argument_walk r rows p word both.1) (gains_one false (waits r) false positional rows p None word)
    (behind None later (kept rows p) (one None word)))
on_word word words r rows p (inr (inr (inr (inr (inr both))))) behind =
    subst (λ (n : Option Numbers). Splits (from None r rows p) (word ∷ words) n) (sym (ap (λ (k : Kind). at_kind k word words) both.0))
    (keeps_on (from None r rows p) (from None later (kept rows p) (one None word)) None word word words (numbers_from None words)
    (argument_fault r rows p word both.1) (argument_walk r rows p word both.1) (gains_one false (waits r) false positional rows p None word)
    (behind None later (kept rows p) (one None word)))

-- a plain word where an option waits for its value
on_value : (word : Text) (words : List Text) (s : OptionName) (r : Ready) (rows : List Row) (p : Pending) → IsPlain word → Behind words
    → Splits (from (Some s) r rows p) (word ∷ words) (more_numbers (with_value s) word (numbers_from None words))
on_value word words s r rows p plain behind =
    keeps_on (from (Some s) r rows p) (from None first rows (one (Some s) word)) (Some s) word word words (numbers_from None words)
    (value_fault rows s word plain) (value_walk rows s word plain)
    (ap lists (kept_is rows (one (Some s) word)) ∙ lists-used (Some s) word rows
    ∙ ap (λ (l : Lists). joined l (one_of (Some s) word)) (sym (lists-opened rows s (option (name_of s)))))
    (behind None first rows (one (Some s) word))

none_added : (s : OptionName) (word : Text) (numbers : Option Numbers) → number_of word ≡ None → more_numbers (with_value s) word numbers ≡ None
none_added s word numbers none = ap (λ (n : Option ℕ). added (with_value s) n numbers) none

no_number_apart : (s : OptionName) → number_of (dashed s) ≡ None
no_number_apart of_pages = refl
no_number_apart of_walks = refl

no_number_attached : (s : OptionName) (value : Text) → number_of (assigned s ++ value) ≡ None
no_number_attached of_pages value = no_number (codes "-pages=" ++ value)
no_number_attached of_walks value = no_number (codes "-walks=" ++ value)

-- any word there
on_opened : (word : Text) (words : List Text) (s : OptionName) (r : Ready) (rows : List Row) (p : Pending) → Sort word → Behind words
    → Splits (from (Some s) r rows p) (word ∷ words) (more_numbers (with_value s) word (numbers_from None words))
on_opened word words s r rows p (inl is) behind =
    let w = from (Some s) r rows p in
    let end = doomed words (option (name_of s)) rows s in
    subst (λ (x : Text). Splits w (x ∷ words) (more_numbers (with_value s) x (numbers_from None words))) (sym is)
    (inl (record {
      kind = InvalidValue;
      kinds = end.0;
      fault = fault_on w (codes "--") words refl ∙ ap (λ (x : Walk). rest_fault x words) (opened_dashes rows s) ∙ end.1;
      none = refl;
    }))
on_opened word words s r rows p (inr (inl some)) behind =
    subst (λ (x : Text). Splits (from (Some s) r rows p) (x ∷ words) (more_numbers (with_value s) x (numbers_from None words))) (sym some.1)
    (refuses_here (from (Some s) r rows p) (dashed some.0) words _ InvalidValue (opened_apart rows s some.0)
    (none_added s (dashed some.0) (numbers_from None words) (no_number_apart some.0)))
on_opened word words s r rows p (inr (inr (inl some))) behind =
    subst (λ (x : Text). Splits (from (Some s) r rows p) (x ∷ words) (more_numbers (with_value s) x (numbers_from None words))) (sym some.2)
    (refuses_here (from (Some s) r rows p) (assigned some.0 ++ some.1) words _ InvalidValue (opened_attached rows s some.0 some.1)
    (none_added s (assigned some.0 ++ some.1) (numbers_from None words) (no_number_attached some.0 some.1)))
on_opened word words s r rows p (inr (inr (inr (inl both)))) behind =
    refuses_here (from (Some s) r rows p) word words _ UnknownArgument (bad_fault (option (name_of s)) rows (Some (name_of s, [])) word both.1)
    (none_added s word (numbers_from None words) both.0.number)
on_opened word words s r rows p (inr (inr (inr (inr (inl both))))) behind = on_value word words s r rows p both.1 behind
on_opened word words s r rows p (inr (inr (inr (inr (inr both))))) behind = on_value word words s r rows p both.1 behind

none_left : (s : OptionName) (r : Ready) (rows : List Row) (p : Pending) → Splits (from (Some s) r rows p) [] None
unfolding walk_fault
none_left of_pages r rows p = inl (record { kind = InvalidValue; kinds = []; fault = refl; none = refl })
none_left of_walks r rows p = inl (record { kind = InvalidValue; kinds = []; fault = refl; none = refl })

pub splits : (words : List Text) → Behind words
unfolding numbers_from
splits [] None r rows p = ends false (waits r) rows p
splits [] (Some s) r rows p = none_left s r rows p
splits (word ∷ words) None r rows p = on_word word words r rows p (sorts word) (splits words)
splits (word ∷ words) (Some s) r rows p = on_opened word words s r rows p (sorts word) (splits words)
