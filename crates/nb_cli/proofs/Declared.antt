-- The command that splits, as it is built, and what its parse says.
use Rattle.std.proofs.Common.{◌≡◌, ◌⊎◌, inl, inr, ◌∙◌, refl, sym, ap, ap₂, subst, ◌&&◌, Bool, true, false, not, List, [], Some, None, is_some, codes, true≢false}
use Rattle.clap.specs.Built.{AddsArg}
use Rattle.clap.specs.Faults.{fault_of, is_simple_and_free}
use Rattle.clap.specs.Kinds.{IsAmong}
use Rattle.clap.specs.Simple.{App, app_of, app_of_fields, on_top, new_app, new_rule, with_rule, is_simple, matches_of}
use Rattle.clap.specs.Walk.{Text, Rule, rule_of, rows_of, is_empty, is_simple_arg}
use Rattle.clap.specs.declared.builder.action.ArgAction.TheVariants.{Append}
use Rattle.clap.specs.declared.builder.arg.Arg.{Arg}
use Rattle.clap.specs.declared.builder.command.Command.{Command}
use Rattle.clap.specs.declared.builder.command.Command.TheViews.{out-Command}
use Rattle.clap.specs.declared.error.kind.ErrorKind.{ErrorKind}
use Rattle.clap.specs.declared.error.kind.ErrorKind.TheVariants.{OutOfMemory}
use Rattle.clap.specs.declared.parser.matches.Found.{Found}
use Rattle.nb_cli.specs.Splitting.{of_parse}
use Rattle.nb_cli.specs.Words.{numbers_behind}
use Rattle.nb_cli.specs.declared.words.WordsError.{WordsError}
use Rattle.nb_cli.specs.declared.words.WordsError.TheVariants as error
use Rattle.nb_cli.proofs.Splits.{split_app, split_is_simple, lists, numbers_of}
use Rattle.nb_cli.proofs.Parsed.{parsed, not_parsed}

-- ---- the command that is built

and_last : (a b : Bool) → (a && b) ≡ true → b ≡ true
and_last true b e = e
and_last false b e = absurd (true≢false (sym e))

not_true : (b : Bool) → not b ≡ true → b ≡ false
not_true true e = absurd (true≢false (sym e))
not_true false e = refl

last_not : (a b c d e f g h i j : Bool) → (a && (b && (c && (d && (e && (f && (g && (h && (i && not j))))))))) ≡ true → j ≡ false
last_not a b c d e f g h i j is =
    not_true j (and_last i _ (and_last h _ (and_last g _ (and_last f _ (and_last e _ (and_last d _ (and_last c _ (and_last b _ (and_last a _ is)))))))))

-- a simple argument is of one command alone
not_global : (a : Arg) → is_simple_arg a ≡ true → a.global ≡ false
not_global a simple =
    last_not (is_empty a.overrides.items) (is_empty a.default_vals_ifs.items) (is_empty a.groups.items) (not (is_some a.val_delim))
    (not (is_some a.terminator)) (not a.allow_hyphen_values) (not a.allow_negative_numbers) (not a.require_equals) (not a.last) a.global simple

with_one : (old new : Command) (a : Arg) (app : App) (rule : Rule) → AddsArg old a new → app_of old ≡ app → rule_of a ≡ rule → rule.is_simple ≡ true
    → app_of new ≡ with_rule app rule
with_one old new a app rule adds same is simple =
    adds.shape (not_global a (ap (λ (r : Rule). r.is_simple) is ∙ simple)) ∙ ap₂ with_rule same is

abbrev pub appended : Text → Rule
appended id = record (new_rule id) { action = Some Append }

abbrev optional : Text → Rule
optional id = record (new_rule id) { long = Some id; action = Some Append }

pub app_is : (bare unnamed helpless one two all : Command) (arguments pages walks : Arg) → app_of bare ≡ new_app (codes "nbody")
    → out-Command unnamed ≡ record (out-Command bare) { no_binary_name = true }
    → out-Command helpless ≡ record (out-Command unnamed) { disable_help_flag = true }
    → AddsArg helpless arguments one → rule_of arguments ≡ appended (codes "arguments")
    → AddsArg one pages two → rule_of pages ≡ optional (codes "pages")
    → AddsArg two walks all → rule_of walks ≡ optional (codes "walks")
    → app_of all ≡ split_app
app_is bare unnamed helpless one two all arguments pages walks new named helped adds_arguments is_arguments adds_pages is_pages adds_walks is_walks =
    let first_app : app_of unnamed ≡ on_top (λ s. record s { no_binary_name = true }) (new_app (codes "nbody")) =
    ap app_of_fields named ∙ ap (on_top (λ s. record s { no_binary_name = true })) new in
    let bare_app : app_of helpless ≡ on_top (λ s. record s { disable_help_flag = true }) (on_top (λ s. record s { no_binary_name = true }) (new_app (codes "nbody"))) =
    ap app_of_fields helped ∙ ap (on_top (λ s. record s { disable_help_flag = true })) first_app in
    with_one two all walks _ _ adds_walks
    (with_one one two pages _ _ adds_pages (with_one helpless one arguments _ _ adds_arguments bare_app is_arguments refl) is_pages refl)
    is_walks refl

-- ---- what its parse says

pub parsed_by : (a : App) (words : List Text) (f : Found) → a ≡ split_app → (is_simple_and_free a ≡ true → fault_of a words ≡ [])
    → (is_simple a ≡ true → rows_of f ≡ matches_of a words) → numbers_behind words ≡ numbers_of (lists (rows_of f))
parsed_by a words f same fine rows =
    parsed words f (ap (λ (x : App). fault_of x words) (sym same) ∙ fine (ap is_simple_and_free same ∙ split_is_simple))
    (rows (ap is_simple same) ∙ ap (λ (x : App). matches_of x words) same)

pub not_parsed_by : (a : App) (words : List Text) (kind : ErrorKind) → a ≡ split_app
    → (is_simple_and_free a ≡ true → (kind ≡ OutOfMemory) ⊎ IsAmong kind (fault_of a words))
    → of_parse kind ≡ error.Refused → numbers_behind words ≡ None
not_parsed_by a words kind same fails refused = go (fails (ap is_simple_and_free same ∙ split_is_simple)) where
  go : (kind ≡ OutOfMemory) ⊎ IsAmong kind (fault_of a words) → numbers_behind words ≡ None
  go (inl e) = let bad : ◌≡◌ {A = WordsError} error.NoMemory error.Refused = ap of_parse (sym e) ∙ refused in cc
  go (inr among) = not_parsed words kind (subst (λ (x : App). IsAmong kind (fault_of x words)) same among)
