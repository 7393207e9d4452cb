use Rattle.std.proofs.Common.{rules, ◌≡◌, ◌∙◌, ap, sym, map, Err, codes}
use Rattle.clap.specs.Words.{app_of, found_of, kind_of as kind_of_error, rule_of}
use Rattle.nb_cli.specs.Splitting.{of_parse, numbers_in}
use Rattle.nb_cli.specs.declared.words.WordsError.TheVariants as refused
use Rattle.nb_cli.proofs.Declared.{appended, app_is, parsed_by, not_parsed_by}
use Rattle.nb_cli.proofs.Parsed.{given_at, all_spelled, no_arguments, no_pages, no_walks}
use Rattle.nb_cli.proofs.words.split.Goals as goal

pub returns-in_err-matches-clause-refused : goal.returns-in_err-matches-clause-refused
returns-in_err-matches-clause-refused c =
    let appends : rule_of c.action.result ≡ appended (codes "arguments") = search rules in
    let same = app_is c.new.result c.no_binary_name.result c.disable_help_flag.result c.in_ok-arg.field-0 c.in_ok-arg-2.field-0 c.in_ok-command.command
    c.action.result c.option.result c.option-2.result c.new.ensures.app c.no_binary_name.ensures c.disable_help_flag.ensures
    c.in_ok-arg.ensures appends c.in_ok-arg-2.ensures c.option.ensures c.in_ok-command.ensures c.option-2.ensures in
    λ fails.
    let kind : of_parse (kind_of_error c.in_err-matches.field-0.0) ≡ refused.Refused = search rules in
    not_parsed_by (app_of c.in_ok-command.command) (map (λ w. w.now) c.args.words.now) (kind_of_error c.in_err-matches.field-0.0) same
    c.in_err-matches.ensures.kinds kind

pub returns-in_err-numbers-clause-refused : goal.returns-in_err-numbers-clause-refused
returns-in_err-numbers-clause-refused c =
    let appends : rule_of c.action.result ≡ appended (codes "arguments") = search rules in
    let same = app_is c.new.result c.no_binary_name.result c.disable_help_flag.result c.in_ok-arg.field-0 c.in_ok-arg-2.field-0 c.in_ok-command.command
    c.action.result c.option.result c.option-2.result c.new.ensures.app c.no_binary_name.ensures c.disable_help_flag.ensures
    c.in_ok-arg.ensures appends c.in_ok-arg-2.ensures c.option.ensures c.in_ok-command.ensures c.option-2.ensures in
    let found = found_of c.in_ok-matches.matches in
    let spelled = parsed_by (app_of c.in_ok-command.command) (map (λ w. w.now) c.args.words.now) found same c.in_ok-matches.ensures.kinds
    (λ simple. (c.in_ok-matches.ensures.matches simple).0) in
    λ fails.
    let refuses : c.numbers.result ≡ Err refused.Refused = search rules in
    spelled ∙ no_arguments found (ap numbers_in (sym (given_at found (codes "arguments") c.get_raw.result c.get_raw.ensures)) ∙ c.numbers.ensures.refused refuses)

pub returns-in_err-numbers-2-clause-refused : goal.returns-in_err-numbers-2-clause-refused
returns-in_err-numbers-2-clause-refused c =
    let appends : rule_of c.action.result ≡ appended (codes "arguments") = search rules in
    let same = app_is c.new.result c.no_binary_name.result c.disable_help_flag.result c.in_ok-arg.field-0 c.in_ok-arg-2.field-0 c.in_ok-command.command
    c.action.result c.option.result c.option-2.result c.new.ensures.app c.no_binary_name.ensures c.disable_help_flag.ensures
    c.in_ok-arg.ensures appends c.in_ok-arg-2.ensures c.option.ensures c.in_ok-command.ensures c.option-2.ensures in
    let found = found_of c.in_ok-matches.matches in
    let spelled = parsed_by (app_of c.in_ok-command.command) (map (λ w. w.now) c.args.words.now) found same c.in_ok-matches.ensures.kinds
    (λ simple. (c.in_ok-matches.ensures.matches simple).0) in
    λ fails.
    let refuses : c.numbers-2.result ≡ Err refused.Refused = search rules in
    spelled ∙ no_pages found (ap numbers_in (sym (given_at found (codes "pages") c.get_raw-2.result c.get_raw-2.ensures)) ∙ c.numbers-2.ensures.refused refuses)

pub returns-in_err-numbers-3-clause-refused : goal.returns-in_err-numbers-3-clause-refused
returns-in_err-numbers-3-clause-refused c =
    let appends : rule_of c.action.result ≡ appended (codes "arguments") = search rules in
    let same = app_is c.new.result c.no_binary_name.result c.disable_help_flag.result c.in_ok-arg.field-0 c.in_ok-arg-2.field-0 c.in_ok-command.command
    c.action.result c.option.result c.option-2.result c.new.ensures.app c.no_binary_name.ensures c.disable_help_flag.ensures
    c.in_ok-arg.ensures appends c.in_ok-arg-2.ensures c.option.ensures c.in_ok-command.ensures c.option-2.ensures in
    let found = found_of c.in_ok-matches.matches in
    let spelled = parsed_by (app_of c.in_ok-command.command) (map (λ w. w.now) c.args.words.now) found same c.in_ok-matches.ensures.kinds
    (λ simple. (c.in_ok-matches.ensures.matches simple).0) in
    λ fails.
    let refuses : c.numbers-3.result ≡ Err refused.Refused = search rules in
    spelled ∙ no_walks found (ap numbers_in (sym (given_at found (codes "walks") c.get_raw-3.result c.get_raw-3.ensures)) ∙ c.numbers-3.ensures.refused refuses)

pub returns-clause-spelled : goal.returns-clause-spelled
returns-clause-spelled c =
    let appends : rule_of c.action.result ≡ appended (codes "arguments") = search rules in
    let same = app_is c.new.result c.no_binary_name.result c.disable_help_flag.result c.in_ok-arg.field-0 c.in_ok-arg-2.field-0 c.in_ok-command.command
    c.action.result c.option.result c.option-2.result c.new.ensures.app c.no_binary_name.ensures c.disable_help_flag.ensures
    c.in_ok-arg.ensures appends c.in_ok-arg-2.ensures c.option.ensures c.in_ok-command.ensures c.option-2.ensures in
    let found = found_of c.in_ok-matches.matches in
    let spelled = parsed_by (app_of c.in_ok-command.command) (map (λ w. w.now) c.args.words.now) found same c.in_ok-matches.ensures.kinds
    (λ simple. (c.in_ok-matches.ensures.matches simple).0) in
    spelled ∙ all_spelled found c.in_ok-numbers.field-0.items c.in_ok-numbers-2.field-0.items c.in_ok-numbers-3.field-0.items
    (ap numbers_in (sym (given_at found (codes "arguments") c.get_raw.result c.get_raw.ensures)) ∙ c.in_ok-numbers.ensures.spelled)
    (ap numbers_in (sym (given_at found (codes "pages") c.get_raw-2.result c.get_raw-2.ensures)) ∙ c.in_ok-numbers-2.ensures.spelled)
    (ap numbers_in (sym (given_at found (codes "walks") c.get_raw-3.result c.get_raw-3.ensures)) ∙ c.in_ok-numbers-3.ensures.spelled)
