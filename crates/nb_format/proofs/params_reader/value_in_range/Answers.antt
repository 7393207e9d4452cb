use Rattle.std.proofs.Common.{◌≡◌, rules}
use Rattle.nb_format.specs.ParamsText.{is_in_range}
use Rattle.nb_format.proofs.ParamsLines.{value-out_of_range}
use Rattle.nb_format.proofs.params_reader.value_in_range.Goals as goal

pub returns-else-least-value : goal.returns-else-least-value
returns-else-least-value c =
    let same : c.in_ok-value.value ≡ c.args.value = search rules in
    value-out_of_range (is_in_range c.args.which c.args.value) c.range_of-least.result.0 c.in_ok-value.value c.range_of-least.result.1 c.args.value same (c.range_of-least.ensures c.args.value) c.else-least-value.either
