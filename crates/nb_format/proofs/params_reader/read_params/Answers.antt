use Rattle.std.proofs.Common.{◌≡◌, rules}
use Rattle.nb_format.specs.ParamsText.{params_of}
use Rattle.nb_format.proofs.ParamsValues.{params_of-in_range, params_of-names}
use Rattle.nb_format.proofs.params_reader.read_params.Goals as goal

pub returns-in_err-read_lines-clause-missing : goal.returns-in_err-read_lines-clause-missing
returns-in_err-read_lines-clause-missing c =
    let reads : c.from_residual.result ≡ params_of c.args.text.now = search rules in
    rw reads (params_of-names c.args.text.now)

pub returns-clause-in_range : goal.returns-clause-in_range
returns-clause-in_range c =
    let reads : c.complete.result ≡ params_of c.args.text.now = search rules in
    rw reads (params_of-in_range c.args.text.now)
