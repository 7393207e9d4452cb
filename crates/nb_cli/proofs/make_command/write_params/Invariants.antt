use Rattle.std.proofs.Common.{◌≡◌, ◌≤◌, ◌*◌, [], length, IsTrue}
use Rattle.nb_host.specs.Image.{FileBecomes}
use Rattle.nb_host.specs.Meaning.{Leads}
use Rattle.nb_format.specs.ParamsText.{canonical_line}
use Rattle.nb_engine.specs.Files.{params_file}
use Rattle.nb_cli.specs.OnceAnswer.{BecomesAny}
use Rattle.nb_cli.proofs.Making.{joined}
use Rattle.nb_cli.proofs.make_command.write_params.Given as goal

abbrev pub invariant-loop-which : goal.invariant-loop-which
invariant-loop-which g l = let m = g.H.Host.meaning in record {
  ends : l.end ≡ length (joined (canonical_line l.params) l.which);
  small : l.end ≤ 128 * l.which;
  text : IsTrue m.tells → (m.contents l.fn.host).file params_file ≡ []
      → (m.contents l.host).file params_file ≡ joined (canonical_line l.params) l.which;
  leads : Leads m (FileBecomes params_file BecomesAny) l.fn.host l.host;
  faults : m.faults l.host ≡ m.faults l.fn.host;
  tally : m.tally l.host ≡ m.tally l.fn.host;
}
