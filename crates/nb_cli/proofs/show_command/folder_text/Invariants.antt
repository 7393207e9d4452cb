use Rattle.std.proofs.Common.{◌≡◌, ◌≤◌, ◌++◌}
use Rattle.nb_format.specs.Lines.{folder_line}
use Rattle.nb_format.specs.ParamsText.{canonical_line}
use Rattle.nb_cli.proofs.Shown.{first_of}
use Rattle.nb_cli.proofs.show_command.folder_text.Given as goal

abbrev pub invariant-loop-which : goal.invariant-loop-which
invariant-loop-which l = record {
  said : l.text.items ≡ folder_line l.shown.time l.shown.ticks l.shown.target l.shown.count l.shown.gone ++ first_of (canonical_line l.shown.params) l.which;
  some : l.which ≤ 7;
}
