use Rattle.std.proofs.Common.{◌≡◌, ◌≤◌, ◌*◌, ◌^◌, List, length}
use Rattle.nb_model.specs.declared.body.Body.{Body}
use Rattle.nb_cli.specs.Demo.{coordinate_sum}
use Rattle.nb_cli.proofs.ReadingBack.{HasReadBack}
use Rattle.nb_cli.proofs.demo_command.sum_coordinates.Given as goal

abbrev pub invariant-loop-index : goal.invariant-loop-index
invariant-loop-index g l = record {
  bodies : List Body;
  read : HasReadBack g.H.Host.meaning l.fn.file l.initial.reader l.fn.host l.reader l.host bodies;
  count : length bodies ≡ l.index;
  sum_is : l.sum ≡ coordinate_sum bodies;
  small : l.sum ≤ l.index * 2 ^ 42;
}
