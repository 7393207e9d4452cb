use Rattle.std.proofs.Common.{◌≡◌, ◌+◌, IsTrue, length, take}
use Rattle.nb_host.specs.Image.{FileBecomes}
use Rattle.nb_host.specs.Meaning.{Leads}
use Rattle.nb_cli.specs.Once.{once_file}
use Rattle.nb_cli.specs.OnceAnswer.{BecomesAny}
use Rattle.nb_cli.proofs.Writing.{HasTaken}
use Rattle.nb_cli.proofs.once_command.write_bodies.Given as goal

abbrev pub invariant-loop-body : goal.invariant-loop-body
invariant-loop-body g l = let m = g.H.Host.meaning in record {
  taken : HasTaken m.tells (m.contents l.host) (length l.bodies) l.time l.filling (take l.body-index l.bodies);
  leads : Leads m (FileBecomes once_file BecomesAny) l.fn.host l.host;
  faults : m.faults l.host ≡ m.faults l.fn.host;
  refused : (m.tally l.host).refused_says ≡ (m.tally l.fn.host).refused_says;
  synced : IsTrue m.tells → (m.tally l.host).syncs ≡ (m.tally l.fn.host).syncs + 3;
}
