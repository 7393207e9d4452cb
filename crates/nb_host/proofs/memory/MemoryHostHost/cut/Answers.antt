use Rattle.std.proofs.Common.{rules, arith}
use Rattle.std.proofs.lemmas.Grind.{common_steps}
use Rattle.nb_host.specs.Memory.{events_of}
use Rattle.nb_host.proofs.DiskSteps.{follows_cut}
use Rattle.nb_host.proofs.memory.MemoryHostHost.cut.Goals as goal

pub returns-clause-ran : goal.returns-clause-ran
returns-clause-ran c = record {
  leads = record {
    contents = grind (arith, common_steps);
    images = follows_cut events_of c.args.self.now _ c.args.file c.args.len c.in_ok-cut.ensures.ok;
  };
  count = search rules;
  rose = search rules;
  spared = search rules;
  tally = search rules;
}
