-- A sync that succeeds leaves what reads as the only image.
use Rattle.std.proofs.Common.{rules}
use Rattle.nb_host.specs.Memory.{events_of}
use Rattle.nb_host.proofs.Calls.{on_ok_always}
use Rattle.nb_host.proofs.DiskSteps.{sync_durable, follows_sync}
use Rattle.nb_host.proofs.memory.MemoryHostHost.sync.Goals as goal

pub returns-clause-ran : goal.returns-clause-ran
returns-clause-ran c = record {
  leads = record {
    contents = search rules;
    images = follows_sync events_of c.args.self.now _ c.in_ok-sync.ensures.ok;
  };
  count = search rules;
  rose = search rules;
  spared = search rules;
  refused = search rules;
  synced = λ _ _. search rules;
  at_most = λ _. search rules;
}

pub returns-clause-durable : goal.returns-clause-durable
returns-clause-durable c =
    on_ok_always c.end-2.result (λ image _ is. sync_durable (events_of c.args.self.now) _ c.in_ok-sync.ensures.ok image is)
