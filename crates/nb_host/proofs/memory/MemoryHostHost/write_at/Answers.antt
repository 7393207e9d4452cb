-- Whether all of the bytes were written or the first half of them, the range of all of them is unsynced.
use Rattle.std.proofs.Common.{rules}
use Rattle.nb_host.specs.Memory.{events_of}
use Rattle.nb_host.proofs.DiskSteps.{torn_event, follows_write}
use Rattle.nb_host.proofs.memory.MemoryHostHost.write_at.Goals as goal

pub returns-clause-ran : goal.returns-clause-ran
returns-clause-ran c =
    let written = c.in_ok-write.ensures.ok in
    let old = c.args.self.now in
    let bytes = c.args.bytes.now in
    record {
      leads = record {
        contents = λ _. torn_event (events_of old) _ c.args.file c.args.at bytes c.part_of.result written;
        images = follows_write events_of old _ c.args.file c.args.at bytes c.part_of.result written;
      };
      count = search rules;
      rose = search rules;
      spared = search rules;
      tally = search rules;
    }
