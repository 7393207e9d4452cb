-- A say that was refused counts once on its channel, and no other does.
use Rattle.std.proofs.Common.{sym, inl, inr, rules, arith}
use Rattle.std.proofs.lemmas.Grind.{common_steps}
use Rattle.nb_host.specs.Channels.{refused_on}
use Rattle.nb_host.specs.Memory.{events_of}
use Rattle.nb_host.proofs.DiskSteps.{says_none, says_event, follows_unsaid, follows_say}
use Rattle.nb_host.proofs.Calls.{counts_no_refusal, counts_refusal, counts_refusal_once}
use Rattle.nb_host.proofs.memory.MemoryHostHost.say.Goals as goal

pub returns-then-is_ok-clause-spoke : goal.returns-then-is_ok-clause-spoke
returns-then-is_ok-clause-spoke c =
    let spoken = c.speak-answer in
    let old = c.args.self.now in
    let channel = c.args.channel in
    let bytes = c.args.bytes.now in
    record {
      said = grind (arith, common_steps);
      leads = elim spoken.ensures.spoken [
        | inl same ↦ record {
          contents = λ _. says_none (events_of old) _ channel bytes same;
          images = follows_unsaid events_of old _ channel bytes same;
        }
        | inr said ↦ record {
          contents = λ _. says_event (events_of old) _ channel bytes said.0 said.1;
          images = follows_say events_of old _ channel bytes said.0 said.1;
        }
      ];
      nothing = search rules;
      count = search rules;
      rose = search rules;
      spared = search rules;
      refused = λ _.
          counts_no_refusal channel _ _ spoken.result (sym c.if-is_ok.ensures.value) spoken.ensures.refused;
      syncs = search rules;
    }

-- Whether the first half of the bytes was said, or none: the first of them were said.
pub returns-clause-spoke : goal.returns-clause-spoke
returns-clause-spoke c =
    let spoken = c.speak-answer in
    let counted = c.count.ensures in
    let old = c.args.self.now in
    let channel = c.args.channel in
    let bytes = c.args.bytes.now in
    record {
      said = grind (arith, common_steps);
      leads = elim spoken.ensures.spoken [
        | inl same ↦ record {
          contents = λ _. says_none (events_of old) _ channel bytes same;
          images = follows_unsaid events_of old _ channel bytes same;
        }
        | inr said ↦ record {
          contents = λ _. says_event (events_of old) _ channel bytes said.0 said.1;
          images = follows_say events_of old _ channel bytes said.0 said.1;
        }
      ];
      nothing = search rules;
      count = search rules;
      rose = search rules;
      spared = search rules;
      refused = λ _.
          counts_refusal channel _ _ _ spoken.result (sym c.if-is_ok.ensures.value) spoken.ensures.refused
          counted.no_less counted.count counted.others;
      syncs = search rules;
    }

pub returns-clause-refused_once : goal.returns-clause-refused_once
returns-clause-refused_once c =
    let spoken = c.speak-answer in
    counts_refusal_once c.args.channel _ _ (refused_on c.count.new.self) spoken.result
    spoken.ensures.refused c.count.ensures.count
