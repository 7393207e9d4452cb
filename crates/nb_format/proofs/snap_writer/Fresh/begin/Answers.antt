use Rattle.std.proofs.Common.{◌≡◌, List, ℕ, take, ap, ◌∙◌, drop, rules}
use Rattle.nb_host.specs.Image.{overwritten}
use Rattle.nb_host.proofs.Callers.{becomes_then}
use Rattle.nb_format.specs.Snapshot.{header_bytes}
use Rattle.nb_format.specs.Writer.{fresh_plan}
use Rattle.nb_format.proofs.Writing.{begun_is, behind_gate}
use Rattle.nb_format.proofs.Closing.{header_leads, header_shut}
use Rattle.nb_format.proofs.snap_writer.Fresh.begin.Goals as goal

pub returns-clause-begun : goal.returns-clause-begun
returns-clause-begun g c = λ tells.
    let rest : take 31 (drop 1 c.encode-header.result) ≡ drop 1 (header_bytes c.args.self.count c.args.self.time) =
    ap (λ (w : List ℕ). take 31 (drop 1 w)) c.encode-header.ensures ∙ behind_gate c.args.self.count c.args.self.time in
    becomes_then (c.in_ok-shut.ensures.shut tells) (c.in_ok-write_at.ensures.written tells)
    (λ before between after is put. begun_is (fresh_plan c.args.self) between after is (put ∙ ap (λ (w : List ℕ). overwritten 1 w between) rest))

pub returns-clause-shut : goal.returns-clause-shut
returns-clause-shut g c =
    header_shut (λ tells. (c.in_ok-shut.ensures.shut tells).file) c.in_ok-shut.ensures.durable c.in_ok-write_at.ensures.ran.leads

pub returns-in_err-write_at-clause-ran : goal.returns-in_err-write_at-clause-ran
returns-in_err-write_at-clause-ran g c = record {
  leads = header_leads c.in_ok-shut.ensures.ran.leads (λ tells. (c.in_ok-shut.ensures.shut tells).file) c.in_ok-shut.ensures.durable
      c.in_err-write_at.ensures.ran.leads;
  count = search rules;
  rose = search rules;
  spared = search rules;
  refused = search rules;
  synced = search rules;
  at_most = search rules;
}

pub returns-clause-ran : goal.returns-clause-ran
returns-clause-ran g c = record {
  leads = header_leads c.in_ok-shut.ensures.ran.leads (λ tells. (c.in_ok-shut.ensures.shut tells).file) c.in_ok-shut.ensures.durable
      c.in_ok-write_at.ensures.ran.leads;
  count = search rules;
  rose = search rules;
  spared = search rules;
  refused = search rules;
  synced = search rules;
  at_most = search rules;
}
