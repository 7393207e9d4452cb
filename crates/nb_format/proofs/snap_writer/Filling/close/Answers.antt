use Rattle.std.proofs.Common.{[], ◌∷◌, subst, arith, rules}
use Rattle.nb_host.specs.Image.{Image, IsOverwritten, FileBecomes}
use Rattle.nb_host.proofs.Callers.{stays_contents}
use Rattle.nb_format.specs.Snapshot.{snapshot_gate}
use Rattle.nb_format.proofs.Writing.{gate_written}
use Rattle.nb_format.proofs.Closing.{stays_closes, closes_leads}
use Rattle.nb_format.proofs.snap_writer.Filling.close.Goals as goal

pub returns-in_err-sync-clause-ran : goal.returns-in_err-sync-clause-ran
returns-in_err-sync-clause-ran g c = record {
  leads = stays_closes c.in_err-sync.ensures.ran.leads;
  count = search rules;
  rose = search rules;
  spared = search rules;
  refused = search rules;
  synced = search rules;
  at_most = search rules;
}

pub returns-in_err-set_gate-clause-ran : goal.returns-in_err-set_gate-clause-ran
returns-in_err-set_gate-clause-ran g c = record {
  leads = closes_leads c.requires (omega arith) c.in_ok-sync.ensures.ran.leads c.in_ok-sync.ensures.durable c.in_err-set_gate.ensures.ran.leads;
  count = search rules;
  rose = search rules;
  spared = search rules;
  refused = search rules;
  synced = search rules;
  at_most = search rules;
}

pub returns-clause-ran : goal.returns-clause-ran
returns-clause-ran g c = record {
  leads = closes_leads c.requires (omega arith) c.in_ok-sync.ensures.ran.leads c.in_ok-sync.ensures.durable c.in_ok-set_gate.ensures.ran.leads;
  count = search rules;
  rose = search rules;
  spared = search rules;
  refused = search rules;
  synced = search rules;
  at_most = search rules;
}

pub returns-clause-finished : goal.returns-clause-finished
returns-clause-finished g c = λ bodies tells filled.
    let written = subst (λ (image : Image). FileBecomes c.args.self.file (IsOverwritten 0 (snapshot_gate ∷ [])) image (g.H.Host.meaning.contents c.set_gate.new.host)) (stays_contents c.in_ok-sync.ensures.ran.leads) (c.in_ok-set_gate.ensures.set tells) in
    gate_written c.args.self _ _ bodies filled c.requires (omega arith) written
