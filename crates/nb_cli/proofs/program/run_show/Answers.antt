use Rattle.std.proofs.Common.{rules, ◌≡◌, Err, ◌∙◌}
use Rattle.nb_host.proofs.Callers.{stays_contents}
use Rattle.nb_engine.specs.Refusal.{of_host}
use Rattle.nb_engine.specs.declared.refusal.Refusal.TheVariants as refusal
use Rattle.nb_cli.specs.declared.words.Job.TheVariants as job
use Rattle.nb_cli.proofs.Runs.{unsynced_run, begun_run, still_run, to_show, leads_shown, durable_said}
use Rattle.nb_cli.proofs.program.run_show.Goals as goal

pub returns-in_err-sync-clause-run : goal.returns-in_err-sync-clause-run
returns-in_err-sync-clause-run g c =
    let handed_on : c.from_residual.result ≡ Err (of_host c.in_err-sync.field-0.0) = search rules in
    rw handed_on (unsynced_run g.H.Host.meaning job.Show c.in_err-sync.field-0.0 c.in_err-sync.ensures.ran.leads)

pub returns-in_err-shown-clause-run : goal.returns-in_err-shown-clause-run
returns-in_err-shown-clause-run g c =
    let why = c.in_err-shown.field-0.0 in
    let handed_on : c.from_residual-in_err-shown.result ≡ Err why = search rules in
    rw handed_on
    (begun_run g.H.Host.meaning job.Show why (record {
      synced = c.sync.new.self;
      before = c.in_ok-sync.ensures.ran.leads;
      durable = c.in_ok-sync.ensures.durable;
      since = still_run job.Show c.in_err-shown.ensures.ran.leads;
    }))

pub returns-in_err-text-clause-run : goal.returns-in_err-text-clause-run
returns-in_err-text-clause-run g c =
    let handed_on : c.from_residual-in_err-text.result ≡ Err refusal.NoMemory = search rules in
    rw handed_on
    (begun_run g.H.Host.meaning job.Show refusal.NoMemory (record {
      synced = c.sync.new.self;
      before = c.in_ok-sync.ensures.ran.leads;
      durable = c.in_ok-sync.ensures.durable;
      since = still_run job.Show c.in_ok-shown.ensures.ran.leads;
    }))

pub returns-in_err-say-clause-run : goal.returns-in_err-say-clause-run
returns-in_err-say-clause-run g c =
    let why = of_host c.in_err-say.field-0.0 in
    let handed_on : c.from_residual-in_err-say.result ≡ Err why = search rules in
    rw handed_on
    (begun_run g.H.Host.meaning job.Show why (record {
      synced = c.sync.new.self;
      before = c.in_ok-sync.ensures.ran.leads;
      durable = c.in_ok-sync.ensures.durable;
      since = leads_shown c.deref.result.now c.in_ok-shown.ensures.ran.leads
          (λ tells. to_show c.deref.result.now (stays_contents c.in_ok-sync.ensures.ran.leads) (c.in_ok-shown.ensures.shown tells)
          (c.deref.ensures.value ∙ c.in_ok-text.ensures))
          c.in_err-say.ensures.spoke.leads;
    }))

pub returns-clause-durable : goal.returns-clause-durable
returns-clause-durable g c =
    durable_said g.H.Host.meaning c.in_ok-sync.ensures.durable c.in_ok-shown.ensures.ran.leads c.in_ok-say.ensures.spoke.leads

pub returns-clause-begun : goal.returns-clause-begun
returns-clause-begun g c = record {
  synced = c.sync.new.self;
  before = c.in_ok-sync.ensures.ran.leads;
  durable = c.in_ok-sync.ensures.durable;
  since = leads_shown c.deref.result.now c.in_ok-shown.ensures.ran.leads
      (λ tells. to_show c.deref.result.now (stays_contents c.in_ok-sync.ensures.ran.leads) (c.in_ok-shown.ensures.shown tells)
      (c.deref.ensures.value ∙ c.in_ok-text.ensures))
      c.in_ok-say.ensures.spoke.leads;
}
