use Rattle.std.proofs.Common.{ap, ◌∙◌, rules}
use Rattle.nb_format.specs.ParamsText.{text_without_edge}
use Rattle.nb_cli.specs.Make.{made_params}
use Rattle.nb_cli.proofs.Making.{begun_by, begun_stays, leads_begun, leads_made, text_read, made_from}
use Rattle.nb_cli.proofs.make_command.make.Goals as goal

-- What it leaves at each moment.

pub returns-in_err-write_params-clause-ran : goal.returns-in_err-write_params-clause-ran
returns-in_err-write_params-clause-ran g c =
    let begun = begun_by c.requires.durable c.find_neither.ensures.ran.leads c.in_ok-find_neither.ensures.neither c.write_params.ensures.ran.leads in
    record {
      leads = leads_begun c.args.seed c.args.count begun;
      count = search rules;
      rose = search rules;
      spared = search rules;
      refused = search rules;
      synced = search rules;
      at_most = search rules;
    }

pub returns-in_err-sync-clause-ran : goal.returns-in_err-sync-clause-ran
returns-in_err-sync-clause-ran g c =
    let begun = begun_by c.requires.durable c.find_neither.ensures.ran.leads c.in_ok-find_neither.ensures.neither c.write_params.ensures.ran.leads in
    let ready = begun_stays begun c.sync.ensures.ran.leads in
    record {
      leads = leads_begun c.args.seed c.args.count ready;
      count = search rules;
      rose = search rules;
      spared = search rules;
      refused = search rules;
      synced = search rules;
      at_most = search rules;
    }

pub returns-in_err-write_bodies-clause-ran : goal.returns-in_err-write_bodies-clause-ran
returns-in_err-write_bodies-clause-ran g c =
    let begun = begun_by c.requires.durable c.find_neither.ensures.ran.leads c.in_ok-find_neither.ensures.neither c.write_params.ensures.ran.leads in
    let ready = begun_stays begun c.sync.ensures.ran.leads in
    let text = text_read (text_without_edge (made_params c.args.count)) c.find_neither.ensures.ran.leads c.in_ok-find_neither.ensures.neither
    (λ tells none. c.in_ok-write_params.ensures.written tells none ∙ ap text_without_edge c.made_params.ensures.value) c.sync.ensures.ran.leads in
    record {
      leads = leads_made c.args.seed c.args.count ready c.in_ok-sync.ensures.durable text c.write_bodies.ensures.ran.leads;
      count = search rules;
      rose = search rules;
      spared = search rules;
      refused = search rules;
      synced = search rules;
      at_most = search rules;
    }

pub returns-clause-ran : goal.returns-clause-ran
returns-clause-ran g c =
    let begun = begun_by c.requires.durable c.find_neither.ensures.ran.leads c.in_ok-find_neither.ensures.neither c.write_params.ensures.ran.leads in
    let ready = begun_stays begun c.sync.ensures.ran.leads in
    let text = text_read (text_without_edge (made_params c.args.count)) c.find_neither.ensures.ran.leads c.in_ok-find_neither.ensures.neither
    (λ tells none. c.in_ok-write_params.ensures.written tells none ∙ ap text_without_edge c.made_params.ensures.value) c.sync.ensures.ran.leads in
    record {
      leads = leads_made c.args.seed c.args.count ready c.in_ok-sync.ensures.durable text c.write_bodies.ensures.ran.leads;
      count = search rules;
      rose = search rules;
      spared = search rules;
      refused = search rules;
      synced = search rules;
      at_most = search rules;
    }

-- What it has made.

pub returns-clause-done : goal.returns-clause-done
returns-clause-done g c =
    let begun = begun_by c.requires.durable c.find_neither.ensures.ran.leads c.in_ok-find_neither.ensures.neither c.write_params.ensures.ran.leads in
    let ready = begun_stays begun c.sync.ensures.ran.leads in
    let text = text_read (text_without_edge (made_params c.args.count)) c.find_neither.ensures.ran.leads c.in_ok-find_neither.ensures.neither
    (λ tells none. c.in_ok-write_params.ensures.written tells none ∙ ap text_without_edge c.made_params.ensures.value) c.sync.ensures.ran.leads in
    made_from c.args.seed c.args.count ready text c.in_ok-write_bodies.ensures.written
