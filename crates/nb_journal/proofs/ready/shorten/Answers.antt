use Rattle.std.proofs.Common.{length, ap, ◌∙◌, arith, rules, length-take}
use Rattle.nb_host.specs.Image.{Image, IsPartlyCut}
use Rattle.nb_host.proofs.Callers.{leads_after, leads_before, stays_contents, becomes_itself, partly_cut_by_nothing, syncing_told}
use Rattle.nb_journal.proofs.Steps.{long_syncs}
use Rattle.nb_journal.proofs.ready.shorten.Goals as goal

pub returns-in_err-sync-clause-ran : goal.returns-in_err-sync-clause-ran
returns-in_err-sync-clause-ran g c =
    syncing_told {one = 1}
    (λ tells. long_syncs ((g.H.Host.meaning.contents c.args.host.now).file 2)
    (omega (arith, c.in_ok-len.ensures.length tells, c.if-branch-le-PAGE_LENGTH.false)))
    (record {
      leads = leads_after
          (leads_before (λ image. becomes_itself 2 (IsPartlyCut 4096) image (partly_cut_by_nothing 4096 (image.file 2)))
          c.in_ok-len.ensures.ran.leads c.in_ok-cut.ensures.ran.leads)
          c.in_err-sync.ensures.ran.leads;
      count = search rules;
      rose = search rules;
      spared = search rules;
      refused = search rules;
      synced = search rules;
      at_most = search rules;
    })

pub returns-clause-short : goal.returns-clause-short
returns-clause-short g c = λ tells.
    let is = ap (λ (i : Image). i.file 2) (stays_contents c.in_ok-sync.ensures.ran.leads) ∙ (c.in_ok-cut.ensures.cut tells).file in
    let short = length-take 4096 ((g.H.Host.meaning.contents c.len.new.self).file 2) in
    omega (arith, ap length is, short)

pub returns-clause-ran : goal.returns-clause-ran
returns-clause-ran g c =
    syncing_told {one = 1}
    (λ tells. long_syncs ((g.H.Host.meaning.contents c.args.host.now).file 2)
    (omega (arith, c.in_ok-len.ensures.length tells, c.if-branch-le-PAGE_LENGTH.false)))
    (record {
      leads = leads_after
          (leads_before (λ image. becomes_itself 2 (IsPartlyCut 4096) image (partly_cut_by_nothing 4096 (image.file 2)))
          c.in_ok-len.ensures.ran.leads c.in_ok-cut.ensures.ran.leads)
          c.in_ok-sync.ensures.ran.leads;
      count = search rules;
      rose = search rules;
      spared = search rules;
      refused = search rules;
      synced = search rules;
      at_most = search rules;
    })
