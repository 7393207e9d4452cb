use Rattle.std.proofs.Common.{ℕ, ◌+◌, List, take, drop, replicate, ap, ◌∙◌, arith, rules, subst}
use Rattle.std.proofs.lemmas.List.{length-replicate}
use Rattle.nb_host.specs.Image.{overwritten}
use Rattle.nb_host.proofs.Callers.{leads_more, leads_again}
use Rattle.nb_journal.specs.Offsets.{offset_of, IsZeros}
use Rattle.nb_journal.proofs.Laid.{rest_is, length-rest, slot_step, page_step, slot_written, slot_stays, zeros_written, zeros_are, begun-last, begun-within}
use Rattle.nb_journal.proofs.Steps.{lays_both}
use Rattle.nb_journal.proofs.journal.lay.Goals as goal

pub returns-in_err-write_at-clause-ran : goal.returns-in_err-write_at-clause-ran
returns-in_err-write_at-clause-ran g c =
    let rest = rest_is c.args.entry c.spell-bytes.result c.spell-bytes.ensures in
    record {
      leads = leads_more c.in_err-write_at.ensures.ran.leads
          (λ start image step. slot_step c.args.entries (ap (λ (p : ℕ). p + 1) c.offset_of.ensures) (length-rest c.args.entry _ rest) step);
      count = search rules;
      rose = search rules;
      spared = search rules;
      tally = search rules;
    }

pub returns-then-entries-clause-laid : goal.returns-then-entries-clause-laid
returns-then-entries-clause-laid g c = λ tells page.
    let rest = rest_is c.args.entry c.spell-bytes.result c.spell-bytes.ensures in
    record {
      slot = slot_written c.args.entries c.args.entry _ _ _ _ (ap (λ (p : ℕ). p + 1) c.offset_of.ensures) rest
          (c.in_ok-write_at.ensures.written tells).file;
      page = λ last. absurd (c.if-entries.true last);
    }

pub returns-then-entries-clause-ran : goal.returns-then-entries-clause-ran
returns-then-entries-clause-ran g c =
    let rest = rest_is c.args.entry c.spell-bytes.result c.spell-bytes.ensures in
    record {
      leads = leads_more c.in_ok-write_at.ensures.ran.leads
          (λ start image step. slot_step c.args.entries (ap (λ (p : ℕ). p + 1) c.offset_of.ensures) (length-rest c.args.entry _ rest) step);
      count = search rules;
      rose = search rules;
      spared = search rules;
      tally = search rules;
    }

pub returns-in_err-write_at-2-clause-ran : goal.returns-in_err-write_at-2-clause-ran
returns-in_err-write_at-2-clause-ran g c =
    let rest = rest_is c.args.entry c.spell-bytes.result c.spell-bytes.ensures in
    record {
      leads = leads_again (λ a b d one two. lays_both one two)
          (leads_more c.in_ok-write_at.ensures.ran.leads
          (λ start image step. slot_step c.args.entries (ap (λ (p : ℕ). p + 1) c.offset_of.ensures) (length-rest c.args.entry _ rest) step))
          (leads_more c.in_err-write_at-2.ensures.ran.leads
          (λ start image step. page_step c.args.entries c.if-entries.false c.offset_of-2.ensures (length-replicate {A = ℕ} 4096 0) step));
      count = search rules;
      rose = search rules;
      spared = search rules;
      tally = search rules;
    }

pub returns-clause-laid : goal.returns-clause-laid
returns-clause-laid g c = λ tells page.
    let rest = rest_is c.args.entry c.spell-bytes.result c.spell-bytes.ensures in
    let between = (g.H.Host.meaning.contents c.write_at.new.self).file 2 in
    let new = (g.H.Host.meaning.contents c.write_at-2.new.self).file 2 in
    let put = (c.in_ok-write_at-2.ensures.written tells).file in
    let slot = slot_written c.args.entries c.args.entry _ _ _ between (ap (λ (p : ℕ). p + 1) c.offset_of.ensures) rest
    (c.in_ok-write_at.ensures.written tells).file in
    let lays = slot_step c.args.entries (ap (λ (p : ℕ). p + 1) c.offset_of.ensures) (length-rest c.args.entry _ rest)
    (c.in_ok-write_at.ensures.ran.leads.contents tells) in
    let zeros = zeros_written c.offset_of-2.result 4096 (replicate 4096 0) between new (omega arith)
    (length-replicate {A = ℕ} 4096 0) (zeros_are 4096) put in
    record {
      slot = slot_stays c.args.entries c.args.entry c.offset_of-2.result (replicate 4096 0) between new c.offset_of-2.ensures put
          (omega (arith, page, lays.file.no_shorter)) slot;
      page = λ last. subst (λ (a : ℕ). IsZeros a 4096 new) c.offset_of-2.ensures zeros;
    }

pub returns-clause-ran : goal.returns-clause-ran
returns-clause-ran g c =
    let rest = rest_is c.args.entry c.spell-bytes.result c.spell-bytes.ensures in
    record {
      leads = leads_again (λ a b d one two. lays_both one two)
          (leads_more c.in_ok-write_at.ensures.ran.leads
          (λ start image step. slot_step c.args.entries (ap (λ (p : ℕ). p + 1) c.offset_of.ensures) (length-rest c.args.entry _ rest) step))
          (leads_more c.in_ok-write_at-2.ensures.ran.leads
          (λ start image step. page_step c.args.entries c.if-entries.false c.offset_of-2.ensures (length-replicate {A = ℕ} 4096 0) step));
      count = search rules;
      rose = search rules;
      spared = search rules;
      tally = search rules;
    }

pub returns-then-entries-clause-written : goal.returns-then-entries-clause-written
returns-then-entries-clause-written g c = λ tells.
    let old = (g.H.Host.meaning.contents c.args.host.now).file 2 in
    let rest = rest_is c.args.entry c.spell-bytes.result c.spell-bytes.ensures in
    (c.in_ok-write_at.ensures.written tells).file
    ∙ ap (λ (a : ℕ). overwritten (a + 1) (take 31 (drop 1 c.spell-bytes.result)) old) c.offset_of.ensures
    ∙ ap (λ (w : List ℕ). overwritten (offset_of c.args.entries + 1) w old) rest
    ∙ begun-within c.args.entries _ c.if-entries.true

pub returns-clause-written : goal.returns-clause-written
returns-clause-written g c = λ tells.
    let old = (g.H.Host.meaning.contents c.args.host.now).file 2 in
    let rest = rest_is c.args.entry c.spell-bytes.result c.spell-bytes.ensures in
    let slot = (c.in_ok-write_at.ensures.written tells).file
    ∙ ap (λ (a : ℕ). overwritten (a + 1) (take 31 (drop 1 c.spell-bytes.result)) old) c.offset_of.ensures
    ∙ ap (λ (w : List ℕ). overwritten (offset_of c.args.entries + 1) w old) rest in
    (c.in_ok-write_at-2.ensures.written tells).file
    ∙ ap (λ (a : ℕ). overwritten a (replicate 4096 0) ((g.H.Host.meaning.contents c.write_at.new.self).file 2)) c.offset_of-2.ensures
    ∙ ap (λ (w : List ℕ). overwritten (offset_of (c.args.entries + 1)) (replicate 4096 0) w) slot
    ∙ begun-last c.args.entries _ c.if-entries.false
