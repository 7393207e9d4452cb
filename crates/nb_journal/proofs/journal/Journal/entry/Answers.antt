use Rattle.std.proofs.Common.{◌≡◌, ℕ, ◌<◌, length, sym, ap, ◌∙◌, arith}
use Rattle.nb_host.specs.Image.{readable}
use Rattle.nb_host.specs.Meaning.{asked_of_none}
use Rattle.nb_journal.specs.Counters.{Counters}
use Rattle.nb_journal.specs.Form.{entry_bytes}
use Rattle.nb_journal.proofs.Indexed.{entry_has, slot_whole, slot_bytes, entry_got}
use Rattle.nb_journal.proofs.journal.Journal.entry.Goals as goal

pub returns-then-got-lt-ENTRY_LENGTH-clause-damaged : goal.returns-then-got-lt-ENTRY_LENGTH-clause-damaged
returns-then-got-lt-ENTRY_LENGTH-clause-damaged g c = λ offset is.
    let here : c.offset_of-offset.result ≡ offset = cc in
    record {
      here = sym here ∙ c.offset_of-offset.ensures;
      cause = λ tells found.
          let file = (g.H.Host.meaning.contents c.args.host.now).file 2 in
          let within : c.args.index < length found.log.entries =
          omega (arith, c.requires, ap (λ (k : Counters). k.entries) found.answers) in
          let whole = c.in_ok-got.ensures.whole tells ∙ ap (λ (p : ℕ). length (readable p 32 file)) c.offset_of-offset.ensures in
          absurd (omega (arith, slot_whole found.log c.args.index file found.journal within whole, c.if-got-lt-ENTRY_LENGTH.true));
    }

pub returns-then-not-spells-clause-damaged : goal.returns-then-not-spells-clause-damaged
returns-then-not-spells-clause-damaged g c = λ offset is.
    let here : c.offset_of-offset.result ≡ offset = cc in
    record {
      here = sym here ∙ c.offset_of-offset.ensures;
      cause = λ tells found.
          let file = (g.H.Host.meaning.contents c.args.host.now).file 2 in
          let within : c.args.index < length found.log.entries =
          omega (arith, c.requires, ap (λ (k : Counters). k.entries) found.answers) in
          let whole = c.in_ok-got.ensures.whole tells ∙ ap (λ (p : ℕ). length (readable p 32 file)) c.offset_of-offset.ensures in
          let read = c.in_ok-got.ensures.bytes tells ∙ ap (λ (p : ℕ). readable p 32 file) c.offset_of-offset.ensures in
          let bytes = slot_bytes found.log c.args.index file c.read_at.new.into found.journal within c.spells.ensures.long whole read in
          let parsed = c.parse-entry.ensures _ (entry_has found.log c.args.index found.journal.lawful within) bytes in
          asked_of_none (c.if-not-spells.ensures.spelled.1 (bytes ∙ ap entry_bytes (sym parsed)));
    }

pub returns-clause-entry : goal.returns-clause-entry
returns-clause-entry g c = λ tells log answers journal.
    let file = (g.H.Host.meaning.contents c.args.host.now).file 2 in
    let within : c.args.index < length log.entries =
    omega (arith, c.requires, ap (λ (k : Counters). k.entries) answers) in
    let whole = c.in_ok-got.ensures.whole tells ∙ ap (λ (p : ℕ). length (readable p 32 file)) c.offset_of-offset.ensures in
    let read = c.in_ok-got.ensures.bytes tells ∙ ap (λ (p : ℕ). readable p 32 file) c.offset_of-offset.ensures in
    let bytes = slot_bytes log c.args.index file c.read_at.new.into journal within c.spells.ensures.long whole read in
    entry_got log c.args.index within (c.parse-entry.ensures _ (entry_has log c.args.index journal.lawful within) bytes)
