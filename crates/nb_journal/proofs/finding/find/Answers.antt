use Rattle.std.proofs.Common.{◌≡◌, ℕ, ◌<◌, inl, length, refl, sym, ap, subst, ◌∙◌, arith, rules}
use Rattle.std.proofs.lemmas.List.{length-replicate}
use Rattle.nb_host.specs.Image.{Image}
use Rattle.nb_host.proofs.Callers.{stays_both, stays_contents}
use Rattle.nb_journal.specs.Counters.{Counters}
use Rattle.nb_journal.specs.Reading.{IsReadTo}
use Rattle.nb_journal.proofs.Found.{rest_refused}
use Rattle.nb_journal.proofs.Headings.{page_whole, page_bytes, page_header, page_begins}
use Rattle.nb_journal.proofs.finding.find.Goals as goal

pub returns-then-got-lt-PAGE_SIZE-clause-found : goal.returns-then-got-lt-PAGE_SIZE-clause-found
returns-then-got-lt-PAGE_SIZE-clause-found g c = λ tells.
    let file = (g.H.Host.meaning.contents c.args.host.now).file 2 in
    let later = (g.H.Host.meaning.contents c.len.new.self).file 2 in
    let same : later ≡ file = ap (λ (i : Image). i.file 2) (stays_contents c.in_ok-len.ensures.ran.leads) in
    let long : c.in_ok-len.len ≡ length file = c.in_ok-len.ensures.length tells in
    let whole : c.in_ok-got.got ≡ 4096 =
    page_whole file later same long c.if-len-le-PAGE_LENGTH.false (c.in_ok-got.ensures.whole tells) in
    absurd (omega (arith, whole, c.if-got-lt-PAGE_SIZE.true))

pub returns-then-got-lt-PAGE_SIZE-clause-ran : goal.returns-then-got-lt-PAGE_SIZE-clause-ran
returns-then-got-lt-PAGE_SIZE-clause-ran g c = record {
  leads = stays_both c.in_ok-len.ensures.ran.leads c.in_ok-got.ensures.ran.leads;
  count = search rules;
  rose = search rules;
  spared = search rules;
  tally = search rules;
}

pub returns-then-page-ne-STARTED-clause-ran : goal.returns-then-page-ne-STARTED-clause-ran
returns-then-page-ne-STARTED-clause-ran g c = record {
  leads = stays_both c.in_ok-len.ensures.ran.leads c.in_ok-got.ensures.ran.leads;
  count = search rules;
  rose = search rules;
  spared = search rules;
  tally = search rules;
}

pub returns-in-None-clause-found : goal.returns-in-None-clause-found
returns-in-None-clause-found g c = λ tells.
    let file = (g.H.Host.meaning.contents c.args.host.now).file 2 in
    let later = (g.H.Host.meaning.contents c.len.new.self).file 2 in
    let same : later ≡ file = ap (λ (i : Image). i.file 2) (stays_contents c.in_ok-len.ensures.ran.leads) in
    let long : c.in_ok-len.len ≡ length file = c.in_ok-len.ensures.length tells in
    let whole : c.in_ok-got.got ≡ 4096 =
    page_whole file later same long c.if-len-le-PAGE_LENGTH.false (c.in_ok-got.ensures.whole tells) in
    let room : length c.read_at.new.into ≡ 4096 = omega (arith, c.read_at.auto.into, length-replicate {A = ℕ} 4096 0) in
    let bytes = page_bytes file later c.read_at.new.into same whole (c.in_ok-got.ensures.bytes tells) in
    let more : 4096 < length file = omega (arith, long, c.if-len-le-PAGE_LENGTH.false) in
    record {
      started = record { long = more; gate = sym (bytes 0 (omega arith)) ∙ c.if-page-ne-STARTED.false };
      wrong = inl (
        refl,
        λ log lawful begins.
            c.in-None.ensures.none refl log lawful (page_header log file c.read_at.new.into room bytes begins),
      );
    }

pub returns-in-Ok-clause-found : goal.returns-in-Ok-clause-found
returns-in-Ok-clause-found g c = λ tells.
    let file = (g.H.Host.meaning.contents c.args.host.now).file 2 in
    let later = (g.H.Host.meaning.contents c.len.new.self).file 2 in
    let same : later ≡ file = ap (λ (i : Image). i.file 2) (stays_contents c.in_ok-len.ensures.ran.leads) in
    let long : c.in_ok-len.len ≡ length file = c.in_ok-len.ensures.length tells in
    let whole : c.in_ok-got.got ≡ 4096 =
    page_whole file later same long c.if-len-le-PAGE_LENGTH.false (c.in_ok-got.ensures.whole tells) in
    let room : length c.read_at.new.into ≡ 4096 = omega (arith, c.read_at.auto.into, length-replicate {A = ℕ} 4096 0) in
    let bytes = page_bytes file later c.read_at.new.into same whole (c.in_ok-got.ensures.bytes tells) in
    let more : 4096 < length file = omega (arith, long, c.if-len-le-PAGE_LENGTH.false) in
    let still : (g.H.Host.meaning.contents c.read_at.new.self).file 2 ≡ file =
    ap (λ (i : Image). i.file 2) (stays_contents (stays_both c.in_ok-len.ensures.ran.leads c.in_ok-got.ensures.ran.leads)) in
    let read : IsReadTo file c.begun.result =
    subst (λ (k : Counters). IsReadTo file k) (sym c.begun.ensures)
    (page_begins c.in-Some.heading file c.read_at.new.into more bytes c.in-Some.ensures.some.0 c.in-Some.ensures.some.1) in
    c.in-Ok.ensures.found file tells still long (record { long = more; gate = sym (bytes 0 (omega arith)) ∙ c.if-page-ne-STARTED.false }) read

pub returns-in-Ok-clause-ran : goal.returns-in-Ok-clause-ran
returns-in-Ok-clause-ran g c = record {
  leads = stays_both (stays_both c.in_ok-len.ensures.ran.leads c.in_ok-got.ensures.ran.leads) c.in-Ok.ensures.ran.leads;
  count = search rules;
  rose = search rules;
  spared = search rules;
  tally = search rules;
}

pub returns-in-Err-clause-found : goal.returns-in-Err-clause-found
returns-in-Err-clause-found g c = λ tells.
    let file = (g.H.Host.meaning.contents c.args.host.now).file 2 in
    let later = (g.H.Host.meaning.contents c.len.new.self).file 2 in
    let same : later ≡ file = ap (λ (i : Image). i.file 2) (stays_contents c.in_ok-len.ensures.ran.leads) in
    let long : c.in_ok-len.len ≡ length file = c.in_ok-len.ensures.length tells in
    let whole : c.in_ok-got.got ≡ 4096 =
    page_whole file later same long c.if-len-le-PAGE_LENGTH.false (c.in_ok-got.ensures.whole tells) in
    let room : length c.read_at.new.into ≡ 4096 = omega (arith, c.read_at.auto.into, length-replicate {A = ℕ} 4096 0) in
    let bytes = page_bytes file later c.read_at.new.into same whole (c.in_ok-got.ensures.bytes tells) in
    let more : 4096 < length file = omega (arith, long, c.if-len-le-PAGE_LENGTH.false) in
    let still : (g.H.Host.meaning.contents c.read_at.new.self).file 2 ≡ file =
    ap (λ (i : Image). i.file 2) (stays_contents (stays_both c.in_ok-len.ensures.ran.leads c.in_ok-got.ensures.ran.leads)) in
    let read : IsReadTo file c.begun.result =
    subst (λ (k : Counters). IsReadTo file k) (sym c.begun.ensures)
    (page_begins c.in-Some.heading file c.read_at.new.into more bytes c.in-Some.ensures.some.0 c.in-Some.ensures.some.1) in
    rest_refused file c.in-Err.error (c.in-Err.ensures.found file tells still long (record { long = more; gate = sym (bytes 0 (omega arith)) ∙ c.if-page-ne-STARTED.false }) read)

pub returns-in-Err-clause-ran : goal.returns-in-Err-clause-ran
returns-in-Err-clause-ran g c = record {
  leads = stays_both (stays_both c.in_ok-len.ensures.ran.leads c.in_ok-got.ensures.ran.leads) c.in-Err.ensures.ran.leads;
  count = search rules;
  rose = search rules;
  spared = search rules;
  tally = search rules;
}
