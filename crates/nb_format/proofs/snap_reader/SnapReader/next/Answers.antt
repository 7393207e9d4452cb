use Rattle.std.proofs.Common.{ℕ, ◌<◌, List, take, drop, refl, sym, ap, ◌∙◌, inl, arith}
use Rattle.std.proofs.lemmas.Result.{err_from_is_err_and}
use Rattle.nb_format.specs.Reader.{count_of, read_count}
use Rattle.nb_format.specs.Snapshot.{snapshot_length}
use Rattle.nb_format.specs.SnapshotRefusal.{record_refusal}
use Rattle.nb_format.proofs.Reading.{whole_inside, front_reads, read_more, next_is_record}
use Rattle.nb_format.proofs.SnapshotRefusals.{record_refused}
use Rattle.nb_format.proofs.snap_reader.SnapReader.next.Goals as goal

pub returns-in_err-body-clause-now : goal.returns-in_err-body-clause-now
returns-in_err-body-clause-now g c =
    let p = err_from_is_err_and c.from_residual-in_err-body.result c.from_residual-in_err-body.ensures.1 in
    rw (p.1, p.2)
    (λ tells.
    let reader = c.args.self.now in
    let file = (g.H.Host.meaning.contents c.args.host.now).file reader.file in
    let read = c.in_ok-read_whole.ensures.read tells ∙ ap (λ (at : ℕ). take 64 (drop at file)) c.snapshot_length.ensures in
    record {
      accepted = tt;
      reason = λ _. next_is_record reader file c.read_whole.new.into read c.read_whole.auto.into ∙ c.in_err-body.ensures.refusal;
      short = λ _ _. tt;
    })

pub returns-in_err-body-clause-first : goal.returns-in_err-body-clause-first
returns-in_err-body-clause-first g c = λ bytes bodies tells has still.
    let p = err_from_is_err_and c.from_residual-in_err-body.result c.from_residual-in_err-body.ensures.1 in
    rw (p.1, p.2)
    (λ _.
    let reader = c.args.self.now in
    let within = reader.within in
    let more : read_count reader < count_of reader = omega (arith, c.if-self.false) in
    let read = c.in_ok-read_whole.ensures.read tells ∙ ap (λ (at : ℕ). take 64 (drop at ((g.H.Host.meaning.contents c.args.host.now).file reader.file))) c.snapshot_length.ensures in
    let held = read ∙ ap (λ (w : List ℕ). take 64 (drop (snapshot_length reader.read) w)) still in
    record_refused reader bytes bodies _ has reader.few more (ap (record_refusal reader.read reader.last) (sym held) ∙ c.in_err-body.ensures.refusal))

pub returns-in_err-body-clause-shorter : goal.returns-in_err-body-clause-shorter
returns-in_err-body-clause-shorter g c = λ bytes bodies tells has open'.
    let p = err_from_is_err_and c.from_residual-in_err-body.result c.from_residual-in_err-body.ensures.1 in
    rw (p.1, p.2)
    (λ _.
    let reader = c.args.self.now in
    let file = (g.H.Host.meaning.contents c.args.host.now).file reader.file in
    let within = reader.within in
    let more : read_count reader < count_of reader = omega (arith, c.if-self.false) in
    let read = c.in_ok-read_whole.ensures.read tells ∙ ap (λ (at : ℕ). take 64 (drop at file)) c.snapshot_length.ensures in
    let held = front_reads bytes file c.read_whole.new.into (snapshot_length reader.read) (open'.reads tells) read c.read_whole.auto.into in
    inl (record_refused reader bytes bodies _ has reader.few more (ap (record_refusal reader.read reader.last) (sym held) ∙ c.in_err-body.ensures.refusal)))

pub returns-clause-body : goal.returns-clause-body
returns-clause-body g c = λ bytes bodies tells has open'.
    let reader = c.args.self.now in
    let file = (g.H.Host.meaning.contents c.args.host.now).file reader.file in
    let within = reader.within in
    let more : read_count reader < count_of reader = omega (arith, c.if-self.false) in
    let read = c.in_ok-read_whole.ensures.read tells ∙ ap (λ (at : ℕ). take 64 (drop at file)) c.snapshot_length.ensures in
    let held = front_reads bytes file c.read_whole.new.into (snapshot_length reader.read) (open'.reads tells) read c.read_whole.auto.into in
    read_more reader _ bytes bodies c.in_ok-body.body has c.in_ok-body.ensures.follows
    (record { file = refl; count = refl; time = refl; read = refl; last = refl }) reader.few more (sym held ∙ c.in_ok-body.ensures.spelled)

pub returns-clause-now : goal.returns-clause-now
returns-clause-now g c = λ tells.
    let reader = c.args.self.now in
    let file = (g.H.Host.meaning.contents c.args.host.now).file reader.file in
    let read = c.in_ok-read_whole.ensures.read tells ∙ ap (λ (at : ℕ). take 64 (drop at file)) c.snapshot_length.ensures in
    let inside = whole_inside file c.read_whole.new.into (snapshot_length reader.read) read c.read_whole.auto.into in
    record {
      accepted = next_is_record reader file c.read_whole.new.into read c.read_whole.auto.into ∙ c.in_ok-body.ensures.accepted;
      reason = tt;
      short = λ more short. omega arith;
    }
