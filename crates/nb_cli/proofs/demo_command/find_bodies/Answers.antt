use Rattle.std.proofs.Common.{◌≡◌, ◌⊎◌, inr, ◌≤◌, ◌<◌, ◌+◌, ℕ, suc, IsTrue, IsOk, Ok, Err, List, [], ◌∷◌, ◌++◌, length, refl, sym, ap, subst, ◌∙◌, arith, rules}
use Rattle.nb_model.specs.declared.body.Body.{Body}
use Rattle.nb_host.proofs.Callers.{ok_is_no_error}
use Rattle.nb_format.specs.declared.snap_error.SnapError.{SnapError}
use Rattle.nb_format.specs.declared.snap_error.SnapError.TheVariants as snap
use Rattle.nb_format.specs.Reader.{count_of, time_of, MayFollow, IsBehind, HasRead}
use Rattle.nb_format.specs.Snapshot.{IsSnapshot}
use Rattle.nb_engine.specs.declared.refusal.Refusal.{Refusal}
use Rattle.nb_engine.specs.Files.{init_file}
use Rattle.nb_engine.specs.Refusal.{NeedsNoCause}
use Rattle.nb_engine.proofs.Callers.{not_ended}
use Rattle.nb_cli.specs.Make.{body_at, made_bodies, HasMade}
use Rattle.nb_cli.specs.Demo.{of_reading_back, IsUnlike}
use Rattle.nb_cli.proofs.MadeStarts.{length-made}
use Rattle.nb_cli.proofs.ReadingBack.{HasReadBack, unlike, cause_more, read_all, read_back_cause, read_back_fault, refused_never, read_back_none, read_back_told, reads_still, open_still, read_back_more, read_back_ran, read_back_still, made_next, bodies_same, bodies_differ}
use Rattle.nb_cli.proofs.demo_command.find_bodies.Goals as goal

pub returns-in_err-reader-clause-cause : goal.returns-in_err-reader-clause-cause
returns-in_err-reader-clause-cause g c =
    let m = g.H.Host.meaning in
    let seed = c.args.seed in
    let count = c.args.count in
    let files = (m.contents c.args.host.now).file in
    let why = c.in_err-reader.field-0.0 in
    let Few : Type 0 = (bodies : List Body) × IsSnapshot (files init_file) bodies 0 × (length bodies ≡ count) in
    let handed_on : c.from_residual.result ≡ Err why = search rules in
    let cause : NeedsNoCause why ⊎ IsUnlike m init_file (HasMade seed count files) why =
    cause_more Few (HasMade seed count files) c.in_err-reader.ensures.cause (λ told made.
    (made_bodies seed count, made.init, length-made seed count)) in
    rw handed_on cause

pub loop-index-init : goal.loop-index-init
loop-index-init g c =
    let fine : IsOk c.begin_reading.result = search rules in
    record {
      read = read_back_none c.in_ok-reader.ensures.start c.in_ok-reader.ensures.header c.begin_reading.ensures.ran
          (ok_is_no_error fine);
      made = c.new-generator.ensures;
    }

pub returns-in-Err-clause-cause : goal.returns-in-Err-clause-cause
returns-in-Err-clause-cause g c =
    let m = g.H.Host.meaning in
    let kept = c.loop-index.invariant in
    let seed = c.args.seed in
    let files = (m.contents c.args.host.now).file in
    let Written : Type 0 = HasMade seed c.args.count files in
    subst (λ (why : Refusal). NeedsNoCause why ⊎ IsUnlike m init_file Written why) (sym c.unread.ensures)
    (read_back_cause Written c.in-Err.error init_file c.loop-index.index
    (λ by told made.
    refused_never (c.in-Err.ensures.first (files init_file) (made_bodies seed c.loop-index.index) told (read_back_told kept.read told)
    (reads_still kept.read) by) (made_bodies seed c.args.count) 0 made.init))

pub returns-in-Err-clause-ran : goal.returns-in-Err-clause-ran
returns-in-Err-clause-ran g c =
    let index = c.loop-index.index in
    read_back_ran c.loop-index.invariant.read c.next.ensures.ran
    (λ faulted. c.in-Err.is ∙ ap Err (read_back_fault c.in-Err.error init_file index (cc)))
    (λ faulted.
    let same : c.in-Err.error ≡ snap.Fault = (cc) in
    ap Err (c.unread.ensures ∙ ap (λ (e : SnapError). of_reading_back e init_file index) same))

pub returns-in-Ok-None-clause-cause : goal.returns-in-Ok-None-clause-cause
returns-in-Ok-None-clause-cause g c =
    let given = c.loop-index.invariant.read.given in
    let ended = c.in-Ok-None.ensures.end.0 (ap Ok c.in-Ok-None.field-0-is) in
    absurd (omega (arith, ended, given.read, given.count, length-made c.args.seed c.loop-index.index, c.in_ok-reader.ensures.count))

-- ---- where a body was read

pub returns-then-ne-clause-cause : goal.returns-then-ne-clause-cause
returns-then-ne-clause-cause g c =
    let m = g.H.Host.meaning in
    let kept = c.loop-index.invariant in
    let seed = c.args.seed in
    let index = c.loop-index.index in
    let body = c.in-Ok-Some.body in
    let files = (m.contents c.args.host.now).file in
    let Written : Type 0 = HasMade seed c.args.count files in
    let never : IsTrue m.tells → Written → ⊥ = λ told made.
    let next = c.in-Ok-Some.ensures.body (files init_file) (made_bodies seed index) told (read_back_told kept.read told) (open_still kept.read) in
    let read : HasRead c.next.new.self (files init_file) (made_bodies seed index ++ body ∷ []) = rw c.in-Ok-Some.field-0-is at next in
    let below : index < c.args.count = omega arith in
    let same : body ≡ c.next_body.result =
    made_next seed c.args.count index read below made.init ∙ sym (c.next_body.ensures.body seed index kept.made) in
    bodies_differ body c.next_body.result same c.if-ne.ensures in
    subst (λ (why : Refusal). NeedsNoCause why ⊎ IsUnlike m init_file Written why) (sym c.damaged-then-ne.ensures)
    (inr (unlike Written init_file index never))

pub returns-then-ne-clause-ran : goal.returns-then-ne-clause-ran
returns-then-ne-clause-ran g c =
    let kept = c.loop-index.invariant in
    let body = c.in-Ok-Some.body in
    let follows : MayFollow c.loop-index.reader body = rw c.in-Ok-Some.field-0-is at c.in-Ok-Some.ensures.follows in
    let behind : IsBehind body c.loop-index.reader c.next.new.self = rw c.in-Ok-Some.field-0-is at c.in-Ok-Some.ensures.moved in
    let refused = c.damaged-then-ne.ensures in
    read_back_still
    (read_back_more body kept.read (λ e. not_ended c.in-Ok-Some.field-0-is (c.in-Ok-Some.ensures.end.1 e)) follows behind
    (λ told.
    let next = c.in-Ok-Some.ensures.body _ (made_bodies c.args.seed c.loop-index.index) told (read_back_told kept.read told) (open_still kept.read) in
    rw c.in-Ok-Some.field-0-is at next)
    c.next.ensures.ran (search rules))
    (λ faulted. absurd (cc))

pub loop-index-preserved : goal.loop-index-preserved
loop-index-preserved g c =
    let m = g.H.Host.meaning in
    let kept = c.loop-index.invariant in
    let seed = c.args.seed in
    let index = c.loop-index.index in
    let body = c.in-Ok-Some.body in
    let follows : MayFollow c.loop-index.reader body = rw c.in-Ok-Some.field-0-is at c.in-Ok-Some.ensures.follows in
    let behind : IsBehind body c.loop-index.reader c.next.new.self = rw c.in-Ok-Some.field-0-is at c.in-Ok-Some.ensures.moved in
    let more =
    read_back_more body kept.read (λ e. not_ended c.in-Ok-Some.field-0-is (c.in-Ok-Some.ensures.end.1 e)) follows behind
    (λ told.
    let next = c.in-Ok-Some.ensures.body _ (made_bodies seed index) told (read_back_told kept.read told) (open_still kept.read) in
    rw c.in-Ok-Some.field-0-is at next)
    c.next.ensures.ran (search rules) in
    let same : body ≡ body_at seed index =
    bodies_same body c.next_body.result c.if-ne.ensures ∙ c.next_body.ensures.body seed index kept.made in
    let number : suc index ≡ index + 1 = omega arith in
    record {
      read = subst (λ (n : ℕ). HasReadBack m init_file c.in_ok-reader.reader c.args.host.now c.next.new.self c.next.new.host (made_bodies seed n)) number
          (subst (λ (b : Body). HasReadBack m init_file c.in_ok-reader.reader c.args.host.now c.next.new.self c.next.new.host
          (made_bodies seed index ++ b ∷ [])) same more);
      made = c.next_body.ensures.moved seed index kept.made;
    }

-- ---- where all were

pub returns-clause-found : goal.returns-clause-found
returns-clause-found g c = λ told.
    let file = (g.H.Host.meaning.contents c.args.host.now).file init_file in
    let kept = c.loop-index.invariant in
    let seed = c.args.seed in
    let all : c.loop-index.index ≡ c.args.count = omega (arith, c.loop-index-test.false) in
    let time : time_of c.loop-index.reader ≡ 0 = kept.read.given.time ∙ c.in_ok-reader.ensures.time in
    let count : length (made_bodies seed c.loop-index.index) ≡ count_of c.loop-index.reader =
    omega (arith, length-made seed c.loop-index.index, all, kept.read.given.count, c.in_ok-reader.ensures.count) in
    let read : IsSnapshot file (made_bodies seed c.loop-index.index) (time_of c.loop-index.reader) =
    read_all (read_back_told kept.read told) count (omega (arith, time)) in
    subst (λ (n : ℕ). IsSnapshot file (made_bodies seed n) 0) all
    (subst (λ (n : ℕ). IsSnapshot file (made_bodies seed c.loop-index.index) n) time read)
