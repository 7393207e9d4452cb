use Rattle.std.proofs.Common.{◌≡◌, ◌⊎◌, inl, inr, ℕ, List, [], ◌∷◌, IsTrue, Err, refl, sym, subst, ◌∙◌, rules}
use Rattle.nb_model.specs.declared.body.Body.{Body}
use Rattle.nb_host.specs.declared.page_name.PageName.{PageName}
use Rattle.nb_host.proofs.Callers.{stays_contents}
use Rattle.nb_cache.specs.View.{seen}
use Rattle.nb_format.specs.Reader.{HasRead}
use Rattle.nb_format.specs.Snapshot.{IsSnapshot}
use Rattle.nb_record.specs.Order.{HoldsBodies}
use Rattle.nb_tick.specs.Slots.{drifted_file}
use Rattle.nb_engine.specs.declared.refusal.Refusal.{Refusal}
use Rattle.nb_engine.specs.Files.{init_file}
use Rattle.nb_engine.specs.Reading.{IsPlanned}
use Rattle.nb_engine.specs.Refusal.{NeedsNoCause}
use Rattle.nb_engine.specs.Snapshots.{IsPageDamaged}
use Rattle.nb_engine.specs.Start.{init_record_name, IsCopyEnd, IsReadPlace}
use Rattle.nb_engine.proofs.Beginnings.{header_now}
use Rattle.nb_engine.proofs.CachedCalls.{went_none, went_on, went_to, went_as, ran_reading}
use Rattle.nb_engine.proofs.SecondReadings.{init_broken, cause_more, end_read, read_only_none, read_only_kept, init_stays, init_again, seen_still, read_same, census_same, censuses_same, censuses_differ}
use Rattle.nb_engine.proofs.run_start.read_again.Goals as goal

-- Where the header is refused, or isn't the one that was planned with.

pub returns-in_err-reader-clause-cause : goal.returns-in_err-reader-clause-cause
returns-in_err-reader-clause-cause g c =
    let m = g.H.Host.meaning in
    let plan = c.args.plan.now in
    let why = c.in_err-reader.field-0.0 in
    let Few : List Body → Type 0 = λ bodies. IsPlanned plan bodies ((m.contents c.empty.new.host).file init_file) in
    let More : List Body → Type 0 = λ bodies. IsPlanned plan bodies ((m.contents c.args.host.now).file init_file) in
    let handed_on : c.from_residual-in_err-reader.result ≡ Err why = search rules in
    let These : PageName → Type 0 = λ page. page ≡ init_record_name 0 in
    let Those = IsReadPlace plan.census.count in
    let cause : NeedsNoCause why ⊎ IsPageDamaged m Those More why =
    cause_more These Those Few More c.in_err-reader.ensures.cause (λ page at. inl at) (λ told bodies planned.
    let same = init_stays (read_only_none c.args.cache.now c.requires.written) c.empty.ensures.ran.writes told in
    subst (IsPlanned plan bodies) (sym same) planned) in
    rw handed_on cause

-- Where its bodies are copied.

pub copy_bodies-requires-clause-unwritten : goal.copy_bodies-requires-clause-unwritten
copy_bodies-requires-clause-unwritten g c =
    read_only_kept (read_only_none c.args.cache.now c.requires.written) c.empty.ensures.ran.writes

pub returns-in_err-census-clause-cause : goal.returns-in_err-census-clause-cause
returns-in_err-census-clause-cause g c =
    let m = g.H.Host.meaning in
    let plan = c.args.plan.now in
    let why = c.in_err-census.field-0.0 in
    let file = (m.contents c.begin_again.new.host).file init_file in
    let Few : List Body → Type 0 = λ bodies. HasRead c.in_ok-reader.reader file []
    × (seen m c.empty.new.self c.begin_again.new.host drifted_file ≡ []) × ((time : ℕ) × IsSnapshot file bodies time) in
    let More : List Body → Type 0 = λ bodies. IsPlanned plan bodies ((m.contents c.args.host.now).file init_file) in
    let reads = c.begin_again.ensures.ran.leads in
    let handed_on : c.from_residual-in_err-census.result ≡ Err why = search rules in
    let These = IsCopyEnd m c.in_ok-reader.reader c.empty.new.self c.begin_again.new.host in
    let Those = IsReadPlace plan.census.count in
    let cause : NeedsNoCause why ⊎ IsPageDamaged m Those More why =
    cause_more These Those Few More c.in_err-census.ensures.cause (end_read c.in_ok-reader.ensures.count) (λ told bodies planned.
    let same = init_again (read_only_none c.args.cache.now c.requires.written) c.empty.ensures.ran.writes reads told in (
      header_now (stays_contents reads) (c.in_ok-reader.ensures.header told),
      seen_still c.empty.new.self drifted_file reads ∙ c.in_ok-empty.ensures.view told,
      (plan.time, subst (λ (bytes : List ℕ). IsSnapshot bytes bodies plan.time) (sym same) planned.snapshot),
    )) in
    rw handed_on cause

pub returns-in_err-census-clause-ran : goal.returns-in_err-census-clause-ran
returns-in_err-census-clause-ran g c =
    let files = drifted_file ∷ [] in
    let emptied = went_on (went_none g.H.Host.meaning files c.args.cache.now c.args.host.now c.requires.in_step)
    c.empty.ensures.ran (search rules) in
    let begun = went_on emptied (ran_reading files c.empty.new.self c.begin_again.ensures.ran c.empty.ensures.ran.writes.in_step)
    (search rules) in
    went_to begun c.copy_bodies.ensures.ran (λ faulted. search rules) (λ fault. search rules)

-- Where they are others.

pub returns-then-ne-clause-cause : goal.returns-then-ne-clause-cause
returns-then-ne-clause-cause g c =
    let m = g.H.Host.meaning in
    let plan = c.args.plan.now in
    let Holds : List Body → Type 0 = λ bodies. IsPlanned plan bodies ((m.contents c.args.host.now).file init_file) in
    let reads = c.begin_again.ensures.ran.leads in
    let never : IsTrue m.tells → (bodies : List Body) → Holds bodies → ⊥ = λ told bodies planned.
    let same = init_again (read_only_none c.args.cache.now c.requires.written) c.empty.ensures.ran.writes reads told in
    let copied = c.in_ok-census.ensures.copied told
    (header_now (stays_contents reads) (c.in_ok-reader.ensures.header told))
    (seen_still c.empty.new.self drifted_file reads ∙ c.in_ok-empty.ensures.view told) in
    censuses_differ c.in_ok-census.census plan.census (census_same same planned copied.2 copied.1) c.if-ne.ensures in
    let At = IsReadPlace plan.census.count in
    subst (λ (why : Refusal). NeedsNoCause why ⊎ IsPageDamaged m At Holds why) (sym c.damaged_init.ensures)
    (inr (init_broken At Holds 0 (inl refl) never))

pub returns-then-ne-clause-ran : goal.returns-then-ne-clause-ran
returns-then-ne-clause-ran g c =
    let files = drifted_file ∷ [] in
    let emptied = went_on (went_none g.H.Host.meaning files c.args.cache.now c.args.host.now c.requires.in_step)
    c.empty.ensures.ran (search rules) in
    let begun = went_on emptied (ran_reading files c.empty.new.self c.begin_again.ensures.ran c.empty.ensures.ran.writes.in_step)
    (search rules) in
    let refused = c.damaged_init.ensures in
    went_as (went_on begun c.copy_bodies.ensures.ran (search rules)) (λ faulted. absurd (cc))

-- Where it was read.

pub returns-clause-same : goal.returns-clause-same
returns-clause-same g c = censuses_same c.in_ok-census.census c.args.plan.now.census c.if-ne.ensures

pub returns-clause-read : goal.returns-clause-read
returns-clause-read g c = λ told bodies planned.
    let m = g.H.Host.meaning in
    let reads = c.begin_again.ensures.ran.leads in
    let same = init_again (read_only_none c.args.cache.now c.requires.written) c.empty.ensures.ran.writes reads told in
    let copied = c.in_ok-census.ensures.copied told
    (header_now (stays_contents reads) (c.in_ok-reader.ensures.header told))
    (seen_still c.empty.new.self drifted_file reads ∙ c.in_ok-empty.ensures.view told) in
    subst (λ (list : List Body). HoldsBodies (seen m c.copy_bodies.new.cache c.copy_bodies.new.host drifted_file) list)
    (read_same same planned copied.2) copied.3

pub returns-clause-ran : goal.returns-clause-ran
returns-clause-ran g c =
    let files = drifted_file ∷ [] in
    let emptied = went_on (went_none g.H.Host.meaning files c.args.cache.now c.args.host.now c.requires.in_step)
    c.empty.ensures.ran (search rules) in
    let begun = went_on emptied (ran_reading files c.empty.new.self c.begin_again.ensures.ran c.empty.ensures.ran.writes.in_step)
    (search rules) in
    went_as (went_on begun c.copy_bodies.ensures.ran (search rules)) (λ faulted. absurd (cc))
