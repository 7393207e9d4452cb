use Rattle.std.proofs.Common.{◌≡◌, List, Err, length, take, sym, ap, subst, ◌∙◌, arith, rules, length-take}
use Rattle.nb_host.specs.Page.{IsRising}
use Rattle.nb_host.specs.declared.page_name.PageName.{PageName}
use Rattle.std.specs.List.{AllByRecursion}
use Rattle.nb_cache.specs.InStep.{IsCacheable}
use Rattle.nb_cache.specs.View.{names_of}
use Rattle.nb_cache.specs.declared.cache_error.CacheError.TheVariants as cache
use Rattle.nb_force.specs.Errors.{of_cache}
use Rattle.nb_force.specs.Rounds.{HasOneOf}
use Rattle.nb_force.proofs.Fetching.{rising_taken, cacheable_taken, one_resident}
use Rattle.nb_force.proofs.Refusing.{cache_short}
use Rattle.nb_force.proofs.rounds.fetch_wanted.Goals as goal

pub fetch-requires-clause-rising : goal.fetch-requires-clause-rising
fetch-requires-clause-rising g c =
    subst (λ l. IsRising (take c.min-count.result l)) (sym c.wants-wants.ensures) (rising_taken c.min-count.result c.args.pool.now.wants c.requires.rising)

pub fetch-requires-clause-names : goal.fetch-requires-clause-names
fetch-requires-clause-names g c =
    subst (λ l. AllByRecursion IsCacheable (take c.min-count.result l)) (sym c.wants-wants.ensures) (cacheable_taken c.min-count.result c.args.pool.now.wants c.requires.names)

pub returns-in_err-fetch-clause-short : goal.returns-in_err-fetch-clause-short
returns-in_err-fetch-clause-short g c = λ name is tells whole.
    let error = c.in_err-fetch.field-0.0 in
    let handed_on : c.from_residual.result ≡ Err (of_cache error) = search rules in
    let short : error ≡ cache.Short name = cache_short error name (cc) in
    (c.fetch.ensures.short name (c.in_err-fetch.was ∙ ap Err short) tells).short whole

pub returns-clause-resident : goal.returns-clause-resident
returns-clause-resident g c =
    let wants = c.wants-wants.result.now in
    let long = ap length c.wants-wants.ensures in
    let some = c.requires.some in
    let least = c.pages.ensures.least in
    let pages = c.pages.ensures.value in
    let count = c.min-count.ensures in
    let taken = length-take c.min-count.result wants in
    subst (λ (l : List PageName). HasOneOf l c.fetch.new.self) c.wants-wants.ensures
    (one_resident wants c.min-count.result c.args.cache.now.pages (names_of c.args.cache.now) c.fetch.new.self
    (omega (arith, long, some)) (omega (arith, long, some, count, least)) (omega (arith, taken, count, pages)) c.in_ok-fetch.ensures.resident)
