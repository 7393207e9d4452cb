use Rattle.std.proofs.Common.{◌≡◌, Err, Contains, [], ◌∷◌, rules, ap, sym, subst, ◌∙◌}
use Rattle.std.proofs.lemmas.Grind.{common_steps}
use Rattle.nb_host.specs.declared.page_name.PageName.{PageName}
use Rattle.nb_cache.specs.declared.cache_error.CacheError.TheVariants as cache
use Rattle.nb_cache.specs.View.{IsWhole}
use Rattle.nb_order.specs.Errors.{of_cache}
use Rattle.nb_order.proofs.Refusing.{short_handed_on}
use Rattle.nb_order.proofs.body_file.fetch_page.Goals as goal

only_one : (name other : PageName) → Contains (name ∷ []) other → other ≡ name
only_one name other has = search (rules, common_steps)

pub returns-in_err-fetch-clause-short : goal.returns-in_err-fetch-clause-short
returns-in_err-fetch-clause-short g c =
    λ other is tells whole.
    let error = c.in_err-fetch.field-0.0 in
    let handed_on : c.from_residual.result ≡ Err (of_cache error) = search rules in
    let short : error ≡ cache.Short other = short_handed_on error other (cc) in
    let was = c.in_err-fetch.was ∙ ap Err short in
    let same = only_one c.args.name other (c.fetch.ensures.named other was) in
    (c.fetch.ensures.short other was tells).short
    (subst (IsWhole c.args.cache.now (g.H.Host.meaning.contents c.args.host.now)) (sym same) whole)
