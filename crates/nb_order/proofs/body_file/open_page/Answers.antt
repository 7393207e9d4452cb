use Rattle.std.proofs.Common.{◌≡◌, ◌/◌, Err, ap, sym, subst, ◌∙◌, rules}
use Rattle.nb_host.specs.declared.page_name.PageName.{PageName}
use Rattle.nb_host.specs.Page.{page_of}
use Rattle.nb_record.specs.declared.sizes.TheConstants.{BODIES_PER_PAGE}
use Rattle.nb_record.specs.Pages.{record_count, IsBodyPage}
use Rattle.nb_cache.specs.View.{IsWhole, seen}
use Rattle.nb_cache.proofs.Callers.{no_file, lent_page}
use Rattle.nb_order.specs.declared.order_error.OrderError.TheVariants.{Damaged}
use Rattle.nb_order.proofs.Reading.{no_room}
use Rattle.nb_order.proofs.body_file.open_page.Goals as goal

pub returns-in_err-fetch_page-clause-damaged : goal.returns-in_err-fetch_page-clause-damaged
returns-in_err-fetch_page-clause-damaged g c = λ name is.
    let error : c.fetch_page.result ≡ Err (Damaged name) = search rules in
    no_room (c.fetch_page.ensures.named name error ∙ c.page_name-name.ensures.value)
    (λ tells has. c.fetch_page.ensures.short name error tells
    (subst (IsWhole c.args.cache.now (g.H.Host.meaning.contents c.args.host.now)) (sym c.page_name-name.ensures.value)
    (has.whole c.if-count-eq0.false)))

pub returns-then-not-has_bodies-clause-damaged : goal.returns-then-not-has_bodies-clause-damaged
returns-then-not-has_bodies-clause-damaged g c = λ name is.
    let same : c.page_name-name.result ≡ name = cc in
    no_room (sym same ∙ c.page_name-name.ensures.value)
    (λ tells has.
    let view = seen g.H.Host.meaning c.args.cache.now c.args.host.now in
    let bytes = c.unwrap-bytes.result.now in
    let here : bytes ≡ page_of (view c.args.file) (c.args.index / BODIES_PER_PAGE) =
    lent_page c.page_name-name.result (no_file c.page_name-name.result.file) c.fetch_page.ensures.ran.writes
    (rw c.unwrap-bytes.ensures at c.lent.ensures.view) tells
    ∙ ap (λ (n : PageName). page_of (view n.file) n.page) c.page_name-name.ensures.value in
    let form = subst (λ (n : PageName). IsBodyPage n.page bytes) (sym c.page_name-name.ensures.value)
    (subst (IsBodyPage (c.args.index / BODIES_PER_PAGE)) (sym here) (has.form c.if-count-eq0.false)) in
    let count = ap record_count here ∙ has.count c.if-count-eq0.false in
    let yes = c.has_bodies.ensures.1 (form, count) in
    let no = c.if-not-has_bodies.true in
    (cc))

pub returns-clause-read : goal.returns-clause-read
returns-clause-read g c = λ tells some.
    let view = seen g.H.Host.meaning c.args.cache.now c.args.host.now in
    let after : c.copy_from_slice.new.self ≡ c.unwrap-bytes.result.now = search rules in
    after
    ∙ lent_page c.page_name-name.result (no_file c.page_name-name.result.file) c.fetch_page.ensures.ran.writes
    (rw c.unwrap-bytes.ensures at c.lent.ensures.view) tells
    ∙ ap (λ (n : PageName). page_of (view n.file) n.page) c.page_name-name.ensures.value
