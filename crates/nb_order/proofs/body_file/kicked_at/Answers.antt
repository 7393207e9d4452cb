use Rattle.std.proofs.Common.{◌≡◌, Err, sym, subst, ◌∙◌, rules}
use Rattle.nb_model.specs.Limits.{kick_limit}
use Rattle.nb_model.specs.Valid.{IsBelow, IsValidBody}
use Rattle.nb_cache.specs.View.{seen}
use Rattle.nb_cache.proofs.Callers.{no_file, lent_page}
use Rattle.nb_order.specs.declared.order_error.OrderError.TheVariants.{Damaged}
use Rattle.nb_order.proofs.Reading.{body_read, body_missed, no_body, no_body_short}
use Rattle.nb_order.proofs.body_file.kicked_at.Goals as goal

pub returns-in_err-fetch_page-clause-damaged : goal.returns-in_err-fetch_page-clause-damaged
returns-in_err-fetch_page-clause-damaged g c = λ name is.
    let error : c.fetch_page.result ≡ Err (Damaged name) = search rules in
    no_body_short c.page_name-name.result c.page_name-name.ensures.value (c.fetch_page.ensures.named name error)
    (c.fetch_page.ensures.short name error)

pub returns-in-Some-clause-valid : goal.returns-in-Some-clause-valid
returns-in-Some-clause-valid g c = subst IsValidBody (sym c.in-Some.ensures.body) c.in-Some.ensures.valid.body

pub returns-in-Some-clause-range : goal.returns-in-Some-clause-range
returns-in-Some-clause-range g c = subst (IsBelow kick_limit) (sym c.in-Some.ensures.kick) c.in-Some.ensures.valid.kick

pub returns-in-Some-clause-read : goal.returns-in-Some-clause-read
returns-in-Some-clause-read g c = λ tells.
    body_read (seen g.H.Host.meaning c.args.cache.now c.args.host.now) c.unwrap-bytes.result.now
    c.page_name-name.result c.args.file c.args.index c.in-Some.found.body c.in-Some.found.kick c.page_name-name.ensures.value
    (lent_page c.page_name-name.result (no_file c.page_name-name.result.file) c.fetch_page.ensures.ran.writes
    (rw c.unwrap-bytes.ensures at c.lent.ensures.view) tells)
    (c.in_ok-fetch_page.ensures.whole tells)
    (record {
      form = c.in-Some.ensures.form;
      within = c.in-Some.ensures.within;
      valid = c.in-Some.ensures.valid;
      body_is = c.in-Some.ensures.body;
      kick_is = c.in-Some.ensures.kick;
    })

pub returns-in-None-clause-damaged : goal.returns-in-None-clause-damaged
returns-in-None-clause-damaged g c = λ name is.
    let same : c.page_name-name.result ≡ name = cc in
    no_body (sym same ∙ c.page_name-name.ensures.value)
    (λ tells.
    body_missed (seen g.H.Host.meaning c.args.cache.now c.args.host.now) c.unwrap-bytes.result.now
    c.page_name-name.result c.args.file c.args.index c.page_name-name.ensures.value
    (lent_page c.page_name-name.result (no_file c.page_name-name.result.file) c.fetch_page.ensures.ran.writes
    (rw c.unwrap-bytes.ensures at c.lent.ensures.view) tells)
    c.in-None.ensures.none)
