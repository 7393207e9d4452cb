use Rattle.std.proofs.Common.{◌≡◌, ◌/◌, ◌%◌, Err, [], ◌∷◌, ap, subst, ◌∙◌, arith, rules}
use Rattle.nb_host.specs.declared.page_name.PageName.{PageName}
use Rattle.nb_host.specs.Image.{overwritten}
use Rattle.std.specs.Prelude.{◌≢◌}
use Rattle.nb_host.specs.Page.{page_start, HasPage}
use Rattle.nb_cache.specs.View.{seen}
use Rattle.nb_cache.proofs.Callers.{no_file, may_write, ran_as, ran_then, seen_stays, seen_after}
use Rattle.nb_record.specs.declared.sizes.TheConstants.{BODIES_PER_PAGE}
use Rattle.nb_order.specs.Errors.{of_cache}
use Rattle.nb_order.specs.declared.order_error.OrderError.TheVariants.{Fault}
use Rattle.nb_order.proofs.Refusing.{fault_handed_on, only_memory}
use Rattle.nb_order.proofs.Pushing.{IsOpened, IsAdded, last_page, next_page, body_pushed}
use Rattle.nb_order.proofs.body_file.push_body.Goals as goal

pub returns-clause-pushed : goal.returns-clause-pushed
returns-clause-pushed g c = record {
  told = λ tells bodies holds long.
      let before = seen g.H.Host.meaning c.args.cache.now c.args.host.now in
      let middle = seen g.H.Host.meaning c.open_page.new.cache c.open_page.new.host in
      let after = seen g.H.Host.meaning c.put.new.self c.put.new.host in
      let page = c.add_body.new.into in
      let opened = c.in_ok-open_page.ensures in
      let added = c.add_body.ensures in
      let was : IsOpened (before c.args.file) c.args.index c.open_page.new.into = record {
        form = opened.form;
        count = opened.count;
        read = opened.read tells;
        whole = subst (λ n. n % BODIES_PER_PAGE ≢ 0 → HasPage (before c.args.file) (n / BODIES_PER_PAGE)) long (last_page (before c.args.file) bodies holds);
        fresh = opened.fresh;
      } in
      let more : IsAdded c.open_page.new.into page c.args.body.now c.args.kick.now = record {
        size = omega arith;
        number = added.number;
        form = added.form;
        count = added.count;
        kept = added.kept;
        valid = added.valid c.requires.valid;
        bodies = added.bodies;
        kicked = added.kick;
        padded = added.padded;
      } in
      let next = next_page (before c.args.file) c.open_page.new.into page c.args.index c.args.body.now c.args.kick.now was more in
      let at = page_start (c.args.index / BODIES_PER_PAGE) in
      let written : after c.args.file ≡ overwritten at page (middle c.args.file) =
      subst (λ (n : PageName). after n.file ≡ overwritten (page_start n.page) page (middle n.file))
      c.page_name-name.ensures.value (c.in_ok-put.ensures.view.told tells) in
      body_pushed (before c.args.file) page (after c.args.file) bodies c.args.body.now c.args.kick.now c.args.index holds long next
      (written ∙ ap (overwritten at page) (c.open_page.ensures.ran.writes.view tells c.args.file (no_file c.args.file)));
}

pub returns-in_err-open_page-clause-ran : goal.returns-in_err-open_page-clause-ran
returns-in_err-open_page-clause-ran g c = record {
  writes = may_write (c.args.file ∷ []) c.open_page.ensures.ran.writes;
  rose = λ faulted.
      let error : c.open_page.result ≡ Err Fault = search rules in
      c.open_page.ensures.ran.rose error;
  spared = search rules;
}

pub returns-in_err-put-clause-ran : goal.returns-in_err-put-clause-ran
returns-in_err-put-clause-ran g c =
    let put = rw (ap (λ (n : PageName). n.file) c.page_name-name.ensures.value) at c.put.ensures.ran in
    let handed_on : c.from_residual-in_err-put.result ≡ Err (of_cache c.in_err-put.field-0.0) = search rules in
    ran_as (ran_then c.open_page.ensures.ran (search rules) put)
    (λ faulted. c.in_err-put.was ∙ ap Err (fault_handed_on c.in_err-put.field-0.0 (cc)))
    (λ error. search rules)

pub returns-clause-ran : goal.returns-clause-ran
returns-clause-ran g c =
    let put = rw (ap (λ (n : PageName). n.file) c.page_name-name.ensures.value) at c.put.ensures.ran in
    ran_as (ran_then c.open_page.ensures.ran (search rules) put) (λ faulted. absurd (cc)) (λ error. search rules)

pub returns-in_err-put-clause-stays : goal.returns-in_err-put-clause-stays
returns-in_err-put-clause-stays g c =
    let handed_on : c.from_residual-in_err-put.result ≡ Err (of_cache c.in_err-put.field-0.0) = search rules in
    rw handed_on
    (λ no_fault other.
    let memory = only_memory c.in_err-put.field-0.0 c.put.result c.in_err-put.was (λ fault. no_fault (ap Err fault)) c.put.ensures.host_refusal in
    seen_after (seen_stays other (no_file other) c.open_page.ensures.ran.writes) (c.put.ensures.no_memory memory other))
