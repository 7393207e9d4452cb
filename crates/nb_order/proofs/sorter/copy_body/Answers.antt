use Rattle.std.proofs.Common.{◌≡◌, [], ◌∷◌, Err, inl, inr, ap, sym, subst, ◌∙◌, rules}
use Rattle.std.proofs.lemmas.Option.{same_Some, slice_get_within}
use Rattle.std.proofs.lemmas.Result.{on_ok_weaker}
use Rattle.nb_host.specs.declared.page_name.PageName.{PageName}
use Rattle.nb_model.specs.declared.body.Body.{Body}
use Rattle.nb_cache.specs.View.{seen}
use Rattle.nb_cache.proofs.Callers.{no_file, may_write, ran_then}
use Rattle.nb_record.specs.Order.{HoldsBodies}
use Rattle.nb_order.specs.Files.{IsPushed}
use Rattle.nb_order.specs.declared.order_error.OrderError.TheVariants.{Fault, Damaged}
use Rattle.nb_order.proofs.Copying.{copy_more}
use Rattle.nb_order.proofs.sorter.copy_body.Goals as goal

pub returns-clause-copied : goal.returns-clause-copied
returns-clause-copied g c =
    on_ok_weaker c.push_body.result
    (λ pushed tells bodies copied body first copy count there.
    let from = seen g.H.Host.meaning c.args.cache.now c.args.host.now c.args.from in
    let before = seen g.H.Host.meaning c.args.cache.now c.args.host.now c.args.to in
    let middle = seen g.H.Host.meaning c.kicked_at.new.cache c.kicked_at.new.host c.args.to in
    let after = seen g.H.Host.meaning c.push_body.new.cache c.push_body.new.host c.args.to in
    let found = c.in_ok-found.ensures.read tells in
    let stays = c.kicked_at.ensures.ran.writes.view tells c.args.to (no_file c.args.to) in
    let same : c.in_ok-found.found.body ≡ body =
    found.body_is ∙ same_Some _ body (sym (first.held c.args.index (slice_get_within bodies c.args.index body there)) ∙ there) in
    let one = pushed.told tells copied (subst (λ file. HoldsBodies file copied) (sym stays) copy.holds) count in
    copy_more from before after bodies copied body c.in_ok-found.found.kick c.args.index copy there found.kick_is
    (subst (λ file. IsPushed copied body c.in_ok-found.found.kick file after) stays
    (subst (λ (b : Body). IsPushed copied b c.in_ok-found.found.kick middle after) same one)))
    c.push_body.ensures.pushed

pub returns-clause-damaged : goal.returns-clause-damaged
returns-clause-damaged g c = λ name is tells bodies copied body first copy count there.
    (c.push_body.ensures.damaged name is).listed tells copied
    (subst (λ file. HoldsBodies file copied) (sym (c.kicked_at.ensures.ran.writes.view tells c.args.to (no_file c.args.to))) copy.holds) count

pub returns-in_err-found-clause-damaged : goal.returns-in_err-found-clause-damaged
returns-in_err-found-clause-damaged g c = λ name is tells bodies copied body first copy count there.
    let error : c.kicked_at.result ≡ Err (Damaged name) = search rules in
    (c.kicked_at.ensures.damaged name error).cause tells (first.each c.args.index (slice_get_within bodies c.args.index body there))

pub returns-in_err-found-clause-page : goal.returns-in_err-found-clause-page
returns-in_err-found-clause-page g c = λ name is.
    let error : c.kicked_at.result ≡ Err (Damaged name) = search rules in
    inl (ap (λ (n : PageName). n.file) (c.kicked_at.ensures.damaged name error).page)

pub returns-clause-page : goal.returns-clause-page
returns-clause-page g c = λ name is. inr (ap (λ (n : PageName). n.file) (c.push_body.ensures.damaged name is).page)

pub returns-clause-ran : goal.returns-clause-ran
returns-clause-ran g c = ran_then c.kicked_at.ensures.ran (search rules) c.push_body.ensures.ran

pub returns-in_err-found-clause-ran : goal.returns-in_err-found-clause-ran
returns-in_err-found-clause-ran g c = record {
  writes = may_write (c.args.to ∷ []) c.kicked_at.ensures.ran.writes;
  rose = λ faulted.
      let error : c.kicked_at.result ≡ Err Fault = search rules in
      c.kicked_at.ensures.ran.rose error;
  spared = search rules;
}
