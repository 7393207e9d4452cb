use Rattle.std.proofs.Common.{Contains, [], ap, refl, sym, subst, ◌∙◌, arith, rules}
use Rattle.std.proofs.lemmas.List.{drop_all}
use Rattle.lru.proofs.Splits.{Contains-nil}
use Rattle.nb_host.proofs.Callers.{leads_none, stopped_after}
use Rattle.nb_host.specs.declared.page_name.PageName.{PageName}
use Rattle.nb_cache.specs.View.{CacheValue, IsDirty}
use Rattle.nb_cache.proofs.Callers.{no_file, writes_again, writes_begins}
use Rattle.nb_cache.proofs.Entries.{cache_of}
use Rattle.nb_cache.proofs.Fitting.{rests}
use Rattle.nb_cache.proofs.Flushing.{flushes_none, flushes_at}
use Rattle.nb_cache.proofs.Laying.{overlaid_none}
use Rattle.nb_cache.proofs.Putting.{writes_cleared}
use Rattle.nb_cache.proofs.cache.Cache.flush.Goals as goal

pub loop-name-init : goal.loop-name-init
loop-name-init g c =
    flushes_none g.H.Host.meaning c.args.self.now c.args.host.now c.deref-name-items.result.now c.len.ensures.sound
    c.requires
    (λ name one. subst (λ l. Contains l name) (sym c.deref-name-items.ensures.value)
    (c.in_ok-names.ensures name (subst (λ (v : CacheValue). IsDirty v.held name) (sym c.self.view_is) one)))

pub settle-requires : goal.settle-requires
settle-requires g c = record { in_step = c.loop-name.invariant.writes.in_step }

pub loop-name-preserved : goal.loop-name-preserved
loop-name-preserved g c =
    flushes_at g.H.Host.meaning c.args.self.now c.args.host.now c.deref-name-items.result.now c.loop-name.name-index _
    c.loop-name-test.true c.loop-name.self c.loop-name.host c.loop-name.invariant c.settle.new.self c.settle.new.host
    c.settle.ensures.resident c.in_ok-settle.ensures.settled c.settle.ensures.unwritten c.settle.ensures.sound
    c.settle.ensures.ran.writes (c.settle.ensures.ran.spared (search rules))

pub returns-clause-ran : goal.returns-clause-ran
returns-clause-ran g c =
    let m = g.H.Host.meaning in
    let so_far = c.loop-name.invariant in
    let none : (name : PageName) → IsDirty c.loop-name.self.held name → ⊥ = λ name one.
    Contains-nil name (subst (λ l. Contains l name)
    (drop_all c.loop-name.name-index c.deref-name-items.result.now c.loop-name-test.false) (so_far.waits name one)) in
    record {
      writes = writes_again so_far.writes
          (writes_cleared m c.loop-name.self {old = c.loop-name.host} (cache_of c.self-2.inside.frames c.clear.new.self)
          {new = c.loop-name.host} so_far.writes.in_step (ap (λ (v : CacheValue). v.pages) c.self-2.view_is)
          (leads_none m c.loop-name.host (λ image. refl)) (omega arith) refl
          (ap (λ (v : CacheValue). v.held) c.self-2.view_is) none c.clear.ensures);
      rose = search rules;
      spared = λ _. so_far.spared;
    }

pub returns-clause-written : goal.returns-clause-written
returns-clause-written g c = λ tells file.
    let so_far = c.loop-name.invariant in
    let none : (name : PageName) → IsDirty c.loop-name.self.held name → ⊥ = λ name one.
    Contains-nil name (subst (λ l. Contains l name)
    (drop_all c.loop-name.name-index c.deref-name-items.result.now c.loop-name-test.false) (so_far.waits name one)) in
    sym (overlaid_none file c.loop-name.self.held ((g.H.Host.meaning.contents c.loop-name.host).file file)
    (rests c.loop-name.self.held none))
    ∙ so_far.writes.view tells file (no_file file)

pub returns-in_err-settle-clause-ran : goal.returns-in_err-settle-clause-ran
returns-in_err-settle-clause-ran g c =
    let so_far = c.loop-name.invariant in
    let ran = c.settle.ensures.ran in
    record {
      writes = writes_again so_far.writes ran.writes;
      rose = λ faulted. stopped_after so_far.spared (ran.rose (search rules));
      spared = λ never. ran.spared (search rules) ∙ so_far.spared;
    }

pub returns-in_err-names-clause-ran : goal.returns-in_err-names-clause-ran
returns-in_err-names-clause-ran g c = record {
  writes = writes_begins g.H.Host.meaning [] c.args.self.now c.args.host.now c.requires;
  rose = search rules;
  spared = λ _. refl;
}
