use Rattle.std.proofs.Common.{◌≡◌, ◌-◌, Bool, IsTrue, [], ◌∷◌, Contains, take, ap, refl, sym, subst, ◌∙◌, arith, rules}
use Rattle.lru.proofs.Splits.{Contains-tail}
use Rattle.nb_host.proofs.Callers.{leads_none, torn_by_nothing}
use Rattle.nb_host.specs.Image.{IsTorn}
use Rattle.nb_host.specs.Page.{page_start}
use Rattle.nb_host.specs.declared.page_name.TheConstants.{PAGE_SIZE}
use Rattle.nb_cache.specs.Names.{held_without}
use Rattle.nb_cache.specs.View.{CacheValue, seen}
use Rattle.nb_cache.proofs.Entries.{cache_of}
use Rattle.nb_cache.proofs.Putting.{seen_same, writes_same, writes_put, seen_put, torn_put, writes_once, seen_once, torn_once, writes_left, torn_left, same_left}
use Rattle.nb_cache.proofs.cache.Cache.lay.Goals as goal

pub returns-in_err-keep-clause-ran : goal.returns-in_err-keep-clause-ran
returns-in_err-keep-clause-ran g c = record {
  writes = writes_same g.H.Host.meaning c.args.self.now {old = c.args.host.now} c.keep.new.self {new = c.args.host.now}
      c.requires.in_step c.keep.ensures.pages (leads_none g.H.Host.meaning c.args.host.now (λ image. refl)) (omega arith) refl
      (c.args.name.file ∷ []) c.in_err-keep.ensures.refusal
      (λ file has. subst (λ l. Contains l file) (sym c.keep.ensures.unwritten) has)
      (λ file has. Contains-tail c.args.name.file c.args.self.now.unwritten file
      (subst (λ l. Contains l file) c.keep.ensures.unwritten has));
  rose = search rules;
  spared = λ _. refl;
}

pub returns-in_err-keep-clause-torn : goal.returns-in_err-keep-clause-torn
returns-in_err-keep-clause-torn g c = record {
  told = λ tells.
      let old = seen g.H.Host.meaning c.args.self.now c.args.host.now c.args.name.file in
      subst (IsTorn (page_start c.args.name.page) PAGE_SIZE old)
      (sym (seen_same g.H.Host.meaning c.args.self.now {old = c.args.host.now} c.keep.new.self {new = c.args.host.now}
      c.requires.in_step c.in_err-keep.ensures.refusal (leads_none g.H.Host.meaning c.args.host.now (λ image. refl))
      c.args.name.file))
      (torn_by_nothing (page_start c.args.name.page) PAGE_SIZE old);
}

pub returns-in_err-keep-clause-no_memory : goal.returns-in_err-keep-clause-no_memory
returns-in_err-keep-clause-no_memory g c = λ _ file. record {
  told = λ tells.
      seen_same g.H.Host.meaning c.args.self.now {old = c.args.host.now} c.keep.new.self {new = c.args.host.now}
      c.requires.in_step c.in_err-keep.ensures.refusal (leads_none g.H.Host.meaning c.args.host.now (λ image. refl)) file;
}

pub returns-then-joins-clause-ran : goal.returns-then-joins-clause-ran
returns-then-joins-clause-ran g c =
    let held = subst (λ (w : Bool). c.keep.new.self.held ≡ record { name = c.args.name; bytes = c.args.bytes.now; dirty = w }
    ∷ take (c.args.self.now.pages - 1) (held_without c.args.name c.args.self.now.held)) c.if-joins.true
    c.in_ok-keep.ensures.held in
    record {
      writes = writes_put g.H.Host.meaning c.args.self.now {old = c.args.host.now} c.keep.new.self {new = c.args.host.now}
          c.requires.in_step c.keep.ensures.pages (leads_none g.H.Host.meaning c.args.host.now (λ image. refl)) (omega arith)
          refl c.keep.ensures.unwritten c.len.ensures.sound c.args.name c.args.bytes.now c.requires.page c.requires.name
          c.requires.room held c.requires.marked
          (c.requires.joins (subst IsTrue (sym c.if-joins.true) (search rules)));
      rose = search rules;
      spared = λ _. refl;
    }

pub returns-then-joins-clause-view : goal.returns-then-joins-clause-view
returns-then-joins-clause-view g c =
    let held = subst (λ (w : Bool). c.keep.new.self.held ≡ record { name = c.args.name; bytes = c.args.bytes.now; dirty = w }
    ∷ take (c.args.self.now.pages - 1) (held_without c.args.name c.args.self.now.held)) c.if-joins.true
    c.in_ok-keep.ensures.held in
    seen_put g.H.Host.meaning c.args.self.now {old = c.args.host.now} c.keep.new.self {new = c.args.host.now}
    c.requires.in_step c.keep.ensures.pages (leads_none g.H.Host.meaning c.args.host.now (λ image. refl)) (omega arith)
    refl c.keep.ensures.unwritten c.len.ensures.sound c.args.name c.args.bytes.now c.requires.page c.requires.name
    c.requires.room held

pub returns-then-joins-clause-torn : goal.returns-then-joins-clause-torn
returns-then-joins-clause-torn g c =
    let held = subst (λ (w : Bool). c.keep.new.self.held ≡ record { name = c.args.name; bytes = c.args.bytes.now; dirty = w }
    ∷ take (c.args.self.now.pages - 1) (held_without c.args.name c.args.self.now.held)) c.if-joins.true
    c.in_ok-keep.ensures.held in
    torn_put g.H.Host.meaning c.args.self.now {old = c.args.host.now} c.keep.new.self {new = c.args.host.now}
    c.requires.in_step c.keep.ensures.pages (leads_none g.H.Host.meaning c.args.host.now (λ image. refl)) (omega arith)
    refl c.keep.ensures.unwritten c.len.ensures.sound c.args.name c.args.bytes.now c.requires.page c.requires.name
    c.requires.room held

pub returns-in-Ok-clause-ran : goal.returns-in-Ok-clause-ran
returns-in-Ok-clause-ran g c =
    let held = subst (λ (w : Bool). c.keep.new.self.held ≡ record { name = c.args.name; bytes = c.args.bytes.now; dirty = w }
    ∷ take (c.args.self.now.pages - 1) (held_without c.args.name c.args.self.now.held)) c.if-joins.false
    c.in_ok-keep.ensures.held in
    let ran = c.write_at.ensures.ran in
    record {
      writes = writes_once g.H.Host.meaning c.args.self.now {old = c.args.host.now} c.keep.new.self {new = c.write_at.new.self}
          c.requires.in_step c.args.name c.args.bytes.now c.requires.page c.requires.name c.requires.room c.len.ensures.sound
          held c.keep.ensures.unwritten (c.requires.absent c.if-joins.false) ran.leads c.in-Ok.ensures.written
          c.keep.ensures.pages ran.count ran.tally;
      rose = search rules;
      spared = λ _. ran.spared (search rules);
    }

pub returns-in-Ok-clause-view : goal.returns-in-Ok-clause-view
returns-in-Ok-clause-view g c =
    let held = subst (λ (w : Bool). c.keep.new.self.held ≡ record { name = c.args.name; bytes = c.args.bytes.now; dirty = w }
    ∷ take (c.args.self.now.pages - 1) (held_without c.args.name c.args.self.now.held)) c.if-joins.false
    c.in_ok-keep.ensures.held in
    seen_once g.H.Host.meaning c.args.self.now {old = c.args.host.now} c.keep.new.self {new = c.write_at.new.self}
    c.requires.in_step c.args.name c.args.bytes.now c.requires.page c.requires.name c.requires.room c.len.ensures.sound
    held c.keep.ensures.unwritten (c.requires.absent c.if-joins.false) c.write_at.ensures.ran.leads c.in-Ok.ensures.written

pub returns-in-Ok-clause-torn : goal.returns-in-Ok-clause-torn
returns-in-Ok-clause-torn g c =
    let held = subst (λ (w : Bool). c.keep.new.self.held ≡ record { name = c.args.name; bytes = c.args.bytes.now; dirty = w }
    ∷ take (c.args.self.now.pages - 1) (held_without c.args.name c.args.self.now.held)) c.if-joins.false
    c.in_ok-keep.ensures.held in
    torn_once g.H.Host.meaning c.args.self.now {old = c.args.host.now} c.keep.new.self {new = c.write_at.new.self}
    c.requires.in_step c.args.name c.args.bytes.now c.requires.page c.requires.name c.requires.room c.len.ensures.sound
    held c.keep.ensures.unwritten (c.requires.absent c.if-joins.false) c.write_at.ensures.ran.leads c.in-Ok.ensures.written

pub returns-in-Err-clause-ran : goal.returns-in-Err-clause-ran
returns-in-Err-clause-ran g c =
    let held = subst (λ (w : Bool). c.keep.new.self.held ≡ record { name = c.args.name; bytes = c.args.bytes.now; dirty = w }
    ∷ take (c.args.self.now.pages - 1) (held_without c.args.name c.args.self.now.held)) c.if-joins.false
    c.in_ok-keep.ensures.held in
    let ran = c.write_at.ensures.ran in
    record {
      writes = writes_left g.H.Host.meaning c.args.self.now {old = c.args.host.now} c.keep.new.self {new = c.write_at.new.self}
          c.requires.in_step c.args.name c.args.bytes.now c.requires.page c.requires.name c.requires.room c.len.ensures.sound
          held c.keep.ensures.unwritten (c.requires.absent c.if-joins.false) ran.leads
          (cache_of c.forget.new.self c.self.inside.unwritten)
          (c.forget.ensures.held ∙ ap (λ (v : CacheValue). held_without c.args.name v.held) c.self.view_is)
          (ap (λ (v : CacheValue). v.unwritten) c.self.view_is ∙ c.keep.ensures.unwritten)
          (c.forget.ensures.pages ∙ ap (λ (v : CacheValue). v.pages) c.self.view_is ∙ c.keep.ensures.pages)
          ran.count ran.tally;
      rose = λ faulted. ran.rose (search rules);
      spared = λ never. ran.spared (search rules);
    }

pub returns-in-Err-clause-torn : goal.returns-in-Err-clause-torn
returns-in-Err-clause-torn g c =
    let held = subst (λ (w : Bool). c.keep.new.self.held ≡ record { name = c.args.name; bytes = c.args.bytes.now; dirty = w }
    ∷ take (c.args.self.now.pages - 1) (held_without c.args.name c.args.self.now.held)) c.if-joins.false
    c.in_ok-keep.ensures.held in
    torn_left g.H.Host.meaning c.args.self.now {old = c.args.host.now} c.keep.new.self {new = c.write_at.new.self}
    c.requires.in_step c.args.name c.args.bytes.now c.requires.page c.requires.name c.requires.room c.len.ensures.sound
    held c.keep.ensures.unwritten (c.requires.absent c.if-joins.false) c.write_at.ensures.ran.leads
    (cache_of c.forget.new.self c.self.inside.unwritten)
    (c.forget.ensures.held ∙ ap (λ (v : CacheValue). held_without c.args.name v.held) c.self.view_is)
    (ap (λ (v : CacheValue). v.unwritten) c.self.view_is ∙ c.keep.ensures.unwritten)

pub returns-in-Err-clause-no_memory : goal.returns-in-Err-clause-no_memory
returns-in-Err-clause-no_memory g c = λ wants file.
    let held = subst (λ (w : Bool). c.keep.new.self.held ≡ record { name = c.args.name; bytes = c.args.bytes.now; dirty = w }
    ∷ take (c.args.self.now.pages - 1) (held_without c.args.name c.args.self.now.held)) c.if-joins.false
    c.in_ok-keep.ensures.held in
    same_left g.H.Host.meaning c.args.self.now {old = c.args.host.now} c.keep.new.self {new = c.write_at.new.self}
    c.requires.in_step c.args.name c.args.bytes.now c.requires.page c.requires.name c.requires.room c.len.ensures.sound
    held c.keep.ensures.unwritten (c.requires.absent c.if-joins.false) c.write_at.ensures.ran.leads
    (cache_of c.forget.new.self c.self.inside.unwritten)
    (c.forget.ensures.held ∙ ap (λ (v : CacheValue). held_without c.args.name v.held) c.self.view_is)
    (ap (λ (v : CacheValue). v.unwritten) c.self.view_is ∙ c.keep.ensures.unwritten)
    (c.write_at.ensures.nothing (search rules)) file
