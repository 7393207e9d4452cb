use Rattle.std.proofs.Common.{◌≡◌, OnOk, Result, Ok, Err, [], ◌∷◌, Contains, ap, refl, sym, subst, ◌∙◌, arith, rules}
use Rattle.nb_host.specs.Page.{HasPage}
use Rattle.nb_host.proofs.Callers.{leads_none}
use Rattle.nb_cache.specs.Names.{used, IsPromoted}
use Rattle.nb_cache.specs.InStep.{IsInStep}
use Rattle.nb_cache.specs.View.{CacheValue, IsWhole, names_of}
use Rattle.nb_cache.specs.Writes.{Writes, RanCached}
use Rattle.nb_cache.specs.declared.cache_error.CacheError.TheVariants.{Fault}
use Rattle.nb_cache.proofs.Callers.{no_file, ran_again}
use Rattle.nb_cache.proofs.Entries.{cache_of}
use Rattle.nb_cache.proofs.Fitting.{resident_whole}
use Rattle.nb_cache.proofs.Putting.{writes_moved}
use Rattle.nb_cache.proofs.cache.Cache.bring.Goals as goal

on_ok : {T E P Q : Type 0} (r : Result T E) → OnOk r P → (P → Q) → OnOk r Q
on_ok (Ok x) has step = step has
on_ok (Err e) has step = tt

pub returns-then-promote-clause-whole : goal.returns-then-promote-clause-whole
returns-then-promote-clause-whole g c = λ tells.
    resident_whole c.args.self.now (g.H.Host.meaning.contents c.args.host.now) c.len.ensures.sound
    (c.requires.in_step tells) c.args.name
    (subst (λ (v : CacheValue). Contains (names_of v) c.args.name) c.self.view_is
    (c.promote.ensures.found.0 c.if-promote.true))

pub returns-then-promote-clause-ran : goal.returns-then-promote-clause-ran
returns-then-promote-clause-ran g c = record {
  writes = writes_moved g.H.Host.meaning c.args.self.now {old = c.args.host.now}
      (cache_of c.promote.new.self c.self.inside.unwritten) {new = c.args.host.now} c.requires.in_step
      (c.promote.ensures.pages ∙ ap (λ (v : CacheValue). v.pages) c.self.view_is)
      (leads_none g.H.Host.meaning c.args.host.now (λ image. refl)) (omega arith) refl
      (ap (λ (v : CacheValue). v.unwritten) c.self.view_is) c.len.ensures.sound c.args.name
      (subst (λ (v : CacheValue). IsPromoted c.args.name v.held c.promote.new.self.held) c.self.view_is
      (c.promote.ensures.moved c.if-promote.true));
  rose = search rules;
  spared = λ _. refl;
}

pub make_room-requires : goal.make_room-requires
make_room-requires g c =
    let same : cache_of c.promote.new.self c.self.inside.unwritten ≡ c.args.self.now =
    ap (λ s. cache_of s c.self.inside.unwritten) (c.promote.ensures.absent c.if-promote.false) ∙ c.self.view_is in
    record {
      in_step = subst (λ (v : CacheValue). IsInStep g.H.Host.meaning v c.args.host.now) (sym same) c.requires.in_step;
    }

pub returns-in_err-make_room-clause-ran : goal.returns-in_err-make_room-clause-ran
returns-in_err-make_room-clause-ran g c =
    let same : cache_of c.promote.new.self c.self.inside.unwritten ≡ c.args.self.now =
    ap (λ s. cache_of s c.self.inside.unwritten) (c.promote.ensures.absent c.if-promote.false) ∙ c.self.view_is in
    let ran = c.make_room.ensures.ran in
    record {
      writes = subst (λ (v : CacheValue). Writes g.H.Host.meaning [] v c.args.host.now c.make_room.new.self c.make_room.new.host)
          same ran.writes;
      rose = λ faulted. ran.rose (search rules);
      spared = λ never. ran.spared (search rules);
    }

pub read_in-requires-clause-absent : goal.read_in-requires-clause-absent
read_in-requires-clause-absent g c = λ has.
    let there = subst (λ l. Contains l c.args.name)
    (c.make_room.ensures.resident
    ∙ ap (λ s. names_of (cache_of s c.self.inside.unwritten)) (c.promote.ensures.absent c.if-promote.false)) has in
    let found = c.promote.ensures.found.1 there in
    let never = c.if-promote.false in
    (search rules)

pub read_in-requires-clause-in_step : goal.read_in-requires-clause-in_step
read_in-requires-clause-in_step g c = c.make_room.ensures.ran.writes.in_step

pub returns-clause-ran : goal.returns-clause-ran
returns-clause-ran g c =
    let same : cache_of c.promote.new.self c.self.inside.unwritten ≡ c.args.self.now =
    ap (λ s. cache_of s c.self.inside.unwritten) (c.promote.ensures.absent c.if-promote.false) ∙ c.self.view_is in
    ran_again
    (subst (λ (v : CacheValue). RanCached g.H.Host.meaning Fault [] v c.args.host.now c.make_room.new.self c.make_room.new.host
    c.make_room.result) same c.make_room.ensures.ran)
    (search rules) c.read_in.ensures.ran

pub returns-clause-whole : goal.returns-clause-whole
returns-clause-whole g c =
    let same : cache_of c.promote.new.self c.self.inside.unwritten ≡ c.args.self.now =
    ap (λ s. cache_of s c.self.inside.unwritten) (c.promote.ensures.absent c.if-promote.false) ∙ c.self.view_is in
    let m = g.H.Host.meaning in
    on_ok c.read_in.result c.read_in.ensures.whole (λ whole tells.
    subst (λ (v : CacheValue). IsWhole v (m.contents c.args.host.now) c.args.name) same
    (subst (λ l. HasPage l c.args.name.page)
    (c.make_room.ensures.ran.writes.view tells c.args.name.file (no_file c.args.name.file)) (whole tells)))

pub returns-clause-ends : goal.returns-clause-ends
returns-clause-ends g c = λ other short tells whole.
    let same : cache_of c.promote.new.self c.self.inside.unwritten ≡ c.args.self.now =
    ap (λ s. cache_of s c.self.inside.unwritten) (c.promote.ensures.absent c.if-promote.false) ∙ c.self.view_is in
    let m = g.H.Host.meaning in
    c.read_in.ensures.ends other short tells
    (subst (λ l. HasPage l c.args.name.page)
    (sym (c.make_room.ensures.ran.writes.view tells c.args.name.file (no_file c.args.name.file)))
    (subst (λ (v : CacheValue). IsWhole v (m.contents c.args.host.now) c.args.name) (sym same) whole))

pub returns-clause-resident : goal.returns-clause-resident
returns-clause-resident g c =
    let same : cache_of c.promote.new.self c.self.inside.unwritten ≡ c.args.self.now =
    ap (λ s. cache_of s c.self.inside.unwritten) (c.promote.ensures.absent c.if-promote.false) ∙ c.self.view_is in
    on_ok c.read_in.result c.read_in.ensures.resident (λ is.
    is ∙ ap (λ n. used n (c.args.name ∷ []) (names_of c.make_room.new.self))
    (c.make_room.ensures.ran.writes.pages ∙ ap (λ (v : CacheValue). v.pages) same)
    ∙ ap (λ l. used c.args.self.now.pages (c.args.name ∷ []) l) (c.make_room.ensures.resident ∙ ap names_of same))
