use Rattle.std.proofs.Common.{Contains, ap, refl, sym, subst, ◌∙◌, arith, rules}
use Rattle.nb_cache.specs.Names.{with_clean}
use Rattle.nb_cache.specs.View.{CacheValue, IsDirty, held_names, names_of}
use Rattle.nb_cache.proofs.Entries.{cache_of}
use Rattle.nb_cache.proofs.Laying.{settled_rests, settled_names}
use Rattle.nb_cache.proofs.Settling.{page, writes_under, writes_settled}
use Rattle.nb_cache.proofs.cache.Cache.settle.Goals as goal

pub returns-in_default-clause-settled : goal.returns-in_default-clause-settled
returns-in_default-clause-settled g c =
    let none = subst (λ (v : CacheValue). IsDirty v.held c.args.name → ⊥) c.self.view_is
    (c.in_default.ensures.none refl) in
    sym (settled_rests c.args.name c.args.self.now.held none)

pub overflow_mul-name : goal.overflow_mul-name
overflow_mul-name g c =
    let there = subst (λ (v : CacheValue). Contains v.held (page c.args.name c.in-Some.bytes.now)) c.self.view_is
    c.in-Some.ensures.held in
    let place = c.len.ensures.sound.places (page c.args.name c.in-Some.bytes.now) there in
    omega (arith, place.page)

pub write_at-requires-clause-number : goal.write_at-requires-clause-number
write_at-requires-clause-number g c =
    let there = subst (λ (v : CacheValue). Contains v.held (page c.args.name c.in-Some.bytes.now)) c.self.view_is
    c.in-Some.ensures.held in
    let place = c.len.ensures.sound.places (page c.args.name c.in-Some.bytes.now) there in
    omega (arith, place.file.greatest)

pub write_at-requires-clause-offset : goal.write_at-requires-clause-offset
write_at-requires-clause-offset g c =
    let there = subst (λ (v : CacheValue). Contains v.held (page c.args.name c.in-Some.bytes.now)) c.self.view_is
    c.in-Some.ensures.held in
    let place = c.len.ensures.sound.places (page c.args.name c.in-Some.bytes.now) there in
    let full = c.len.ensures.sound.whole (page c.args.name c.in-Some.bytes.now) there in
    omega (arith, place.page, full)

pub returns-in_err-write_at-clause-ran : goal.returns-in_err-write_at-clause-ran
returns-in_err-write_at-clause-ran g c =
    let there = subst (λ (v : CacheValue). Contains v.held (page c.args.name c.in-Some.bytes.now)) c.self.view_is
    c.in-Some.ensures.held in
    record {
      writes = writes_under g.H.Host.meaning c.args.self.now c.args.host.now c.write_at.new.self c.args.name
          c.in-Some.bytes.now there c.len.ensures.sound c.requires.in_step c.write_at.ensures.ran.leads
          c.write_at.ensures.ran.count c.write_at.ensures.ran.tally;
      rose = λ faulted. c.write_at.ensures.ran.rose (search rules);
      spared = λ never. c.write_at.ensures.ran.spared (search rules);
    }

pub returns-clause-ran : goal.returns-clause-ran
returns-clause-ran g c =
    let there = subst (λ (v : CacheValue). Contains v.held (page c.args.name c.in-Some.bytes.now)) c.self.view_is
    c.in-Some.ensures.held in
    record {
      writes = writes_settled g.H.Host.meaning c.args.self.now c.args.host.now c.write_at.new.self c.args.name
          c.in-Some.bytes.now there c.len.ensures.sound c.requires.in_step c.write_at.ensures.ran.leads
          c.write_at.ensures.ran.count c.write_at.ensures.ran.tally
          (cache_of c.settle.new.self c.self.inside.unwritten)
          (c.settle.ensures.held ∙ ap (λ (v : CacheValue). with_clean c.args.name v.held) c.self.view_is)
          (ap (λ (v : CacheValue). v.unwritten) c.self.view_is)
          (c.settle.ensures.pages ∙ ap (λ (v : CacheValue). v.pages) c.self.view_is)
          c.in_ok-write_at.ensures.written;
      rose = search rules;
      spared = λ _. c.write_at.ensures.ran.spared (search rules);
    }

pub returns-clause-resident : goal.returns-clause-resident
returns-clause-resident g c =
    ap (λ l. held_names l) c.settle.ensures.held ∙ settled_names c.args.name c.self.inside.frames.held
    ∙ ap names_of c.self.view_is
