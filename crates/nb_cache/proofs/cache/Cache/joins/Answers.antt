use Rattle.std.proofs.Common.{ℕ, ◌-◌, ◌*◌, ◌≤◌, IsTrue, Contains, sym, subst, ◌∙◌, arith}
use lib.Dec.{leb}
use Rattle.std.proofs.lemmas.Bool.Decides.{nat_tests}
use Rattle.nb_cache.specs.View.{CacheValue, names_of}
use Rattle.nb_cache.proofs.Fitting.{resident_whole}
use Rattle.nb_cache.proofs.Torn.{length_overlaid}
use Rattle.nb_host.specs.declared.page_name.TheConstants.{PAGE_SIZE}
use Rattle.nb_cache.proofs.cache.Cache.joins.Goals as goal

pub returns-then-is_some-clause-joins : goal.returns-then-is_some-clause-joins
returns-then-is_some-clause-joins g c = λ _ tells.
    let whole = resident_whole c.args.self.now (g.H.Host.meaning.contents c.args.host.now) c.len.ensures.sound
    (c.requires.in_step tells) c.args.name
    (subst (λ (v : CacheValue). Contains (names_of v) c.args.name) c.self.view_is
    (c.lent.ensures.resident.0 (sym c.is_some.ensures ∙ c.if-is_some.true))) in
    omega (arith, whole)

pub returns-then-is_some-2-clause-joins : goal.returns-then-is_some-2-clause-joins
returns-then-is_some-2-clause-joins g c = λ _ tells.
    let whole = resident_whole c.args.self.now (g.H.Host.meaning.contents c.args.host.now) c.len.ensures.sound
    (c.requires.in_step tells) (record { file = c.args.name.file; page = c.args.name.page - 1 })
    (subst (λ (v : CacheValue). Contains (names_of v) (record { file = c.args.name.file; page = c.args.name.page - 1 }))
    c.self.view_is
    (c.lent-2.ensures.resident.0 (sym c.is_some-2.ensures ∙ c.if-is_some-2.true))) in
    omega (arith, whole, c.if-name-eq0.false)

pub returns-clause-joins : goal.returns-clause-joins
returns-clause-joins g c = λ few tells.
    let all = length_overlaid c.args.name.file c.args.self.now.held
    ((g.H.Host.meaning.contents c.args.host.now).file c.args.name.file) c.len.ensures.sound.whole in
    let is = c.in_ok-len.ensures.length tells in
    let less : c.args.name.page * PAGE_SIZE ≤ c.in_ok-len.len = below (c.args.name.page * PAGE_SIZE) c.in_ok-len.len few in
    omega (arith, all, is, less)
  where
    below : (a b : ℕ) → IsTrue (leb a b) → a ≤ b
    below a b few = grind (arith, nat_tests)
