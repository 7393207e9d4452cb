use Rattle.std.proofs.Common.{Option, Some, None, IfSome, ◌≡◌, sym, subst}
use Rattle.nb_host.specs.Page.{page_of}
use Rattle.nb_cache.specs.InStep.{IsCoherent}
use Rattle.nb_cache.specs.View.{CacheValue, view_of}
use Rattle.nb_cache.proofs.Entries.{cache_of}
use Rattle.nb_cache.proofs.Fitting.{held_page}
use Rattle.nb_cache.proofs.cache.Cache.lent.Goals as goal

more : {A : Type 0} {P Q : A → Type 0} (r : Option A) → IfSome r P → ((a : A) → P a → Q a) → IfSome r Q
more None has step = has
more (Some a) has step = step a has

pub returns-clause-view : goal.returns-clause-view
returns-clause-view c = λ image fits.
    subst (λ (v : CacheValue). IfSome c.lent.result (λ bytes. bytes.now ≡ page_of (view_of v image c.args.name.file) c.args.name.page)) c.self.view_is
    (more c.lent.result c.lent.ensures.held (λ bytes has.
    held_page (cache_of c.self.inside.frames c.self.inside.unwritten) image c.lent.ensures.sound
    (subst (λ (v : CacheValue). IsCoherent v image) (sym c.self.view_is) fits)
    (record { name = c.args.name; bytes = bytes.now; dirty = has.0 }) has.1))
