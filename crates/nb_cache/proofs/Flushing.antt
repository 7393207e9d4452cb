-- A flush as far as it has come.
use Rattle.std.proofs.Common.{◌≡◌, ℕ, ◌+◌, ◌<◌, inl, inr, true, false, List, [], ◌∷◌, length, drop, refl, sym, ap, subst, ◌∙◌, get_or, Contains}
use Rattle.std.proofs.lemmas.List.{drop_more}
use Rattle.lru.proofs.Splits.{Contains-cons}
use Rattle.nb_host.specs.Meaning.{HostModel}
use Rattle.nb_host.specs.Page.{same_page}
use Rattle.nb_host.specs.declared.page_name.PageName.{PageName}
use Rattle.nb_host.proofs.Callers.{same_page_apart}
use Rattle.nb_cache.specs.InStep.{IsInStep}
use Rattle.nb_cache.specs.Names.{with_clean}
use Rattle.nb_cache.specs.Sound.{AreResident}
use Rattle.nb_cache.specs.View.{Held, CacheValue, IsDirty, names_of}
use Rattle.nb_cache.specs.Writes.{Writes}
use Rattle.nb_cache.proofs.Callers.{writes_begins, writes_again}
use Rattle.nb_cache.proofs.Laying.{settled_has}

module _ {H : Type 0} (m : HostModel H) where
  -- pages were written, no call failed, and the dirty pages are among these
  pub record Flushes (old_cache : CacheValue) (old : H) (left : List PageName) (new_cache : CacheValue) (new : H) : Type 0 where
    pub names : names_of new_cache ≡ names_of old_cache
    pub unwritten : new_cache.unwritten ≡ old_cache.unwritten
    pub waits : (name : PageName) → IsDirty new_cache.held name → Contains left name
    pub sound : AreResident new_cache.pages new_cache.held
    pub writes : Writes m [] old_cache old new_cache new
    pub spared : m.faults new ≡ m.faults old

  pub flushes_none : (old_cache : CacheValue) (old : H) (names : List PageName) → AreResident old_cache.pages old_cache.held
      → IsInStep m old_cache old → ((name : PageName) → IsDirty old_cache.held name → Contains names name)
      → Flushes old_cache old names old_cache old
  flushes_none old_cache old names sound in_step waits = record {
    names = refl;
    unwritten = refl;
    waits = waits;
    sound = sound;
    writes = writes_begins m [] old_cache old in_step;
    spared = refl;
  }

  module _ (old_cache : CacheValue) (old : H) (names : List PageName) (i : ℕ) (d : PageName) (within : i < length names) (middle_cache : CacheValue) (middle : H) (so_far : Flushes old_cache old (drop i names) middle_cache middle) where
    -- one page more
    pub flushes_at : (new_cache : CacheValue) (new : H) → names_of new_cache ≡ names_of middle_cache
        → new_cache.held ≡ with_clean (get_or names i d) middle_cache.held → new_cache.unwritten ≡ middle_cache.unwritten
        → AreResident new_cache.pages new_cache.held → Writes m [] middle_cache middle new_cache new
        → m.faults new ≡ m.faults middle → Flushes old_cache old (drop (i + 1) names) new_cache new
    flushes_at new_cache new same held unwritten sound writes spared = record {
      names = same ∙ so_far.names;
      unwritten = unwritten ∙ so_far.unwritten;
      waits = λ name one.
          elim (settled_has k middle_cache.held one.page (subst (λ l. Contains l one.page) held one.there)) [
            | inl other ↦ rest name (subst (λ n. same_page k n ≡ false) one.named other.1)
                (subst (λ l. Contains l name) more (so_far.waits name (record {
                  page = one.page;
                  there = other.0;
                  named = one.named;
                  dirty = one.dirty;
                })))
            | inr rested ↦
                let two : true ≡ false = sym one.dirty ∙ ap (λ (h : Held). h.dirty) rested.3 in absurd (cc)
          ];
      sound = sound;
      writes = writes_again so_far.writes writes;
      spared = spared ∙ so_far.spared;
    }
      where
        k : PageName
        k = get_or names i d

        more : drop i names ≡ k ∷ drop (i + 1) names
        more = drop_more names i d within

        rest : (name : PageName) → same_page k name ≡ false → Contains (k ∷ drop (i + 1) names) name
            → Contains (drop (i + 1) names) name
        rest name other has = elim (Contains-cons k (drop (i + 1) names) name has) [
          | inl same ↦ absurd (same_page_apart k name other same)
          | inr there ↦ there
        ]
