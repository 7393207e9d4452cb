-- A fetch as far as it has come.
use Rattle.std.proofs.Common.{◌≡◌, ℕ, suc, ◌+◌, ◌<◌, IsTrue, List, [], ◌∷◌, ◌++◌, length, take, refl, sym, ap, subst, ◌∙◌, arith, get_or}
use Rattle.std.proofs.Math.Seq.{take-suc}
use Rattle.std.proofs.lemmas.Option.{slice_get-get_or}
use Rattle.std.specs.List.{AllByRecursion, IsDistinct}
use Rattle.nb_host.specs.Meaning.{HostModel}
use Rattle.nb_host.specs.declared.page_name.PageName.{PageName}
use Rattle.nb_host.specs.Page.{HasPage, same_page, IsRising}
use Rattle.nb_cache.specs.Names.{used}
use Rattle.nb_cache.specs.InStep.{IsInStep}
use Rattle.nb_cache.specs.Sound.{AreResident}
use Rattle.nb_cache.specs.View.{CacheValue, names_of, IsWhole, IsFirstShort}
use Rattle.nb_cache.specs.Writes.{Writes}
use Rattle.nb_cache.proofs.Callers.{no_file, writes_begins, writes_again}
use Rattle.nb_cache.proofs.Uses.{Lacks, used_next, used_none, rising_apart}

all_and_one : {X : Type 0} (P : X → Type 0) (xs : List X) (x : X) → AllByRecursion P xs → P x
    → AllByRecursion P (xs ++ x ∷ [])
all_and_one P [] x all one = (one, tt)
all_and_one P (y ∷ xs) x all one = (all.0, all_and_one P xs x all.1 one)

module _ {H : Type 0} (m : HostModel H) where
  -- these names were brought, and no call failed
  pub record Fetches (old_cache : CacheValue) (old : H) (done : List PageName) (new_cache : CacheValue) (new : H) : Type 0 where
    pub names : names_of new_cache ≡ used old_cache.pages done (names_of old_cache)
    pub whole : IsTrue m.tells → AllByRecursion (IsWhole old_cache (m.contents old)) done
    pub unwritten : new_cache.unwritten ≡ old_cache.unwritten
    pub sound : AreResident new_cache.pages new_cache.held
    pub writes : Writes m [] old_cache old new_cache new
    pub spared : m.faults new ≡ m.faults old

  pub fetches_none : (old_cache : CacheValue) (old : H) → AreResident old_cache.pages old_cache.held
      → IsInStep m old_cache old → Fetches old_cache old [] old_cache old
  fetches_none old_cache old sound in_step = record {
    names = used_none old_cache.pages (names_of old_cache) sound.bound;
    whole = λ _. tt;
    unwritten = refl;
    sound = sound;
    writes = writes_begins m [] old_cache old in_step;
    spared = refl;
  }

  module _ (old_cache : CacheValue) (old : H) (done : List PageName) (middle_cache : CacheValue) (middle : H) (k : PageName) (so_far : Fetches old_cache old done middle_cache middle) (tells : IsTrue m.tells) where
    -- whether a page is whole is as it was
    pub whole_then : IsWhole old_cache (m.contents old) k → IsWhole middle_cache (m.contents middle) k
    whole_then whole = subst (λ l. HasPage l k.page) (sym (so_far.writes.view tells k.file (no_file k.file))) whole

    pub whole_before : IsWhole middle_cache (m.contents middle) k → IsWhole old_cache (m.contents old) k
    whole_before whole = subst (λ l. HasPage l k.page) (so_far.writes.view tells k.file (no_file k.file)) whole

  module _ (old_cache : CacheValue) (old : H) (names : List PageName) (i : ℕ) (d : PageName) (within : i < length names) (middle_cache : CacheValue) (middle : H) (so_far : Fetches old_cache old (take i names) middle_cache middle) where
    abbrev k : PageName
    k = get_or names i d

    -- one name more
    pub fetches_at : (new_cache : CacheValue) (new : H) → IsRising names
        → names_of new_cache ≡ used middle_cache.pages (get_or names i d ∷ []) (names_of middle_cache)
        → (IsTrue m.tells → IsWhole middle_cache (m.contents middle) (get_or names i d))
        → new_cache.unwritten ≡ middle_cache.unwritten → AreResident new_cache.pages new_cache.held
        → Writes m [] middle_cache middle new_cache new → m.faults new ≡ m.faults middle
        → Fetches old_cache old (take (i + 1) names) new_cache new
    fetches_at new_cache new rising resident whole unwritten sound writes spared =
        let next : i + 1 ≡ suc i = omega arith in
        let more : take (i + 1) names ≡ take i names ++ k ∷ [] = ap (λ n. take n names) next ∙ take-suc names i d within in
        let lacks : Lacks k (take i names) = rising_apart names i k rising (slice_get-get_or names i d within) in
        subst (λ done. Fetches old_cache old done new_cache new) (sym more) (record {
          names =
              resident ∙ ap (λ n. used n (k ∷ []) (names_of middle_cache)) so_far.writes.pages
              ∙ ap (λ l. used old_cache.pages (k ∷ []) l) so_far.names
              ∙ used_next old_cache.pages (take i names) k (names_of old_cache) lacks
              (subst (IsDistinct same_page) so_far.names so_far.sound.distinct);
          whole = λ tells.
              all_and_one (IsWhole old_cache (m.contents old)) (take i names) k (so_far.whole tells)
              (whole_before old_cache old (take i names) middle_cache middle k so_far tells (whole tells));
          unwritten = unwritten ∙ so_far.unwritten;
          sound = sound;
          writes = writes_again so_far.writes writes;
          spared = spared ∙ so_far.spared;
        })

    -- the next name is the first that is short
    pub fetches_short : (name : PageName) → name ≡ get_or names i d → IsTrue m.tells
        → (IsTrue m.tells → IsWhole middle_cache (m.contents middle) (get_or names i d) → ⊥)
        → IsFirstShort old_cache (m.contents old) names name
    fetches_short name is tells short =
        subst (IsFirstShort old_cache (m.contents old) names) (sym is) (record {
          at = i;
          there = slice_get-get_or names i d within;
          before = so_far.whole tells;
          short = λ whole. short tells
              (whole_then old_cache old (take i names) middle_cache middle (get_or names i d) so_far tells whole);
        })
