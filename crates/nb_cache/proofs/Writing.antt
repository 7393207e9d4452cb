-- What each call of a cache leaves alone.
use Rattle.std.proofs.Common.{◌≡◌, ◌≢◌, ℕ, ◌≤◌, IsTrue, List, [], ◌∷◌, ◌++◌, inl, inr, sym, subst, Contains}
use Rattle.std.proofs.lemmas.List.Elements.{Contains-append_left}
use Rattle.lru.proofs.Splits.{Contains-head, Contains-cons, Contains-nil}
use Rattle.nb_host.specs.Crashes.{Stays, AgreesOutside}
use Rattle.nb_host.specs.Image.{Image, FileBecomes}
use Rattle.nb_host.specs.Meaning.{HostModel, Leads}
use Rattle.nb_host.proofs.Callers.{agrees_itself, agrees_more, becomes_agrees, leads_more, weaken}
use Rattle.nb_cache.specs.InStep.{IsInStep}
use Rattle.nb_cache.specs.View.{CacheValue, seen}
use Rattle.nb_cache.specs.Writes.{Writes}

-- a step that is known of a host that tells
pub leads_told : {H : Type 0} {m : HostModel H} {old new : H} {S T : Image → Image → Type 0} → Leads m S old new
    → (IsTrue m.tells → (start image : Image) → S start image → T start image) → Leads m T old new
leads_told {m = m} {old = old} {new = new} leads more = record {
  contents = λ tells. more tells (m.contents old) (m.contents new) (leads.contents tells);
  images = record { follows = λ honest. (weaken leads.images (more (m.tells_if_honest honest))).follows honest };
}

module _ {H : Type 0} {m : HostModel H} (old_cache : CacheValue) {old : H} (new_cache : CacheValue) {new : H} (in_step : IsInStep m new_cache new) (pages : new_cache.pages ≡ old_cache.pages) (count : m.faults old ≤ m.faults new) (tally : m.tally new ≡ m.tally old) where
  -- nothing was written
  pub writes_nothing : (files : List ℕ) → Leads m Stays old new
      → ((file : ℕ) → Contains new_cache.unwritten file → Contains (files ++ old_cache.unwritten) file)
      → (IsTrue m.tells → (file : ℕ) → (Contains files file → ⊥) → seen m new_cache new file ≡ seen m old_cache old file)
      → Writes m files old_cache old new_cache new
  writes_nothing files leads unwritten view = record {
    leads = leads_more leads
        (λ start image stays. subst (λ (i : Image). AgreesOutside (files ++ old_cache.unwritten) start i) (sym stays)
        (agrees_itself (files ++ old_cache.unwritten) start));
    unwritten = unwritten;
    pages = pages;
    in_step = in_step;
    view = view;
    count = count;
    tally = tally;
  }

  -- a file was written that was unwritten
  pub writes_late : (number : ℕ) {P : List ℕ → List ℕ → Type 0} → Leads m (FileBecomes number P) old new
      → (IsTrue m.tells → Contains old_cache.unwritten number) → new_cache.unwritten ≡ old_cache.unwritten
      → (IsTrue m.tells → (file : ℕ) → seen m new_cache new file ≡ seen m old_cache old file)
      → Writes m [] old_cache old new_cache new
  writes_late number leads marked unwritten view = record {
    leads = leads_told leads
        (λ tells start image becomes.
        agrees_more
        (λ file has. elim (Contains-cons number [] file has) [
          | inl same ↦ subst (Contains old_cache.unwritten) same (marked tells)
          | inr none ↦ absurd (Contains-nil file none)
        ])
        (becomes_agrees becomes));
    unwritten = λ file has. subst (λ l. Contains l file) unwritten has;
    pages = pages;
    in_step = in_step;
    view = λ tells file _. view tells file;
    count = count;
    tally = tally;
  }

  -- one file was written
  pub writes_file : (number : ℕ) {P : List ℕ → List ℕ → Type 0} → Leads m (FileBecomes number P) old new
      → ((file : ℕ) → Contains new_cache.unwritten file → Contains (number ∷ old_cache.unwritten) file)
      → (IsTrue m.tells → (file : ℕ) → file ≢ number → seen m new_cache new file ≡ seen m old_cache old file)
      → Writes m (number ∷ []) old_cache old new_cache new
  writes_file number leads unwritten view = record {
    leads = leads_more leads
        (λ start image becomes.
        agrees_more (λ file has. Contains-append_left (number ∷ []) old_cache.unwritten file has)
        (becomes_agrees becomes));
    unwritten = unwritten;
    pages = pages;
    in_step = in_step;
    view = λ tells file spared.
        view tells file (λ same. spared (subst (Contains (number ∷ [])) (sym same) (Contains-head number [])));
    count = count;
    tally = tally;
  }
