-- What a cache leaves alone where a page is placed, or nothing but names and marks changes.
use Rattle.std.proofs.Common.{◌≡◌, ◌≢◌, ◌↔◌, ◌⊎◌, ℕ, ◌-◌, ◌≤◌, inl, inr, true, false, IsTrue, List, [], ◌∷◌, ◌++◌, length, take, refl, sym, ap, subst, ◌∙◌, Contains, arith}
use Rattle.lru.proofs.Splits.{Contains-head, Contains-tail, Contains-nil}
use Rattle.nb_host.specs.Crashes.{Stays}
use Rattle.nb_host.specs.Image.{Image, FileBecomes, IsOverwritten, IsTorn, IsPartlyCut, overwritten}
use Rattle.nb_host.specs.Meaning.{HostModel, Leads, Over}
use Rattle.nb_host.specs.Page.{HasPage, page_of, page_start}
use Rattle.nb_host.specs.declared.page_name.PageName.{PageName}
use Rattle.nb_host.specs.declared.page_name.TheConstants.{PAGE_SIZE}
use Rattle.nb_host.proofs.Callers.{page_torn, stays_contents}
use Rattle.nb_cache.specs.InStep.{IsCacheable, IsInStep, IsCoherent}
use Rattle.nb_cache.specs.Names.{without_file, held_without, IsPromoted, IsWithoutFile, SparesDirty}
use Rattle.nb_cache.specs.Sound.{AreResident}
use Rattle.nb_cache.specs.View.{Held, CacheValue, Seen, Same, IsDirty, IsWhole, names_of, overlaid, seen}
use Rattle.nb_cache.specs.Writes.{Writes}
use Rattle.nb_cache.proofs.Fitting.{fits_marked, fits_rested, fits_moved, moved_view, fits_put, put_view, put_others, fits_loaded, rest_view, fits_at_once, at_once_view, fits_left, left_view, fits_emptied, emptied_view}
use Rattle.nb_cache.proofs.Torn.{length_overlaid, view_torn}
use Rattle.nb_cache.proofs.Writing.{writes_nothing, writes_file}

-- the host's page is whole in the view
pub whole_of : (c : CacheValue) (image : Image) (k : PageName) → AreResident c.pages c.held → HasPage (image.file k.file) k.page
    → IsWhole c image k
whole_of c image k sound has = let all = length_overlaid k.file c.held (image.file k.file) sound.whole in omega (arith, all, has)

module _ {H : Type 0} (m : HostModel H) (cache : CacheValue) {old : H} (after : CacheValue) {new : H} (in_step : IsInStep m cache old) where
  -- what is shown stays where the pages stay and the host does
  pub seen_same : after.held ≡ cache.held → Leads m Stays old new → (file : ℕ) → seen m after new file ≡ seen m cache old file
  seen_same held leads file =
      ap (λ l. overlaid file l ((m.contents new).file file)) held
      ∙ ap (λ (i : Image). overlaid file cache.held (i.file file)) (stays_contents leads)

  module _ (pages : after.pages ≡ cache.pages) (leads : Leads m Stays old new) (count : m.faults old ≤ m.faults new) (tally : m.tally new ≡ m.tally old) where
    -- the same pages
    pub writes_same : (files : List ℕ) → after.held ≡ cache.held
        → ((file : ℕ) → Contains cache.unwritten file → Contains after.unwritten file)
        → ((file : ℕ) → Contains after.unwritten file → Contains (files ++ cache.unwritten) file)
        → Writes m files cache old after new
    writes_same files held more less =
        writes_nothing {m = m} cache {old = old} after {new = new}
        (λ tells. subst (λ i. IsCoherent after i) (sym (stays_contents leads))
        (fits_marked cache after (m.contents old) (in_step tells) held more))
        pages count tally files leads less (λ _ file _. seen_same held leads file)

    -- the same pages, of which none waits, and no mark
    pub writes_cleared : after.held ≡ cache.held → ((name : PageName) → IsDirty cache.held name → ⊥) → after.unwritten ≡ []
        → Writes m [] cache old after new
    writes_cleared held none cleared =
        writes_nothing {m = m} cache {old = old} after {new = new}
        (λ tells. subst (λ i. IsCoherent after i) (sym (stays_contents leads))
        (fits_rested cache after (m.contents old) (in_step tells) held none))
        pages count tally [] leads (λ file has. absurd (Contains-nil file (subst (λ l. Contains l file) cleared has)))
        (λ _ file _. seen_same held leads file)

    module _ (unwritten : after.unwritten ≡ cache.unwritten) (sound : AreResident cache.pages cache.held) where
      was : (file : ℕ) → Contains after.unwritten file → Contains cache.unwritten file
      was file has = subst (λ l. Contains l file) unwritten has

      -- a page became the most recently used
      pub writes_moved : (name : PageName) → IsPromoted name cache.held after.held → Writes m [] cache old after new
      writes_moved name moved =
          writes_nothing {m = m} cache {old = old} after {new = new}
          (λ tells. subst (λ i. IsCoherent after i) (sym (stays_contents leads))
          (fits_moved name cache after (m.contents old) moved sound unwritten (in_step tells)))
          pages count tally [] leads was
          (λ _ file _. moved_view name cache.pages cache.held after.held moved sound file ((m.contents new).file file)
          ∙ ap (λ (i : Image). overlaid file cache.held (i.file file)) (stays_contents leads))

      module _ (k : PageName) (bytes : List ℕ) (full : length bytes ≡ PAGE_SIZE) (place : IsCacheable k) (room : SparesDirty k cache.pages cache.held) where
        -- a page was read in
        pub writes_loaded : after.held ≡ record { name = k; bytes = bytes; dirty = false } ∷ take (cache.pages - 1) (held_without k cache.held)
            → (Contains (names_of cache) k → ⊥)
            → (IsTrue m.tells → bytes ≡ page_of ((m.contents old).file k.file) k.page) → Writes m [] cache old after new
        writes_loaded held absent page =
            let p : Held = record { name = k; bytes = bytes; dirty = false } in
            writes_nothing {m = m} cache {old = old} after {new = new}
            (λ tells. subst (λ i. IsCoherent after i) (sym (stays_contents leads))
            (fits_loaded k p refl full place cache after sound room held unwritten refl absent (m.contents old) (page tells)
            (in_step tells)))
            pages count tally [] leads was
            (λ _ file _. rest_view k p refl full place cache after sound room held unwritten refl absent file ((m.contents new).file file)
            ∙ ap (λ (i : Image). overlaid file cache.held (i.file file)) (stays_contents leads))

        -- a page was put, and waits
        module _ (held : after.held ≡ record { name = k; bytes = bytes; dirty = true } ∷ take (cache.pages - 1) (held_without k cache.held)) where
          abbrev late : Held
          late = record { name = k; bytes = bytes; dirty = true }

          pub writes_put : Contains cache.unwritten k.file → (IsTrue m.tells → page_start k.page ≤ length (seen m cache old k.file))
              → Writes m (k.file ∷ []) cache old after new
          writes_put marked joins =
              writes_nothing {m = m} cache {old = old} after {new = new}
              (λ tells. subst (λ i. IsCoherent after i) (sym (stays_contents leads))
              (fits_put k late refl full place cache after sound room held unwritten refl (m.contents old) (joins tells) marked
              (in_step tells)))
              pages count tally (k.file ∷ []) leads (λ file has. Contains-tail k.file cache.unwritten file (was file has))
              (λ _ file spared. put_others k late refl full place cache after sound room held unwritten refl (m.contents new) file
              (λ same. spared (subst (Contains (k.file ∷ [])) (sym same) (Contains-head k.file [])))
              ∙ ap (λ (i : Image). overlaid file cache.held (i.file file)) (stays_contents leads))

          put_is : seen m after new k.file ≡ overwritten (page_start k.page) bytes (seen m cache old k.file)
          put_is =
              put_view k late refl full place cache after sound room held unwritten refl (m.contents new)
              ∙ ap (λ (i : Image). overwritten (page_start k.page) bytes (overlaid k.file cache.held (i.file k.file))) (stays_contents leads)

          pub seen_put : Seen m k.file (IsOverwritten (page_start k.page) bytes) cache old after new
          seen_put = record { told = λ _. put_is }

          pub torn_put : Seen m k.file (IsTorn (page_start k.page) PAGE_SIZE) cache old after new
          torn_put = record {
            told = λ _. subst (IsTorn (page_start k.page) PAGE_SIZE (seen m cache old k.file)) (sym put_is)
                (page_torn k.page bytes (seen m cache old k.file) full);
          }

-- a page was placed that rests, and the host wrote it
module _ {H : Type 0} (m : HostModel H) (cache : CacheValue) {old : H} (kept : CacheValue) {new : H} (in_step : IsInStep m cache old) (k : PageName) (bytes : List ℕ) (full : length bytes ≡ PAGE_SIZE) (place : IsCacheable k) (room : SparesDirty k cache.pages cache.held) (sound : AreResident cache.pages cache.held) (held : kept.held ≡ record { name = k; bytes = bytes; dirty = false } ∷ take (cache.pages - 1) (held_without k cache.held)) (unwritten : kept.unwritten ≡ cache.unwritten) (absent : Contains (names_of cache) k → ⊥) (leads : Leads m (FileBecomes k.file (IsTorn (page_start k.page) (length bytes))) old new) where
  abbrev rest : Held
  rest = record { name = k; bytes = bytes; dirty = false }

  torn : IsTrue m.tells → FileBecomes k.file (IsTorn (page_start k.page) PAGE_SIZE) (m.contents old) (m.contents new)
  torn tells =
      subst (λ n. FileBecomes k.file (IsTorn (page_start k.page) n) (m.contents old) (m.contents new)) full (leads.contents tells)

  module _ (wrote : Over m (FileBecomes k.file (IsOverwritten (page_start k.page) bytes)) old new) where
    once_is : IsTrue m.tells → seen m kept new k.file ≡ overwritten (page_start k.page) bytes (seen m cache old k.file)
    once_is tells =
        ap (λ l. overlaid k.file kept.held l) (wrote tells).file
        ∙ at_once_view k rest refl full place cache kept sound room held unwritten refl absent ((m.contents old).file k.file)

    pub seen_once : Seen m k.file (IsOverwritten (page_start k.page) bytes) cache old kept new
    seen_once = record { told = once_is }

    pub torn_once : Seen m k.file (IsTorn (page_start k.page) PAGE_SIZE) cache old kept new
    torn_once = record {
      told = λ tells. subst (IsTorn (page_start k.page) PAGE_SIZE (seen m cache old k.file)) (sym (once_is tells))
          (page_torn k.page bytes (seen m cache old k.file) full);
    }

    pub writes_once : kept.pages ≡ cache.pages → m.faults old ≤ m.faults new → m.tally new ≡ m.tally old
        → Writes m (k.file ∷ []) cache old kept new
    writes_once pages count tally =
        writes_file {m = m} cache {old = old} kept {new = new}
        (λ tells. fits_at_once k rest refl full place cache kept sound room held unwritten refl absent (m.contents old)
        (m.contents new) (wrote tells) (torn tells) (in_step tells))
        pages count tally k.file leads
        (λ file has. Contains-tail k.file cache.unwritten file (subst (λ l. Contains l file) unwritten has))
        (λ tells file other.
        rest_view k rest refl full place cache kept sound room held unwritten refl absent file ((m.contents new).file file)
        ∙ ap (λ l. overlaid file cache.held l) ((leads.contents tells).others file other))

  -- it didn't, and the page was taken out
  module _ (after : CacheValue) (left : after.held ≡ held_without k kept.held) (marks : after.unwritten ≡ cache.unwritten) where
    left_is : (file : ℕ) (l : List ℕ) → overlaid file after.held l ≡ overlaid file cache.held l
    left_is = left_view k rest refl full place cache kept sound room held unwritten refl absent after left marks

    pub torn_left : Seen m k.file (IsTorn (page_start k.page) PAGE_SIZE) cache old after new
    torn_left = record {
      told = λ tells. subst (IsTorn (page_start k.page) PAGE_SIZE (seen m cache old k.file))
          (sym (left_is k.file ((m.contents new).file k.file)))
          (view_torn cache (m.contents old) k ((m.contents new).file k.file) place.file sound.whole (in_step tells)
          (torn tells).file);
    }

    pub same_left : Leads m Stays old new → (file : ℕ) → Seen m file Same cache old after new
    same_left nothing file = record {
      told = λ _. left_is file ((m.contents new).file file)
          ∙ ap (λ (i : Image). overlaid file cache.held (i.file file)) (stays_contents nothing);
    }

    pub writes_left : after.pages ≡ cache.pages → m.faults old ≤ m.faults new → m.tally new ≡ m.tally old
        → Writes m (k.file ∷ []) cache old after new
    writes_left pages count tally =
        writes_file {m = m} cache {old = old} after {new = new}
        (λ tells. fits_left k rest refl full place cache kept sound room held unwritten refl absent after left marks
        (m.contents old) (m.contents new) (torn tells) (in_step tells))
        pages count tally k.file leads
        (λ file has. Contains-tail k.file cache.unwritten file (subst (λ l. Contains l file) marks has))
        (λ tells file other. left_is file ((m.contents new).file file)
        ∙ ap (λ l. overlaid file cache.held l) ((leads.contents tells).others file other))

-- the pages of a file were taken out, and the host cut it
module _ {H : Type 0} (m : HostModel H) (cache : CacheValue) {old : H} (after : CacheValue) {new : H} (in_step : IsInStep m cache old) (sound : AreResident cache.pages cache.held) (file : ℕ) (others : IsWithoutFile file cache.held after.held) (names : names_of after ≡ without_file file (names_of cache)) (leads : Leads m (FileBecomes file (IsPartlyCut 0)) old new) where
  pub cut_view : seen m after new file ≡ (m.contents new).file file
  cut_view = emptied_view cache after file others names ((m.contents new).file file)

  pub partly_cut : Seen m file (IsPartlyCut 0) cache old after new
  partly_cut = record {
    told = λ tells. subst (IsPartlyCut 0 (seen m cache old file)) (sym cut_view) (
        let cut = (leads.contents tells).file in
        let all = length_overlaid file cache.held ((m.contents old).file file) sound.whole in
        record {
          no_shorter = omega arith;
          no_longer = omega (arith, all, cut.no_longer);
          below = λ i _ none. absurd (omega arith);
        }
        );
  }

  pub writes_emptied : ((other : ℕ) → Contains cache.unwritten other → other ≢ file → Contains after.unwritten other)
      → ((other : ℕ) → Contains after.unwritten other → Contains cache.unwritten other) → after.pages ≡ cache.pages
      → m.faults old ≤ m.faults new → m.tally new ≡ m.tally old → Writes m (file ∷ []) cache old after new
  writes_emptied marks was pages count tally =
      writes_file {m = m} cache {old = old} after {new = new}
      (λ tells. fits_emptied cache after file others names (m.contents old) (m.contents new) (IsPartlyCut 0)
      (leads.contents tells) marks (in_step tells))
      pages count tally file leads (λ other has. Contains-tail file cache.unwritten other (was other has))
      (λ tells other differ.
      ap (λ l. overlaid other after.held l) ((leads.contents tells).others other differ)
      ∙ others.view other ((m.contents old).file other) differ)

-- one file more was marked
module _ {H : Type 0} (m : HostModel H) (cache : CacheValue) {old : H} (after : CacheValue) (in_step : IsInStep m cache old) (file : ℕ) (held : after.held ≡ cache.held) (pages : after.pages ≡ cache.pages) (marks : (other : ℕ) → (Contains after.unwritten other ↔ ((other ≡ file) ⊎ Contains cache.unwritten other))) where
  pub step_marked : IsInStep m after old
  step_marked = λ tells.
      fits_marked cache after (m.contents old) (in_step tells) held (λ other has. (marks other).1 (inr has))

  pub writes_marked : {new : H} → Leads m Stays old new → m.faults old ≤ m.faults new → m.tally new ≡ m.tally old
      → Writes m (file ∷ []) cache old after new
  writes_marked {new = new} leads count tally =
      writes_same m cache {old = old} after {new = new} in_step pages leads count tally (file ∷ []) held
      (λ other has. (marks other).1 (inr has))
      (λ other has. elim ((marks other).0 has) [
        | inl same ↦ subst (Contains (file ∷ cache.unwritten)) (sym same) (Contains-head file cache.unwritten)
        | inr was ↦ Contains-tail file cache.unwritten other was
      ])
