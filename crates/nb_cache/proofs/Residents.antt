-- What the calls of the map do to the resident pages, from the map's clauses.
use Rattle.std.proofs.Common.{◌≡◌, ℕ, ◌-◌, ◌≤◌, inl, inr, true, false, List, [], ◌∷◌, length, map, filter, take, Some, None, is_some, slice_get, refl, sym, ap, subst, ◌∙◌, Contains}
use Rattle.std.proofs.lemmas.Map.Entries.{length-keys_of}
use Rattle.std.proofs.lemmas.Option.{slice_get-map}
use Rattle.std.specs.Option.{option_map}
use Rattle.std.specs.Map.{keys_of, lookup, lookup_entry, remove_entry, set_value}
use Rattle.nb_host.specs.declared.page_name.PageName.{PageName}
use Rattle.lru.specs.LruCache.{LruCache, IsValid, lru_cache, put_entries, promoted, last_entry}
use Rattle.lru.proofs.CallerLemmas.{Contains-promoted, Contains-lookup, Contains-lookup_entry, Contains-take}
use Rattle.lru.proofs.Splits.{Contains-head, Contains-tail, Contains-cons, Contains-nil}
use Rattle.nb_host.specs.Page.{same_page}
use Rattle.nb_cache.specs.InStep.{IsCacheable}
use Rattle.nb_cache.specs.Names.{without, used, held_without, with_clean, IsPromoted}
use Rattle.nb_cache.specs.Stock.{Stock, held_of}
use Rattle.nb_cache.specs.View.{Held, IsDirty, held_names, resident_bytes}
use Rattle.nb_cache.specs.Sound.{AreResident}
use Rattle.nb_cache.specs.declared.frame.Frame.{Frame}
use Rattle.nb_host.proofs.Callers.{same_page_eq, same_page_apart}
use Rattle.nb_cache.proofs.Pages.{others, found_key, promoted-others, keys-promoted, put_entries-others, keys-put, remove_entry-others, keys_of-others}
use Rattle.nb_cache.proofs.Overlays.{without_has, one_of_name, there_or_lacks}
use Rattle.nb_cache.proofs.Laying.{settled_has, settled_lacking}
use Rattle.nb_cache.proofs.Fitting.{name_there}
use Rattle.nb_cache.proofs.Entries.{held, held_of-with_clean, stock_of, Contains-held, Contains-held_more, names_of-held, Contains-to_held, held_of-others, held_of-take, sound}

-- whether a look-up finds a pair
pub found_entry : {V : Type 0} (k : PageName) (es : List (PageName × V))
    → is_some (lookup (same_page k) es) ≡ true → (f : PageName × V) × (lookup_entry (same_page k) es ≡ Some f)
found_entry k [] found = (cc)
found_entry {V} k (e ∷ es) found = (elim (same_page k e.0) as (λ y. same_page k e.0 ≡ y → (f : PageName × V) × (lookup_entry (same_page k) (e ∷ es) ≡ Some f)) [
  | true ↦ λ here. (e, rw here refl)
  | false ↦ λ here. let one = found_entry k es (rw here at found) in (one.0, rw here one.1)
]) refl

pub absent_entry : {V : Type 0} (k : PageName) (es : List (PageName × V))
    → is_some (lookup (same_page k) es) ≡ false → lookup_entry (same_page k) es ≡ None
absent_entry k [] absent = refl
absent_entry k (e ∷ es) absent = (elim (same_page k e.0) as (λ y. same_page k e.0 ≡ y → lookup_entry (same_page k) (e ∷ es) ≡ None) [
  | true ↦ λ here. let there = rw here at absent in (cc)
  | false ↦ λ here. rw here (absent_entry k es (rw here at absent))
]) refl

pub key_of_found : {V : Type 0} (k : PageName) (es : List (PageName × V))
    → is_some (lookup (same_page k) es) ≡ true → Contains (keys_of es) k
key_of_found k [] found = (cc)
key_of_found k (e ∷ es) found = (elim (same_page k e.0) as (λ y. same_page k e.0 ≡ y → Contains (keys_of (e ∷ es)) k) [
  | true ↦ λ here. subst (Contains (keys_of (e ∷ es))) (sym (same_page_eq k e.0 here)) (Contains-head e.0 (keys_of es))
  | false ↦ λ here. Contains-tail e.0 (keys_of es) k (key_of_found k es (rw here at found))
]) refl

pub found_of_key : {V : Type 0} (k : PageName) (es : List (PageName × V))
    → Contains (keys_of es) k → is_some (lookup (same_page k) es) ≡ true
found_of_key k [] has = absurd (Contains-nil k has)
found_of_key k (e ∷ es) has = (elim (same_page k e.0) as (λ y. same_page k e.0 ≡ y → is_some (lookup (same_page k) (e ∷ es)) ≡ true) [
  | true ↦ λ here. rw here refl
  | false ↦ λ here. rw here (elim (Contains-cons e.0 (keys_of es) k has) [
    | inl same ↦ absurd (same_page_apart k e.0 here (sym same))
    | inr there ↦ found_of_key k es there
  ])
]) refl

-- what a look-up finds is what the page shows
pub shown_found : (k : PageName) (es : List (PageName × Frame))
    → option_map (λ (f : Frame). f.bytes.items) (lookup (same_page k) es) ≡ resident_bytes (held_of es) k
shown_found k [] = refl
shown_found k (e ∷ es) = (elim (same_page k e.0) as (λ y. same_page k e.0 ≡ y → option_map (λ (f : Frame). f.bytes.items) (lookup (same_page k) (e ∷ es)) ≡ resident_bytes (held_of (e ∷ es)) k) [
  | true ↦ λ here. rw here refl
  | false ↦ λ here. rw here (shown_found k es)
]) refl

-- a map with other pairs, as a contract sees it
module _ (frames : LruCache PageName Frame) (spare room : ℕ) (old : Stock) (shows : stock_of frames.entries frames.cap spare room ≡ old) where
  old_names : held_names old.held ≡ keys_of frames.entries
  old_names = ap (λ (s : Stock). held_names s.held) (sym shows) ∙ names_of-held frames.entries

  pub sound_now : IsValid same_page frames → ((h : Held) → Contains (held_of frames.entries) h → IsCacheable h.name)
      → AreResident old.pages old.held
  sound_now valid places =
      subst (λ (s : Stock). AreResident s.pages s.held) shows (sound frames.entries frames.cap valid places)

  pub resident_found : (k : PageName) → is_some (lookup (same_page k) frames.entries) ≡ true → Contains (held_names old.held) k
  resident_found k found = subst (λ l. Contains l k) (sym old_names) (key_of_found k frames.entries found)

  pub found_resident : (k : PageName) → Contains (held_names old.held) k → is_some (lookup (same_page k) frames.entries) ≡ true
  found_resident k has = found_of_key k frames.entries (subst (λ l. Contains l k) old_names has)

  pub page_shown : (k : PageName)
      → option_map (λ (f : Frame). f.bytes.items) (lookup (same_page k) frames.entries) ≡ resident_bytes old.held k
  page_shown k = shown_found k frames.entries ∙ ap (λ (s : Stock). resident_bytes s.held k) shows

  pub lent_page : (k : PageName) (frame : Frame) → lookup (same_page k) frames.entries ≡ Some frame
      → Contains old.held (held (k, frame))
  lent_page k frame there =
      let one = Contains-lookup (same_page k) frames.entries frame there in
      let has = subst (λ n. Contains frames.entries (n, frame)) (sym (same_page_eq k one.0 one.2)) one.1 in
      subst (λ (s : Stock). Contains s.held (held (k, frame))) shows (Contains-to_held frames.entries (k, frame) has)

  module _ (k : PageName) (m : LruCache PageName Frame) where
    module _ (moved : m ≡ lru_cache (promoted (same_page k) frames.entries) frames.cap) where
      pub promoted_names : IsValid same_page frames → IsValid same_page m
          → is_some (lookup (same_page k) frames.entries) ≡ true
          → held_names (held_of m.entries) ≡ used old.pages (k ∷ []) (held_names old.held)
      promoted_names valid after found =
          let one = found_entry k frames.entries found in
          let entries : m.entries ≡ promoted (same_page k) frames.entries = ap (λ l. l.entries) moved in
          let few : length (promoted (same_page k) frames.entries) ≤ frames.cap =
          (subst (IsValid same_page) moved after).1 in
          names_of-held m.entries ∙ ap keys_of entries
          ∙ keys-promoted frames.cap k frames.entries one.0 one.1 valid.0 few
          ∙ ap (λ l. used frames.cap (k ∷ []) l) (sym old_names)
          ∙ ap (λ n. used n (k ∷ []) (held_names old.held)) (ap (λ (s : Stock). s.pages) shows)

      pub promoted_absent : is_some (lookup (same_page k) frames.entries) ≡ false
          → stock_of m.entries m.cap spare room ≡ old
      promoted_absent absent =
          let none = absent_entry k frames.entries absent in
          let same : promoted (same_page k) frames.entries ≡ frames.entries = rw none refl in
          ap (λ (l : LruCache PageName Frame). stock_of l.entries l.cap spare room) moved
          ∙ ap (λ es. stock_of es frames.cap spare room) same ∙ shows

      pub promoted_places : ((h : Held) → Contains (held_of frames.entries) h → IsCacheable h.name)
          → (h : Held) → Contains (held_of m.entries) h → IsCacheable h.name
      promoted_places places h has =
          places h (Contains-held_more (promoted (same_page k) frames.entries) frames.entries
          (Contains-promoted (same_page k) frames.entries) h
          (subst (λ (l : LruCache PageName Frame). Contains (held_of l.entries) h) moved has))

      pub promoted_held : IsValid same_page frames → is_some (lookup (same_page k) frames.entries) ≡ true
          → IsPromoted k old.held (held_of m.entries)
      promoted_held valid found =
          let one = found_entry k frames.entries found in
          let has = Contains-lookup_entry (same_page k) frames.entries one.0 one.1 in
          record {
            page = held one.0;
            there = subst (λ (s : Stock). Contains s.held (held one.0)) shows (Contains-to_held frames.entries one.0 has.0);
            named = found_key k frames.entries one.0 one.1;
            now =
                ap (λ (l : LruCache PageName Frame). held_of l.entries) moved
                ∙ ap held_of (promoted-others k frames.entries one.0 one.1 valid.0)
                ∙ ap (λ l. held one.0 ∷ l) (held_of-others k frames.entries)
                ∙ ap (λ (s : Stock). held one.0 ∷ held_without k s.held) shows;
          }

    module _ (frame : Frame) (put : m ≡ lru_cache (put_entries same_page frames k frame) frames.cap) (valid : IsValid same_page frames) (after : IsValid same_page m) where
      put_entries_are : m.entries ≡ (k, frame) ∷ take (frames.cap - 1) (others k frames.entries)
      put_entries_are =
          ap (λ (l : LruCache PageName Frame). l.entries) put
          ∙ put_entries-others frames.cap k frame frames.entries valid.0 (subst (IsValid same_page) put after).1

      pub put_names : held_names (held_of m.entries) ≡ used old.pages (k ∷ []) (held_names old.held)
      put_names =
          names_of-held m.entries ∙ ap keys_of put_entries_are ∙ keys-put frames.cap k frame frames.entries valid.2
          ∙ ap (λ l. used frames.cap (k ∷ []) l) (sym old_names)
          ∙ ap (λ n. used n (k ∷ []) (held_names old.held)) (ap (λ (s : Stock). s.pages) shows)

      pub put_held : held_of m.entries ≡ held (k, frame) ∷ take (old.pages - 1) (held_without k old.held)
      put_held =
          ap held_of put_entries_are
          ∙ ap (λ l. held (k, frame) ∷ l)
          (held_of-take (frames.cap - 1) (others k frames.entries)
          ∙ ap (λ l. take (frames.cap - 1) l) (held_of-others k frames.entries))
          ∙ ap (λ (s : Stock). held (k, frame) ∷ take (s.pages - 1) (held_without k s.held)) shows

      pub put_places : IsCacheable k → ((h : Held) → Contains (held_of frames.entries) h → IsCacheable h.name)
          → (h : Held) → Contains (held_of m.entries) h → IsCacheable h.name
      put_places place places h has =
          let rest = take (old.pages - 1) (held_without k old.held) in
          elim (Contains-cons (held (k, frame)) rest h (subst (λ l. Contains l h) put_held has)) [
            | inl same ↦ subst (λ (g : Held). IsCacheable g.name) same place
            | inr there ↦ places h (subst (λ (s : Stock). Contains s.held h) (sym shows)
                (without_has k old.held h (Contains-take (old.pages - 1) (held_without k old.held) h there)).0)
          ]

    module _ (gone : m ≡ lru_cache (remove_entry (same_page k) frames.entries) frames.cap) (valid : IsValid same_page frames) where
      gone_entries_are : m.entries ≡ others k frames.entries
      gone_entries_are =
          ap (λ (l : LruCache PageName Frame). l.entries) gone ∙ remove_entry-others k frames.entries valid.0

      pub gone_names : held_names (held_of m.entries) ≡ without (k ∷ []) (held_names old.held)
      gone_names =
          names_of-held m.entries ∙ ap keys_of gone_entries_are ∙ keys_of-others k frames.entries
          ∙ ap (λ l. without (k ∷ []) l) (sym old_names)

      pub gone_held : held_of m.entries ≡ held_without k old.held
      gone_held =
          ap held_of gone_entries_are ∙ held_of-others k frames.entries
          ∙ ap (λ (s : Stock). held_without k s.held) shows

      pub gone_places : ((h : Held) → Contains (held_of frames.entries) h → IsCacheable h.name)
          → (h : Held) → Contains (held_of m.entries) h → IsCacheable h.name
      gone_places places h has =
          places h (subst (λ (s : Stock). Contains s.held h) (sym shows)
          (without_has k old.held h (subst (λ l. Contains l h) gone_held has)).0)

  -- a page that no longer waits
  module _ (k : PageName) (frame after : Frame) (there : lookup (same_page k) frames.entries ≡ Some frame) (bytes : after.bytes.items ≡ frame.bytes.items) (rests : after.dirty ≡ false) (valid : IsValid same_page frames) where
    pub settled_held : held_of (set_value (same_page k) frames.entries after) ≡ with_clean k old.held
    settled_held =
        held_of-with_clean k frames.entries frame after valid.0 there bytes rests
        ∙ ap (λ (s : Stock). with_clean k s.held) shows

    pub settled_places : ((h : Held) → Contains (held_of frames.entries) h → IsCacheable h.name)
        → (h : Held) → Contains (held_of (set_value (same_page k) frames.entries after)) h → IsCacheable h.name
    settled_places places h has = elim (settled_has k old.held h (subst (λ l. Contains l h) settled_held has)) [
      | inl one ↦ places h (subst (λ (s : Stock). Contains s.held h) (sym shows) one.0)
      | inr one ↦ subst (λ (g : Held). IsCacheable g.name) (sym one.3)
          (places one.0 (subst (λ (s : Stock). Contains s.held one.0) (sym shows) one.1))
    ]

  -- a name that isn't found is no resident page's
  pub none_waits : (k : PageName) → is_some (lookup (same_page k) frames.entries) ≡ false → IsDirty old.held k → ⊥
  none_waits k absent one =
      let has = subst (Contains (held_names old.held)) one.named (name_there old.held one.page one.there) in
      let two : false ≡ true = sym absent ∙ found_resident k has in (cc)

  pub settled_none : (k : PageName) → is_some (lookup (same_page k) frames.entries) ≡ false → with_clean k old.held ≡ old.held
  settled_none k absent = elim (there_or_lacks k old.held) [
    | inr lacks ↦ settled_lacking k old.held lacks
    | inl one ↦
        let has = subst (Contains (held_names old.held)) one.2 (name_there old.held one.0 one.1) in
        let two : false ≡ true = sym absent ∙ found_resident k has in absurd (cc)
  ]

  -- a page that is found and clean isn't dirty
  pub rests_then : (k : PageName) (frame : Frame) → IsValid same_page frames
      → ((h : Held) → Contains (held_of frames.entries) h → IsCacheable h.name)
      → lookup (same_page k) frames.entries ≡ Some frame → frame.dirty ≡ false → IsDirty old.held k → ⊥
  rests_then k frame valid places there rests one =
      let here = lent_page k frame there in
      let same = one_of_name old.held one.page (held (k, frame)) (sound_now valid places).distinct one.there here one.named in
      let two : true ≡ false = sym one.dirty ∙ ap (λ (h : Held). h.dirty) same ∙ rests in (cc)

  -- the names of the dirty pages
  pub dirty_name : (k : PageName) → IsDirty old.held k
      → Contains (map (λ e. e.0) (filter (λ e. e.1.dirty) frames.entries)) k
  dirty_name k one =
      let pair = Contains-held frames.entries one.page
      (subst (λ (s : Stock). Contains s.held one.page) (sym shows) one.there) in
      subst (Contains (map (λ (e : PageName × Frame). e.0) (filter (λ (e : PageName × Frame). e.1.dirty) frames.entries)))
      (ap (λ (h : Held). h.name) pair.2 ∙ one.named)
      (there frames.entries pair.0 pair.1 (ap (λ (h : Held). h.dirty) pair.2 ∙ one.dirty))
    where
      there : (es : List (PageName × Frame)) (e : PageName × Frame) → Contains es e → e.1.dirty ≡ true
          → Contains (map (λ (e : PageName × Frame). e.0) (filter (λ (e : PageName × Frame). e.1.dirty) es)) e.0
      there [] e has waits = absurd (Contains-nil e has)
      there (f ∷ es) e has waits = (elim f.1.dirty as (λ y. f.1.dirty ≡ y → Contains (map (λ (e : PageName × Frame). e.0) (filter (λ (e : PageName × Frame). e.1.dirty) (f ∷ es))) e.0) [
        | true ↦ λ is. rw is (elim (Contains-cons f es e has) [
          | inl same ↦ subst (λ (g : PageName × Frame). Contains (f.0 ∷ map (λ (e : PageName × Frame). e.0) (filter (λ (e : PageName × Frame). e.1.dirty) es)) g.0)
              same (Contains-head f.0 (map (λ (e : PageName × Frame). e.0) (filter (λ (e : PageName × Frame). e.1.dirty) es)))
          | inr rest ↦ Contains-tail f.0 (map (λ (e : PageName × Frame). e.0) (filter (λ (e : PageName × Frame). e.1.dirty) es)) e.0
              (there es e rest waits)
        ])
        | false ↦ λ none. rw none (elim (Contains-cons f es e has) [
          | inl same ↦ let two : false ≡ true = sym none ∙ ap (λ (g : PageName × Frame). g.1.dirty) same ∙ waits in absurd (cc)
          | inr rest ↦ there es e rest waits
        ])
      ]) refl

  -- the name of the least recently used page
  pub last_name : option_map (λ e. e.0) (last_entry frames.entries)
      ≡ slice_get (held_names old.held) (length (held_names old.held) - 1)
  last_name =
      sym (slice_get-map (λ (e : PageName × Frame). e.0) frames.entries (length frames.entries - 1))
      ∙ ap (λ n. slice_get (keys_of frames.entries) (n - 1)) (sym (length-keys_of frames.entries))
      ∙ ap (λ l. slice_get l (length l - 1)) (sym old_names)
