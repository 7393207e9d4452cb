-- How many pages are resident after a call of the map, and how many frames are spare.
use Rattle.std.proofs.Common.{◌≡◌, ℕ, ◌+◌, ◌-◌, ◌<◌, ◌≤◌, inl, inr, true, false, List, [], ◌∷◌, length, Option, Some, None, option_to_list, refl, sym, ap, subst, arith}
use Rattle.std.proofs.lemmas.List.{length-map, length-take}
use Rattle.std.proofs.lemmas.Option.{slice_get_cases}
use Rattle.std.proofs.lemmas.Map.{length-set_value}
use Rattle.std.specs.Map.{lookup, lookup_entry, remove_entry, set_value}
use Rattle.nb_host.specs.declared.page_name.PageName.{PageName}
use Rattle.lru.specs.LruCache.{LruCache, IsValid, lru_cache, put_entries, promoted, displaced}
use Rattle.nb_host.specs.Page.{same_page}
use Rattle.nb_cache.specs.Stock.{Stock, HasFrames, held_of}
use Rattle.nb_cache.specs.declared.frame.Frame.{Frame}
use Rattle.nb_cache.proofs.Entries.{stock_of}

pub length-held_of : (es : List (PageName × Frame)) → length (held_of es) ≡ length es
length-held_of es = length-map es _

module _ {V : Type 0} (k : PageName) where
  -- a pair that is found is one of the pairs
  pub length-removed : (es : List (PageName × V))
      → length (remove_entry (same_page k) es) + length (option_to_list (lookup (same_page k) es)) ≡ length es
  length-removed [] = refl
  length-removed (e ∷ es) = (elim (same_page k e.0) as (λ y. same_page k e.0 ≡ y → length (remove_entry (same_page k) (e ∷ es)) + length (option_to_list (lookup (same_page k) (e ∷ es))) ≡ length (e ∷ es)) [
    | true ↦ λ here. rw here (omega arith)
    | false ↦ λ here. rw here (let rest = length-removed es in omega (arith, rest))
  ]) refl

  found_both : (es : List (PageName × V)) (f : PageName × V) → lookup_entry (same_page k) es ≡ Some f
      → lookup (same_page k) es ≡ Some f.1
  found_both [] f there = (cc)
  found_both (e ∷ es) f there = (elim (same_page k e.0) as (λ y. same_page k e.0 ≡ y → lookup (same_page k) (e ∷ es) ≡ Some f.1) [
    | true ↦ λ here. let same : Some e ≡ Some f = rw here at there in rw here (ap (λ o. second o) same)
    | false ↦ λ here. rw here (found_both es f (rw here at there))
  ]) refl
    where
      second : Option (PageName × V) → Option V
      second None = None
      second (Some p) = Some p.1

  absent_both : (es : List (PageName × V)) → lookup_entry (same_page k) es ≡ None → lookup (same_page k) es ≡ None
  absent_both [] absent = refl
  absent_both (e ∷ es) absent = (elim (same_page k e.0) as (λ y. same_page k e.0 ≡ y → lookup (same_page k) (e ∷ es) ≡ None) [
    | true ↦ λ here. let there : Some e ≡ None = rw here at absent in (cc)
    | false ↦ λ here. rw here (absent_both es (rw here at absent))
  ]) refl

  moved : (es : List (PageName × V)) (o : Option (PageName × V)) → lookup_entry (same_page k) es ≡ o
      → length (promoted (same_page k) es) ≡ length es
  moved es None absent = rw absent refl
  moved es (Some f) there =
      let all = length-removed es in
      let one : length (option_to_list (lookup (same_page k) es)) ≡ 1 = rw (found_both es f there) refl in
      rw there (omega (arith, all, one))

  pub length-promoted : (es : List (PageName × V)) → length (promoted (same_page k) es) ≡ length es
  length-promoted es = moved es (lookup_entry (same_page k) es) refl

  module _ (cap : ℕ) (v : V) (es : List (PageName × V)) (fits : length es ≤ cap) (positive : 0 < cap) where
    -- how many pairs came, and how many left
    abbrev pub Balanced : Type 0
    Balanced =
        length (put_entries same_page (lru_cache es cap) k v)
        + length (option_to_list (displaced same_page (lru_cache es cap) k v)) ≡ length es + 1

    put_new : lookup_entry (same_page k) es ≡ None → Balanced
    put_new absent =
        elim (slice_get_cases es (cap - 1)).1 [
          | inl one ↦ rw (absent, absent_both es absent, one.2) (omega (arith, one.1, length-take (cap - 1) es, fits, positive))
          | inr past ↦ rw (absent, absent_both es absent, past.1) (omega (arith, past.0, length-take (cap - 1) es, fits, positive))
        ]

    put_old : (f : PageName × V) → lookup_entry (same_page k) es ≡ Some f → Balanced
    put_old f there =
        let all = length-removed es in
        let one : length (option_to_list (lookup (same_page k) es)) ≡ 1 = rw (found_both es f there) refl in
        rw (there, found_both es f there) (omega (arith, all, one))

    cases : (o : Option (PageName × V)) → lookup_entry (same_page k) es ≡ o → Balanced
    cases None = put_new
    cases (Some f) = put_old f

    pub length-put : Balanced
    length-put = cases (lookup_entry (same_page k) es) refl

module _ (frames : LruCache PageName Frame) (spare room : ℕ) (old : Stock) (shows : stock_of frames.entries frames.cap spare room ≡ old) (n : ℕ) (has : HasFrames n old) (k : PageName) (m : LruCache PageName Frame) where
  counted : HasFrames n (stock_of frames.entries frames.cap spare room)
  counted = subst (HasFrames n) (sym shows) has

  pub promoted_frames : m ≡ lru_cache (promoted (same_page k) frames.entries) frames.cap
      → HasFrames n (stock_of m.entries m.cap spare room)
  promoted_frames moved = record {
    all = omega (
      arith,
      counted.all,
      length-held_of frames.entries,
      length-held_of m.entries,
      ap (λ (l : LruCache PageName Frame). length l.entries) moved,
      length-promoted k frames.entries,
    );
    room = omega (arith, counted.room, ap (λ (l : LruCache PageName Frame). l.cap) moved);
  }

  pub settled_frames : (after : Frame)
      → HasFrames n (stock_of (set_value (same_page k) frames.entries after) frames.cap spare room)
  settled_frames after = record {
    all = omega (
      arith,
      counted.all,
      length-held_of frames.entries,
      length-held_of (set_value (same_page k) frames.entries after),
      length-set_value (same_page k) frames.entries after,
    );
    room = counted.room;
  }

  pub gone_frames : m ≡ lru_cache (remove_entry (same_page k) frames.entries) frames.cap → (left : Option Frame)
      → left ≡ lookup (same_page k) frames.entries → (after more : ℕ) → after ≡ spare + length (option_to_list left)
      → room ≤ more → HasFrames n (stock_of m.entries m.cap after more)
  gone_frames removed left is after more spare_now room_now = record {
    all = omega (
      arith,
      counted.all,
      length-held_of frames.entries,
      length-held_of m.entries,
      ap (λ (l : LruCache PageName Frame). length l.entries) removed,
      length-removed k frames.entries,
      ap (λ o. length (option_to_list o)) is,
      spare_now,
    );
    room = omega (arith, counted.room, ap (λ (l : LruCache PageName Frame). l.cap) removed, room_now);
  }

  pub put_frames : (frame : Frame) → m ≡ lru_cache (put_entries same_page frames k frame) frames.cap
      → IsValid same_page frames → (left : Option (PageName × Frame)) → left ≡ displaced same_page frames k frame
      → (after more : ℕ) → after ≡ spare + length (option_to_list left) → room ≤ more
      → HasFrames (n + 1) (stock_of m.entries m.cap after more)
  put_frames frame put valid left is after more spare_now room_now = record {
    all = omega (
      arith,
      counted.all,
      length-held_of frames.entries,
      length-held_of m.entries,
      ap (λ (l : LruCache PageName Frame). length l.entries) put,
      length-put k frames.cap frame frames.entries valid.1 valid.2,
      ap (λ o. length (option_to_list o)) is,
      spare_now,
    );
    room = omega (arith, counted.room, ap (λ (l : LruCache PageName Frame). l.cap) put, room_now);
  }
