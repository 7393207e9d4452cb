-- What keeps a cache in step with a host, and what it shows then.
use Rattle.std.proofs.Common.{◌≡◌, ◌≢◌, ℕ, zero, suc, ◌+◌, ◌-◌, ◌<◌, ◌≤◌, max, ◌==◌, ◌&&◌, ◌⊎◌, inl, inr, Bool, true, false, if◌then◌else◌, List, [], ◌∷◌, length, map, take, drop, refl, sym, ap, subst, ◌∙◌, arith, Contains}
use Rattle.std.proofs.lemmas.Bool.Decides.{nat_tests}
use Rattle.lru.proofs.CallerLemmas.{Contains-take}
use Rattle.lru.proofs.Splits.{Contains-head, Contains-tail, Contains-cons, Contains-nil}
use Rattle.nb_host.specs.Image.{Image, FileBecomes, IsOverwritten, IsTorn, overwritten}
use Rattle.nb_host.specs.Page.{HasPage, page_of, page_start, same_page}
use Rattle.nb_host.specs.declared.page_name.PageName.{PageName}
use Rattle.nb_host.specs.declared.page_name.TheConstants.{PAGE_SIZE}
use Rattle.nb_host.proofs.Callers.{page_kept, page_stays, page_written, whole_page, same_page_eq, same_page_apart, same_page_refl}
use Rattle.nb_cache.specs.InStep.{IsCachedFile, IsCacheable, IsCoherent}
use Rattle.nb_cache.specs.Names.{without_file, held_without, cleaned_page, with_clean, IsPromoted, IsWithoutFile, SparesDirty}
use Rattle.nb_cache.specs.Sound.{AreResident}
use Rattle.nb_cache.specs.View.{Held, CacheValue, IsDirty, names_of, overlaid, view_of, IsWhole}
use Rattle.nb_cache.proofs.Overlays.{Lacks, Whole, lacks_at, there_or_lacks, without_lacking, lacks_without, without_has, has_without, one_of_name, page_length}
use Rattle.nb_cache.proofs.Laying.{lies, laid, laid_over, overlaid_out, overlaid_rest, overlaid_none, overlaid_settled, settled_has, has_settled, whole_without}
use Rattle.nb_cache.proofs.Torn.{length_overlaid, lies_of, view_under}

-- Dirty pages.

pub waits_more : (few more : List Held) (name : PageName)
    → ((h : Held) → Contains few h → h.dirty ≡ true → h.name ≡ name → Contains more h) → IsDirty few name → IsDirty more name
waits_more few more name within one = record {
  page = one.page;
  there = within one.page one.there one.dirty one.named;
  named = one.named;
  dirty = one.dirty;
}

-- The same pages show the same, and as many are dirty.
pub fits_as : (old new : CacheValue) (image : Image) → IsCoherent old image
    → ((h : Held) → Contains new.held h → Contains old.held h)
    → ((h : Held) → Contains new.held h → h.dirty ≡ true → Contains new.unwritten h.name.file)
    → ((file : ℕ) → view_of new image file ≡ view_of old image file)
    → ((name : PageName) → IsDirty old.held name → IsDirty new.held name) → IsCoherent new image
fits_as old new image fits fewer marked view waits = record {
  places = λ h has. fits.places h (fewer h has);
  pages = λ h has. fits.pages h (fewer h has);
  marked = marked;
  no_gap = λ name cached whole.
      elim (fits.no_gap name cached (subst (λ l. HasPage l name.page) (view name.file) whole)) [
        | inl there ↦ inl there
        | inr one ↦ inr (waits name one)
      ];
}

-- the same pages, and other files marked
pub fits_marked : (old new : CacheValue) (image : Image) → IsCoherent old image → new.held ≡ old.held
    → ((file : ℕ) → Contains old.unwritten file → Contains new.unwritten file) → IsCoherent new image
fits_marked old new image fits held more =
    let was : (h : Held) → Contains new.held h → Contains old.held h = λ h has. subst (λ l. Contains l h) held has in
    fits_as old new image fits was
    (λ h has waits. more h.name.file (fits.marked h (was h has) waits))
    (λ file. ap (λ l. overlaid file l (image.file file)) held)
    (λ name one. subst (λ l. IsDirty l name) (sym held) one)

-- no page waits, and no file is marked
pub fits_rested : (old new : CacheValue) (image : Image) → IsCoherent old image → new.held ≡ old.held
    → ((name : PageName) → IsDirty old.held name → ⊥) → IsCoherent new image
fits_rested old new image fits held none =
    let was : (h : Held) → Contains new.held h → Contains old.held h = λ h has. subst (λ l. Contains l h) held has in
    fits_as old new image fits was
    (λ h has waits. absurd (none h.name (record { page = h; there = was h has; named = refl; dirty = waits })))
    (λ file. ap (λ l. overlaid file l (image.file file)) held)
    (λ name one. subst (λ l. IsDirty l name) (sym held) one)

-- where no page waits, what is shown is the host's
pub rests : (held : List Held) → ((name : PageName) → IsDirty held name → ⊥) → (h : Held) → Contains held h → h.dirty ≡ false
rests held none h has = (elim h.dirty as (λ y. h.dirty ≡ y → h.dirty ≡ false) [
  | false ↦ λ is. is
  | true ↦ λ is. absurd (none h.name (record { page = h; there = has; named = refl; dirty = is }))
]) refl

pub name_there : (held : List Held) (h : Held) → Contains held h → Contains (map (λ g. g.name) held) h.name
name_there [] h has = absurd (Contains-nil h has)
name_there (g ∷ held) h has = elim (Contains-cons g held h has) [
  | inl same ↦ subst (λ (f : Held). Contains (map (λ e. e.name) (g ∷ held)) f.name) same
      (Contains-head g.name (map (λ e. e.name) held))
  | inr there ↦ Contains-tail g.name (map (λ e. e.name) held) h.name (name_there held h there)
]

-- A page became the most recently used.

module _ (name : PageName) (pages : ℕ) (old new : List Held) (moved : IsPromoted name old new) (sound : AreResident pages old) where
  pub moved_has : (h : Held) → Contains new h → Contains old h
  moved_has h has = elim (Contains-cons moved.page (held_without name old) h (subst (λ l. Contains l h) moved.now has)) [
    | inl same ↦ subst (Contains old) same moved.there
    | inr there ↦ (without_has name old h there).0
  ]

  pub moved_kept : (h : Held) → Contains old h → Contains new h
  moved_kept h has = subst (λ l. Contains l h) (sym moved.now)
      ((elim (same_page name h.name) as (λ y. same_page name h.name ≡ y → Contains (moved.page ∷ held_without name old) h) [
        | true ↦ λ here.
            subst (Contains (moved.page ∷ held_without name old))
            (one_of_name old moved.page h sound.distinct moved.there has (moved.named ∙ same_page_eq name h.name here))
            (Contains-head moved.page (held_without name old))
        | false ↦ λ other. Contains-tail moved.page (held_without name old) h (has_without name old h has other)
      ]) refl)

  pub moved_view : (file : ℕ) (bytes : List ℕ) → overlaid file new bytes ≡ overlaid file old bytes
  moved_view file bytes =
      ap (λ l. overlaid file l bytes) moved.now
      ∙ sym (overlaid_rest file name moved.page old bytes sound.distinct sound.whole moved.there moved.named)

pub fits_moved : (name : PageName) (old new : CacheValue) (image : Image) → IsPromoted name old.held new.held
    → AreResident old.pages old.held → new.unwritten ≡ old.unwritten → IsCoherent old image → IsCoherent new image
fits_moved name old new image moved sound unwritten fits =
    fits_as old new image fits (moved_has name old.pages old.held new.held moved sound)
    (λ h has waits. subst (λ l. Contains l h.name.file) (sym unwritten)
    (fits.marked h (moved_has name old.pages old.held new.held moved sound h has) waits))
    (λ file. moved_view name old.pages old.held new.held moved sound file (image.file file))
    (λ n one. waits_more old.held new.held n (λ h has _ _. moved_kept name old.pages old.held new.held moved sound h has) one)

-- one of this file, or of another, went to the front
pub moved_file : (name : PageName) (pages file : ℕ) (old new : List Held) → IsPromoted name old new → AreResident pages old
    → IsWithoutFile file old new
moved_file name pages file old new moved sound = record {
  fewer = moved_has name pages old new moved sound;
  others = λ h has _. moved_kept name pages old new moved sound h has;
  view = λ other bytes _. moved_view name pages old new moved sound other bytes;
}

-- one of this file left
pub without_page : (name : PageName) (pages file : ℕ) (old new : List Held) → AreResident pages old → name.file ≡ file
    → new ≡ held_without name old → IsWithoutFile file old new
without_page name pages file old new sound of_file gone = record {
  fewer = λ h has. (without_has name old h (subst (λ l. Contains l h) gone has)).0;
  others = λ h has out. subst (λ l. Contains l h) (sym gone)
      ((elim (same_page name h.name) as (λ y. same_page name h.name ≡ y → Contains (held_without name old) h) [
        | true ↦ λ here. absurd (out (sym (ap (λ (n : PageName). n.file) (same_page_eq name h.name here)) ∙ of_file))
        | false ↦ λ other. has_without name old h has other
      ]) refl);
  view = λ other bytes differ. ap (λ l. overlaid other l bytes) gone ∙ hidden other bytes differ;
}
  where
    lies_not : (w : Bool) (f file : ℕ) → f ≢ file → (w && (f == file)) ≡ false
    lies_not w f file other = grind (arith, nat_tests)

    hidden : (other : ℕ) (bytes : List ℕ) → other ≢ file
        → overlaid other (held_without name old) bytes ≡ overlaid other old bytes
    hidden other bytes differ = elim (there_or_lacks name old) [
      | inr lacks ↦ ap (λ l. overlaid other l bytes) (without_lacking name old lacks)
      | inl one ↦
          let none : lies other one.0 ≡ false = lies_not one.0.dirty one.0.name.file other
          (λ same. differ (sym same ∙ ap (λ (n : PageName). n.file) one.2 ∙ of_file)) in
          sym (overlaid_rest other name one.0 old bytes sound.distinct sound.whole one.1 one.2 ∙ rw none refl)
    ]

-- A page was written.

pub same_or : (a b : ℕ) → (a ≡ b) ⊎ (a ≢ b)
same_or a b = (elim (a == b) as (λ y. (a == b) ≡ y → (a ≡ b) ⊎ (a ≢ b)) [
  | true ↦ λ test. inl (grind (arith, nat_tests))
  | false ↦ λ test. inr (λ same. grind (arith, nat_tests))
]) refl

same_name : (n k : PageName) → n.file ≡ k.file → n.page ≡ k.page → n ≡ k
same_name n k file page = let test : same_page n k ≡ true = grind (arith, nat_tests) in same_page_eq n k test

-- the host's page of a name that is another one of the same file, or of another file, after a write in part
other_page : (old new : Image) (k n : PageName) → FileBecomes k.file (IsTorn (page_start k.page) PAGE_SIZE) old new → n ≢ k
    → HasPage (old.file n.file) n.page
    → page_of (new.file n.file) n.page ≡ page_of (old.file n.file) n.page
other_page old new k n torn apart whole = elim (same_or n.file k.file) [
  | inl same ↦
      subst (λ f. page_of (new.file f) n.page ≡ page_of (old.file f) n.page) (sym same)
      (page_stays k.page n.page torn.file
      (subst (λ f. HasPage (old.file f) n.page) same whole)
      (λ page. apart (same_name n k same page)))
  | inr other ↦ ap (λ l. page_of l n.page) (torn.others n.file other)
]

-- a write in part makes no file shorter
longer : (before after : Image) (k : PageName) → FileBecomes k.file (IsTorn (page_start k.page) PAGE_SIZE) before after
    → (file : ℕ) → length (before.file file) ≤ length (after.file file)
longer before after k torn file = elim (same_or file k.file) [
  | inl same ↦ subst (λ f. length (before.file f) ≤ length (after.file f)) (sym same) torn.file.no_shorter
  | inr other ↦ let stays = torn.others file other in omega (arith, ap (λ l. length l) stays)
]

-- a page of the view that the host got no shorter of is there, or waits
whole_still : (c : CacheValue) (before after : Image) → Whole c.held → IsCoherent c before
    → ((file : ℕ) → length (before.file file) ≤ length (after.file file)) → (name : PageName) → IsCachedFile name.file
    → IsWhole c after name → HasPage (after.file name.file) name.page ⊎ IsDirty c.held name
whole_still c before after whole fits more name cached there =
    elim (decide (page_start (name.page + 1)) (length (after.file name.file))) [
      | inl has ↦ inl has
      | inr short ↦
          let old = length_overlaid name.file c.held (before.file name.file) whole in
          let new = length_overlaid name.file c.held (after.file name.file) whole in
          let was : IsWhole c before name = omega (arith, old, new, there, short) in
          elim (fits.no_gap name cached was) [
            | inl has ↦ inl (let less = more name.file in omega (arith, less, has))
            | inr waits ↦ inr waits
          ]
    ]
  where
    decide : (a b : ℕ) → (a ≤ b) ⊎ (b < a)
    decide a b = grind arith

lies_not : (w : Bool) (f file : ℕ) → f ≢ file → (w && (f == file)) ≡ false
lies_not w f file other = grind (arith, nat_tests)

module _ (c : CacheValue) (before after : Image) (k : PageName) (torn : FileBecomes k.file (IsTorn (page_start k.page) PAGE_SIZE) before after) (sound : AreResident c.pages c.held) (fits : IsCoherent c before) where
  -- the other pages that are clean are the host's still
  page_still : (h : Held) → Contains c.held h → h.dirty ≡ false → h.name ≢ k
      → h.bytes ≡ page_of (after.file h.name.file) h.name.page
  page_still h has written apart =
      let page = fits.pages h has written in
      let full = ap (λ l. length l) (sym page) ∙ sound.whole h has in
      page ∙ sym (other_page before after k h.name torn apart (whole_page (before.file h.name.file) h.name.page full))

  module _ (h : Held) (has : Contains c.held h) (named : h.name ≡ k) (waits : h.dirty ≡ true) where
    apart_from : (g : Held) → Contains c.held g → g.dirty ≡ false → g.name ≢ k
    apart_from g has_g rests same =
        let one = one_of_name c.held g h sound.distinct has_g has (same ∙ sym named) in
        let two : false ≡ true = sym rests ∙ ap (λ (f : Held). f.dirty) one ∙ waits in (cc)

    -- under a page that waits nothing is seen of it
    pub view_stays : (file : ℕ) → view_of c after file ≡ view_of c before file
    view_stays file = elim (same_or file k.file) [
      | inl same ↦ subst (λ f. view_of c after f ≡ view_of c before f) (sym same)
          (view_under c before k (after.file k.file)
          (subst (λ (n : PageName). IsCachedFile n.file) named (fits.places h has).file) sound.whole fits torn.file h has
          named waits)
      | inr other ↦ ap (λ l. overlaid file c.held l) (torn.others file other)
    ]

    pub fits_under : IsCoherent c after
    fits_under = record {
      places = fits.places;
      pages = λ g has_g rests. page_still g has_g rests (apart_from g has_g rests);
      marked = fits.marked;
      no_gap = whole_still c before after sound.whole fits (longer before after k torn);
    }

    module _ (new : CacheValue) (held : new.held ≡ with_clean k c.held) (unwritten : new.unwritten ≡ c.unwritten) (wrote : FileBecomes k.file (IsOverwritten (page_start k.page) h.bytes) before after) where
      laid_is : (file : ℕ) → after.file file ≡ laid file h (before.file file)
      laid_is file = elim (same_or file k.file) [
        | inl same ↦
            let lies_there : lies file h ≡ true = lies_of file h waits (ap (λ (n : PageName). n.file) named ∙ sym same) in
            subst (λ f. after.file f ≡ overwritten (page_start k.page) h.bytes (before.file f)) (sym same) wrote.file
            ∙ sym (rw lies_there (ap (λ (n : PageName). overwritten (page_start n.page) h.bytes (before.file file)) named))
        | inr other ↦
            let none : lies file h ≡ false =
            lies_not h.dirty h.name.file file (λ same. other (sym same ∙ ap (λ (n : PageName). n.file) named)) in
            rw none (wrote.others file other)
      ]

      pub settled_view : (file : ℕ) → view_of new after file ≡ view_of c before file
      settled_view file =
          ap (λ l. overlaid file l (after.file file)) held ∙ ap (λ l. overlaid file (with_clean k c.held) l) (laid_is file)
          ∙ overlaid_settled file k h c.held (before.file file) sound.distinct sound.whole has named

      page_is : page_of (after.file k.file) k.page ≡ h.bytes
      page_is =
          ap (λ l. page_of l k.page) wrote.file
          ∙ page_written k.page h.bytes (before.file k.file) (sound.whole h has)

      waits_or : (name : PageName) → IsDirty c.held name → HasPage (after.file name.file) name.page ⊎ IsDirty new.held name
      waits_or name one = (elim (same_page k name) as (λ y. same_page k name ≡ y → HasPage (after.file name.file) name.page ⊎ IsDirty new.held name) [
        | true ↦ λ here. inl (subst (λ (n : PageName). HasPage (after.file n.file) n.page) (same_page_eq k name here)
            (whole_page (after.file k.file) k.page (ap (λ l. length l) page_is ∙ sound.whole h has)))
        | false ↦ λ other. inr (subst (λ l. IsDirty l name) (sym held)
            (waits_more c.held (with_clean k c.held) name
            (λ g has_g _ is. has_settled k c.held g has_g (ap (same_page k) is ∙ other)) one))
      ]) refl

      was : (g : Held) → Contains new.held g
          → (Contains c.held g × (same_page k g.name ≡ false)) ⊎ ((f : Held) × Contains c.held f × (f.name ≡ k) × (g ≡ cleaned_page f))
      was g has_g = settled_has k c.held g (subst (λ l. Contains l g) held has_g)

      pub fits_settled : IsCoherent new after
      fits_settled = record {
        places = λ g has_g. elim (was g has_g) [
          | inl one ↦ fits.places g one.0
          | inr one ↦ subst (λ (f : Held). IsCacheable f.name) (sym one.3) (fits.places one.0 one.1)
        ];
        pages = λ g has_g rests. elim (was g has_g) [
          | inl one ↦ page_still g one.0 rests (λ same. same_page_apart k g.name one.1 (sym same))
          | inr one ↦
              let is : one.0 ≡ h = one_of_name c.held one.0 h sound.distinct one.1 has (one.2 ∙ sym named) in
              subst (λ (f : Held). f.bytes ≡ page_of (after.file f.name.file) f.name.page)
              (sym (one.3 ∙ ap cleaned_page is))
              (subst (λ (n : PageName). h.bytes ≡ page_of (after.file n.file) n.page) (sym named) (sym page_is))
        ];
        marked = λ g has_g waits_g. elim (was g has_g) [
          | inl one ↦ subst (λ l. Contains l g.name.file) (sym unwritten) (fits.marked g one.0 waits_g)
          | inr one ↦
              let two : true ≡ false = sym waits_g ∙ ap (λ (f : Held). f.dirty) one.3 in absurd (cc)
        ];
        no_gap = λ name cached whole.
            elim (fits.no_gap name cached (subst (λ l. HasPage l name.page) (settled_view name.file) whole)) [
              | inl there ↦ inl (let less = longer before after k torn name.file in omega (arith, less, there))
              | inr one ↦ waits_or name one
            ];
      }

-- A page is placed.

-- pages that leave and are clean show nothing
take_rests : (n : ℕ) (xs : List Held) (file : ℕ) (bytes : List ℕ)
    → ((h : Held) → Contains (drop n xs) h → h.dirty ≡ false) → overlaid file (take n xs) bytes ≡ overlaid file xs bytes
take_rests zero xs file bytes rest = sym (overlaid_none file xs bytes rest)
take_rests (suc n) [] file bytes rest = refl
take_rests (suc n) (x ∷ xs) file bytes rest = ap (λ l. laid file x l) (take_rests n xs file bytes rest)

take_waits : (n : ℕ) (xs : List Held) (h : Held) → ((g : Held) → Contains (drop n xs) g → g.dirty ≡ false)
    → Contains xs h → h.dirty ≡ true → Contains (take n xs) h
take_waits zero xs h rest has waits = let two : false ≡ true = sym (rest h has) ∙ waits in absurd (cc)
take_waits (suc n) [] h rest has waits = has
take_waits (suc n) (x ∷ xs) h rest has waits = elim (Contains-cons x xs h has) [
  | inl same ↦ subst (Contains (x ∷ take n xs)) same (Contains-head x (take n xs))
  | inr there ↦ Contains-tail x (take n xs) h (take_waits n xs h rest there waits)
]

module _ (k : PageName) (p : Held) (named : p.name ≡ k) (full : length p.bytes ≡ PAGE_SIZE) (place : IsCacheable k) (old new : CacheValue) (sound : AreResident old.pages old.held) (room : SparesDirty k old.pages old.held) (held : new.held ≡ p ∷ take (old.pages - 1) (held_without k old.held)) (unwritten : new.unwritten ≡ old.unwritten) where
  pub placed_has : (h : Held) → Contains new.held h → (h ≡ p) ⊎ (Contains old.held h × (same_page k h.name ≡ false))
  placed_has h has =
      elim (Contains-cons p (take (old.pages - 1) (held_without k old.held)) h (subst (λ l. Contains l h) held has)) [
        | inl same ↦ inl (sym same)
        | inr there ↦ inr (without_has k old.held h (Contains-take (old.pages - 1) (held_without k old.held) h there))
      ]

  placed_kept : (h : Held) → Contains old.held h → h.dirty ≡ true → same_page k h.name ≡ false → Contains new.held h
  placed_kept h has waits other = subst (λ l. Contains l h) (sym held)
      (Contains-tail p (take (old.pages - 1) (held_without k old.held)) h
      (take_waits (old.pages - 1) (held_without k old.held) h room.leaves (has_without k old.held h has other) waits))

  placed_waits : (name : PageName) → same_page k name ≡ false → IsDirty old.held name → IsDirty new.held name
  placed_waits name other one =
      waits_more old.held new.held name (λ h has waits is. placed_kept h has waits (ap (same_page k) is ∙ other)) one

  placed_there : Contains new.held p
  placed_there = subst (λ l. Contains l p) (sym held) (Contains-head p (take (old.pages - 1) (held_without k old.held)))

  placed_places : (image : Image) → IsCoherent old image → (h : Held) → Contains new.held h → IsCacheable h.name
  placed_places image fits h has = elim (placed_has h has) [
    | inl is ↦ subst (λ (f : Held). IsCacheable f.name) (sym is) (subst IsCacheable (sym named) place)
    | inr one ↦ fits.places h one.0
  ]

  placed_view : (file : ℕ) (bytes : List ℕ) → overlaid file new.held bytes ≡ laid file p (overlaid file (held_without k old.held) bytes)
  placed_view file bytes =
      ap (λ l. overlaid file l bytes) held
      ∙ ap (λ l. laid file p l) (take_rests (old.pages - 1) (held_without k old.held) file bytes room.leaves)

  -- a page that waits
  module _ (waits : p.dirty ≡ true) where
    -- what is shown changes by it
    pub put_over : (file : ℕ) (bytes : List ℕ) → overlaid file new.held bytes ≡ laid file p (overlaid file old.held bytes)
    put_over file bytes =
        placed_view file bytes ∙ laid_over file k p old.held bytes sound.distinct sound.whole full named waits

    pub put_view : (image : Image) → view_of new image k.file ≡ overwritten (page_start k.page) p.bytes (view_of old image k.file)
    put_view image =
        let there : lies k.file p ≡ true = lies_of k.file p waits (ap (λ (n : PageName). n.file) named) in
        put_over k.file (image.file k.file)
        ∙ rw there (ap (λ (n : PageName). overwritten (page_start n.page) p.bytes (view_of old image k.file)) named)

    pub put_others : (image : Image) (file : ℕ) → file ≢ k.file → view_of new image file ≡ view_of old image file
    put_others image file other =
        let none : lies file p ≡ false =
        lies_not p.dirty p.name.file file (λ same. other (sym same ∙ ap (λ (n : PageName). n.file) named)) in
        put_over file (image.file file) ∙ rw none refl

    pub fits_put : (image : Image) → page_start k.page ≤ length (view_of old image k.file) → Contains old.unwritten k.file
        → IsCoherent old image → IsCoherent new image
    fits_put image joins marked fits = record {
      places = placed_places image fits;
      pages = λ h has rests. elim (placed_has h has) [
        | inl is ↦ let two : false ≡ true = sym rests ∙ ap (λ (f : Held). f.dirty) is ∙ waits in absurd (cc)
        | inr one ↦ fits.pages h one.0 rests
      ];
      marked = λ h has waits_h. subst (λ l. Contains l h.name.file) (sym unwritten) (elim (placed_has h has) [
        | inl is ↦ subst (Contains old.unwritten) (sym (ap (λ (f : Held). f.name.file) is ∙ ap (λ (n : PageName). n.file) named)) marked
        | inr one ↦ fits.marked h one.0 waits_h
      ]);
      no_gap = λ name cached whole. (elim (same_page k name) as (λ y. same_page k name ≡ y → HasPage (image.file name.file) name.page ⊎ IsDirty new.held name) [
        | true ↦ λ here. inr (record {
          page = p;
          there = placed_there;
          named = named ∙ same_page_eq k name here;
          dirty = waits;
        })
        | false ↦ λ other. elim (fits.no_gap name cached (before image joins name other whole)) [
          | inl there ↦ inl there
          | inr one ↦ inr (placed_waits name other one)
        ]
      ]) refl;
    }
      where
        less : (name : PageName) → same_page k name ≡ false → name.file ≡ k.file → (old_length : ℕ)
            → page_start k.page ≤ old_length → page_start (name.page + 1) ≤ max old_length (page_start k.page + PAGE_SIZE)
            → page_start (name.page + 1) ≤ old_length
        less name other same old_length joins there = apart k.page name.page old_length
            (λ is. same_page_apart k name other (same_name k name (sym same) (sym is))) joins there
          where
            apart : (p q len : ℕ) → q ≢ p → page_start p ≤ len → page_start (q + 1) ≤ max len (page_start p + PAGE_SIZE)
                → page_start (q + 1) ≤ len
            apart p q len differ joins there = omega (arith, differ, joins, there)

        before : (image : Image) → page_start k.page ≤ length (view_of old image k.file) → (name : PageName)
            → same_page k name ≡ false → IsWhole new image name → IsWhole old image name
        before image joins name other whole = elim (same_or name.file k.file) [
          | inr differ ↦ subst (λ l. HasPage l name.page) (put_others image name.file differ) whole
          | inl same ↦
              let grown : length (view_of new image k.file) ≡ max (length (view_of old image k.file)) (page_start k.page + PAGE_SIZE) =
              ap (λ l. length l) (put_view image) ∙ page_length (page_start k.page) p.bytes (view_of old image k.file) full in
              let there : page_start (name.page + 1) ≤ length (view_of new image k.file) =
              subst (λ f. HasPage (view_of new image f) name.page) same whole in
              let reached : page_start (name.page + 1) ≤ max (length (view_of old image k.file)) (page_start k.page + PAGE_SIZE) =
              subst (λ n. page_start (name.page + 1) ≤ n) grown there in
              subst (λ f. HasPage (view_of old image f) name.page) (sym same)
              (less name other same (length (view_of old image k.file)) joins reached)
        ]

  -- a page that rests, where it wasn't resident
  module _ (rests_now : p.dirty ≡ false) (absent : Contains (names_of old) k → ⊥) where
    lacked : Lacks k old.held
    lacked = elim (there_or_lacks k old.held) [
      | inl one ↦ absurd (absent (subst (Contains (names_of old)) one.2 (name_there old.held one.0 one.1)))
      | inr lacks ↦ lacks
    ]

    pub rest_view : (file : ℕ) (bytes : List ℕ) → overlaid file new.held bytes ≡ overlaid file old.held bytes
    rest_view file bytes =
        placed_view file bytes ∙ (let none : lies file p ≡ false = not_it p.dirty p.name.file file rests_now in rw none refl)
        ∙ ap (λ l. overlaid file l bytes) (without_lacking k old.held lacked)
      where
        not_it : (w : Bool) (f file : ℕ) → w ≡ false → (w && (f == file)) ≡ false
        not_it w f file rests = grind (arith, nat_tests)

    rest_waits : (name : PageName) → IsDirty old.held name → IsDirty new.held name
    rest_waits name one =
        placed_waits name (ap (same_page k) (sym one.named) ∙ lacks_at k old.held one.page lacked one.there) one

    rest_marked : (image : Image) → IsCoherent old image → (h : Held) → Contains new.held h → h.dirty ≡ true
        → Contains new.unwritten h.name.file
    rest_marked image fits h has waits = elim (placed_has h has) [
      | inl is ↦ let two : true ≡ false = sym waits ∙ ap (λ (f : Held). f.dirty) is ∙ rests_now in absurd (cc)
      | inr one ↦ subst (λ l. Contains l h.name.file) (sym unwritten) (fits.marked h one.0 waits)
    ]

    -- what is shown over a host into which it was written
    pub at_once_view : (bytes : List ℕ) → overlaid k.file new.held (overwritten (page_start k.page) p.bytes bytes)
        ≡ overwritten (page_start k.page) p.bytes (overlaid k.file old.held bytes)
    at_once_view bytes =
        let there : lies k.file late ≡ true = lies_of k.file late refl refl in
        let swapped = overlaid_out k.file late old.held bytes full sound.whole lacked in
        rest_view k.file (overwritten (page_start k.page) p.bytes bytes)
        ∙ ap (λ b. overlaid k.file old.held (if b then overwritten (page_start k.page) p.bytes bytes else bytes)) (sym there)
        ∙ swapped
        ∙ ap (λ b. if b then overwritten (page_start k.page) p.bytes (overlaid k.file old.held bytes) else overlaid k.file old.held bytes) there
      where
        late : Held
        late = record { name = k; bytes = p.bytes; dirty = true }

    -- it was read
    pub fits_loaded : (image : Image) → p.bytes ≡ page_of (image.file k.file) k.page → IsCoherent old image → IsCoherent new image
    fits_loaded image page fits = record {
      places = placed_places image fits;
      pages = λ h has rests. elim (placed_has h has) [
        | inl is ↦ subst (λ (f : Held). f.bytes ≡ page_of (image.file f.name.file) f.name.page) (sym is)
            (subst (λ (n : PageName). p.bytes ≡ page_of (image.file n.file) n.page) (sym named) page)
        | inr one ↦ fits.pages h one.0 rests
      ];
      marked = rest_marked image fits;
      no_gap = λ name cached whole.
          elim (fits.no_gap name cached (subst (λ l. HasPage l name.page) (rest_view name.file (image.file name.file)) whole)) [
            | inl there ↦ inl there
            | inr one ↦ inr (rest_waits name one)
          ];
    }

    -- it was written
    pub fits_at_once : (before after : Image) → FileBecomes k.file (IsOverwritten (page_start k.page) p.bytes) before after
        → FileBecomes k.file (IsTorn (page_start k.page) PAGE_SIZE) before after → IsCoherent old before → IsCoherent new after
    fits_at_once before after wrote torn fits = record {
      places = placed_places before fits;
      pages = λ h has rests. elim (placed_has h has) [
        | inl is ↦ subst (λ (f : Held). f.bytes ≡ page_of (after.file f.name.file) f.name.page) (sym is)
            (subst (λ (n : PageName). p.bytes ≡ page_of (after.file n.file) n.page) (sym named)
            (sym (ap (λ l. page_of l k.page) wrote.file ∙ page_written k.page p.bytes (before.file k.file) full)))
        | inr one ↦
            page_still old before after k torn sound fits h one.0 rests
            (λ same. same_page_apart k h.name one.1 (sym same))
      ];
      marked = rest_marked before fits;
      no_gap = λ name cached whole.
          elim (whole_still old before after sound.whole fits (longer before after k torn) name cached
          (subst (λ l. HasPage l name.page) (rest_view name.file (after.file name.file)) whole)) [
            | inl there ↦ inl there
            | inr one ↦ inr (rest_waits name one)
          ];
    }

    -- it was written in part, and taken out
    module _ (last : CacheValue) (left : last.held ≡ held_without k new.held) (marks : last.unwritten ≡ old.unwritten) where
      left_is : last.held ≡ take (old.pages - 1) old.held
      left_is =
          left ∙ ap (held_without k) held
          ∙ (let here : same_page k p.name ≡ true = subst (λ n. same_page k n ≡ true) (sym named) (same_page_refl k) in rw here refl)
          ∙ ap (λ l. held_without k (take (old.pages - 1) l)) (without_lacking k old.held lacked)
          ∙ without_lacking k (take (old.pages - 1) old.held) (lacks_take (old.pages - 1) old.held lacked)
        where
          lacks_take : (n : ℕ) (xs : List Held) → Lacks k xs → Lacks k (take n xs)
          lacks_take zero xs lacks = tt
          lacks_take (suc n) [] lacks = tt
          lacks_take (suc n) (x ∷ xs) lacks = (lacks.0, lacks_take n xs lacks.1)

      room_now : (h : Held) → Contains (drop (old.pages - 1) old.held) h → h.dirty ≡ false
      room_now h has =
          room.leaves h (subst (λ l. Contains (drop (old.pages - 1) l) h) (sym (without_lacking k old.held lacked)) has)

      pub left_view : (file : ℕ) (bytes : List ℕ) → overlaid file last.held bytes ≡ overlaid file old.held bytes
      left_view file bytes =
          ap (λ l. overlaid file l bytes) left_is ∙ take_rests (old.pages - 1) old.held file bytes room_now

      left_has : (h : Held) → Contains last.held h → Contains old.held h
      left_has h has = Contains-take (old.pages - 1) old.held h (subst (λ l. Contains l h) left_is has)

      left_waits : (name : PageName) → IsDirty old.held name → IsDirty last.held name
      left_waits name one =
          waits_more old.held last.held name
          (λ h has waits _. subst (λ l. Contains l h) (sym left_is) (take_waits (old.pages - 1) old.held h room_now has waits))
          one

      pub fits_left : (before after : Image) → FileBecomes k.file (IsTorn (page_start k.page) PAGE_SIZE) before after
          → IsCoherent old before → IsCoherent last after
      fits_left before after torn fits = record {
        places = λ h has. fits.places h (left_has h has);
        pages = λ h has rests.
            page_still old before after k torn sound fits h (left_has h has) rests
            (λ same. same_page_apart k h.name (lacks_at k old.held h lacked (left_has h has)) (sym same));
        marked = λ h has waits.
            subst (λ l. Contains l h.name.file) (sym marks) (fits.marked h (left_has h has) waits);
        no_gap = λ name cached whole.
            elim (whole_still old before after sound.whole fits (longer before after k torn) name cached
            (subst (λ l. HasPage l name.page) (left_view name.file (after.file name.file)) whole)) [
              | inl there ↦ inl there
              | inr one ↦ inr (left_waits name one)
            ];
      }

      -- nothing was written
      pub fits_gone : (image : Image) → IsCoherent old image → IsCoherent last image
      fits_gone image fits =
          fits_as old last image fits left_has
          (λ h has waits. subst (λ l. Contains l h.name.file) (sym marks) (fits.marked h (left_has h has) waits))
          (λ file. left_view file (image.file file)) left_waits

-- A file was emptied, and other calls.

-- a page of a file that was taken out isn't resident
pub not_of_file : (file : ℕ) (names : List PageName) (n : PageName) → Contains (without_file file names) n
    → n.file ≢ file
not_of_file file [] n has = absurd (Contains-nil n has)
not_of_file file (m ∷ names) n has = (elim (m.file == file) as (λ y. (m.file == file) ≡ y → n.file ≢ file) [
  | true ↦ λ here. not_of_file file names n (rw here at has)
  | false ↦ λ here. elim (Contains-cons m (without_file file names) n (rw here at has)) [
    | inl same ↦ λ is.
        let e : m.file ≡ file = ap (λ (k : PageName). k.file) same ∙ is in grind (arith, nat_tests)
    | inr there ↦ not_of_file file names n there
  ]
]) refl

-- the pages of a file were taken out
module _ (old new : CacheValue) (file : ℕ) (others : IsWithoutFile file old.held new.held) (names : names_of new ≡ without_file file (names_of old)) where
  not_there : (h : Held) → Contains new.held h → h.name.file ≢ file
  not_there h has =
      not_of_file file (names_of old) h.name (subst (λ l. Contains l h.name) names (name_there new.held h has))

  -- of that file the host's bytes are shown
  pub emptied_view : (bytes : List ℕ) → overlaid file new.held bytes ≡ bytes
  emptied_view bytes = none new.held not_there
    where
      none : (held : List Held) → ((h : Held) → Contains held h → h.name.file ≢ file) → overlaid file held bytes ≡ bytes
      none [] out = refl
      none (h ∷ held) out =
          let not_it : lies file h ≡ false = lies_not h.dirty h.name.file file (out h (Contains-head h held)) in
          rw not_it (none held (λ g has. out g (Contains-tail h held g has)))

  pub fits_emptied : (before after : Image) (P : List ℕ → List ℕ → Type 0) → FileBecomes file P before after
      → ((other : ℕ) → Contains old.unwritten other → other ≢ file → Contains new.unwritten other) → IsCoherent old before
      → IsCoherent new after
  fits_emptied before after P becomes marks fits = record {
    places = λ h has. fits.places h (others.fewer h has);
    pages = λ h has rests.
        fits.pages h (others.fewer h has) rests
        ∙ ap (λ l. page_of l h.name.page) (sym (becomes.others h.name.file (not_there h has)));
    marked = λ h has waits. marks h.name.file (fits.marked h (others.fewer h has) waits) (not_there h has);
    no_gap = λ name cached whole. elim (same_or name.file file) [
      | inl same ↦ inl (subst (λ f. HasPage (after.file f) name.page) (sym same)
          (subst (λ l. HasPage l name.page) (emptied_view (after.file file))
          (subst (λ f. HasPage (view_of new after f) name.page) same whole)))
      | inr other ↦
          let stays = becomes.others name.file other in
          let view = ap (λ l. overlaid name.file new.held l) stays ∙ others.view name.file (before.file name.file) other in
          elim (fits.no_gap name cached (subst (λ l. HasPage l name.page) view whole)) [
            | inl there ↦ inl (subst (λ l. HasPage l name.page) (sym stays) there)
            | inr one ↦ inr (waits_more old.held new.held name
                (λ h has _ is. others.others h has (λ same. other (sym (ap (λ (n : PageName). n.file) is) ∙ same))) one)
          ]
    ];
  }

-- calls of the host on files that don't go through a cache keep it in step
pub fits_elsewhere : (c : CacheValue) (before after : Image)
    → ((file : ℕ) → IsCachedFile file → after.file file ≡ before.file file) → IsCoherent c before → IsCoherent c after
fits_elsewhere c before after same fits = record {
  places = fits.places;
  pages = λ h has written.
      fits.pages h has written
      ∙ ap (λ l. page_of l h.name.page) (sym (same h.name.file (fits.places h has).file));
  marked = fits.marked;
  no_gap = λ name cached whole.
      let stays = same name.file cached in
      elim (fits.no_gap name cached (subst (λ l. HasPage (overlaid name.file c.held l) name.page) stays whole)) [
        | inl there ↦ inl (subst (λ l. HasPage l name.page) (sym stays) there)
        | inr one ↦ inr one
      ];
}

named : (held : List Held) (k : PageName) → Contains (map (λ h. h.name) held) k
    → (h : Held) × Contains held h × (h.name ≡ k)
named [] k has = absurd (Contains-nil k has)
named (h ∷ held) k has = elim (Contains-cons h.name (map (λ h. h.name) held) k has) [
  | inl same ↦ (h, Contains-head h held, same)
  | inr there ↦ let one = named held k there in (one.0, Contains-tail h held one.0 one.1, one.2)
]

-- A resident page.
module _ (c : CacheValue) (image : Image) (sound : AreResident c.pages c.held) (fits : IsCoherent c image) where
  -- its bytes are the view's page
  pub held_page : (h : Held) → Contains c.held h → h.bytes ≡ page_of (view_of c image h.name.file) h.name.page
  held_page h has = (elim h.dirty as (λ y. h.dirty ≡ y → h.bytes ≡ page_of (view_of c image h.name.file) h.name.page) [
    | true ↦ λ waits.
        let there : lies h.name.file h ≡ true = lies_of h.name.file h waits refl in
        sym (ap (λ l. page_of l h.name.page)
        (overlaid_rest h.name.file h.name h c.held (image.file h.name.file) sound.distinct sound.whole has refl)
        ∙ rw there (page_written h.name.page h.bytes
        (overlaid h.name.file (held_without h.name c.held) (image.file h.name.file)) (sound.whole h has)))
    | false ↦ λ rests.
        let page = fits.pages h has rests in
        let full = ap (λ l. length l) (sym page) ∙ sound.whole h has in
        let there = whole_page (image.file h.name.file) h.name.page full in
        let none : lies h.name.file h ≡ false = not_it h.dirty h.name.file h.name.file rests in
        page ∙ sym (ap (λ l. page_of l h.name.page)
        (overlaid_rest h.name.file h.name h c.held (image.file h.name.file) sound.distinct sound.whole has refl)
        ∙ rw none (under h.name (held_without h.name c.held) (image.file h.name.file)
        (lacks_without h.name c.held) (whole_without h.name c.held sound.whole) there))
  ]) refl
    where
      not_it : (w : Bool) (f file : ℕ) → w ≡ false → (w && (f == file)) ≡ false
      not_it w f file rests = grind (arith, nat_tests)

      apart : (n m : PageName) → same_page n m ≡ false → m.file ≡ n.file → n.page ≢ m.page
      apart n m other same is = same_page_apart n m other (same_name n m (sym same) is)

      -- pages laid over other pages leave a whole one
      still : (n : PageName) (held : List Held) (bytes : List ℕ) → Lacks n held → Whole held → HasPage bytes n.page
          → HasPage (overlaid n.file held bytes) n.page
      still n held bytes lacks whole there = let all = length_overlaid n.file held bytes whole in omega (arith, all, there)

      under : (n : PageName) (held : List Held) (bytes : List ℕ) → Lacks n held → Whole held → HasPage bytes n.page
          → page_of (overlaid n.file held bytes) n.page ≡ page_of bytes n.page
      under n [] bytes lacks whole there = refl
      under n (g ∷ held) bytes lacks whole there = (elim (lies n.file g) as (λ y. lies n.file g ≡ y → page_of (overlaid n.file (g ∷ held) bytes) n.page ≡ page_of bytes n.page) [
        | false ↦ λ none. rw none (under n held bytes lacks.1 (λ f has. whole f (Contains-tail g held f has)) there)
        | true ↦ λ is. rw is
            (page_kept g.name.page n.page g.bytes (overlaid n.file held bytes) (whole g (Contains-head g held))
            (still n held bytes lacks.1 (λ f has. whole f (Contains-tail g held f has)) there)
            (apart n g.name lacks.0 (file_of g.dirty g.name.file n.file is))
            ∙ under n held bytes lacks.1 (λ f has. whole f (Contains-tail g held f has)) there)
      ]) refl
        where
          file_of : (w : Bool) (f file : ℕ) → (w && (f == file)) ≡ true → f ≡ file
          file_of w f file is = grind (arith, nat_tests)

  -- it is whole in the view
  pub resident_whole : (k : PageName) → Contains (names_of c) k → IsWhole c image k
  resident_whole k has =
      let one = named c.held k has in
      let page = held_page one.0 one.1 in
      let full = ap (λ l. length l) (sym page) ∙ sound.whole one.0 one.1 in
      subst (λ (n : PageName). HasPage (view_of c image n.file) n.page) one.2
      (whole_page (view_of c image one.0.name.file) one.0.name.page full)
