-- Bytes of a file after writes, and the resident pages by their names.
use Rattle.std.proofs.Common.{◌≡◌, ℕ, ◌+◌, ◌-◌, ◌<◌, ◌≤◌, max, ◌⊎◌, inl, inr, true, false, List, [], ◌∷◌, length, slice_index, refl, sym, ap, subst, ◌∙◌, arith, Contains}
use Rattle.std.proofs.lemmas.Grind.{common_steps}
use Rattle.std.proofs.lemmas.List.{ext_get_or}
use Rattle.std.proofs.lemmas.Map.Keys.{IsDistinct-head, IsDistinct-tail}
use Rattle.std.specs.List.{AllByRecursion, IsDistinct}
use Rattle.lru.proofs.Splits.{Contains-head, Contains-tail, Contains-cons, Contains-nil}
use Rattle.nb_host.specs.Image.{overwritten}
use Rattle.nb_host.specs.Page.{same_page}
use Rattle.nb_host.specs.declared.page_name.PageName.{PageName}
use Rattle.nb_host.specs.declared.page_name.TheConstants.{PAGE_SIZE}
use Rattle.nb_host.proofs.Callers.{length-overwritten, readable-overwritten, slice_index-readable, same_page_eq, same_page_apart}
use Rattle.nb_cache.specs.Names.{held_without}
use Rattle.nb_cache.specs.View.{Held, held_names}

-- Bytes of a file after a write.

pub index_in : (at : ℕ) (bytes file : List ℕ) (i : ℕ) → at ≤ i → i < at + length bytes
    → slice_index (overwritten at bytes file) i ≡ slice_index bytes (i - at)
index_in at bytes file i low high =
    let within : i - at < length bytes = omega arith in
    let back : at + (i - at) ≡ i = omega arith in
    ap (slice_index (overwritten at bytes file)) (sym back)
    ∙ sym (slice_index-readable at (length bytes) (i - at) (overwritten at bytes file) within)
    ∙ ap (λ l. slice_index l (i - at)) (readable-overwritten at bytes file)

pub index_out : (at : ℕ) (bytes file : List ℕ) (i : ℕ) → (i < at) ⊎ (at + length bytes ≤ i)
    → slice_index (overwritten at bytes file) i ≡ slice_index file i
index_out at [] file i out = refl
index_out at (b ∷ bytes) file i (inl before) = grind (arith, common_steps)
index_out at (b ∷ bytes) file i (inr after) = grind (arith, common_steps)

pub page_length : (at : ℕ) (bytes file : List ℕ) → length bytes ≡ PAGE_SIZE
    → length (overwritten at bytes file) ≡ max (length file) (at + PAGE_SIZE)
page_length at [] file full = absurd (omega arith)
page_length at (b ∷ bytes) file full = omega (arith, length-overwritten at b bytes file, full)

pub in_or_out : (at len i : ℕ) → ((at ≤ i) × (i < at + len)) ⊎ ((i < at) ⊎ (at + len ≤ i))
in_or_out at len i = grind arith

-- writes of two pages, in either order
pub swap_writes : (a c : ℕ) (xs ys file : List ℕ) → length xs ≡ PAGE_SIZE → length ys ≡ PAGE_SIZE
    → (a + PAGE_SIZE ≤ c) ⊎ (c + PAGE_SIZE ≤ a)
    → overwritten a xs (overwritten c ys file) ≡ overwritten c ys (overwritten a xs file)
swap_writes a c xs ys file full_x full_y apart =
    ext_get_or 0 (overwritten a xs (overwritten c ys file)) (overwritten c ys (overwritten a xs file))
    (omega (
      arith,
      page_length a xs (overwritten c ys file) full_x,
      page_length c ys file full_y,
      page_length c ys (overwritten a xs file) full_y,
      page_length a xs file full_x,
    ))
    (λ i _. index i)
  where
    index : (i : ℕ) → slice_index (overwritten a xs (overwritten c ys file)) i
        ≡ slice_index (overwritten c ys (overwritten a xs file)) i
    index i = elim (in_or_out a (length xs) i) [
      | inl in_a ↦
          index_in a xs (overwritten c ys file) i in_a.0 in_a.1
          ∙ sym (index_out c ys (overwritten a xs file) i (out_of_c i in_a)
          ∙ index_in a xs file i in_a.0 in_a.1)
      | inr out_a ↦ elim (in_or_out c (length ys) i) [
        | inl in_c ↦
            index_out a xs (overwritten c ys file) i out_a ∙ index_in c ys file i in_c.0 in_c.1
            ∙ sym (index_in c ys (overwritten a xs file) i in_c.0 in_c.1)
        | inr out_c ↦
            index_out a xs (overwritten c ys file) i out_a ∙ index_out c ys file i out_c
            ∙ sym (index_out c ys (overwritten a xs file) i out_c ∙ index_out a xs file i out_a)
      ]
    ]
      where
        out_of_c : (i : ℕ) → (a ≤ i) × (i < a + length xs) → (i < c) ⊎ (c + length ys ≤ i)
        out_of_c i within = elim apart [ inl before ↦ inl (omega arith) | inr after ↦ inr (omega arith) ]

-- the second of two writes of one page is all that is left
pub write_twice : (a : ℕ) (xs ys file : List ℕ) → length xs ≡ PAGE_SIZE → length ys ≡ PAGE_SIZE
    → overwritten a xs (overwritten a ys file) ≡ overwritten a xs file
write_twice a xs ys file full_x full_y =
    ext_get_or 0 (overwritten a xs (overwritten a ys file)) (overwritten a xs file)
    (omega (
      arith,
      page_length a xs (overwritten a ys file) full_x,
      page_length a ys file full_y,
      page_length a xs file full_x,
    ))
    (λ i _. elim (in_or_out a (length xs) i) [
      | inl within ↦
          index_in a xs (overwritten a ys file) i within.0 within.1 ∙ sym (index_in a xs file i within.0 within.1)
      | inr out ↦
          index_out a xs (overwritten a ys file) i out ∙ index_out a ys file i (out_y i out)
          ∙ sym (index_out a xs file i out)
    ])
  where
    out_y : (i : ℕ) → (i < a) ⊎ (a + length xs ≤ i) → (i < a) ⊎ (a + length ys ≤ i)
    out_y i (inl before) = inl before
    out_y i (inr after) = inr (omega arith)

-- Pages, by name.

-- none of the names is this one
abbrev pub Lacks : PageName → List Held → Type 0
Lacks k held = AllByRecursion (λ n. same_page k n ≡ false) (held_names held)

pub lacks_at : (k : PageName) (held : List Held) (h : Held) → Lacks k held → Contains held h → same_page k h.name ≡ false
lacks_at k [] h lacks has = absurd (Contains-nil h has)
lacks_at k (g ∷ held) h lacks has = elim (Contains-cons g held h has) [
  | inl same ↦ subst (λ (f : Held). same_page k f.name ≡ false) same lacks.0
  | inr there ↦ lacks_at k held h lacks.1 there
]

pub there_or_lacks : (k : PageName) (held : List Held)
    → ((h : Held) × Contains held h × (h.name ≡ k)) ⊎ Lacks k held
there_or_lacks k [] = inr tt
there_or_lacks k (g ∷ held) = (elim (same_page k g.name) as (λ y. same_page k g.name ≡ y → ((h : Held) × Contains (g ∷ held) h × (h.name ≡ k)) ⊎ Lacks k (g ∷ held)) [
  | true ↦ λ here. inl (g, Contains-head g held, sym (same_page_eq k g.name here))
  | false ↦ λ here. elim (there_or_lacks k held) [
    | inl one ↦ inl (one.0, Contains-tail g held one.0 one.1, one.2)
    | inr lacks ↦ inr (here, lacks)
  ]
]) refl

pub without_lacking : (k : PageName) (held : List Held) → Lacks k held → held_without k held ≡ held
without_lacking k [] lacks = refl
without_lacking k (g ∷ held) lacks = rw lacks.0 (ap (λ l. g ∷ l) (without_lacking k held lacks.1))

pub lacks_without : (k : PageName) (held : List Held) → Lacks k (held_without k held)
lacks_without k [] = tt
lacks_without k (g ∷ held) = (elim (same_page k g.name) as (λ y. same_page k g.name ≡ y → Lacks k (held_without k (g ∷ held))) [
  | true ↦ λ here. rw here (lacks_without k held)
  | false ↦ λ here. rw here (here, lacks_without k held)
]) refl

pub without_has : (k : PageName) (held : List Held) (h : Held) → Contains (held_without k held) h
    → Contains held h × (same_page k h.name ≡ false)
without_has k [] h has = absurd (Contains-nil h has)
without_has k (g ∷ held) h has = (elim (same_page k g.name) as (λ y. same_page k g.name ≡ y → Contains (g ∷ held) h × (same_page k h.name ≡ false)) [
  | true ↦ λ here. let one = without_has k held h (rw here at has) in (Contains-tail g held h one.0, one.1)
  | false ↦ λ here. elim (Contains-cons g (held_without k held) h (rw here at has)) [
    | inl same ↦ (
      subst (Contains (g ∷ held)) same (Contains-head g held),
      subst (λ (f : Held). same_page k f.name ≡ false) same here,
    )
    | inr there ↦ let one = without_has k held h there in (Contains-tail g held h one.0, one.1)
  ]
]) refl

pub has_without : (k : PageName) (held : List Held) (h : Held) → Contains held h → same_page k h.name ≡ false
    → Contains (held_without k held) h
has_without k [] h has other = absurd (Contains-nil h has)
has_without k (g ∷ held) h has other = (elim (same_page k g.name) as (λ y. same_page k g.name ≡ y → Contains (held_without k (g ∷ held)) h) [
  | true ↦ λ here. rw here (elim (Contains-cons g held h has) [
    | inl same ↦
        let two : same_page k h.name ≡ true = subst (λ (f : Held). same_page k f.name ≡ true) same here in absurd (cc)
    | inr there ↦ has_without k held h there other
  ])
  | false ↦ λ here. rw here (elim (Contains-cons g held h has) [
    | inl same ↦ subst (Contains (g ∷ held_without k held)) same (Contains-head g (held_without k held))
    | inr there ↦ Contains-tail g (held_without k held) h (has_without k held h there other)
  ])
]) refl

abbrev pub Distinct : List Held → Type 0
Distinct held = IsDistinct same_page (held_names held)

abbrev pub Whole : List Held → Type 0
Whole held = (h : Held) → Contains held h → length h.bytes ≡ PAGE_SIZE

-- a name is one page's
pub one_of_name : (held : List Held) (g h : Held) → Distinct held → Contains held g → Contains held h
    → g.name ≡ h.name → g ≡ h
one_of_name [] g h distinct has_g has_h same = absurd (Contains-nil g has_g)
one_of_name (f ∷ held) g h distinct has_g has_h same =
    let apart : Lacks f.name held = IsDistinct-head same_page f.name (held_names held) distinct in
    elim (Contains-cons f held g has_g) [
      | inl is_g ↦ elim (Contains-cons f held h has_h) [
        | inl is_h ↦ sym is_g ∙ is_h
        | inr there ↦ absurd (same_page_apart f.name h.name (lacks_at f.name held h apart there)
            (ap (λ (e : Held). e.name) is_g ∙ same))
      ]
      | inr there_g ↦ elim (Contains-cons f held h has_h) [
        | inl is_h ↦ absurd (same_page_apart f.name g.name (lacks_at f.name held g apart there_g)
            (ap (λ (e : Held). e.name) is_h ∙ sym same))
        | inr there ↦ one_of_name held g h (IsDistinct-tail same_page f.name (held_names held) distinct) there_g there same
      ]
    ]
