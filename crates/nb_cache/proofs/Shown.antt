-- What a cache shows of its pages.
use Rattle.std.proofs.Common.{◌≡◌, ◌≢◌, ◌↔◌, ℕ, inl, inr, true, false, List, [], ◌∷◌, length, Some, None, refl, sym, ap, subst, ◌∙◌, Contains}
use Rattle.lru.proofs.Splits.{Contains-head, Contains-tail, Contains-cons, Contains-nil}
use Rattle.nb_host.specs.Image.{Image}
use Rattle.nb_host.specs.Page.{page_of, same_page}
use Rattle.nb_host.specs.declared.page_name.PageName.{PageName}
use Rattle.nb_host.specs.declared.page_name.TheConstants.{PAGE_SIZE}
use Rattle.nb_host.proofs.Callers.{same_page_eq, same_page_apart}
use Rattle.nb_cache.specs.InStep.{IsCoherent}
use Rattle.nb_cache.specs.Sound.{AreResident}
use Rattle.nb_cache.specs.View.{Held, CacheValue, held_names, resident_bytes, view_of}
use Rattle.nb_cache.proofs.Fitting.{held_page}

shown_has : (held : List Held) (name : PageName) (bytes : List ℕ) → resident_bytes held name ≡ Some bytes
    → (h : Held) × Contains held h × (h.name ≡ name) × (h.bytes ≡ bytes)
shown_has [] name bytes is = absurd (cc)
shown_has (h ∷ held) name bytes is = (elim (same_page name h.name) as (λ y. same_page name h.name ≡ y → (g : Held) × Contains (h ∷ held) g × (g.name ≡ name) × (g.bytes ≡ bytes)) [
  | true ↦ λ here.
      let same : Some h.bytes ≡ Some bytes = rw here at is in
      (h, Contains-head h held, sym (same_page_eq name h.name here), (cc))
  | false ↦ λ other.
      let one = shown_has held name bytes (rw other at is) in
      (one.0, Contains-tail h held one.0 one.1, one.2, one.3)
]) refl

-- what is shown is the view's page
pub shown_page : (c : CacheValue) (image : Image) (name : PageName) (bytes : List ℕ) → AreResident c.pages c.held → IsCoherent c image
    → resident_bytes c.held name ≡ Some bytes
    → (bytes ≡ page_of (view_of c image name.file) name.page) × (length bytes ≡ PAGE_SIZE)
shown_page c image name bytes sound fits is =
    let one = shown_has c.held name bytes is in (
      sym one.3 ∙ held_page c image sound fits one.0 one.1
          ∙ ap (λ (n : PageName). page_of (view_of c image n.file) n.page) one.2,
      ap (λ l. length l) (sym one.3) ∙ sound.whole one.0 one.1,
    )

-- a page is shown where it is resident
pub shown_where : (held : List Held) (name : PageName) → (Contains (held_names held) name ↔ (resident_bytes held name ≢ None))
shown_where held name = (there held, back held)
  where
    there : (held : List Held) → Contains (held_names held) name → resident_bytes held name ≢ None
    there [] has none = Contains-nil name has
    there (h ∷ held) has none = (elim (same_page name h.name) as (λ y. same_page name h.name ≡ y → ⊥) [
      | true ↦ λ here. let some : Some h.bytes ≡ None = rw here at none in (cc)
      | false ↦ λ other. elim (Contains-cons h.name (held_names held) name has) [
        | inl same ↦ same_page_apart name h.name other (sym same)
        | inr rest ↦ there held rest (rw other at none)
      ]
    ]) refl

    back : (held : List Held) → resident_bytes held name ≢ None → Contains (held_names held) name
    back [] some = absurd (some refl)
    back (h ∷ held) some = (elim (same_page name h.name) as (λ y. same_page name h.name ≡ y → Contains (held_names (h ∷ held)) name) [
      | true ↦ λ here.
          subst (Contains (held_names (h ∷ held))) (sym (same_page_eq name h.name here))
          (Contains-head h.name (held_names held))
      | false ↦ λ other.
          Contains-tail h.name (held_names held) name (back held (rw other at some))
    ]) refl
