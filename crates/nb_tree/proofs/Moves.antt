-- A reader that has read on, in a file that is as it was.
use Rattle.std.proofs.Common.{◌≡◌, ℕ, ◌+◌, List, IsTrue, Contains, refl, sym, ap, subst, ◌∙◌, arith}
use Rattle.nb_host.specs.Meaning.{HostModel}
use Rattle.nb_host.specs.declared.page_name.PageName.{PageName}
use Rattle.nb_model.specs.declared.body.Body.{Body}
use Rattle.nb_cache.specs.View.{CacheValue, seen}
use Rattle.nb_tree.specs.Fronts.{IsFront}
use Rattle.nb_tree.specs.Refusals.{IsMisplaced}
use Rattle.nb_tree.specs.Passes.{Reads, IsHeld}
use Rattle.nb_tree.specs.declared.reader.Reader.{Reader}
use Rattle.nb_tree.proofs.Calls.{Goes}

pub same_file : {H : Type 0} {m : HostModel H} {files : List ℕ} {old_cache new_cache : CacheValue} {old new : H} (file : ℕ)
    → Goes m files old_cache old new_cache new → (Contains files file → ⊥) → IsTrue m.tells
    → seen m new_cache new file ≡ seen m old_cache old file
same_file file goes spared tells = goes.writes.view tells file spared

module _ {old new : Reader} {n : ℕ} (reads : Reads old new n) (before now : ℕ → List ℕ) (same : now old.file ≡ before old.file) where
  is_file : before old.file ≡ now new.file
  is_file = sym same ∙ ap now (sym reads.file)

  pub front_on : {front : List Body} → IsFront (before old.file) old.count front → IsFront (now new.file) new.count front
  front_on {front = front} is =
      subst (λ c. IsFront (now new.file) c front) (sym reads.count) (subst (λ l. IsFront l old.count front) is_file is)

  pub misplaced_back : {name : PageName} → IsMisplaced new.file new.count (now new.file) name → IsMisplaced old.file old.count (before old.file) name
  misplaced_back {name = name} is =
      subst (λ l. IsMisplaced old.file old.count l name) (sym is_file)
      (subst (λ f. IsMisplaced f old.count (now new.file) name) reads.file
      (subst (λ c. IsMisplaced new.file c (now new.file) name) reads.count is))

  pub held_on : IsHeld (before old.file) new → IsHeld (now new.file) new
  held_on held = subst (λ l. IsHeld l new) is_file held

pub held_back : {old middle new : Reader} {m n : ℕ} → Reads old middle m → Reads middle new n → (before now : ℕ → List ℕ) → now old.file ≡ before old.file
    → IsHeld (now middle.file) new → IsHeld (before old.file) new
held_back {old = old} {middle = middle} {new = new} reads later before now same held =
    subst (λ l. IsHeld l new) (ap now reads.file ∙ same) held

pub reads_none : (r : Reader) → Reads r r 0
reads_none r = record { file = refl; count = refl; taken = omega arith }

pub reads_on : {old middle new : Reader} {m n k : ℕ} → Reads old middle m → Reads middle new n → k ≡ m + n → Reads old new k
reads_on one two is = record {
  file = two.file ∙ one.file;
  count = two.count ∙ one.count;
  taken = omega (arith, one.taken, two.taken, is);
}
