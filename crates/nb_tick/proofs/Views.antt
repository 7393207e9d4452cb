-- A file of which no page waits, as a cache shows it.
use Rattle.std.proofs.Common.{◌≡◌, ℕ, suc, ◌==◌, Bool, true, false, cond, ◌&&◌, IsTrue, List, [], ◌∷◌, ◌++◌, refl, ap, subst, ◌∙◌, inl, inr, arith}
use Rattle.std.specs.Prelude.{Contains, ◌⊎◌}
use Rattle.std.proofs.lemmas.Bool.Decides.{nat_tests}
use Rattle.std.proofs.lemmas.List.Elements.{Contains-append_cases}
use Rattle.nb_host.specs.Crashes.{AgreesOutside}
use Rattle.nb_host.specs.Image.{overwritten}
use Rattle.nb_host.specs.Page.{page_start}
use Rattle.nb_host.specs.Meaning.{HostModel, Leads}
use Rattle.nb_host.proofs.Callers.{agrees_more, leads_more}
use Rattle.nb_cache.specs.InStep.{IsInStep}
use Rattle.nb_cache.specs.View.{Held, CacheValue, overlaid, seen}
use Rattle.nb_cache.proofs.Callers.{no_file}
use Rattle.nb_record.proofs.Callers.{either}

overlaid_none : (file : ℕ) (held : List Held) (bytes : List ℕ)
    → ((h : Held) → Contains held h → h.dirty ≡ true → h.name.file ≡ file → ⊥) → overlaid file held bytes ≡ bytes
overlaid_none file [] bytes none = refl
overlaid_none file (h ∷ held) bytes none =
    elim (waits h.dirty h.name.file file) [
      | inl both ↦ absurd (none h (0, omega arith, refl) both.0 both.1)
      | inr not_both ↦
          ap (λ (t : Bool). cond t (overwritten (page_start h.name.page) h.bytes (overlaid file held bytes)) (overlaid file held bytes)) not_both
          ∙ overlaid_none file held bytes (λ one has. none one (behind one has))
    ] where
      waits : (dirty : Bool) (m n : ℕ) → ((dirty ≡ true) × (m ≡ n)) ⊎ ((dirty && (m == n)) ≡ false)
      waits true m n = elim (either (m == n)) [ inl is ↦ inl (refl, grind (arith, nat_tests)) | inr isnt ↦ inr isnt ]
      waits false m n = inr refl

      behind : (one : Held) → Contains held one → Contains (h ∷ held) one
      behind one (k, below, is) = (suc k, omega arith, is)

-- what a cache shows of a file into which nothing was put since the last flush is the host's
pub seen_written : {H : Type 0} (m : HostModel H) (cache : CacheValue) (host : H) (file : ℕ) → (Contains cache.unwritten file → ⊥)
    → IsInStep m cache host → IsTrue m.tells → seen m cache host file ≡ (m.contents host).file file
seen_written m cache host file written in_step tells =
    overlaid_none file cache.held ((m.contents host).file file)
    (λ h has dirty is. written (subst (Contains cache.unwritten) is ((in_step tells).marked h has dirty)))

pub seen_flushed : {H : Type 0} (m : HostModel H) (cache : CacheValue) (host : H) → cache.unwritten ≡ [] → IsInStep m cache host
    → IsTrue m.tells → (file : ℕ) → seen m cache host file ≡ (m.contents host).file file
seen_flushed m cache host flushed in_step tells file =
    seen_written m cache host file (λ has. no_file file (subst (λ (l : List ℕ). Contains l file) flushed has)) in_step tells

-- where the files that were unwritten are among those that calls write, these are all that change
pub leads_among : {H : Type 0} {m : HostModel H} {files : List ℕ} (unwritten : List ℕ) {old new : H}
    → ((file : ℕ) → Contains unwritten file → Contains files file) → Leads m (AgreesOutside (files ++ unwritten)) old new
    → Leads m (AgreesOutside files) old new
leads_among {files = files} unwritten among leads =
    leads_more leads (λ start image agrees. agrees_more
    (λ file has. elim (Contains-append_cases files unwritten file has) [ inl written ↦ written | inr before ↦ among file before ]) agrees)
