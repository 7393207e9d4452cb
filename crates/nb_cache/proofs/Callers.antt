-- What crates above may cite: what calls that take a cache leave alone, one after the other, what a file is as the cache
-- shows it, and what keeps a cache in step. Every other proof file of this crate is its own.
use Rattle.std.proofs.Common.{◌≡◌, ◌≢◌, ℕ, zero, suc, inl, inr, IsTrue, IsOk, List, [], ◌∷◌, ◌++◌, Result, Err, refl, sym, ap, subst, ◌∙◌, Contains, arith, Some, length}
use Rattle.std.proofs.lemmas.List.Elements.{Contains-append_left, Contains-append_right, Contains-append_cases}
use Rattle.nb_host.specs.Crashes.{Stays, AgreesOutside}
use Rattle.nb_host.specs.Image.{Image, FileBecomes, SaysPart}
use Rattle.nb_host.specs.Meaning.{HostModel, Leads}
use Rattle.nb_host.specs.Page.{page_of}
use Rattle.nb_host.specs.declared.host.Channel.{Channel}
use Rattle.nb_host.specs.declared.page_name.PageName.{PageName}
use Rattle.nb_host.specs.declared.page_name.TheConstants.{PAGE_SIZE}
use Rattle.nb_host.proofs.Callers.{agrees_itself, agrees_more, agrees_both, leads_none, leads_more, leads_then, ok_is_no_error, stopped_after}
use Rattle.nb_cache.specs.InStep.{IsCachedFile, IsCoherent, IsInStep}
use Rattle.nb_cache.specs.View.{CacheValue, overlaid, resident_bytes, view_of, seen, Seen, Same}
use Rattle.nb_cache.specs.Writes.{Writes, RanCached}
use Rattle.nb_cache.proofs.Fitting.{fits_elsewhere}

pub no_file : (file : ℕ) → Contains [] file → ⊥
no_file file (k, below, is) = absurd (omega arith)

pub other_file : {file other : ℕ} → other ≢ file → Contains (file ∷ []) other → ⊥
other_file differ (zero, below, is) = differ (sym is)
other_file differ (suc k, below, is) = absurd (omega arith)

-- What calls leave alone.

-- no call yet
pub writes_begins : {H : Type 0} (m : HostModel H) (files : List ℕ) (cache : CacheValue) (host : H)
    → IsInStep m cache host → Writes m files cache host cache host
writes_begins m files cache host in_step = record {
  leads = leads_none m host (agrees_itself (files ++ cache.unwritten));
  unwritten = λ file has. Contains-append_right files cache.unwritten file has;
  pages = refl;
  in_step = in_step;
  view = λ _ file spared. refl;
  count = omega arith;
  tally = refl;
}

-- more files
pub writes_more : {H : Type 0} {m : HostModel H} {few more : List ℕ} {old_cache new_cache : CacheValue} {old new : H}
    → ((file : ℕ) → Contains few file → Contains more file) → Writes m few old_cache old new_cache new
    → Writes m more old_cache old new_cache new
writes_more {few = few} {more = more} {old_cache = old_cache} within writes =
    let wider : (file : ℕ) → Contains (few ++ old_cache.unwritten) file → Contains (more ++ old_cache.unwritten) file =
    λ file has.
    elim (Contains-append_cases few old_cache.unwritten file has) [
      | inl left ↦ Contains-append_left more old_cache.unwritten file (within file left)
      | inr right ↦ Contains-append_right more old_cache.unwritten file right
    ] in
    record {
      leads = leads_more writes.leads (λ start image agrees. agrees_more wider agrees);
      unwritten = λ file has. wider file (writes.unwritten file has);
      pages = writes.pages;
      in_step = writes.in_step;
      view = λ tells file spared. writes.view tells file (λ has. spared (within file has));
      count = writes.count;
      tally = writes.tally;
    }

-- none, and so any
pub may_write : {H : Type 0} {m : HostModel H} (files : List ℕ) {old_cache new_cache : CacheValue} {old new : H}
    → Writes m [] old_cache old new_cache new → Writes m files old_cache old new_cache new
may_write files writes = writes_more (λ file has. absurd (no_file file has)) writes

-- calls after calls
pub writes_both : {H : Type 0} {m : HostModel H} {first second : List ℕ}
    {old_cache middle_cache new_cache : CacheValue} {old middle new : H}
    → Writes m first old_cache old middle_cache middle → Writes m second middle_cache middle new_cache new
    → Writes m (first ++ second) old_cache old new_cache new
writes_both {first = first} {second = second} {old_cache = old_cache} {middle_cache = middle_cache} one two =
    let all = (first ++ second) ++ old_cache.unwritten in
    let left : (file : ℕ) → Contains (first ++ old_cache.unwritten) file → Contains all file = λ file has.
    elim (Contains-append_cases first old_cache.unwritten file has) [
      | inl at_first ↦ Contains-append_left (first ++ second) old_cache.unwritten file
          (Contains-append_left first second file at_first)
      | inr before ↦ Contains-append_right (first ++ second) old_cache.unwritten file before
    ] in
    let right : (file : ℕ) → Contains (second ++ middle_cache.unwritten) file → Contains all file = λ file has.
    elim (Contains-append_cases second middle_cache.unwritten file has) [
      | inl at_second ↦ Contains-append_left (first ++ second) old_cache.unwritten file
          (Contains-append_right first second file at_second)
      | inr between ↦ left file (one.unwritten file between)
    ] in
    let joined : (file : ℕ)
    → Contains ((first ++ old_cache.unwritten) ++ (second ++ middle_cache.unwritten)) file → Contains all file =
    λ file has.
    elim (Contains-append_cases (first ++ old_cache.unwritten) (second ++ middle_cache.unwritten) file has) [
      | inl at_one ↦ left file at_one
      | inr at_two ↦ right file at_two
    ] in
    record {
      leads = leads_then one.leads two.leads (λ start image agrees. agrees_more left agrees)
          (λ start between image before after. agrees_more joined (agrees_both before after));
      unwritten = λ file has. right file (two.unwritten file has);
      pages = two.pages ∙ one.pages;
      in_step = two.in_step;
      view = λ tells file spared.
          two.view tells file (λ has. spared (Contains-append_right first second file has))
          ∙ one.view tells file (λ has. spared (Contains-append_left first second file has));
      count = omega (arith, one.count, two.count);
      tally = two.tally ∙ one.tally;
    }

-- calls after calls, where both write these files alone
pub writes_again : {H : Type 0} {m : HostModel H} {files : List ℕ}
    {old_cache middle_cache new_cache : CacheValue} {old middle new : H}
    → Writes m files old_cache old middle_cache middle → Writes m files middle_cache middle new_cache new
    → Writes m files old_cache old new_cache new
writes_again {files = files} one two =
    writes_more
    (λ file has. elim (Contains-append_cases files files file has) [ inl first ↦ first | inr second ↦ second ])
    (writes_both one two)

-- The frame of a call, with its answer.

pub ran_more : {H T E : Type 0} {m : HostModel H} {fault : E} {few more : List ℕ}
    {old_cache new_cache : CacheValue} {old new : H} {result : Result T E}
    → ((file : ℕ) → Contains few file → Contains more file)
    → RanCached m fault few old_cache old new_cache new result
    → RanCached m fault more old_cache old new_cache new result
ran_more within ran = record { writes = writes_more within ran.writes; rose = ran.rose; spared = ran.spared }

-- another answer, which stands for a fault exactly where this one does
pub ran_as : {H T U D E : Type 0} {m : HostModel H} {early : D} {fault : E} {files : List ℕ}
    {old_cache new_cache : CacheValue} {old new : H} {one : Result T D} {result : Result U E}
    → RanCached m early files old_cache old new_cache new one → (result ≡ Err fault → one ≡ Err early)
    → (one ≡ Err early → result ≡ Err fault) → RanCached m fault files old_cache old new_cache new result
ran_as ran there back = record {
  writes = ran.writes;
  rose = λ faulted. ran.rose (there faulted);
  spared = λ never. ran.spared (λ faulted. never (back faulted));
}

-- a call after calls that were all Ok
pub ran_then : {H T U D E : Type 0} {m : HostModel H} {early : D} {fault : E} {first second : List ℕ}
    {old_cache middle_cache new_cache : CacheValue} {old middle new : H} {one : Result T D} {result : Result U E}
    → RanCached m early first old_cache old middle_cache middle one → IsOk one
    → RanCached m fault second middle_cache middle new_cache new result
    → RanCached m fault (first ++ second) old_cache old new_cache new result
ran_then one ok two = record {
  writes = writes_both one.writes two.writes;
  rose = λ faulted. stopped_after (one.spared (ok_is_no_error ok)) (two.rose faulted);
  spared = λ never. two.spared never ∙ one.spared (ok_is_no_error ok);
}

-- a call after calls that were all Ok, where both write these files alone
pub ran_again : {H T U D E : Type 0} {m : HostModel H} {early : D} {fault : E} {files : List ℕ}
    {old_cache middle_cache new_cache : CacheValue} {old middle new : H} {one : Result T D} {result : Result U E}
    → RanCached m early files old_cache old middle_cache middle one → IsOk one
    → RanCached m fault files middle_cache middle new_cache new result
    → RanCached m fault files old_cache old new_cache new result
ran_again one ok two = record {
  writes = writes_again one.writes two.writes;
  rose = λ faulted. stopped_after (one.spared (ok_is_no_error ok)) (two.rose faulted);
  spared = λ never. two.spared never ∙ one.spared (ok_is_no_error ok);
}

-- A file as the cache shows it.

-- what calls that don't write the file leave of it
pub seen_stays : {H : Type 0} {m : HostModel H} {files : List ℕ} {old_cache new_cache : CacheValue} {old new : H}
    (file : ℕ) → (Contains files file → ⊥) → Writes m files old_cache old new_cache new
    → Seen m file Same old_cache old new_cache new
seen_stays file spared writes = record { told = λ tells. writes.view tells file spared }

pub seen_then : {H : Type 0} {m : HostModel H} {file : ℕ} {R S T : List ℕ → List ℕ → Type 0}
    {old_cache middle_cache new_cache : CacheValue} {old middle new : H}
    → Seen m file R old_cache old middle_cache middle → Seen m file S middle_cache middle new_cache new
    → ((before between after : List ℕ) → R before between → S between after → T before after)
    → Seen m file T old_cache old new_cache new
seen_then one two joined = record { told = λ tells. joined _ _ _ (one.told tells) (two.told tells) }

-- a change after calls that leave the file alone
pub seen_after : {H : Type 0} {m : HostModel H} {file : ℕ} {R : List ℕ → List ℕ → Type 0}
    {old_cache middle_cache new_cache : CacheValue} {old middle new : H}
    → Seen m file Same old_cache old middle_cache middle → Seen m file R middle_cache middle new_cache new
    → Seen m file R old_cache old new_cache new
seen_after {R = R} one two =
    seen_then one two (λ before between after same step. subst (λ (l : List ℕ). R l after) same step)

-- The bytes that a cache lends after calls that left the file alone are its page as it was.
pub lent_page : {H : Type 0} {m : HostModel H} {files : List ℕ} {old_cache new_cache : CacheValue} {old new : H}
    {bytes : List ℕ} (name : PageName) → (Contains files name.file → ⊥) → Writes m files old_cache old new_cache new
    → ((image : Image) → IsCoherent new_cache image → bytes ≡ page_of (view_of new_cache image name.file) name.page)
    → IsTrue m.tells → bytes ≡ page_of (seen m old_cache old name.file) name.page
lent_page {m = m} {new = new} name spared writes lent tells =
    lent (m.contents new) (writes.in_step tells) ∙ ap (λ l. page_of l name.page) (writes.view tells name.file spared)

-- What a cache shows after calls that left the file alone, of any page, is the page as it was. The first fact is the clause
-- `shown` of `pages`.
pub shown_page : {H : Type 0} {m : HostModel H} {files : List ℕ} {old_cache new_cache : CacheValue} {old new : H}
    → ((image : Image) (name : PageName) (bytes : List ℕ) → IsCoherent new_cache image → resident_bytes new_cache.held name ≡ Some bytes
    → (bytes ≡ page_of (view_of new_cache image name.file) name.page) × (length bytes ≡ PAGE_SIZE))
    → Writes m files old_cache old new_cache new → IsTrue m.tells → (name : PageName) (bytes : List ℕ)
    → (Contains files name.file → ⊥) → resident_bytes new_cache.held name ≡ Some bytes
    → bytes ≡ page_of (seen m old_cache old name.file) name.page
shown_page {m = m} {new = new} all writes tells name bytes spared is =
    (all (m.contents new) name bytes (writes.in_step tells) is).0
    ∙ ap (λ l. page_of l name.page) (writes.view tells name.file spared)

-- What keeps a cache in step, and its view: calls of the host itself on files that don't go through a cache.

pub step_elsewhere : {H : Type 0} (m : HostModel H) (cache : CacheValue) (old new : H)
    → (IsTrue m.tells → (file : ℕ) → IsCachedFile file → (m.contents new).file file ≡ (m.contents old).file file)
    → IsInStep m cache old → IsInStep m cache new
step_elsewhere m cache old new same in_step = λ tells.
    fits_elsewhere cache (m.contents old) (m.contents new) (same tells) (in_step tells)

pub step_outside : {H : Type 0} {m : HostModel H} (cache : CacheValue) {files : List ℕ} {old new : H}
    → ((file : ℕ) → Contains files file → IsCachedFile file → ⊥) → Leads m (AgreesOutside files) old new
    → IsInStep m cache old → IsInStep m cache new
step_outside {m = m} cache {old = old} {new = new} apart leads =
    step_elsewhere m cache old new (λ tells file cached. (leads.contents tells).others file (λ has. apart file has cached))

pub step_file : {H : Type 0} {m : HostModel H} (cache : CacheValue) {file : ℕ} {P : List ℕ → List ℕ → Type 0}
    {old new : H} → (IsCachedFile file → ⊥) → Leads m (FileBecomes file P) old new → IsInStep m cache old
    → IsInStep m cache new
step_file {m = m} cache {old = old} {new = new} apart leads =
    step_elsewhere m cache old new
    (λ tells other cached. (leads.contents tells).others other (λ same. apart (subst IsCachedFile same cached)))

pub step_said : {H : Type 0} {m : HostModel H} (cache : CacheValue) {channel : Channel} {bytes : List ℕ} {old new : H}
    → Leads m (SaysPart channel bytes) old new → IsInStep m cache old → IsInStep m cache new
step_said {m = m} cache {old = old} {new = new} leads =
    step_elsewhere m cache old new (λ tells other cached. ap (λ (f : ℕ → List ℕ). f other) (leads.contents tells).2.files)

pub step_stays : {H : Type 0} {m : HostModel H} (cache : CacheValue) {old new : H} → Leads m Stays old new
    → IsInStep m cache old → IsInStep m cache new
step_stays {m = m} cache {old = old} {new = new} leads =
    step_elsewhere m cache old new (λ tells other cached. ap (λ (i : Image). i.file other) (leads.contents tells))

pub seen_elsewhere : {H : Type 0} {m : HostModel H} (cache : CacheValue) {files : List ℕ} {old new : H} (file : ℕ)
    → (Contains files file → ⊥) → Leads m (AgreesOutside files) old new → Seen m file Same cache old cache new
seen_elsewhere cache file spared leads =
    record { told = λ tells. ap (λ l. overlaid file cache.held l) ((leads.contents tells).others file spared) }
