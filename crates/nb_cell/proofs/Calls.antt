-- Calls over a cache and a host: the search for a key, page by page, what an insertion puts, and the pages that a new table
-- gets.
use Rattle.std.proofs.Common.{◌≡◌, ℕ, ◌+◌, ◌<◌, ◌≤◌, IsTrue, IsOk, Result, Err, List, [], ◌∷◌, length, refl, sym, ap, subst, ◌∙◌, arith}
use Rattle.std.specs.Prelude.{◌≢◌, All}
use Rattle.nb_host.specs.Image.{Image, overwritten, IsOverwritten}
use Rattle.nb_host.specs.Meaning.{HostModel}
use Rattle.nb_host.specs.Page.{HasPage, page_of, page_start}
use Rattle.nb_host.specs.declared.page_name.PageName.{PageName}
use Rattle.nb_host.specs.declared.page_name.TheConstants.{PAGE_SIZE}
use Rattle.nb_host.proofs.Callers.{ok_is_no_error, stopped_after}
use Rattle.nb_cache.specs.InStep.{IsInStep, IsCoherent}
use Rattle.nb_cache.specs.View.{CacheValue, view_of, seen, Seen, Same}
use Rattle.nb_cache.specs.Writes.{Writes, RanCached}
use Rattle.nb_cache.proofs.Callers.{no_file, writes_begins, writes_again, lent_page}
use Rattle.nb_record.specs.declared.cell.Cell.{Cell}
use Rattle.nb_record.specs.Pages.{page_next, IsCellPage}
use Rattle.nb_record.specs.Records.{cells_of, IsCell}
use Rattle.nb_record.specs.Table.{next_of}
use Rattle.nb_cell.specs.declared.table.CellTable.{CellTable}
use Rattle.nb_cell.specs.Chains.{first_page, PassesOn, ComesTo, StopsAt, EndsAt, HasNewPage}
use Rattle.nb_cell.specs.Insertions.{HasInserted, HasKept, IsDamaged}
use Rattle.nb_cell.proofs.EmptyPages.{IsEmptyPage, HasEmptyPages, no_pages, one_page_more}
use Rattle.nb_cell.proofs.Insertions.{IsWithCell, IsWithNext, inserted_on_last, inserted_behind, kept_all, kept_behind}
use Rattle.nb_cell.proofs.Looks.{IsPassed}
use Rattle.nb_cell.proofs.Ways.{comes_first, comes_on, never_stops}

-- ---- the search for a key

-- Calls that write nothing have come to this page of the chain of a key.
pub record Walks {H : Type 0} (m : HostModel H) (t : CellTable) (key : ℕ) (old_cache : CacheValue) (old : H) (page : ℕ) (new_cache : CacheValue) (new : H) : Type 0 where
  pub within : page < t.pages
  pub comes : IsTrue m.tells → ComesTo (seen m old_cache old t.file) t.pages key (first_page t.bits key) page
  pub writes : Writes m [] old_cache old new_cache new
  pub spared : m.faults new ≡ m.faults old

pub walks_first : {H : Type 0} (m : HostModel H) (t : CellTable) (key : ℕ) (cache : CacheValue) (host : H) (page : ℕ)
    → page ≡ first_page t.bits key → page < t.pages → IsInStep m cache host → Walks m t key cache host page cache host
walks_first m t key cache host page starts within in_step = record {
  within = within;
  comes = λ tells. subst (ComesTo (seen m cache host t.file) t.pages key (first_page t.bits key)) (sym starts)
      (comes_first (seen m cache host t.file) t.pages key (first_page t.bits key));
  writes = writes_begins m [] cache host in_step;
  spared = refl;
}

-- what reads is as before
pub still : {H : Type 0} {m : HostModel H} {old_cache new_cache : CacheValue} {old new : H} (file : ℕ)
    → Writes m [] old_cache old new_cache new → IsTrue m.tells → seen m new_cache new file ≡ seen m old_cache old file
still file writes tells = writes.view tells file (no_file file)

pub past_before : {H : Type 0} {m : HostModel H} {t : CellTable} {key page : ℕ} {old_cache new_cache : CacheValue} {old new : H}
    → Walks m t key old_cache old page new_cache new → IsTrue m.tells → PassesOn (seen m new_cache new t.file) t.pages key page
    → PassesOn (seen m old_cache old t.file) t.pages key page
past_before {t = t} {key = key} {page = page} walks tells past = subst (λ l. PassesOn l t.pages key page) (still t.file walks.writes tells) past

-- on to the next page
pub walks_on : {H T E : Type 0} {m : HostModel H} {t : CellTable} {key page : ℕ} {old_cache middle_cache new_cache : CacheValue}
    {old middle new : H} {fault : E} {result : Result T E} (next : ℕ) → Walks m t key old_cache old page middle_cache middle
    → (page < next) × (next < t.pages)
    → (IsTrue m.tells → PassesOn (seen m middle_cache middle t.file) t.pages key page)
    → (IsTrue m.tells → next_of (seen m middle_cache middle t.file) page ≡ next)
    → RanCached m fault [] middle_cache middle new_cache new result → IsOk result
    → Walks m t key old_cache old next new_cache new
walks_on {t = t} {page = page} next walks later past leads ran ok = record {
  within = later.1;
  comes = λ tells. comes_on (walks.comes tells) (past_before walks tells (past tells))
      (ap (λ l. next_of l page) (sym (still t.file walks.writes tells)) ∙ leads tells) (λ none. omega (arith, later.0));
  writes = writes_again walks.writes ran.writes;
  spared = ran.spared (ok_is_no_error ok) ∙ walks.spared;
}

-- a call behind it
pub walks_ran : {H T U D E : Type 0} {m : HostModel H} {t : CellTable} {key page : ℕ} {old_cache middle_cache new_cache : CacheValue}
    {old middle new : H} {early : D} {fault : E} {one : Result T D} {result : Result U E}
    → Walks m t key old_cache old page middle_cache middle → RanCached m early [] middle_cache middle new_cache new one
    → (result ≡ Err fault → one ≡ Err early) → (one ≡ Err early → result ≡ Err fault)
    → RanCached m fault [] old_cache old new_cache new result
walks_ran walks ran there back = record {
  writes = writes_again walks.writes ran.writes;
  rose = λ faulted. stopped_after walks.spared (ran.rose (there faulted));
  spared = λ never. ran.spared (λ faulted. never (back faulted)) ∙ walks.spared;
}

-- a page without a next page is the end
pub walks_end : {H : Type 0} {m : HostModel H} {t : CellTable} {key page : ℕ} {old_cache middle_cache : CacheValue} {old middle : H}
    → Walks m t key old_cache old page middle_cache middle → (IsTrue m.tells → PassesOn (seen m middle_cache middle t.file) t.pages key page)
    → (IsTrue m.tells → next_of (seen m middle_cache middle t.file) page ≡ 0) → IsTrue m.tells
    → EndsAt (seen m old_cache old t.file) t.pages key (first_page t.bits key) page
walks_end {t = t} {page = page} walks past none tells = record {
  comes = walks.comes tells;
  past = past_before walks tells (past tells);
  last = ap (λ l. next_of l page) (sym (still t.file walks.writes tells)) ∙ none tells;
}

-- ---- a page on the way

-- what the cache lends after calls that wrote nothing is the page as it was
pub lent_here : {H : Type 0} {m : HostModel H} {old_cache new_cache : CacheValue} {old new : H} {bytes : List ℕ} (file page : ℕ)
    (name : PageName) → name ≡ record { file = file; page = page } → Writes m [] old_cache old new_cache new
    → ((image : Image) → IsCoherent new_cache image → bytes ≡ page_of (view_of new_cache image name.file) name.page)
    → IsTrue m.tells → bytes ≡ page_of (seen m old_cache old file) page
lent_here {m = m} {old_cache = old_cache} {old = old} file page name named writes lent tells =
    lent_page name (no_file name.file) writes lent tells ∙ ap (λ (n : PageName). page_of (seen m old_cache old n.file) n.page) named

-- a whole page that is of the form, lacks the key and has a next page of the file leads past
pub passed_past : (file : List ℕ) {bytes : List ℕ} {pages key page behind : ℕ} → page < pages → bytes ≡ page_of file page → HasPage file page
    → IsPassed key page bytes behind → behind < pages → PassesOn file pages key page
passed_past file {pages = pages} {key = key} {page = page} within is whole passed later = record {
  within = within;
  whole = whole;
  form = subst (IsCellPage page) is passed.form;
  next = let next = ap page_next (sym is) ∙ passed.next in subst (λ n. n < pages) (sym next) later;
  lacks = subst (λ l. All (λ c. c.key ≢ key) (cells_of l)) is passed.lacks;
}

pub passed_next : (file : List ℕ) {bytes : List ℕ} {key page behind : ℕ} → bytes ≡ page_of file page → IsPassed key page bytes behind
    → next_of file page ≡ behind
passed_next file is passed = ap page_next (sym is) ∙ passed.next

-- ---- where it stops

stops_damaged : {H : Type 0} {m : HostModel H} {t : CellTable} {key : ℕ} {cache : CacheValue} {host : H} (name : PageName)
    → name.file ≡ t.file → (IsTrue m.tells → StopsAt (seen m cache host t.file) t.pages key (first_page t.bits key) name.page)
    → IsDamaged m t key cache host name
stops_damaged name file stops = record {
  file = file;
  page = stops;
  no_table = λ tells cells is lacks. never_stops (stops tells) is lacks;
}

pub outside_damaged : {H : Type 0} (m : HostModel H) (t : CellTable) (key : ℕ) (cache : CacheValue) (host : H) (page : ℕ) (name : PageName)
    → name ≡ record { file = t.file; page = page } → page ≡ first_page t.bits key → t.pages ≤ page → IsDamaged m t key cache host name
outside_damaged m t key cache host page name named starts outside =
    let here : name.page ≡ first_page t.bits key = ap (λ (n : PageName). n.page) named ∙ starts in
    stops_damaged name (ap (λ (n : PageName). n.file) named)
    (λ tells. subst (StopsAt (seen m cache host t.file) t.pages key (first_page t.bits key)) (sym here)
    (record { comes = comes_first (seen m cache host t.file) t.pages key (first_page t.bits key); stops = λ leads. (let within = leads.within in omega arith) }))

pub walks_damaged : {H : Type 0} {m : HostModel H} {t : CellTable} {key page : ℕ} {old_cache middle_cache : CacheValue} {old middle : H}
    (name : PageName) → Walks m t key old_cache old page middle_cache middle → name ≡ record { file = t.file; page = page }
    → (IsTrue m.tells → PassesOn (seen m middle_cache middle t.file) t.pages key page → ⊥) → IsDamaged m t key old_cache old name
walks_damaged {m = m} {t = t} {key = key} {page = page} {old_cache = old_cache} {old = old} name walks named stops =
    stops_damaged name (ap (λ (n : PageName). n.file) named)
    (λ tells. subst (StopsAt (seen m old_cache old t.file) t.pages key (first_page t.bits key)) (sym (ap (λ (n : PageName). n.page) named))
    (record {
      comes = walks.comes tells;
      stops = λ leads. stops tells (subst (λ l. PassesOn l t.pages key page) (sym (still t.file walks.writes tells)) leads);
    }))

-- a page at which the search ended is of the form
pub ends_damaged : {H : Type 0} {m : HostModel H} {t : CellTable} {key page : ℕ} {old_cache found_cache : CacheValue} {old found : H}
    (name : PageName) → Writes m [] old_cache old found_cache found
    → (IsTrue m.tells → EndsAt (seen m old_cache old t.file) t.pages key (first_page t.bits key) page)
    → name ≡ record { file = t.file; page = page }
    → ((image : Image) → IsCoherent found_cache image → IsCellPage page (page_of (view_of found_cache image t.file) page) → ⊥)
    → IsDamaged m t key old_cache old name
ends_damaged {m = m} {t = t} {page = page} {found = found} name writes ends named damaged =
    stops_damaged name (ap (λ (n : PageName). n.file) named)
    (λ tells. absurd (damaged (m.contents found) (writes.in_step tells)
    (subst (λ l. IsCellPage page (page_of l page)) (sym (still t.file writes tells)) (ends tells).past.form)))

-- ---- what an insertion puts

module _ {H : Type 0} {m : HostModel H} {old_cache found_cache : CacheValue} {old found : H} (t : CellTable) (q : ℕ) (cell : Cell) (fits : IsCell cell) (page bytes : List ℕ) (writes : Writes m [] old_cache old found_cache found) (ends : IsTrue m.tells → EndsAt (seen m old_cache old t.file) t.pages cell.key (first_page t.bits cell.key) q) (copied : (image : Image) → IsCoherent found_cache image → page ≡ page_of (view_of found_cache image t.file) q) where
  copy : IsTrue m.tells → page ≡ page_of (seen m old_cache old t.file) q
  copy tells = lent_page (record { file = t.file; page = q }) (no_file t.file) writes copied tells

  pub inserts_on_last : {new_cache : CacheValue} {new : H} → IsWithCell cell page bytes
      → Seen m t.file (IsOverwritten (page_start q) bytes) found_cache found new_cache new
      → Seen m t.file (HasInserted t t cell) old_cache old new_cache new
  inserts_on_last with put = record {
    told = λ tells.
        subst (HasInserted t t cell (seen m old_cache old t.file))
        (sym (put.told tells ∙ ap (overwritten (page_start q) bytes) (still t.file writes tells)))
        (inserted_on_last t (seen m old_cache old t.file) q cell fits (ends tells) page (copy tells) bytes with);
  }

  pub inserts_behind : {added_cache new_cache : CacheValue} {added new : H} → IsWithNext t.pages page bytes
      → Seen m t.file (HasNewPage t.pages cell) found_cache found added_cache added
      → Seen m t.file (IsOverwritten (page_start q) bytes) added_cache added new_cache new
      → Seen m t.file (HasInserted t (record t { pages = t.pages + 1 }) cell) old_cache old new_cache new
  inserts_behind with adds put = record {
    told = λ tells.
        let one = adds.told tells in
        subst (HasInserted t (record t { pages = t.pages + 1 }) cell (seen m old_cache old t.file))
        (sym (put.told tells ∙ ap (overwritten (page_start q) bytes)
        (one.added ∙ ap (overwritten (page_start t.pages) one.bytes) (still t.file writes tells))))
        (inserted_behind t (seen m old_cache old t.file) q cell fits (ends tells) page (copy tells) bytes one.bytes one.page with);
  }

-- a refusal before a page was put, and between two
pub keeps_all : {H : Type 0} {m : HostModel H} {old_cache found_cache new_cache : CacheValue} {old found new : H} (t : CellTable)
    → Writes m [] old_cache old found_cache found → Seen m t.file Same found_cache found new_cache new
    → Seen m t.file (HasKept t) old_cache old new_cache new
keeps_all t writes same = record { told = λ tells. kept_all t (same.told tells ∙ still t.file writes tells) }

pub keeps_found : {H : Type 0} {m : HostModel H} {old_cache found_cache : CacheValue} {old found : H} (t : CellTable)
    → Writes m [] old_cache old found_cache found → Seen m t.file (HasKept t) old_cache old found_cache found
keeps_found t writes = record { told = λ tells. kept_all t (still t.file writes tells) }

pub keeps_behind : {H : Type 0} {m : HostModel H} {old_cache found_cache added_cache new_cache : CacheValue} {old found added new : H}
    {cell : Cell} (t : CellTable) → Writes m [] old_cache old found_cache found
    → Seen m t.file (HasNewPage t.pages cell) found_cache found added_cache added
    → Seen m t.file Same added_cache added new_cache new → Seen m t.file (HasKept t) old_cache old new_cache new
keeps_behind t writes adds same = record {
  told = λ tells.
      let one = adds.told tells in
      kept_behind t one.bytes one.page.size
      (same.told tells ∙ one.added ∙ ap (overwritten (page_start t.pages) one.bytes) (still t.file writes tells));
}

-- ---- the pages of a new table

-- calls that write one file made it so many empty pages
pub record Makes {H : Type 0} (m : HostModel H) (file : ℕ) (old_cache : CacheValue) (old : H) (count : ℕ) (new_cache : CacheValue) (new : H) : Type 0 where
  pub pages : IsTrue m.tells → HasEmptyPages (seen m new_cache new file) count
  pub writes : Writes m (file ∷ []) old_cache old new_cache new
  pub spared : m.faults new ≡ m.faults old

pub makes_none : {H T E : Type 0} {m : HostModel H} {old_cache new_cache : CacheValue} {old new : H} {fault : E} {result : Result T E}
    (file : ℕ) → (IsTrue m.tells → seen m new_cache new file ≡ []) → RanCached m fault (file ∷ []) old_cache old new_cache new result
    → IsOk result → Makes m file old_cache old 0 new_cache new
makes_none {m = m} {new_cache = new_cache} {new = new} file none ran ok = record {
  pages = λ tells. no_pages (seen m new_cache new file) (none tells);
  writes = ran.writes;
  spared = ran.spared (ok_is_no_error ok);
}

pub makes_next : {H T E : Type 0} {m : HostModel H} {file count : ℕ} {old_cache middle_cache new_cache : CacheValue}
    {old middle new : H} {fault : E} {result : Result T E} {bytes : List ℕ} → Makes m file old_cache old count middle_cache middle
    → IsEmptyPage count bytes → length bytes ≡ PAGE_SIZE
    → Seen m file (IsOverwritten (page_start count) bytes) middle_cache middle new_cache new
    → RanCached m fault (file ∷ []) middle_cache middle new_cache new result → IsOk result
    → Makes m file old_cache old (count + 1) new_cache new
makes_next {m = m} {file = file} {count = count} {middle_cache = middle_cache} {middle = middle} {bytes = bytes} makes empty full put ran ok =
    record {
      pages = λ tells.
          subst (λ l. HasEmptyPages l (count + 1)) (sym (put.told tells))
          (one_page_more (seen m middle_cache middle file) bytes count (makes.pages tells) empty full);
      writes = writes_again makes.writes ran.writes;
      spared = ran.spared (ok_is_no_error ok) ∙ makes.spared;
    }

-- a call behind them
pub makes_ran : {H T U D E : Type 0} {m : HostModel H} {file count : ℕ} {old_cache middle_cache new_cache : CacheValue}
    {old middle new : H} {early : D} {fault : E} {one : Result T D} {result : Result U E}
    → Makes m file old_cache old count middle_cache middle → RanCached m early (file ∷ []) middle_cache middle new_cache new one
    → (result ≡ Err fault → one ≡ Err early) → (one ≡ Err early → result ≡ Err fault)
    → RanCached m fault (file ∷ []) old_cache old new_cache new result
makes_ran makes ran there back = record {
  writes = writes_again makes.writes ran.writes;
  rose = λ faulted. stopped_after makes.spared (ran.rose (there faulted));
  spared = λ never. ran.spared (λ faulted. never (back faulted)) ∙ makes.spared;
}
