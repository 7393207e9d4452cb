-- The calls of `append`, one after the other.
use Rattle.std.proofs.Common.{◌≡◌, ℕ, ◌+◌, ◌≤◌, IsTrue, List, [], ◌∷◌, length, slice_index, sym, ap, subst, ◌∙◌, arith}
use Rattle.nb_host.specs.Crashes.{ImagesFollow, Stays}
use Rattle.nb_host.specs.Image.{Image, FileBecomes, IsTorn, IsOverwritten, overwritten}
use Rattle.nb_host.specs.Meaning.{HostModel, Leads, IsDurable}
use Rattle.nb_host.proofs.Callers.{weaken, becomes_agrees, leads_after, leads_then, stays_contents, overwritten_is_torn, becomes_more, becomes_then, leads_more}
use Rattle.nb_journal.specs.declared.entry.Entry.{Entry}
use Rattle.nb_journal.specs.Entries.{IsNextEntry}
use Rattle.nb_journal.specs.Form.{Log, IsCleanJournal, with_entry, progress_of}
use Rattle.nb_journal.specs.Images.{IsCleanNow, Appends, IsEntryTorn}
use Rattle.nb_journal.specs.Laying.{Lays, IsEntryWritten}
use Rattle.nb_journal.specs.Offsets.{offset_of, page_end}
use Rattle.nb_journal.proofs.Gates.{kept_journal, gate_open, torn_by_laying, torn_by_gate}
use Rattle.nb_journal.proofs.Laid.{written_byte}
use Rattle.nb_journal.proofs.Steps.{laying_keeps, laid_appends, gate_appends, after_sync}

-- before the gate
pub append_lays : {H : Type 0} {m : HostModel H} (log : Log) {entry : Entry} {before : Image} {n : ℕ} {old new : H}
    → n ≡ length log.entries → IsCleanNow m log old → ImagesFollow m.crashes old new (Lays n)
    → ImagesFollow m.crashes old new (Appends log entry before)
append_lays {H = H} {m = m} log {entry = entry} {before = before} {old = old} {new = new} count ready run =
    weaken (laying_keeps ready (subst (λ (k : ℕ). ImagesFollow m.crashes old new (Lays k)) count run))
    (λ start image keeps. laid_appends keeps)

-- and with it
pub append_opens : {H : Type 0} (m : HostModel H) (log : Log) (entry : Entry) {n at : ℕ} {old middle synced new : H}
    → n ≡ length log.entries → at ≡ offset_of n → IsNextEntry log.count (progress_of log) entry → IsCleanNow m log old
    → Leads m (Lays n) old middle → Leads m Stays middle synced → IsDurable m synced
    → (IsTrue m.tells → offset_of (page_end n) ≤ length ((m.contents old).file 2) → IsEntryWritten n entry ((m.contents middle).file 2))
    → ImagesFollow m.crashes synced new (FileBecomes 2 (IsTorn at 1))
    → ImagesFollow m.crashes old new (Appends log entry (m.contents old))
append_opens m log entry {n = n} {at = at} {old = old} {middle = middle} {synced = synced} {new = new} count offset next ready lays sync durable laid gate =
    let k = length log.entries in
    let at_is : at ≡ offset_of k = offset ∙ ap offset_of count in
    let all = leads_after lays sync in
    let keeps = laying_keeps ready (subst (λ (i : ℕ). ImagesFollow m.crashes old synced (Lays i)) count all.images) in
    after_sync m keeps durable gate (λ start image step. laid_appends step)
    (λ start image honest kept torn.
    let tells = m.tells_if_honest honest in
    let pages : offset_of (page_end n) ≤ length ((m.contents old).file 2) =
    omega (arith, (ready.reads (m.tells_if_honest honest)).journal.pages, ap page_end count) in
    let is_laid : IsEntryWritten k entry ((m.contents synced).file 2) =
    subst (λ (i : ℕ). IsEntryWritten i entry ((m.contents synced).file 2)) count
    (subst (λ (i : Image). IsEntryWritten n entry (i.file 2)) (sym (stays_contents sync)) (laid tells pages)) in
    gate_appends log entry next (becomes_agrees (all.contents tells)) is_laid kept
    (subst (λ (a : ℕ). FileBecomes 2 (IsTorn a 1) (m.contents synced) image) at_is torn))

-- what reads then
pub append_adds : {H : Type 0} (m : HostModel H) (log : Log) (entry : Entry) {n at : ℕ} {old middle synced new : H}
    → n ≡ length log.entries → at ≡ offset_of n → IsNextEntry log.count (progress_of log) entry
    → IsTrue m.tells → IsCleanJournal log ((m.contents old).file 2)
    → Leads m (Lays n) old middle → Leads m Stays middle synced
    → (IsTrue m.tells → offset_of (page_end n) ≤ length ((m.contents old).file 2) → IsEntryWritten n entry ((m.contents middle).file 2))
    → FileBecomes 2 (IsOverwritten at (71 ∷ [])) (m.contents synced) (m.contents new)
    → IsCleanJournal (with_entry log entry) ((m.contents new).file 2)
append_adds m log entry {n = n} {at = at} {old = old} {middle = middle} {synced = synced} {new = new} count offset next tells clean lays sync laid opened =
    let k = length log.entries in
    let at_is : at ≡ offset_of k = offset ∙ ap offset_of count in
    let file = (m.contents synced).file 2 in
    let same : (m.contents middle).file 2 ≡ file = ap (λ (i : Image). i.file 2) (sym (stays_contents sync)) in
    let pages : offset_of (page_end n) ≤ length ((m.contents old).file 2) =
    omega (arith, clean.journal.pages, ap page_end count) in
    let is_laid : IsEntryWritten k entry file =
    subst (λ (i : ℕ). IsEntryWritten i entry file) count
    (subst (λ (f : List ℕ). IsEntryWritten n entry f) same (laid tells pages)) in
    let kept : IsCleanJournal log file =
    subst (λ (f : List ℕ). IsCleanJournal log f) same
    (kept_journal log (subst (λ (i : ℕ). Lays i (m.contents old) (m.contents middle)) count (lays.contents tells)).file clean) in
    let written : (m.contents new).file 2 ≡ overwritten (offset_of k) (71 ∷ []) file =
    subst (λ (a : ℕ). (m.contents new).file 2 ≡ overwritten a (71 ∷ []) file) at_is opened.file in
    let torn : IsTorn (offset_of k) 1 file ((m.contents new).file 2) =
    subst (λ (f : List ℕ). IsTorn (offset_of k) 1 file f) (sym written) (overwritten_is_torn (offset_of k) (71 ∷ []) file) in
    let there : offset_of k ≡ offset_of k + 0 = omega arith in
    let opens : slice_index ((m.contents new).file 2) (offset_of k) ≡ 71 =
    ap (λ (f : List ℕ). slice_index f (offset_of k)) written
    ∙ ap (λ (p : ℕ). slice_index (overwritten (offset_of k) (71 ∷ []) file) p) there
    ∙ written_byte (offset_of k) (71 ∷ []) file 0 (omega arith) in
    (gate_open log entry kept is_laid next torn opens).0

-- where all of it leads
pub laying_leads : {H : Type 0} {m : HostModel H} (n k : ℕ) {old new : H} → n ≡ k → Leads m (Lays n) old new
    → Leads m (FileBecomes 2 (IsEntryTorn k)) old new
laying_leads {m = m} n k {old = old} {new = new} same lays =
    leads_more (subst (λ (i : ℕ). Leads m (Lays i) old new) same lays)
    (λ start image step. becomes_more step (λ before after keeps. torn_by_laying k keeps))

pub append_leads : {H : Type 0} {m : HostModel H} (n k : ℕ) {at : ℕ} {old middle synced new : H} → n ≡ k → at ≡ offset_of n
    → Leads m (Lays n) old middle → Leads m Stays middle synced → Leads m (FileBecomes 2 (IsTorn at 1)) synced new
    → Leads m (FileBecomes 2 (IsEntryTorn k)) old new
append_leads {m = m} n k {at = at} {old = old} {middle = middle} {synced = synced} {new = new} same offset lays sync gate =
    let laid = leads_after (subst (λ (i : ℕ). Leads m (Lays i) old middle) same lays) sync in
    let torn = subst (λ (a : ℕ). Leads m (FileBecomes 2 (IsTorn a 1)) synced new) (offset ∙ ap offset_of same) gate in
    leads_then laid torn
    (λ start image step. becomes_more step (λ before after keeps. torn_by_laying k keeps))
    (λ start between image one two. becomes_then one two (λ _ _ _ keeps gate. torn_by_gate k keeps gate))
