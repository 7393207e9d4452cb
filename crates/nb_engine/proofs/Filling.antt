-- What filling the other slot leaves of a folder, and what it needs of it.
use Rattle.std.proofs.Common.{◌≡◌, ◌≢◌, ℕ, zero, suc, ◌<◌, ◌≤◌, ◌⊎◌, inl, inr, Bool, true, ltb, IsTrue, IsOk, Contains, Result, Ok, Err, List, [], ◌∷◌, ◌++◌, length, take, refl, sym, ap, subst, ◌∙◌, arith}
use Rattle.std.proofs.lemmas.Bool.{ltb-true}
use Rattle.std.proofs.lemmas.List.Elements.{Contains-append_cases}
use Rattle.nb_host.specs.Crashes.{Stays, AgreesOutside}
use Rattle.nb_host.specs.Image.{Image, IsPartlyCut, FileBecomes}
use Rattle.nb_host.specs.Meaning.{HostModel, Leads, Ran}
use Rattle.nb_host.specs.declared.host.HostError.{HostError}
use Rattle.nb_host.specs.declared.host.HostError.TheVariants as host
use Rattle.nb_host.specs.declared.page_name.PageName.{PageName}
use Rattle.nb_host.proofs.Callers.{partly_cut_by_nothing, becomes_itself, becomes_same, becomes_agrees, agrees_more, leads_more, leads_again, leads_before, ok_is_no_error}
use Rattle.nb_model.specs.declared.body.Body.{Body}
use Rattle.nb_model.specs.declared.params.Params.{Params}
use Rattle.nb_model.specs.declared.way.Way.{Way}
use Rattle.nb_model.specs.declared.way.Way.TheVariants.{Forward, Back}
use Rattle.nb_model.specs.Leapfrog.{escaped_count, drift, kick, step, steps}
use Rattle.nb_model.specs.Legs.{directions}
use Rattle.nb_model.specs.Valid.{IsValidBodies}
use Rattle.nb_model.proofs.Facts.{length-kick, length-drift}
use Rattle.nb_journal.specs.Counters.{Counters, Answers}
use Rattle.nb_journal.specs.Form.{IsLawful}
use Rattle.nb_cache.specs.InStep.{IsInStep}
use Rattle.nb_cache.specs.View.{CacheValue}
use Rattle.nb_cache.specs.Writes.{RanCached}
use Rattle.nb_cache.proofs.Callers.{no_file, step_file}
use Rattle.nb_tick.specs.declared.slot.Slot.{Slot}
use Rattle.nb_tick.specs.declared.slot.Slot.TheVariants.{Even, Odd}
use Rattle.nb_tick.specs.declared.tick_error.TickError.{TickError}
use Rattle.nb_tick.specs.declared.tick_error.TickError.TheVariants as tick
use Rattle.nb_tick.specs.Slots.{slot_file, slot_of, other_slot, sorted_file, cell_file, tick_files}
use Rattle.nb_tick.specs.State.{HoldsState, HoldsKickedState, IsCellIndexOf}
use Rattle.nb_tick.specs.Tick.{IsState, IsStepped, LeavesState, IsNoState}
use Rattle.nb_engine.specs.declared.refusal.Refusal.{Refusal}
use Rattle.nb_engine.specs.declared.refusal.Refusal.TheVariants as refusal
use Rattle.nb_engine.specs.Files.{IsPagedFile}
use Rattle.nb_engine.specs.Frame.{RanSession}
use Rattle.nb_engine.specs.Histories.{state_at, History, run_of, ticks_of, IsHistory}
use Rattle.nb_engine.specs.Refusal.{of_host, of_tick, NeedsNoCause}
use Rattle.nb_engine.specs.Represents.{snap_of, HasOpenGate, RepresentsRun}
use Rattle.nb_engine.specs.Steps.{IsFlushed, HasState, IsStateDamaged, fill_files, IsFilled, HasNextState}
use Rattle.nb_engine.proofs.Frames.{session_ran, session_cached, session_then}
use Rattle.nb_engine.proofs.Paths.{state-forward, state-back}
use Rattle.nb_engine.proofs.Steps.{steps_valid}

-- ---- a file is emptied

pub no_bytes : (bytes : List ℕ) → length bytes ≡ 0 → bytes ≡ []
no_bytes [] none = refl
no_bytes (b ∷ bytes) none = absurd (omega (arith, none))

-- where its length was asked for alone
pub asked_leads : {H : Type 0} {m : HostModel H} {file : ℕ} {old new : H} → Leads m Stays old new
    → Leads m (FileBecomes file (IsPartlyCut 0)) old new
asked_leads {file = file} leads =
    leads_more leads (λ start image same. becomes_same file (IsPartlyCut 0) same (partly_cut_by_nothing 0 (start.file file)))

pub cut_leads : {H : Type 0} {m : HostModel H} {file : ℕ} {old middle new : H} → Leads m Stays old middle
    → Leads m (FileBecomes file (IsPartlyCut 0)) middle new → Leads m (FileBecomes file (IsPartlyCut 0)) old new
cut_leads {file = file} asked cut =
    leads_before (λ image. becomes_itself file (IsPartlyCut 0) image (partly_cut_by_nothing 0 (image.file file))) asked cut

-- ---- the files of a tick

-- a tick leads from the slot of one tick to that of the next
pub other_is : (from : Slot) (k : ℕ) → slot_file from ≡ slot_of k → slot_file (other_slot from) ≡ slot_of (suc k)
other_is Even k is = omega (arith, is)
other_is Odd k is = omega (arith, is)

among_tick : (from : Slot) (k : ℕ) → slot_file from ≡ slot_of k → (file : ℕ) → Contains (tick_files from) file
    → Contains (fill_files k) file
among_tick from k is file (zero, below, at) = (0, omega arith, sym (other_is from k is) ∙ at)
among_tick from k is file (suc zero, below, at) = (1, omega arith, at)
among_tick from k is file (suc (suc zero), below, at) = (2, omega arith, at)
among_tick from k is file (suc (suc (suc zero)), below, at) = (3, omega arith, at)
among_tick from k is file (suc (suc (suc (suc n))), below, at) = absurd (omega (arith, below))

among_snap : (k : ℕ) (file : ℕ) → Contains (snap_of (suc k) ∷ []) file → Contains (fill_files k) file
among_snap k file (zero, below, at) = (4, omega arith, at)
among_snap k file (suc n, below, at) = absurd (omega (arith, below))

-- Of the files of a cache the scratch file of a snapshot may be unwritten, and a tick writes that anew.
pub unwritten_among : (from : Slot) (file : ℕ) → file ≡ sorted_file → Contains (tick_files from) file
unwritten_among from file is = (2, omega arith, sym is)

-- a file that is none of those that are filled
pub apart_filled : (k number : ℕ) → number ≢ slot_of (suc k) → (number ≤ 4) ⊎ ((8 ≤ number) × (number ≢ snap_of (suc k)))
    → Contains (fill_files k) number → ⊥
apart_filled k number slot (inl low) (zero, below, at) = slot (sym at)
apart_filled k number slot (inl low) (suc zero, below, at) = omega (arith, at, low)
apart_filled k number slot (inl low) (suc (suc zero), below, at) = omega (arith, at, low)
apart_filled k number slot (inl low) (suc (suc (suc zero)), below, at) = omega (arith, at, low)
apart_filled k number slot (inl low) (suc (suc (suc (suc zero))), below, at) = omega (arith, at, low)
apart_filled k number slot (inl low) (suc (suc (suc (suc (suc n)))), below, at) = omega (arith, below)
apart_filled k number slot (inr high) (zero, below, at) = slot (sym at)
apart_filled k number slot (inr high) (suc zero, below, at) = omega (arith, at, high.0)
apart_filled k number slot (inr high) (suc (suc zero), below, at) = omega (arith, at, high.0)
apart_filled k number slot (inr high) (suc (suc (suc zero)), below, at) = omega (arith, at, high.0)
apart_filled k number slot (inr high) (suc (suc (suc (suc zero))), below, at) = high.1 (sym at)
apart_filled k number slot (inr high) (suc (suc (suc (suc (suc n)))), below, at) = omega (arith, below)

-- the files of a tick are files of pages
pub slot_paged : (slot : Slot) → IsPagedFile (slot_file slot)
slot_paged Even = (omega arith, omega arith)
slot_paged Odd = (omega arith, omega arith)

tick_paged : (from : Slot) (file : ℕ) → Contains (slot_file from ∷ tick_files from) file → IsPagedFile file
tick_paged from file (zero, below, at) = subst IsPagedFile at (slot_paged from)
tick_paged from file (suc zero, below, at) = subst IsPagedFile at (slot_paged (other_slot from))
tick_paged from file (suc (suc zero), below, at) = (omega (arith, at), omega (arith, at))
tick_paged from file (suc (suc (suc zero)), below, at) = (omega (arith, at), omega (arith, at))
tick_paged from file (suc (suc (suc (suc zero))), below, at) = (omega (arith, at), omega (arith, at))
tick_paged from file (suc (suc (suc (suc (suc n)))), below, at) = absurd (omega (arith, below))

-- images that agree outside these files with images that do
pub agrees_again : {files : List ℕ} {start between image : Image} → AgreesOutside files start between
    → AgreesOutside files between image → AgreesOutside files start image
agrees_again one two = record {
  others = λ number apart. two.others number apart ∙ one.others number apart;
  said = two.said ∙ one.said;
}

-- ---- where the calls lead

pub tick_leads : {H : Type 0} {m : HostModel H} {old new : H} (from : Slot) (k : ℕ) (unwritten : List ℕ)
    → slot_file from ≡ slot_of k → ((file : ℕ) → Contains unwritten file → file ≡ sorted_file)
    → Leads m (AgreesOutside (tick_files from ++ unwritten)) old new → Leads m (AgreesOutside (fill_files k)) old new
tick_leads from k unwritten is settled leads =
    let within : (file : ℕ) → Contains (tick_files from ++ unwritten) file → Contains (fill_files k) file = λ file has.
    among_tick from k is file (elim (Contains-append_cases (tick_files from) unwritten file has) [
      | inl written ↦ written
      | inr before ↦ unwritten_among from file (settled file before)
    ]) in
    leads_more leads (λ start image agrees. agrees_more within agrees)

clear_leads : {H : Type 0} {m : HostModel H} {old new : H} (k file : ℕ) → file ≡ snap_of (suc k)
    → Leads m (FileBecomes file (IsPartlyCut 0)) old new → Leads m (AgreesOutside (fill_files k)) old new
clear_leads k file is leads =
    let within : (other : ℕ) → Contains (file ∷ []) other → Contains (fill_files k) other = λ other has.
    among_snap k other (subst (λ (n : ℕ). Contains (n ∷ []) other) is has) in
    leads_more leads (λ start image becomes. agrees_more within (becomes_agrees becomes))

-- ---- answers that are handed on

-- one answer stands for a device fault exactly where the other does
pub record Handed {T U E : Type 0} (fault : E) (one : Result T E) (result : Result U Refusal) : Type 0 where
  pub there : result ≡ Err refusal.Device → one ≡ Err fault
  pub back : one ≡ Err fault → result ≡ Err refusal.Device

tick_fault : (error : TickError) → of_tick error ≡ refusal.Device → error ≡ tick.Fault
tick_fault tick.Fault is = cc
tick_fault tick.NoMemory is = cc
tick_fault (tick.Damaged page) is = cc

host_fault : (error : HostError) → of_host error ≡ refusal.Device → error ≡ host.Fault
host_fault host.Fault is = cc
host_fault host.NoMemory is = cc

pub tick_handed : {T U : Type 0} {one : Result T TickError} {result : Result U Refusal} (error : TickError)
    → one ≡ Err error → result ≡ Err (of_tick error) → Handed tick.Fault one result
tick_handed error was is = record {
  there = λ faulted. let same : of_tick error ≡ refusal.Device = cc in was ∙ ap Err (tick_fault error same);
  back = λ faulted. let same : error ≡ tick.Fault = cc in is ∙ ap (λ (e : TickError). Err (of_tick e)) same;
}

pub host_handed : {T U : Type 0} {one : Result T HostError} {result : Result U Refusal} (error : HostError)
    → one ≡ Err error → result ≡ Err (of_host error) → Handed host.Fault one result
host_handed error was is = record {
  there = λ faulted. let same : of_host error ≡ refusal.Device = cc in was ∙ ap Err (host_fault error same);
  back = λ faulted. let same : error ≡ host.Fault = cc in is ∙ ap (λ (e : HostError). Err (of_host e)) same;
}

pub ok_handed : {T U E : Type 0} {fault : E} {one : Result T E} {result : Result U Refusal} → IsOk one → IsOk result
    → Handed fault one result
ok_handed ok fine = record {
  there = λ faulted. absurd (ok_is_no_error fine faulted);
  back = λ faulted. absurd (ok_is_no_error ok faulted);
}

-- the host's refusals need no cause
pub host_cause : (error : HostError) → NeedsNoCause (of_host error)
host_cause host.Fault = inl refl
host_cause host.NoMemory = inr refl

-- ---- the lists of a run

length-steps : (params : Params) (ways : List Way) (bodies : List Body) → length (steps params ways bodies) ≡ length bodies
length-steps params [] bodies = refl
length-steps params (way ∷ ways) bodies =
    let kicked = kick params way bodies in
    let moved = drift params way kicked in
    length-steps params ways (step params way bodies) ∙ length-kick params way moved ∙ length-drift params way kicked
    ∙ length-kick params way bodies

-- the way of a tick from a time toward a target
abbrev pub LeadsBy : ℕ → ℕ → Way → Type 0
LeadsBy time target way = ((time < target) × (way ≡ Forward)) ⊎ ((target ≤ time) × (way ≡ Back))

state_next : (h : History) (journal : Counters) (way : Way) → Answers h.log journal → IsLawful h.log
    → journal.progress.time ≢ journal.progress.target → LeadsBy journal.progress.time journal.progress.target way
    → state_at (run_of h) (suc (ticks_of h)) ≡ step h.log.params way (state_at (run_of h) (ticks_of h))
state_next h journal way answers lawful apart (inl forward) =
    let below = subst (λ (j : Counters). j.progress.time < j.progress.target) answers forward.0 in
    state-forward h lawful below
    ∙ ap (λ (w : Way). step h.log.params w (state_at (run_of h) (ticks_of h))) (sym forward.1)
state_next h journal way answers lawful apart (inr back) =
    let above : journal.progress.target < journal.progress.time = omega (arith, back.0, apart) in
    let below = subst (λ (j : Counters). j.progress.target < j.progress.time) answers above in
    state-back h lawful below
    ∙ ap (λ (w : Way). step h.log.params w (state_at (run_of h) (ticks_of h))) (sym back.1)

-- where a tick was done, there are some
pub some_ticks : (ticks now : ℕ) → ticks ≡ now → ltb 0 ticks ≡ true → now ≢ 0
some_ticks ticks now same some none = omega (arith, ltb-true 0 ticks some, same, none)

-- nothing is opened in an empty file
none_opened : HasOpenGate [] → ⊥
none_opened opened = omega (arith, opened.more)

-- ---- a tick into the other slot

module _ {H : Type 0} (m : HostModel H) (journal : Counters) (params : Params) (params_is : params ≡ journal.params) (count : ℕ) (count_is : count ≡ journal.count) (from : Slot) (from_is : slot_file from ≡ slot_of journal.progress.ticks) (h0 : H) where
  abbrev slot_bytes : List ℕ
  slot_bytes = (m.contents h0).file (slot_file from)

  -- what a tick needs of a folder of which its run can go on
  holds_state : (bodies : List Body) → HasState journal bodies (m.contents h0).file → HoldsState bodies slot_bytes
  holds_state bodies has = subst (λ (n : ℕ). HoldsState bodies ((m.contents h0).file n)) (sym from_is) has.slot

  valid_state : (bodies : List Body) → HasState journal bodies (m.contents h0).file → IsValidBodies params bodies
  valid_state bodies has = subst (λ (p : Params). IsValidBodies p bodies) (sym params_is) has.valid

  -- why a tick refuses
  pub tick_cause : (error : TickError) → ((page : PageName) → error ≡ tick.Damaged page → IsNoState m params from count h0 page)
      → NeedsNoCause (of_tick error) ⊎ IsStateDamaged m journal h0 (of_tick error)
  tick_cause tick.Fault none = inl (inl refl)
  tick_cause tick.NoMemory none = inl (inr refl)
  tick_cause (tick.Damaged page) none =
      let is = none page refl in
      inr (record {
        page = page;
        named = refl;
        file = tick_paged from page.file is.file;
        cause = λ tells bodies has.
            is.cause tells bodies (valid_state bodies has) (has.count ∙ sym count_is) (holds_state bodies has);
      })

  module _ (unwritten : List ℕ) (settled : (file : ℕ) → Contains unwritten file → file ≡ sorted_file) where
    -- the frame, where the tick was refused
    pub tick_ran : {U : Type 0} {old_cache new_cache : CacheValue} {new : H} {one : Result ℕ TickError} {result : Result U Refusal}
        → old_cache.unwritten ≡ unwritten → RanCached m tick.Fault (tick_files from) old_cache h0 new_cache new one
        → Handed tick.Fault one result → RanSession m (AgreesOutside (fill_files journal.progress.ticks)) h0 new result
    tick_ran {new = new} same ran handed =
        let leads = subst (λ (l : List ℕ). Leads m (AgreesOutside (tick_files from ++ l)) h0 new) same ran.writes.leads in
        session_cached ran (tick_leads from journal.progress.ticks unwritten from_is settled leads) handed.there handed.back

    -- and where the file of the next snapshot was to be emptied behind it
    pub fill_ran : {T U : Type 0} {old_cache new_cache : CacheValue} {middle new : H} {one : Result ℕ TickError}
        {two : Result T HostError} {result : Result U Refusal} (file : ℕ) → file ≡ snap_of (suc journal.progress.ticks)
        → old_cache.unwritten ≡ unwritten → RanCached m tick.Fault (tick_files from) old_cache h0 new_cache middle one → IsOk one
        → Ran m host.Fault (FileBecomes file (IsPartlyCut 0)) middle new two → Handed host.Fault two result
        → RanSession m (AgreesOutside (fill_files journal.progress.ticks)) h0 new result
    fill_ran {middle = middle} {new = new} {one = one} file file_is same ticked ok cleared handed =
        let k = journal.progress.ticks in
        let fine : Result ℕ Refusal = Ok 0 in
        let well : Handed tick.Fault one fine = ok_handed {result = fine} ok refl in
        let before : RanSession m (AgreesOutside (fill_files k)) h0 middle fine = tick_ran same ticked well in
        let behind = session_ran cleared handed.there handed.back in
        session_then refl before behind
        (leads_again (λ a b d first second. agrees_again first second) before.leads
        (clear_leads k file file_is cleared.leads))

  -- ---- what it leaves

  module _ (h1 h2 : H) (gone file : ℕ) (file_is : file ≡ snap_of (suc journal.progress.ticks)) (cleared : Leads m (FileBecomes file (IsPartlyCut 0)) h1 h2) where
    abbrev next_slot : ℕ
    next_slot = slot_of (suc journal.progress.ticks)

    other_kept : IsTrue m.tells → (number : ℕ) → number ≤ 8 → (m.contents h2).file number ≡ (m.contents h1).file number
    other_kept tells number low = (cleared.contents tells).others number (λ same. omega (arith, same, file_is, low))

    pub settled_then : (cache : CacheValue) → cache.unwritten ≡ [] → IsInStep m cache h1 → IsFlushed m cache h2
    settled_then cache flushed in_step = record {
      in_step = step_file cache (λ cached. omega (arith, file_is, cached.greatest)) cleared in_step;
      unwritten = λ other has. absurd (no_file other (subst (λ (l : List ℕ). Contains l other) flushed has));
    }

    -- whatever the kicks were
    pub next_left : (IsTrue m.tells → (bodies : List Body) → IsValidBodies params bodies → length bodies ≡ count
        → HoldsState bodies slot_bytes → LeavesState params from bodies (m.contents h1) gone)
        → IsTrue m.tells → (bodies : List Body) → HasState journal bodies (m.contents h0).file
        → HasNextState journal gone (m.contents h2).file
    next_left leaves tells bodies has =
        let left = leaves tells bodies (valid_state bodies has) (has.count ∙ sym count_is) (holds_state bodies has) in
        let there = subst (λ (n : ℕ). HoldsState left.next ((m.contents h1).file n)) (other_is from journal.progress.ticks from_is)
        left.slot.bodies in
        record {
          bodies = left.next;
          valid = subst (λ (p : Params). IsValidBodies p left.next) params_is left.valid;
          count = left.count_is ∙ has.count;
          gone_is = sym left.escaped_is;
          no_fewer = omega (arith, has.gone, left.no_fewer);
          slot = subst (HoldsState left.next) (sym (other_kept tells next_slot (omega arith))) there;
        }

    -- where the folder represents a history
    pub filled : (way : Way) (known : Bool) → journal.progress.time ≢ journal.progress.target
        → LeadsBy journal.progress.time journal.progress.target way → (known ≡ true → journal.progress.ticks ≢ 0)
        → (IsTrue m.tells → (bodies : List Body) → IsState params known count bodies slot_bytes
        → IsStepped params way from bodies (m.contents h1) gone)
        → (IsTrue m.tells → (m.contents h2).file file ≡ [])
        → IsTrue m.tells → (h : History) → Answers h.log journal → IsHistory h → RepresentsRun h (m.contents h0)
        → IsFilled h (m.contents h2) × (gone ≡ escaped_count (state_at (run_of h) (suc (ticks_of h))))
    filled way known apart leads right steps_on empty tells h answers is represents =
        let run = run_of h in
        let k = ticks_of h in
        let ticks = ap (λ (j : Counters). j.progress.ticks) answers in
        let list = state_at run k in
        let next = state_at run (suc k) in
        let params_of = params_is ∙ ap (λ (j : Counters). j.params) answers in
        let here : slot_file from ≡ slot_of k = from_is ∙ ap slot_of ticks in
        let many : length list ≡ count =
        length-steps run.params (take k (directions run.begin run.legs)) run.bodies ∙ sym is.count
        ∙ sym (ap (λ (j : Counters). j.count) answers) ∙ sym count_is in
        let state : IsState h.log.params known count list slot_bytes = record {
          valid = steps_valid run.params (take k (directions run.begin run.legs)) run.bodies is.run.bodies;
          count_is = many;
          holds = subst (λ (n : ℕ). HoldsState list ((m.contents h0).file n)) (sym here) represents.slot;
          kicks = λ known_is.
              subst (λ (n : ℕ). HoldsKickedState h.log.params list ((m.contents h0).file n)) (sym here)
              (represents.kicks (λ none. right known_is (ticks ∙ none)));
        } in
        let stepped = subst (λ (p : Params). IsStepped p way from list (m.contents h1) gone) params_of
        (steps_on tells list (subst (λ (p : Params). IsState p known count list slot_bytes) (sym params_of) state)) in
        let same : step h.log.params way list ≡ next =
        sym (state_next h journal way answers represents.journal.journal.lawful apart leads) in
        let slot_there = subst (λ (n : ℕ). HoldsKickedState h.log.params next ((m.contents h1).file n)) (other_is from k here)
        (subst (λ (l : List Body). HoldsKickedState h.log.params l ((m.contents h1).file (slot_file (other_slot from)))) same
        stepped.slot) in
        let cells_there = subst (λ (l : List Body). IsCellIndexOf h.log.params l ((m.contents h1).file cell_file)) same stepped.cells in
        let snap : file ≡ snap_of (suc k) = file_is ∙ ap (λ (n : ℕ). snap_of (suc n)) ticks in (
          record {
            slot = subst (HoldsKickedState h.log.params next) (sym (other_kept tells (slot_of (suc k)) (omega arith))) slot_there;
            cells = subst (IsCellIndexOf h.log.params next) (sym (other_kept tells cell_file (omega arith))) cells_there;
            shut = λ opened.
                none_opened (subst HasOpenGate (ap (m.contents h2).file (sym snap) ∙ empty tells) opened);
          },
          stepped.escaped_is ∙ ap escaped_count same,
        )
