-- The frame of a session's calls: from the calls of the crates below, and one after the other.
use Rattle.std.proofs.Common.{◌≡◌, ◌≢◌, ℕ, ◌≤◌, inl, inr, IsOk, Result, Ok, Err, List, refl, sym, ap, ◌∙◌, arith, rules, subst}
use Rattle.nb_host.specs.declared.host.Channel.{Channel}
use Rattle.nb_host.specs.declared.host.Channel.TheVariants as channels
use Rattle.nb_host.specs.declared.host.HostError.{HostError}
use Rattle.nb_host.specs.declared.host.HostError.TheVariants.{Fault, NoMemory}
use Rattle.nb_host.specs.Image.{Image}
use Rattle.nb_host.specs.Meaning.{HostModel, Leads, CallTally, Ran, RanSyncing, RanSaying}
use Rattle.nb_host.proofs.Callers.{leads_none, ok_is_no_error, stopped_after}
use Rattle.nb_cache.specs.View.{CacheValue}
use Rattle.nb_cache.specs.Writes.{RanCached}
use Rattle.nb_engine.specs.declared.refusal.Refusal.{Refusal}
use Rattle.nb_engine.specs.declared.refusal.Refusal.TheVariants as refusal
use Rattle.nb_engine.specs.Frame.{RanSession}
use Rattle.nb_engine.specs.Refusal.{NeedsNoCause, of_host}

-- equal tallies count as many syncs
syncs_kept : {before after : CallTally} → after ≡ before → before.syncs ≤ after.syncs
syncs_kept same = let syncs = ap (λ (t : CallTally). t.syncs) same in omega (arith, syncs)

-- no call yet
pub session_none : {H T : Type 0} (m : HostModel H) {by : Image → Image → Type 0} (host : H) {result : Result T Refusal}
    → ((image : Image) → by image image) → result ≢ Err refusal.Device → RanSession m by host host result
session_none m host itself never = record {
  leads = leads_none m host itself;
  count = omega arith;
  rose = λ faulted. absurd (never faulted);
  spared = λ _. refl;
  refused = λ _. refl;
  heard = λ _ _. refl;
  synced = λ _ _. omega arith;
}

-- a call of the host or of a crate below, with the answer that is made of its own

pub session_ran : {H T U E : Type 0} {m : HostModel H} {fault : E} {by : Image → Image → Type 0} {old new : H}
    {one : Result T E} {result : Result U Refusal} → Ran m fault by old new one
    → (result ≡ Err refusal.Device → one ≡ Err fault) → (one ≡ Err fault → result ≡ Err refusal.Device)
    → RanSession m by old new result
session_ran ran there back = record {
  leads = ran.leads;
  count = ran.count;
  rose = λ faulted. ran.rose (there faulted);
  spared = λ never. ran.spared (λ faulted. never (back faulted));
  refused = λ _. ap (λ (t : CallTally). t.refused_says channels.Err) ran.tally;
  heard = λ _ _. ap (λ (t : CallTally). t.refused_says channels.Out) ran.tally;
  synced = λ _ _. syncs_kept ran.tally;
}

pub session_syncing : {H T U E : Type 0} {m : HostModel H} {syncs : ℕ} {fault : E} {by : Image → Image → Type 0} {old new : H}
    {one : Result T E} {result : Result U Refusal} → RanSyncing m syncs fault by old new one
    → (result ≡ Err refusal.Device → one ≡ Err fault) → (one ≡ Err fault → result ≡ Err refusal.Device)
    → (IsOk result → IsOk one) → RanSession m by old new result
session_syncing ran there back fine = record {
  leads = ran.leads;
  count = ran.count;
  rose = λ faulted. ran.rose (there faulted);
  spared = λ never. ran.spared (λ faulted. never (back faulted));
  refused = λ _. ap (λ (f : Channel → ℕ). f channels.Err) ran.refused;
  heard = λ _ _. ap (λ (f : Channel → ℕ). f channels.Out) ran.refused;
  synced = λ tells ok. omega (arith, ran.synced tells (fine ok));
}

pub session_cached : {H T U E : Type 0} {m : HostModel H} {fault : E} {files : List ℕ} {by : Image → Image → Type 0}
    {old_cache new_cache : CacheValue} {old new : H} {one : Result T E} {result : Result U Refusal}
    → RanCached m fault files old_cache old new_cache new one → Leads m by old new
    → (result ≡ Err refusal.Device → one ≡ Err fault) → (one ≡ Err fault → result ≡ Err refusal.Device)
    → RanSession m by old new result
session_cached ran leads there back = record {
  leads = leads;
  count = ran.writes.count;
  rose = λ faulted. ran.rose (there faulted);
  spared = λ never. ran.spared (λ faulted. never (back faulted));
  refused = λ _. ap (λ (t : CallTally). t.refused_says channels.Err) ran.writes.tally;
  heard = λ _ _. ap (λ (t : CallTally). t.refused_says channels.Out) ran.writes.tally;
  synced = λ _ _. syncs_kept ran.writes.tally;
}

Err≢Out : ◌≡◌ {A = Channel} channels.Err channels.Out → ⊥
Err≢Out same = cc

-- a say on Out
pub session_spoke : {H U : Type 0} {m : HostModel H} {bytes : List ℕ} {by : Image → Image → Type 0} {old new : H}
    {one : Result (Unit {0}) HostError} {result : Result U Refusal} → RanSaying m channels.Out bytes old new one → Leads m by old new
    → (result ≡ Err refusal.Device → one ≡ Err Fault) → (one ≡ Err Fault → result ≡ Err refusal.Device)
    → (IsOk result → IsOk one) → RanSession m by old new result
session_spoke spoke leads there back fine = record {
  leads = leads;
  count = spoke.count;
  rose = λ faulted. spoke.rose (there faulted);
  spared = λ never. spoke.spared (λ faulted. never (back faulted));
  refused = λ tells. (spoke.refused tells).others channels.Err Err≢Out;
  heard = λ tells ok. (spoke.refused tells).spared (fine ok);
  synced = λ _ _. omega (arith, spoke.syncs);
}

-- calls after others that succeeded, with where both lead
pub session_then : {H T U : Type 0} {m : HostModel H} {first second by : Image → Image → Type 0} {old middle new : H}
    {one : Result T Refusal} {two : Result U Refusal} → IsOk one → RanSession m first old middle one
    → RanSession m second middle new two → Leads m by old new → RanSession m by old new two
session_then {m = m} {old = old} {middle = middle} {new = new} ok before after leads =
    let same = before.spared (ok_is_no_error ok) in
    record {
      leads = leads;
      count = subst (λ (n : ℕ). n ≤ m.faults new) same after.count;
      rose = λ faulted. stopped_after same (after.rose faulted);
      spared = λ never. after.spared never ∙ same;
      refused = λ tells. after.refused tells ∙ before.refused tells;
      heard = λ tells fine. after.heard tells fine ∙ before.heard tells ok;
      synced = λ tells fine. omega (arith, before.synced tells ok, after.synced tells fine);
    }

-- another answer, which stands for a fault exactly where this one does, and isn't Ok where this one isn't
pub session_as : {H T U : Type 0} {m : HostModel H} {by : Image → Image → Type 0} {old new : H}
    {one : Result T Refusal} {result : Result U Refusal} → RanSession m by old new one
    → (result ≡ Err refusal.Device → one ≡ Err refusal.Device) → (one ≡ Err refusal.Device → result ≡ Err refusal.Device)
    → (IsOk result → IsOk one) → RanSession m by old new result
session_as ran there back fine = record {
  leads = ran.leads;
  count = ran.count;
  rose = λ faulted. ran.rose (there faulted);
  spared = λ never. ran.spared (λ faulted. never (back faulted));
  refused = ran.refused;
  heard = λ tells ok. ran.heard tells (fine ok);
  synced = λ tells ok. ran.synced tells (fine ok);
}

-- the step that calls lead by, weakened
pub session_by : {H T : Type 0} {m : HostModel H} {one by : Image → Image → Type 0} {old new : H} {result : Result T Refusal}
    → RanSession m one old new result → Leads m by old new → RanSession m by old new result
session_by ran leads = record {
  leads = leads;
  count = ran.count;
  rose = ran.rose;
  spared = ran.spared;
  refused = ran.refused;
  heard = ran.heard;
  synced = ran.synced;
}

-- An answer that isn't a device fault, where the calls ended without one: what was said on Err is as it was.
pub session_ended : {H T U : Type 0} {m : HostModel H} {by : Image → Image → Type 0} {old new : H}
    {one : Result T Refusal} {result : Result U Refusal} → RanSession m by old new one → IsOk one → result ≢ Err refusal.Device
    → RanSession m by old new result
session_ended ran ok never = record {
  leads = ran.leads;
  count = ran.count;
  rose = λ faulted. absurd (never faulted);
  spared = λ _. ran.spared (ok_is_no_error ok);
  refused = ran.refused;
  heard = λ tells _. ran.heard tells ok;
  synced = λ tells _. ran.synced tells ok;
}

-- ---- what is handed on

pub inside : {T : Type 0} {a b : Refusal} → ◌≡◌ {A = Result T Refusal} (Err a) (Err b) → a ≡ b
inside same = cc

pub ok_isnt : {T : Type 0} {x : T} {why : Refusal} → ◌≡◌ {A = Result T Refusal} (Ok x) (Err why) → ⊥
ok_isnt is = cc

-- the same refusal
pub session_handed : {H T U : Type 0} {m : HostModel H} {by : Image → Image → Type 0} {old new : H} {one : Result T Refusal}
    {why : Refusal} → RanSession m by old new one → one ≡ Err why → RanSession {T = U} m by old new (Err why)
session_handed ran is = record {
  leads = ran.leads;
  count = ran.count;
  rose = λ faulted. ran.rose (is ∙ ap Err (inside faulted));
  spared = λ never. ran.spared (λ faulted. never (ap Err (inside (sym is ∙ faulted))));
  refused = ran.refused;
  heard = λ tells ok. absurd (search rules);
  synced = λ tells ok. absurd (search rules);
}

by_device : (error : HostError) → of_host error ≡ refusal.Device → error ≡ Fault
by_device Fault is = refl
by_device NoMemory is = absurd (cc)

to_device : {T : Type 0} (error : HostError) → ◌≡◌ {A = Result T HostError} (Err error) (Err Fault)
    → of_host error ≡ refusal.Device
to_device Fault is = refl
to_device NoMemory is = absurd (cc)

-- that of the host
pub session_host : {H T U : Type 0} {m : HostModel H} {syncs : ℕ} {by : Image → Image → Type 0} {old new : H}
    {one : Result T HostError} {error : HostError} → RanSyncing m syncs Fault by old new one → one ≡ Err error
    → RanSession {T = U} m by old new (Err (of_host error))
session_host {error = error} ran is = record {
  leads = ran.leads;
  count = ran.count;
  rose = λ faulted. ran.rose (is ∙ ap Err (by_device error (inside faulted)));
  spared = λ never. ran.spared (λ faulted. never (ap Err (to_device error (sym is ∙ faulted))));
  refused = λ _. ap (λ (f : Channel → ℕ). f channels.Err) ran.refused;
  heard = λ tells ok. absurd (search rules);
  synced = λ tells ok. absurd (search rules);
}

-- A call of the host that succeeded, with an answer of the same kind.
pub session_synced : {H T : Type 0} {m : HostModel H} {syncs : ℕ} {by : Image → Image → Type 0} {old new : H}
    {one : Result T HostError} → RanSyncing m syncs Fault by old new one → IsOk one → RanSession {T = Unit {0}} m by old new (Ok tt)
session_synced ran ok = record {
  leads = ran.leads;
  count = ran.count;
  rose = λ faulted. absurd (ok_isnt faulted);
  spared = λ _. ran.spared (ok_is_no_error ok);
  refused = λ _. ap (λ (f : Channel → ℕ). f channels.Err) ran.refused;
  heard = λ _ _. ap (λ (f : Channel → ℕ). f channels.Out) ran.refused;
  synced = λ tells _. omega (arith, ran.synced tells ok);
}

pub free_by_host : (error : HostError) → NeedsNoCause (of_host error)
free_by_host Fault = inl refl
free_by_host NoMemory = inr refl
