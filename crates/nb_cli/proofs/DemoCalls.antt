-- The calls of `demo`, one after the other: what they owe to the counts, and where they lead.
use Rattle.std.proofs.Common.{◌≡◌, ◌≢◌, ◌≤◌, ◌⊎◌, inl, inr, ℕ, IsTrue, IsOk, Result, Ok, Err, List, refl, ap, sym, subst, ◌∙◌, arith, rules}
use Rattle.nb_host.specs.declared.host.Channel.{Channel}
use Rattle.nb_host.specs.declared.host.Channel.TheVariants as channels
use Rattle.nb_host.specs.declared.host.HostError.{HostError}
use Rattle.nb_host.specs.declared.host.HostError.TheVariants.{Fault, NoMemory}
use Rattle.nb_host.specs.Crashes.{Stays}
use Rattle.nb_host.specs.Image.{Image, SaysPart}
use Rattle.nb_host.specs.Meaning.{HostModel, Leads, CallTally, Ran, RanSyncing, RanSaying, IsDurable}
use Rattle.nb_host.proofs.Callers.{goes_on, stays_both, stopped_after, ok_is_no_error, counts_after, counts_as, counts_of_ran, ran_by}
use Rattle.nb_engine.specs.declared.refusal.Refusal.{Refusal}
use Rattle.nb_engine.specs.declared.refusal.Refusal.TheVariants as refusal
use Rattle.nb_engine.specs.Frame.{RanSession}
use Rattle.nb_engine.specs.Refusal.{of_host}
use Rattle.nb_engine.proofs.Callers.{leads_from_durable}

pub Out≢Err : ◌≡◌ {A = Channel} channels.Err channels.Out → ⊥
Out≢Err same = cc

-- ---- what they owe to the counts

inside : {T : Type 0} {a b : Refusal} → ◌≡◌ {A = Result T Refusal} (Err a) (Err b) → a ≡ b
inside same = cc

module _ {H : Type 0} {m : HostModel H} {old new : H} where
  -- calls that say nothing and sync nothing, and calls that sync
  pub session_ran : {T : Type 0} {by : Image → Image → Type 0} {result : Result T Refusal} → Ran m refusal.Device by old new result
      → RanSession m by old new result
  session_ran ran = record {
    leads = ran.leads;
    count = ran.count;
    rose = ran.rose;
    spared = ran.spared;
    refused = λ _. ap (λ (t : CallTally). t.refused_says channels.Err) ran.tally;
    heard = λ _ _. ap (λ (t : CallTally). t.refused_says channels.Out) ran.tally;
    synced = λ _ _. let same = ap (λ (t : CallTally). t.syncs) ran.tally in omega (arith, same);
  }

  pub session_syncing : {T : Type 0} {syncs : ℕ} {by : Image → Image → Type 0} {result : Result T Refusal}
      → RanSyncing m syncs refusal.Device by old new result → RanSession m by old new result
  session_syncing ran = record {
    leads = ran.leads;
    count = ran.count;
    rose = ran.rose;
    spared = ran.spared;
    refused = λ _. ap (λ (f : Channel → ℕ). f channels.Err) ran.refused;
    heard = λ _ _. ap (λ (f : Channel → ℕ). f channels.Out) ran.refused;
    synced = λ told ok. let count = ran.synced told ok in omega (arith, count);
  }

  -- a say on Out
  pub session_said : {T : Type 0} {line : List ℕ} {answer : Result (Unit {0}) HostError} {result : Result T Refusal}
      → RanSaying m channels.Out line old new answer → (result ≡ Err refusal.Device → answer ≡ Err Fault)
      → (answer ≡ Err Fault → result ≡ Err refusal.Device) → (IsOk result → IsOk answer)
      → RanSession m (SaysPart channels.Out line) old new result
  session_said spoke there back fine = record {
    leads = spoke.leads;
    count = spoke.count;
    rose = λ faulted. spoke.rose (there faulted);
    spared = λ never. spoke.spared (λ faulted. never (back faulted));
    refused = λ told. (spoke.refused told).others channels.Err Out≢Err;
    heard = λ told ok. (spoke.refused told).spared (fine ok);
    synced = λ told ok. let same = ap (λ (n : ℕ). n) spoke.syncs in omega (arith, same);
  }

  -- the same calls, by where else they lead
  pub session_by : {T : Type 0} {one by : Image → Image → Type 0} {result : Result T Refusal} → RanSession m one old new result
      → Leads m by old new → RanSession m by old new result
  session_by ran leads = record {
    leads = leads;
    count = ran.count;
    rose = ran.rose;
    spared = ran.spared;
    refused = ran.refused;
    heard = ran.heard;
    synced = ran.synced;
  }

  -- another answer of the same calls, which stands for a fault exactly where theirs does
  pub session_as : {T U : Type 0} {by : Image → Image → Type 0} {first : Result T Refusal} {result : Result U Refusal}
      → RanSession m by old new first → (result ≡ Err refusal.Device → first ≡ Err refusal.Device)
      → (first ≡ Err refusal.Device → result ≡ Err refusal.Device) → (IsOk result → IsOk first) → RanSession m by old new result
  session_as ran there back fine = record {
    leads = ran.leads;
    count = ran.count;
    rose = λ faulted. ran.rose (there faulted);
    spared = λ never. ran.spared (λ faulted. never (back faulted));
    refused = ran.refused;
    heard = λ told ok. ran.heard told (fine ok);
    synced = λ told ok. ran.synced told (fine ok);
  }

  -- their refusal, handed on, perhaps as another one
  pub session_refused : {T U : Type 0} {by : Image → Image → Type 0} {first : Result T Refusal} {result : Result U Refusal}
      {why other : Refusal} → RanSession m by old new first → first ≡ Err why → result ≡ Err other
      → (other ≡ refusal.Device → why ≡ refusal.Device) → (why ≡ refusal.Device → other ≡ refusal.Device)
      → RanSession m by old new result
  session_refused ran was is there back =
      session_as ran (λ faulted. was ∙ ap Err (there (inside (sym is ∙ faulted))))
      (λ faulted. is ∙ ap Err (back (inside (sym was ∙ faulted)))) (λ ok. absurd (ok_is_no_error ok is))

  -- a refusal that is no fault behind calls that met none
  pub session_doubted : {T U : Type 0} {by : Image → Image → Type 0} {first : Result T Refusal} {result : Result U Refusal} {why : Refusal}
      → RanSession m by old new first → IsOk first → result ≡ Err why → why ≢ refusal.Device → RanSession m by old new result
  session_doubted ran ok is never =
      session_as ran (λ faulted. absurd (never (inside (sym is ∙ faulted)))) (λ faulted. absurd (ok_is_no_error ok faulted))
      (λ fine. absurd (ok_is_no_error fine is))

-- calls after others that answered Ok
pub session_then : {H T U : Type 0} {m : HostModel H} {one two by : Image → Image → Type 0} {old middle new : H}
    {first : Result T Refusal} {result : Result U Refusal} → IsOk first → RanSession m one old middle first
    → RanSession m two middle new result → Leads m by old new → RanSession m by old new result
session_then {m = m} {new = new} ok before after leads =
    let same = before.spared (ok_is_no_error ok) in
    record {
      leads = leads;
      count = subst (λ n. n ≤ m.faults new) same after.count;
      rose = λ faulted. stopped_after same (after.rose faulted);
      spared = λ never. after.spared never ∙ same;
      refused = λ told. after.refused told ∙ before.refused told;
      heard = λ told fine. after.heard told fine ∙ before.heard told ok;
      synced = λ told fine. omega (arith, before.synced told ok, after.synced told fine);
    }

-- calls that only read, with another answer, which stands for a fault exactly where theirs does
pub reads_as : {H T U E F : Type 0} {m : HostModel H} {fault : E} {other_fault : F} {old new : H} {result : Result T E} {other : Result U F}
    → Ran m fault Stays old new result → (other ≡ Err other_fault → result ≡ Err fault)
    → (result ≡ Err fault → other ≡ Err other_fault) → Ran m other_fault Stays old new other
reads_as ran there back = ran_by ran.leads (counts_as (counts_of_ran ran) there back)

-- and others behind them
pub reads_then : {H T U E F : Type 0} {m : HostModel H} {fault : E} {other_fault : F} {old middle new : H} {first : Result T E}
    {result : Result U F} → IsOk first → Ran m fault Stays old middle first → Ran m other_fault Stays middle new result
    → Ran m other_fault Stays old new result
reads_then ok before after =
    ran_by (stays_both before.leads after.leads)
    (counts_after (before.spared (ok_is_no_error ok)) before.tally (counts_of_ran after))

-- the answer of a say that was refused
pub said_device : {T : Type 0} {result : Result T Refusal} (error : HostError) → result ≡ Err (of_host error)
    → result ≡ Err refusal.Device → error ≡ Fault
said_device Fault is faulted = refl
said_device NoMemory is faulted = absurd (other (inside (sym is ∙ faulted))) where
  other : ◌≡◌ {A = Refusal} refusal.NoMemory refusal.Device → ⊥
  other same = cc

pub session_unsaid : {H T : Type 0} {m : HostModel H} {old new : H} {line : List ℕ} {answer : Result (Unit {0}) HostError}
    {result : Result T Refusal} (error : HostError) → RanSaying m channels.Out line old new answer → answer ≡ Err error
    → result ≡ Err (of_host error) → RanSession m (SaysPart channels.Out line) old new result
session_unsaid error spoke was is =
    session_said spoke (λ faulted. was ∙ ap Err (said_device error is faulted)) (λ faulted. is ∙ ap Err (back error (inside' (sym was ∙ faulted))))
    (λ ok. absurd (ok_is_no_error ok is)) where
      inside' : {a b : HostError} → ◌≡◌ {A = Result (Unit {0}) HostError} (Err a) (Err b) → a ≡ b
      inside' same = cc

      back : (error : HostError) → error ≡ Fault → of_host error ≡ refusal.Device
      back Fault same = refl
      back NoMemory same = absurd (cc)

-- ---- where they lead

module _ {H : Type 0} {m : HostModel H} where
  -- what is durable stays so through calls that change nothing
  pub durable_stays : {old new : H} → IsDurable m old → Leads m Stays old new → IsDurable m new
  durable_stays {old = old} {new = new} durable leads image honest is =
      let start = (leads.images.follows honest).now image is in
      start.2 ∙ durable start.0 honest start.1 ∙ sym (leads.contents (m.tells_if_honest honest))

  -- Calls behind others, where what reads before and between is durable: each image follows from what read before, or from
  -- what read between.
  pub leads_behind : {A B C : Image → Image → Type 0} {old middle new : H} → IsDurable m old → Leads m A old middle → IsDurable m middle
      → Leads m B middle new → (IsTrue m.tells → (image : Image) → A (m.contents old) image → C (m.contents old) image)
      → (IsTrue m.tells → (image : Image) → B (m.contents middle) image → C (m.contents old) image) → Leads m C old new
  leads_behind {A = A} {B = B} {C = C} {old = old} {middle = middle} {new = new} before first durable second one two =
      leads_from_durable Behind C before led told where
        Behind : Image → Image → Type 0
        Behind start image = A start image ⊎ B (m.contents middle) image

        led : Leads m Behind old new
        led = record {
          contents = λ tells. inr (second.contents tells);
          images = goes_on first.images second.images (λ start image step. inl step)
              (λ start between image honest left is step.
              inr (subst (λ (i : Image). B i image) (durable between honest is) step));
        }

        told : IsTrue m.tells → (image : Image) → Behind (m.contents old) image → C (m.contents old) image
        told tells image (inl step) = one tells image step
        told tells image (inr step) = two tells image step
