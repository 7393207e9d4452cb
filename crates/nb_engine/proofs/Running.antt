-- Ticks one after the other, to the end of a leg.
use Rattle.std.proofs.Common.{◌≡◌, ◌≢◌, ℕ, suc, ◌+◌, ◌<◌, ◌≤◌, IsTrue, IsOk, Result, Ok, Err, List, refl, ap, subst, ◌∙◌, arith}
use Rattle.nb_host.specs.Crashes.{Stays}
use Rattle.nb_host.specs.Image.{Image}
use Rattle.nb_host.specs.Meaning.{HostModel, Leads, IsDurable}
use Rattle.nb_host.proofs.Callers.{leads_again, leads_none, ok_is_no_error}
use Rattle.nb_model.specs.declared.body.Body.{Body}
use Rattle.nb_cache.specs.View.{CacheValue}
use Rattle.nb_journal.specs.declared.entry.Entry.TheVariants.{Tick}
use Rattle.nb_journal.specs.Counters.{Counters, counters_after}
use Rattle.nb_engine.specs.declared.refusal.Refusal.{Refusal}
use Rattle.nb_engine.specs.declared.refusal.Refusal.TheVariants as refusal
use Rattle.nb_engine.specs.Frame.{EachImage, KeepsOutsideRun, RanSession}
use Rattle.nb_engine.specs.Histories.{History, ticked}
use Rattle.nb_engine.specs.Sessions.{ticks_left}
use Rattle.nb_engine.specs.Steps.{played, IsCheckpoint, IsFlushed, HasState, GoesOn, HasPlayed, HoldsDueSnapshots}
use Rattle.nb_engine.proofs.DueNow.{nearer}
use Rattle.nb_engine.proofs.EachImages.{each_none, each_weaker, each_then}
use Rattle.nb_engine.proofs.Frames.{session_none, session_then, session_as}
use Rattle.nb_engine.proofs.Played.{played-more, goes_none, goes_more, goes_then, played_none, played_then}
use Rattle.nb_engine.proofs.TickImages.{keeps_again}

keeps_itself : (image : Image) → KeepsOutsideRun image image
keeps_itself image = record { files = λ number apart. refl; err = refl }

-- ---- so many ticks of a leg

-- Since the leg began so many ticks were taken: all of what a tick needs is there, and what was said of each holds of all.
pub record HasRun {H : Type 0} (m : HostModel H) (n : ℕ) (start journal : Counters) (cache : CacheValue) (old host : H) : Type 0 where
  pub settled : IsFlushed m cache host
  pub durable : IsDurable m old → IsDurable m host
  pub ran : RanSession {T = Unit {0}} m KeepsOutsideRun old host (Ok tt)
  pub left : ticks_left journal.progress + n ≡ ticks_left start.progress
  pub target : journal.progress.target ≡ start.progress.target
  pub still : n ≡ 0 → Leads m Stays old host
  pub state : IsTrue m.tells → (bodies : List Body) → HasState start bodies (m.contents old).file
      → (later : List Body) × HasState journal later (m.contents host).file
  pub plays : (h : History) → IsCheckpoint m h start old → HoldsDueSnapshots m h old
      → HasPlayed m n h (m.contents old) journal host × HoldsDueSnapshots m (played n h) host
  pub images : (h : History) → IsCheckpoint m h start old → HoldsDueSnapshots m h old
      → EachImage m (GoesOn n h (m.contents old)) old host

-- What a tick leaves.
pub record HasStepped {H : Type 0} (m : HostModel H) (journal next : Counters) (old host : H) : Type 0 where
  pub lasts : IsDurable m host
  pub counters : (gone : ℕ) × (next ≡ counters_after (Tick (suc journal.progress.ticks) gone) journal)
  pub one : (h : History) → IsCheckpoint m h journal old → HoldsDueSnapshots m h old
      → HasPlayed m 1 h (m.contents old) next host × HoldsDueSnapshots m (ticked h) host
  pub next_state : IsTrue m.tells → (bodies : List Body) → HasState journal bodies (m.contents old).file
      → (later : List Body) × HasState next later (m.contents host).file

Ok≢Device : {T : Type 0} (value : T) → ◌≡◌ {A = Result T Refusal} (Ok value) (Err refusal.Device) → ⊥
Ok≢Device value same = cc

-- no tick yet
pub run_none : {H : Type 0} (m : HostModel H) (journal : Counters) (cache : CacheValue) (host : H) → IsFlushed m cache host
    → HasRun m 0 journal journal cache host host
run_none m journal cache host settled = record {
  settled = settled;
  durable = λ is. is;
  ran = session_none m host keeps_itself (Ok≢Device tt);
  left = omega arith;
  target = refl;
  still = λ none. leads_none m host (λ image. refl);
  state = λ tells bodies has. (bodies, has);
  plays = λ h at up. (played_none m at, up);
  images = λ h at up.
      each_none m (GoesOn 0 h (m.contents host)) host at.durable (λ honest. goes_none at.represents);
}

-- the session of the ticks, with one more that perhaps was refused
pub run_then : {H T : Type 0} {m : HostModel H} {n : ℕ} {start journal : Counters} {cache : CacheValue} {old middle host : H}
    {result : Result T Refusal} → HasRun m n start journal cache old middle → RanSession m KeepsOutsideRun middle host result
    → RanSession m KeepsOutsideRun old host result
run_then run ran =
    session_then refl run.ran ran
    (leads_again (λ start between image first second. keeps_again first second) run.ran.leads ran.leads)

-- the images of the ticks and of one more, perhaps in part
pub run_images : {H : Type 0} {m : HostModel H} (n : ℕ) {start journal : Counters} {cache : CacheValue} {old middle host : H}
    → HasRun m n start journal cache old middle
    → ((h : History) → IsCheckpoint m h journal middle → HoldsDueSnapshots m h middle
    → EachImage m (GoesOn 1 h (m.contents middle)) middle host)
    → (h : History) → IsCheckpoint m h start old → HoldsDueSnapshots m h old → EachImage m (GoesOn (n + 1) h (m.contents old)) old host
run_images {m = m} n {old = old} {middle = middle} run images h at up =
    let done = run.plays h at up in
    let before = m.contents old in
    each_then m (GoesOn n h before) (GoesOn 1 (played n h) (m.contents middle)) (GoesOn (n + 1) h before) (run.images h at up)
    (images (played n h) done.0.at done.1) (λ image goes. goes_more n (n + 1) goes (omega arith))
    (λ image goes. goes_then m n 1 done.0 goes)

-- a leg of at least so many ticks
pub images_within : {H : Type 0} (m : HostModel H) {old host : H} (n most : ℕ) (h : History)
    → EachImage m (GoesOn n h (m.contents old)) old host → n ≤ most → EachImage m (GoesOn most h (m.contents old)) old host
images_within m {old = old} n most h each less =
    each_weaker m (GoesOn n h (m.contents old)) (GoesOn most h (m.contents old)) each (λ image goes. goes_more n most goes less)

-- the ticks that are left
pub left_more : (journal next : Counters) (gone : ℕ) → journal.progress.time ≢ journal.progress.target
    → next ≡ counters_after (Tick (suc journal.progress.ticks) gone) journal
    → ticks_left next.progress + 1 ≡ ticks_left journal.progress
left_more journal next gone apart is =
    let here = ap (λ (c : Counters). ticks_left c.progress) is in
    omega (arith, here, nearer journal.progress.time journal.progress.target apart)

-- none is left where the leg is at its end
pub left_none : (journal : Counters) → journal.progress.time ≡ journal.progress.target → ticks_left journal.progress ≡ 0
left_none journal ended = omega (arith, ended)

-- where some are left, the leg isn't at its end
pub is_apart : {H : Type 0} {m : HostModel H} {n : ℕ} {start journal : Counters} {cache : CacheValue} {old middle : H}
    → HasRun m n start journal cache old middle → n < ticks_left start.progress
    → journal.progress.time ≢ journal.progress.target
is_apart run some = λ same. omega (arith, run.left)

-- one tick more
pub run_more : {H T : Type 0} {m : HostModel H} (n : ℕ) {start journal next : Counters} {cache more : CacheValue}
    {old middle host : H} {result : Result T Refusal} → HasRun m n start journal cache old middle
    → n < ticks_left start.progress → IsOk result → IsFlushed m more host → HasStepped m journal next middle host
    → ((h : History) → IsCheckpoint m h journal middle → HoldsDueSnapshots m h middle
    → EachImage m (GoesOn 1 h (m.contents middle)) middle host)
    → RanSession m KeepsOutsideRun middle host result → HasRun m (n + 1) start next more old host
run_more {m = m} n {start} {journal} {next} {old = old} {middle = middle} {host = host} run some ok settled stepped images ran = record {
  settled = settled;
  durable = λ is. stepped.lasts;
  ran = session_as (run_then run ran) (λ never. absurd (Ok≢Device tt never))
      (λ faulted. absurd (ok_is_no_error ok faulted)) (λ _. ok);
  left = omega (arith, run.left, left_more journal next stepped.counters.0 (is_apart run some) stepped.counters.1);
  target = ap (λ (c : Counters). c.progress.target) stepped.counters.1 ∙ run.target;
  still = λ none. absurd (omega (arith, none));
  state = λ tells bodies has.
      let later = run.state tells bodies has in stepped.next_state tells later.0 later.1;
  plays = λ h at up.
      let done = run.plays h at up in
      let last = stepped.one (played n h) done.0.at done.1 in (
        played_then m n 1 done.0 last.0 (omega arith),
        subst (λ (x : History). HoldsDueSnapshots m x host) (played-more n 1 h) last.1,
      );
  images = run_images n run images;
}
