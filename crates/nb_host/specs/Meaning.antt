-- What a host means, and what each of its calls owes by that.
use Rattle.std.specs.Prelude.{◌≡◌, ◌≢◌, ℕ, ◌+◌, ◌≤◌, Bool, true, false, IsTrue, List, [], Result, Err, IsOk, OnOk}
use Rattle.std.proofs.Common.{refl, rules}
use Rattle.nb_host.specs.Crashes.{CrashModel, ImagesFollow, Stays, LeavesContents, LeavesSaid, IncludesNow, IncludesOnlyNow, IncludesEarlier}
use Rattle.nb_host.specs.Counts.{next_count}
use Rattle.nb_host.specs.Faults.{CountsRefusedSay}
use Rattle.nb_host.specs.Image.{Image, Says, SaysPart}
use Rattle.nb_host.specs.declared.host.Channel.{Channel}
use Rattle.nb_host.specs.declared.host.HostError.{HostError}
use Rattle.nb_host.specs.declared.host.HostError.TheVariants.{Fault, NoMemory}

-- What a host counts beside its faults.
pub record CallTally : Type 0 where
  -- how many calls of `say` on each channel were refused
  pub refused_says : Channel → ℕ
  -- how many calls of `sync` succeeded
  pub syncs : ℕ

-- The meaning of a type of hosts, with the laws of every host.
pub record HostModel (H : Type 0) : Type 1 where
  -- Whether a host tells what its files hold and what was said. What a call puts into a file, says or reads is known of
  -- one that does.
  pub tells : Bool
  -- what the files hold, as a read sees it, and what was said
  pub contents : H → Image
  -- how many calls answered Fault, a count that stands still at 2 ^ 64 - 1
  pub faults : H → ℕ
  -- whether the last call answered Fault, so that none was made after it
  pub halted : H → Bool
  -- what else it counts
  pub tally : H → CallTally
  -- What a crash may leave of the files and of what was said, now and since each moment. It is known of an honest host
  -- alone: one that returns what was written, and whose syncs that succeed make it durable.
  pub crashes : CrashModel H
  -- an honest host tells its contents
  pub tells_if_honest : IsTrue crashes.is_honest → IsTrue tells
  -- the contents of one that doesn't tell are some constant
  pub untold : tells ≡ false → (a b : H) → contents a ≡ contents b
  -- what reads is one of the images that a crash may leave
  pub leaves_contents : LeavesContents crashes contents
  -- what was said stays
  pub leaves_said : LeavesSaid crashes contents
  -- what a crash may leave now, it may have left at some moment from an earlier one on
  pub includes_now : IncludesNow crashes
  -- what a crash may have left from now on, it may leave now
  pub includes_only_now : IncludesOnlyNow crashes
  -- what a crash may have left from a moment on, it may have left from each earlier one on
  pub includes_earlier : IncludesEarlier crashes

-- the contents of a host that tells change by this step
abbrev pub Over : {H : Type 0} → HostModel H → (Image → Image → Type 0) → H → H → Type 0
Over m step old new = IsTrue m.tells → step (m.contents old) (m.contents new)

-- Calls lead from the old host to the new one by this step: what reads follows by it, and so does each image that a crash
-- may leave, at every moment and within the calls too.
pub record Leads {H : Type 0} (m : HostModel H) (by : Image → Image → Type 0) (old new : H) : Type 0 where
  pub contents : IsTrue m.tells → by (m.contents old) (m.contents new)
  pub images : ImagesFollow m.crashes old new by

-- What reads is durable: a crash leaves just that.
abbrev pub IsDurable : {H : Type 0} → HostModel H → H → Type 0
IsDurable m host = (image : Image) → IsTrue m.crashes.is_honest → m.crashes.may_leave host image
    → image ≡ m.contents host

-- What one file holds is durable.
abbrev pub IsDurableFile : {H : Type 0} → HostModel H → ℕ → H → Type 0
IsDurableFile m number host = (image : Image) → IsTrue m.crashes.is_honest → m.crashes.may_leave host image
    → image.file number ≡ (m.contents host).file number

-- One file is as its last call left it, which is what the next one needs: what reads of it is `this`, of a host that tells,
-- and what a crash may leave of it is, beside what reads, `that`. It stays so through calls that spare the file (`law_file_stays`).
pub record FileIs {H : Type 0} (m : HostModel H) (file : ℕ) (this : List ℕ → Type 0) (that : List ℕ → List ℕ → Type 0) (host : H) : Type 0 where
  pub reads : IsTrue m.tells → this ((m.contents host).file file)
  pub images : (image : Image) → IsTrue m.crashes.is_honest → m.crashes.may_leave host image
      → that ((m.contents host).file file) (image.file file)

-- One file stays as it was left, whatever that was: what reads of it read before, and what a crash may leave of it, it
-- might have left before.
abbrev pub FileStays : {H : Type 0} → HostModel H → ℕ → H → H → Type 0
FileStays m file old new = FileIs m file (λ reads. reads ≡ (m.contents old).file file)
    (λ reads image. (start : Image) × m.crashes.may_leave old start × (image ≡ start.file file)) new

-- Calls came to an end at a fault: one of them answered Fault, the last one. Nothing was tried again, and nothing went on.
pub record HaltedAtFault {H : Type 0} (m : HostModel H) (old new : H) : Type 0 where
  pub count : m.faults new ≡ next_count (m.faults old)
  pub last : IsTrue (m.halted new)

-- What calls owe to the counts: the answer that stands for a fault comes where they came to an end at one, and every other
-- answer where there was none. No say was refused, and nothing was synced.
pub record Counts {H T E : Type 0} (m : HostModel H) (fault : E) (old new : H) (result : Result T E) : Type 0 where
  pub count : m.faults old ≤ m.faults new
  pub rose : result ≡ Err fault → HaltedAtFault m old new
  pub spared : result ≢ Err fault → m.faults new ≡ m.faults old
  pub tally : m.tally new ≡ m.tally old

-- The frame of calls that say nothing and sync nothing: where they lead, and what they owe to the counts.
pub record Ran {H T E : Type 0} (m : HostModel H) (fault : E) (by : Image → Image → Type 0) (old new : H) (result : Result T E) : Type 0 where
  pub leads : Leads m by old new
  pub count : m.faults old ≤ m.faults new
  pub rose : result ≡ Err fault → HaltedAtFault m old new
  pub spared : result ≢ Err fault → m.faults new ≡ m.faults old
  pub tally : m.tally new ≡ m.tally old

-- The frame of calls that say nothing and sync: so many times where they succeed, and no more often where they don't. How
-- often is known of a host that tells.
pub record RanSyncing {H T E : Type 0} (m : HostModel H) (syncs : ℕ) (fault : E) (by : Image → Image → Type 0) (old new : H) (result : Result T E) : Type 0 where
  pub leads : Leads m by old new
  pub count : m.faults old ≤ m.faults new
  pub rose : result ≡ Err fault → HaltedAtFault m old new
  pub spared : result ≢ Err fault → m.faults new ≡ m.faults old
  pub refused : (m.tally new).refused_says ≡ (m.tally old).refused_says
  pub synced : IsTrue m.tells → IsOk result → (m.tally new).syncs ≡ (m.tally old).syncs + syncs
  pub at_most : IsTrue m.tells → (m.tally new).syncs ≤ (m.tally old).syncs + syncs

-- A say: at Ok all the bytes were said, at NoMemory none, after Fault perhaps the first of them. It counts where it is
-- refused.
pub record RanSaying {H : Type 0} (m : HostModel H) (channel : Channel) (bytes : List ℕ) (old new : H) (result : Result (Unit {0}) HostError) : Type 0 where
  pub said : OnOk result (Over m (Says channel bytes) old new)
  pub leads : Leads m (SaysPart channel bytes) old new
  pub nothing : result ≡ Err NoMemory → Leads m Stays old new
  pub count : m.faults old ≤ m.faults new
  pub rose : result ≡ Err Fault → HaltedAtFault m old new
  pub spared : result ≢ Err Fault → m.faults new ≡ m.faults old
  pub refused : IsTrue m.tells
      → CountsRefusedSay channel (m.tally old).refused_says (m.tally new).refused_says result
  pub syncs : (m.tally new).syncs ≡ (m.tally old).syncs

-- No host that tells nothing is asked for more.
pub asked_of_none : {A : Type 0} → IsTrue false → A
asked_of_none asked = absurd (search rules)

-- The meaning of hosts that tell nothing: all that is known of them is the count of faults.
abbrev pub untold_host : {H : Type 0} → (H → ℕ) → HostModel H
untold_host faults = record {
  tells = false;
  contents = λ _. record { file = λ _. []; said = λ _. [] };
  faults = faults;
  halted = λ _. true;
  tally = λ _. record { refused_says = λ _. 0; syncs = 0 };
  crashes = record { is_honest = false; may_leave = λ _ _. ⊥; moment = λ _. 0; left_since = λ _ _ _. ⊥ };
  tells_if_honest = λ honest. honest;
  untold = λ _ _ _. refl;
  leaves_contents = λ _ honest. asked_of_none honest;
  leaves_said = λ _ _ _ is. absurd is;
  includes_now = λ _ _ _ _ _ is. is;
  includes_only_now = λ _ _ _ is. is;
  includes_earlier = λ _ _ _ _ _ _ is. is;
}
