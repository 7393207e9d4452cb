-- What the calls of a session leave alone, and what they owe to the counts.
use Rattle.std.specs.Prelude.{◌≡◌, ◌≢◌, ◌⊎◌, ℕ, ◌<◌, ◌≤◌, IsTrue, IsOk, Result, Err}
use Rattle.nb_host.specs.declared.host.Channel.TheVariants as channels
use Rattle.nb_host.specs.Crashes.{ImagesFollow}
use Rattle.nb_host.specs.Image.{Image}
use Rattle.nb_host.specs.Meaning.{HostModel, Leads, HaltedAtFault}
use Rattle.nb_engine.specs.declared.refusal.Refusal.{Refusal}
use Rattle.nb_engine.specs.declared.refusal.Refusal.TheVariants as refusal

-- Each image that a crash may leave at some moment of a stretch of calls, and within them, is like this.
abbrev pub EachImage : {H : Type 0} → HostModel H → (Image → Type 0) → H → H → Type 0
EachImage m P old new = ImagesFollow m.crashes old new (λ start image. P image)

-- a file that the ticks of a run leave alone: the parameters, the initial snapshot, and those between the files of the ticks
-- and the snapshots
abbrev pub IsOutsideRun : ℕ → Type 0
IsOutsideRun number = (number ≤ 1) ⊎ ((8 ≤ number) × (number < 16))

-- Those files stay, and what was said on Err.
pub record KeepsOutsideRun (old new : Image) : Type 0 where
  pub files : (number : ℕ) → IsOutsideRun number → new.file number ≡ old.file number
  pub err : new.said channels.Err ≡ old.said channels.Err

-- The frame of a session's calls: where they lead, and what they owe to the counts. Device stands for a fault: it comes where
-- they came to an end at one, and every other answer where there was none. No say on Err was refused, and where they succeed
-- none at all; and the count of syncs is no lower.
pub record RanSession {H T : Type 0} (m : HostModel H) (by : Image → Image → Type 0) (old new : H) (result : Result T Refusal) : Type 0 where
  pub leads : Leads m by old new
  pub count : m.faults old ≤ m.faults new
  pub rose : result ≡ Err refusal.Device → HaltedAtFault m old new
  pub spared : result ≢ Err refusal.Device → m.faults new ≡ m.faults old
  pub refused : IsTrue m.tells
      → (m.tally new).refused_says channels.Err ≡ (m.tally old).refused_says channels.Err
  pub heard : IsTrue m.tells → IsOk result
      → (m.tally new).refused_says channels.Out ≡ (m.tally old).refused_says channels.Out
  pub synced : IsTrue m.tells → IsOk result → (m.tally old).syncs ≤ (m.tally new).syncs
