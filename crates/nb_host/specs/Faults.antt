-- When a host may answer Fault.
use Rattle.std.specs.Prelude.{◌≡◌, ◌≢◌, ℕ, ◌+◌, ◌-◌, ◌^◌, ◌≤◌, min, Result, Err, IsOk, IsErr}
use Rattle.nb_host.specs.Counts.{next_count}
use Rattle.nb_host.specs.declared.host.HostError.{HostError}
use Rattle.nb_host.specs.declared.host.HostError.TheVariants.{Fault}
use Rattle.nb_host.specs.declared.host.Channel.{Channel}

-- A count rose. It stands still at the end of its type, 2 ^ 64 - 1: one that stands there counts as one that rose.
abbrev pub Rose : ℕ → ℕ → Type 0
Rose before now = min (before + 1) (2 ^ 64 - 1) ≤ now

-- A call that answers Fault counts as one, and no other does.
pub record CountsFault {T : Type 0} (before now : ℕ) (result : Result T HostError) : Type 0 where
  pub no_less : before ≤ now
  pub rose : result ≡ Err Fault → now ≡ next_count before
  pub spared : result ≢ Err Fault → now ≡ before

-- The count of refused says on one channel rises where a say on it is refused, and no other count changes.
pub record CountsRefusedSay {T : Type 0} (channel : Channel) (before now : Channel → ℕ) (result : Result T HostError) : Type 0 where
  pub no_less : before channel ≤ now channel
  pub rose : IsErr result → Rose (before channel) (now channel)
  pub spared : IsOk result → now channel ≡ before channel
  pub others : (other : Channel) → other ≢ channel → now other ≡ before other
