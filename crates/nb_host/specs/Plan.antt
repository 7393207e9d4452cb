-- Which host calls fail in memory, by their numbers and by a fuse.
use Rattle.std.specs.Prelude.{ℕ, zero, suc, ◌+◌, ◌/◌, List, Bool, true, false, Contains, Result, Ok, Err}
use Rattle.nb_host.specs.Counts.{next_count}
use Rattle.nb_host.specs.declared.host.HostError.{HostError}
use Rattle.nb_host.specs.declared.host.HostError.TheVariants.{Fault}
use Rattle.nb_host.specs.declared.fate.Fate.{Fate}
use Rattle.nb_host.specs.declared.fate.Fate.TheVariants.{Passes, HalfDone, Nothing}
use Rattle.nb_host.specs.declared.fuse.Fuse.{Fuse}
use Rattle.nb_host.specs.declared.fuse.Fuse.TheVariants.{Unset, Burning, Blown}

-- the fuse after one more call
abbrev pub burnt : Fuse → Fuse
burnt Unset = Unset
burnt (Burning zero) = Blown
burnt (Burning (suc calls)) = Burning calls
burnt Blown = Blown

-- what a call does by its number
abbrev pub fate_named : Bool → Fate
fate_named true = HalfDone
fate_named false = Passes

-- What a call does: by its number, up to the fuse's first failing call. That one is half done, and each later one does
-- nothing.
abbrev pub fate_by : Fuse → Bool → Fate
fate_by Unset named = fate_named named
fate_by (Burning zero) named = HalfDone
fate_by (Burning (suc calls)) named = fate_named named
fate_by Blown named = Nothing

-- The next call fails: where its number is set to fail, counted from 1 from when the numbers were set on, and wherever
-- the fuse lets none pass.
abbrev pub FailsNext : Fuse → List ℕ → ℕ → Type 0
FailsNext Unset failing since = Contains failing (since + 1)
FailsNext (Burning zero) failing since = Unit {0}
FailsNext (Burning (suc calls)) failing since = Contains failing (since + 1)
FailsNext Blown failing since = Unit {0}

-- what a call answers that has done its part
abbrev pub answer_of : Fate → Result (Unit {0}) HostError
answer_of Passes = Ok tt
answer_of HalfDone = Err Fault
answer_of Nothing = Err Fault

-- whether it fails
abbrev pub fails : Fate → Bool
fails Passes = false
fails HalfDone = true
fails Nothing = true

-- the count of faults after it
abbrev pub faults_after : Fate → ℕ → ℕ
faults_after Passes faults = faults
faults_after HalfDone faults = next_count faults
faults_after Nothing faults = next_count faults

-- How many of its bytes, so many in all, a call does. One that is half done does the first half of them, rounded down.
abbrev pub part_by : Fate → ℕ → ℕ
part_by Passes len = len
part_by HalfDone len = len / 2
part_by Nothing len = 0
