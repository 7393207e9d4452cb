-- What a host in memory shows, and what each of its calls does to its counts.
use Rattle.std.specs.Prelude.{◌≡◌, ◌≢◌, ℕ, Bool, true, false, List, Result, Err, IsErr}
use Rattle.std.proofs.Common.{rules}
use Rattle.nb_host.specs.declared.host.HostError.{HostError}
use Rattle.nb_host.specs.declared.host.HostError.TheVariants.{Fault}
use Rattle.nb_host.specs.declared.host.Channel.{Channel}
use Rattle.nb_host.specs.declared.disk.MemoryDisk.{MemoryDisk}
use Rattle.nb_host.specs.declared.fuse.Fuse.{Fuse}
use Rattle.nb_host.specs.declared.fuse.Fuse.TheVariants.{Blown}
use Rattle.nb_host.specs.declared.memory.MemoryHost.{MemoryHost}
use Rattle.nb_host.specs.Channels.{refused_on}
use Rattle.nb_host.specs.Counts.{next_count}
use Rattle.nb_host.specs.Crashes.{CrashModel}
use Rattle.nb_host.specs.Disk.{Disk, Event, contents_on, crash_model_by, disk_after, syncs_in}
use Rattle.nb_host.specs.DiskLaws.{contents_is_image, image_counts, includes_only_now, includes_earlier}
use Rattle.nb_host.specs.Image.{Image}
use Rattle.nb_host.specs.Meaning.{HostModel, CallTally}
use Rattle.nb_host.specs.Plan.{FailsNext, burnt}
use Rattle.nb_host.specs.Record.{recorded}

-- what each call did to the files and channels since the disk was made, the newest first
abbrev pub events_in : MemoryDisk → List Event
events_in disk = recorded disk.calls.items

-- the disk that they made
abbrev pub disk_in : MemoryDisk → Disk
disk_in disk = disk_after (events_in disk)

-- the same of the host
abbrev pub events_of : MemoryHost → List Event
events_of host = events_in host.disk

abbrev pub disk_of : MemoryHost → Disk
disk_of host = disk_after (events_of host)

-- what the files hold and what was said
abbrev pub contents_of : MemoryHost → Image
contents_of host = contents_on (disk_of host)

-- what a crash may leave, by the disk model: the host is honest
abbrev pub crashes_of : CrashModel MemoryHost
crashes_of = crash_model_by events_of

-- how many host calls were made
abbrev pub calls_of : MemoryHost → ℕ
calls_of host = host.plan.calls

-- how many of them were calls of `read_at`
abbrev pub reads_of : MemoryHost → ℕ
reads_of host = host.reads

-- how many of them answered Fault
abbrev pub faults_of : MemoryHost → ℕ
faults_of host = host.plan.faults

-- whether the last host call answered Fault
abbrev pub halted_of : MemoryHost → Bool
halted_of host = host.plan.halted

-- how many says on each channel were refused
abbrev pub refused_of : MemoryHost → Channel → ℕ
refused_of host = refused_on host.refusals

-- how many syncs succeeded
abbrev pub syncs_of : MemoryHost → ℕ
syncs_of host = syncs_in (events_of host)

-- what the host counts beside its faults
abbrev pub tally_of : MemoryHost → CallTally
tally_of host = record { refused_says = refused_of host; syncs = syncs_of host }

-- a host that tells isn't one that tells nothing
pub tells_nothing : {A : Type 0} → true ≡ false → A
tells_nothing never = absurd (search rules)

-- what the host means: it tells everything, and is honest
abbrev pub meaning_of : HostModel MemoryHost
meaning_of = record {
  tells = true;
  contents = contents_of;
  faults = faults_of;
  halted = halted_of;
  tally = tally_of;
  crashes = crashes_of;
  tells_if_honest = λ honest. honest;
  untold = λ never _ _. tells_nothing never;
  leaves_contents = λ host _. contents_is_image (events_of host);
  leaves_said = λ _ _ _ is. is.said;
  includes_now = λ host moment image _ _ is. image_counts (events_of host) moment image is;
  includes_only_now = λ host image _ since. includes_only_now (events_of host) image since;
  includes_earlier = λ host early late image _ less since.
      includes_earlier (events_of host) early late image less since;
}

-- the numbers of the host calls that are set to fail, counted from 1 from when they were set on
abbrev pub failing_of : MemoryHost → List ℕ
failing_of host = host.plan.failing.items

-- how many host calls were made since those numbers were set or a crash cleared them, and in all where neither ever was
abbrev pub calls_since_set : MemoryHost → ℕ
calls_since_set host = host.plan.since

-- how far the fuse is
abbrev pub fuse_of : MemoryHost → Fuse
fuse_of host = host.plan.fuse

-- the next host call is set to fail
abbrev pub IsDue : MemoryHost → Type 0
IsDue host = FailsNext (fuse_of host) (failing_of host) (calls_since_set host)

-- the fuse's first failing call has come
abbrev pub IsBlown : MemoryHost → Type 0
IsBlown host = fuse_of host ≡ Blown

-- A host call counts once, whatever it answers. Where it is set to fail it answers Fault, unless memory is
-- wanting, and nowhere else does it answer Fault. Each Fault counts. What is set to fail stays set, and the fuse burns on.
pub record CountsCall {T : Type 0} (old new : MemoryHost) (result : Result T HostError) : Type 0 where
  pub calls : calls_of new ≡ next_count (calls_of old)
  pub since : calls_since_set new ≡ next_count (calls_since_set old)
  pub failing : failing_of new ≡ failing_of old
  pub fuse : fuse_of new ≡ burnt (fuse_of old)
  pub due : IsDue old → IsErr result
  pub only_due : result ≡ Err Fault → IsDue old
  pub faulted : result ≡ Err Fault → faults_of new ≡ next_count (faults_of old)
  pub spared : result ≢ Err Fault → faults_of new ≡ faults_of old
  pub halted : result ≡ Err Fault → halted_of new ≡ true
  pub goes_on : result ≢ Err Fault → halted_of new ≡ false

-- no count changes
pub record KeepsCounts (old new : MemoryHost) : Type 0 where
  pub calls : calls_of new ≡ calls_of old
  pub reads : reads_of new ≡ reads_of old
  pub faults : faults_of new ≡ faults_of old
  pub halted : halted_of new ≡ halted_of old
  pub refused : refused_of new ≡ refused_of old

-- what is set to fail stays set
pub record KeepsFailing (old new : MemoryHost) : Type 0 where
  pub failing : failing_of new ≡ failing_of old
  pub since : calls_since_set new ≡ calls_since_set old
  pub fuse : fuse_of new ≡ fuse_of old
