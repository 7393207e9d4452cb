-- What a host in memory recorded of its calls, and the disk that they made.
use Rattle.std.specs.Prelude.{◌≡◌, ℕ, List, map, reverse}
use Rattle.nb_host.specs.Channels.{said_on}
use Rattle.nb_host.specs.Disk.{Event, Wrote, Cut, Synced, Said, Placed, Crashed, disk_after}
use Rattle.nb_host.specs.Files.{file_in}
use Rattle.nb_host.specs.declared.channels.Channels.{Channels}
use Rattle.nb_host.specs.declared.entry.CallRecord.{CallRecord}
use Rattle.nb_host.specs.declared.entry.CallRecord.TheVariants.{Write, CutOff, Sync, Say, Place, Crash}
use Rattle.nb_host.specs.declared.files.Files.{Files}
use Rattle.nb_host.specs.declared.host.Channel.{Channel}

abbrev pub event_of : CallRecord → Event
event_of (Write file at bytes done) = Wrote file at bytes.items done
event_of (CutOff file len) = Cut file len
event_of Sync = Synced
event_of (Say channel bytes done) = Said channel bytes.items done
event_of (Place file bytes) = Placed file bytes.items
event_of (Crash outcome) = Crashed outcome

-- what was recorded, the newest first, of entries with the oldest first
abbrev pub recorded : List CallRecord → List Event
recorded calls = map event_of (reverse calls)

-- The files and the channels are as the calls made them.
pub record IsMadeBy (events : List Event) (files : Files) (channels : Channels) : Type 0 where
  pub file : (number : ℕ) → file_in files number ≡ (disk_after events).file number
  pub said : (channel : Channel) → said_on channels channel ≡ (disk_after events).said channel
