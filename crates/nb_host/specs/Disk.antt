-- The disk model of the host in memory: what it keeps of each file, what each call does to that, and which images a
-- crash may leave. Since the last sync that succeeded, each written range, each part past an old end and each cut-off
-- range of a file is unsynced. A crash may leave any length between the least and the greatest since then, and anything in
-- an unsynced byte. All other bytes are those of the sync.
use Rattle.std.specs.Prelude.{◌≡◌, ℕ, ◌+◌, ◌<◌, ◌≤◌, min, max, Bool, true, false, ◌&&◌, ◌==◌, nat_le, nat_lt, if◌then◌else◌, ◌⊎◌, List, [], ◌∷◌, ◌++◌, length, take, map, slice_index}
use Rattle.std.specs.List.{list_any, range_with_len}
use Rattle.nb_host.specs.Crashes.{CrashModel}
use Rattle.nb_host.specs.Image.{Image, overwritten}
use Rattle.nb_host.specs.declared.host.Channel.{Channel}
use Rattle.nb_host.specs.declared.host.Channel.TheVariants.{Out, Err}
use Rattle.nb_host.specs.declared.outcome.Outcome.{Outcome}
use Rattle.nb_host.specs.declared.outcome.Outcome.TheVariants.{Kept, Lost, Filled}
use Rattle.nb_host.specs.declared.span.Span.{Span}

-- One file: its bytes at the last sync that succeeded, its bytes as they read, the least and the greatest length since that
-- sync, and the ranges that are unsynced. The end of a write counts as a length also where the write failed.
pub record DiskFile : Type 0 where
  pub base : List ℕ
  pub reads : List ℕ
  pub least : ℕ
  pub greatest : ℕ
  pub unsynced : List Span

-- all files, by their numbers, and what was said
pub record Disk : Type 0 where
  pub file : ℕ → DiskFile
  pub said : Channel → List ℕ

-- whether the byte at this offset is in one of the ranges
abbrev pub is_unsynced : List Span → ℕ → Bool
is_unsynced spans offset = list_any (λ span. nat_le span.from offset && nat_lt offset span.end) spans

-- A crash may leave these bytes of the file. They may be any numbers, also above 255, which only widens what it may leave.
pub record IsFileImage (file : DiskFile) (bytes : List ℕ) : Type 0 where
  pub no_shorter : file.least ≤ length bytes
  pub no_longer : length bytes ≤ file.greatest
  pub synced : (offset : ℕ) → offset < length bytes → offset < length file.base
      → is_unsynced file.unsynced offset ≡ false → slice_index bytes offset ≡ slice_index file.base offset

-- A crash between two calls may leave this image.
pub record IsCrashImage (disk : Disk) (image : Image) : Type 0 where
  pub file : (number : ℕ) → IsFileImage (disk.file number) (image.file number)
  pub said : image.said ≡ disk.said

-- what reads
abbrev pub contents_on : Disk → Image
contents_on disk = record { file = λ number. (disk.file number).reads; said = disk.said }

-- What a call did. Of a write or a say it has all the bytes, and how many of them, the first ones, it got done.
pub data Event : Type 0 where
  Wrote : (file at : ℕ) (bytes : List ℕ) (done : ℕ) → Event
  Cut : (file len : ℕ) → Event
  Synced : Event
  Said : (channel : Channel) (bytes : List ℕ) (done : ℕ) → Event
  Placed : (file : ℕ) (bytes : List ℕ) → Event
  Crashed : (outcome : Outcome) → Event

-- a file that wasn't changed since it was synced
abbrev pub synced_file : List ℕ → DiskFile
synced_file bytes =
    record { base = bytes; reads = bytes; least = length bytes; greatest = length bytes; unsynced = [] }

-- A write makes its whole range unsynced, with the gap before it, and its end counts for the greatest length. A write of
-- no bytes does nothing.
abbrev pub written_file : ℕ → List ℕ → ℕ → DiskFile → DiskFile
written_file at [] done file = file
written_file at (b ∷ bytes) done file = record file {
  reads = overwritten at (take done (b ∷ bytes)) file.reads;
  greatest = max file.greatest (at + length (b ∷ bytes));
  unsynced = record { from = min at (length file.reads); end = at + length (b ∷ bytes) } ∷ file.unsynced;
}

-- A cut makes what it cuts off unsynced, and its length counts for the least one.
abbrev pub cut_file : ℕ → DiskFile → DiskFile
cut_file len file = record file {
  reads = take len file.reads;
  least = min file.least len;
  unsynced = record { from = len; end = length file.reads } ∷ file.unsynced;
}

-- a byte of a file that a crash fills: the filler where it is unsynced, and else that of the sync
abbrev pub filled_byte : ℕ → DiskFile → ℕ → ℕ
filled_byte filler file offset =
    if is_unsynced file.unsynced offset then filler else slice_index file.base offset

-- What the crash leaves of a file: what reads, the bytes of the last sync, or the greatest length with a filler in each
-- unsynced byte.
abbrev pub left_file : Outcome → DiskFile → List ℕ
left_file Kept file = file.reads
left_file Lost file = file.base
left_file (Filled filler) file = map (filled_byte filler file) (range_with_len 0 file.greatest)

-- the files where one of them changes
abbrev pub with_change : ℕ → (DiskFile → DiskFile) → (ℕ → DiskFile) → ℕ → DiskFile
with_change number change file other = if other == number then change (file other) else file other

-- the channels where one of them hears these bytes
abbrev pub with_said : Channel → List ℕ → (Channel → List ℕ) → Channel → List ℕ
with_said Out bytes said Out = said Out ++ bytes
with_said Out bytes said Err = said Err
with_said Err bytes said Out = said Out
with_said Err bytes said Err = said Err ++ bytes

-- the disk after a call
abbrev pub after_event : Event → Disk → Disk
after_event (Wrote number at bytes done) disk =
    record disk { file = with_change number (written_file at bytes done) disk.file }
after_event (Cut number len) disk = record disk { file = with_change number (cut_file len) disk.file }
after_event Synced disk = record disk { file = λ number. synced_file (disk.file number).reads }
after_event (Said channel bytes done) disk = record disk { said = with_said channel (take done bytes) disk.said }
after_event (Placed number bytes) disk =
    record disk { file = with_change number (λ _. synced_file bytes) disk.file }
after_event (Crashed outcome) disk =
    record disk { file = λ number. synced_file (left_file outcome (disk.file number)) }

-- the disk after all calls, the newest of them first
abbrev pub disk_after : List Event → Disk
disk_after [] = record { file = λ _. synced_file []; said = λ _. [] }
disk_after (event ∷ earlier) = after_event event (disk_after earlier)

-- how many of the calls were syncs
abbrev pub syncs_in : List Event → ℕ
syncs_in [] = 0
syncs_in (Wrote file at bytes done ∷ earlier) = syncs_in earlier
syncs_in (Cut file len ∷ earlier) = syncs_in earlier
syncs_in (Synced ∷ earlier) = syncs_in earlier + 1
syncs_in (Said channel bytes done ∷ earlier) = syncs_in earlier
syncs_in (Placed file bytes ∷ earlier) = syncs_in earlier
syncs_in (Crashed outcome ∷ earlier) = syncs_in earlier

-- A call in progress, with so many of its bytes done. It counts as begun, and any number of its bytes may be done.
abbrev pub in_progress : ℕ → Event → Event
in_progress done (Wrote file at bytes _) = Wrote file at bytes done
in_progress done (Cut file len) = Cut file len
in_progress done Synced = Synced
in_progress done (Said channel bytes _) = Said channel bytes done
in_progress done (Placed file bytes) = Placed file bytes
in_progress done (Crashed outcome) = Crashed outcome

-- A crash within this call may leave this image.
abbrev pub IsImageWithin : Event → Disk → Image → Type 0
IsImageWithin event disk image = (done : ℕ) × IsCrashImage (after_event (in_progress done event) disk) image

-- A crash at a moment, or at a later one up to now, may have left this image. A moment is how many calls were recorded. One
-- later than now would have the images of now: callers speak of moments up to now.
abbrev pub IsImageSince : List Event → ℕ → Image → Type 0
IsImageSince [] moment image = IsCrashImage (disk_after []) image
IsImageSince (event ∷ earlier) moment image =
    IsCrashImage (disk_after (event ∷ earlier)) image
    ⊎ ((moment ≤ length earlier)
    × (IsImageWithin event (disk_after earlier) image ⊎ IsImageSince earlier moment image))

-- the model of crashes of a host that holds a record of its calls, the newest first
abbrev pub crash_model_by : {H : Type 0} → (H → List Event) → CrashModel H
crash_model_by events = record {
  is_honest = true;
  may_leave = λ host. IsCrashImage (disk_after (events host));
  moment = λ host. length (events host);
  left_since = λ host. IsImageSince (events host);
}
