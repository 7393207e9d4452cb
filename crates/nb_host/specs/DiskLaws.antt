-- What holds of the disk after any calls. These are proofs: they stand in specs/ because a host's laws cite them.
use Rattle.std.proofs.Common.{◌≡◌, ℕ, ◌+◌, ◌<◌, ◌≤◌, min, max, Bool, true, false, ◌&&◌, ◌||◌, ◌==◌, nat_le, nat_lt, if◌then◌else◌, ◌⊎◌, inl, inr, List, [], ◌∷◌, length, take, slice_index, refl, ◌∙◌, arith}
use Rattle.std.proofs.lemmas.Bool.{cases_lt, lt-ltb, le-leb, or_parts}
use Rattle.std.proofs.lemmas.Grind.{common_steps}
use Rattle.std.proofs.lemmas.List.{get_or-take}
use Rattle.nb_host.specs.Image.{Image, overwritten}
use Rattle.nb_host.specs.Disk.{DiskFile, Disk, Event, Wrote, Cut, Synced, Said, Placed, Crashed, is_unsynced, IsFileImage, IsCrashImage, contents_on, synced_file, written_file, cut_file, left_file, with_change, after_event, disk_after, IsImageSince}
use Rattle.nb_host.specs.declared.span.Span.{Span}

-- Ranges.

pub unsynced_within : (span : Span) (spans : List Span) (offset : ℕ) → span.from ≤ offset → offset < span.end
    → is_unsynced (span ∷ spans) offset ≡ true
unsynced_within span spans offset low high =
    rw (le-leb span.from offset low, lt-ltb offset span.end high) refl

pub unsynced_before : (span : Span) (spans : List Span) (offset : ℕ) → is_unsynced spans offset ≡ true
    → is_unsynced (span ∷ spans) offset ≡ true
unsynced_before span spans offset before =
    elim (nat_le span.from offset && nat_lt offset span.end) as (λ (b : Bool). (b || is_unsynced spans offset) ≡ true)
    [ true ↦ refl | false ↦ before ]

-- an offset that is in no range is outside the first of them, and in none of the others
pub outside_first : (span : Span) (spans : List Span) (offset : ℕ) → is_unsynced (span ∷ spans) offset ≡ false
    → (offset < span.from) ⊎ (span.end ≤ offset)
outside_first span spans offset none =
    let first = (or_parts (nat_le span.from offset && nat_lt offset span.end) (is_unsynced spans offset) none).0 in
    elim (cases_lt offset span.from) [
      | inl below ↦ inl below
      | inr within ↦
          elim (cases_lt offset span.end) [
            | inl below ↦
                let low = le-leb span.from offset within in
                let high = lt-ltb offset span.end below in
                let inside : (nat_le span.from offset && nat_lt offset span.end) ≡ true = rw (low, high) refl in
                (cc)
            | inr past ↦ inr past
          ]
    ]

pub outside_others : (span : Span) (spans : List Span) (offset : ℕ) → is_unsynced (span ∷ spans) offset ≡ false
    → is_unsynced spans offset ≡ false
outside_others span spans offset none =
    (or_parts (nat_le span.from offset && nat_lt offset span.end) (is_unsynced spans offset) none).1

-- One file.

-- What the model keeps of a file fits together: what reads is one of the images, and so is the base; and what was cut off
-- the base is unsynced.
pub record IsSoundFile (file : DiskFile) : Type 0 where
  pub least_reads : file.least ≤ length file.reads
  pub reads_greatest : length file.reads ≤ file.greatest
  pub least_base : file.least ≤ length file.base
  pub base_greatest : length file.base ≤ file.greatest
  pub past_end : (offset : ℕ) → length file.reads ≤ offset → offset < length file.base
      → is_unsynced file.unsynced offset ≡ true
  pub synced : (offset : ℕ) → offset < length file.reads → offset < length file.base
      → is_unsynced file.unsynced offset ≡ false → slice_index file.reads offset ≡ slice_index file.base offset

pub synced_is_sound : (bytes : List ℕ) → IsSoundFile (synced_file bytes)
synced_is_sound bytes = record {
  least_reads = omega arith;
  reads_greatest = omega arith;
  least_base = omega arith;
  base_greatest = omega arith;
  past_end = λ offset past within. absurd (omega arith);
  synced = λ offset _ _ _. refl;
}

pub length-overwritten_more : (at : ℕ) (bytes file : List ℕ) → length file ≤ length (overwritten at bytes file)
length-overwritten_more at [] file = omega arith
length-overwritten_more at (b ∷ bytes) file = grind (arith, common_steps)

pub length-overwritten_less : (at : ℕ) (bytes file : List ℕ)
    → length (overwritten at bytes file) ≤ max (length file) (at + length bytes)
length-overwritten_less at [] file = omega arith
length-overwritten_less at (b ∷ bytes) file = grind (arith, common_steps)

pub overwritten-below : (at : ℕ) (bytes file : List ℕ) (offset : ℕ) → offset < length file → offset < at
    → slice_index (overwritten at bytes file) offset ≡ slice_index file offset
overwritten-below at [] file offset within below = refl
overwritten-below at (b ∷ bytes) file offset within below = grind (arith, common_steps)

pub overwritten-above : (at : ℕ) (bytes file : List ℕ) (offset : ℕ) → offset < length file
    → at + length bytes ≤ offset → slice_index (overwritten at bytes file) offset ≡ slice_index file offset
overwritten-above at [] file offset within above = refl
overwritten-above at (b ∷ bytes) file offset within above = grind (arith, common_steps)

pub length-take_less : (done : ℕ) (bytes : List ℕ) → length (take done bytes) ≤ length bytes
length-take_less done bytes = grind (arith, common_steps)

pub written_is_sound : (at : ℕ) (bytes : List ℕ) (done : ℕ) (file : DiskFile) → IsSoundFile file
    → IsSoundFile (written_file at bytes done file)
written_is_sound at [] done file sound = sound
written_is_sound at (b ∷ bytes) done file sound =
    let part = take done (b ∷ bytes) in
    let end = at + length (b ∷ bytes) in
    let span : Span = record { from = min at (length file.reads); end = end } in
    let more = length-overwritten_more at part file.reads in
    let less = length-overwritten_less at part file.reads in
    let fewer = length-take_less done (b ∷ bytes) in
    record {
      least_reads = omega (arith, more, sound.least_reads);
      reads_greatest = omega (arith, less, fewer, sound.reads_greatest);
      least_base = sound.least_base;
      base_greatest = omega (arith, sound.base_greatest);
      past_end = λ offset past within.
          unsynced_before span file.unsynced offset (sound.past_end offset (omega (arith, more)) within);
      synced = λ offset within_reads within none.
          let others = outside_others span file.unsynced offset none in
          elim (cases_lt offset (length file.reads)) [
            | inl inside ↦
                elim (outside_first span file.unsynced offset none) [
                  | inl below ↦
                      overwritten-below at part file.reads offset inside (omega arith)
                      ∙ sound.synced offset inside within others
                  | inr above ↦
                      overwritten-above at part file.reads offset inside (omega (arith, fewer))
                      ∙ sound.synced offset inside within others
                ]
            | inr past ↦ let cut = sound.past_end offset past within in (cc)
          ];
    }

pub cut_is_sound : (len : ℕ) (file : DiskFile) → IsSoundFile file → IsSoundFile (cut_file len file)
cut_is_sound len file sound =
    let span : Span = record { from = len; end = length file.reads } in
    let rest : length (take len file.reads) ≡ min len (length file.reads) = grind (arith, common_steps) in
    record {
      least_reads = omega (arith, rest, sound.least_reads);
      reads_greatest = omega (arith, rest, sound.reads_greatest);
      least_base = omega (arith, sound.least_base);
      base_greatest = sound.base_greatest;
      past_end = λ offset past within.
          elim (cases_lt offset (length file.reads)) [
            | inl inside ↦ unsynced_within span file.unsynced offset (omega (arith, rest)) inside
            | inr beyond ↦ unsynced_before span file.unsynced offset (sound.past_end offset beyond within)
          ];
      synced = λ offset within_reads within none.
          get_or-take len file.reads offset 0 (omega (arith, rest))
          ∙ sound.synced offset (omega (arith, rest)) within (outside_others span file.unsynced offset none);
    }

-- a file where one of them changes, as it was or as it is
pub with_change_keeps : (P : DiskFile → Type 0) (number : ℕ) (change : DiskFile → DiskFile) (file : ℕ → DiskFile)
    (other : ℕ) → P (file other) → P (change (file other)) → P (with_change number change file other)
with_change_keeps P number change file other stays changes =
    elim (other == number) as (λ (b : Bool). P (if b then change (file other) else file other))
    [ true ↦ changes | false ↦ stays ]

-- All files.

pub after_is_sound : (event : Event) (disk : Disk) → ((number : ℕ) → IsSoundFile (disk.file number))
    → (number : ℕ) → IsSoundFile ((after_event event disk).file number)
after_is_sound (Wrote file at bytes done) disk sound number =
    with_change_keeps IsSoundFile file (written_file at bytes done) disk.file number (sound number)
    (written_is_sound at bytes done (disk.file number) (sound number))
after_is_sound (Cut file len) disk sound number =
    with_change_keeps IsSoundFile file (cut_file len) disk.file number (sound number)
    (cut_is_sound len (disk.file number) (sound number))
after_is_sound Synced disk sound number = synced_is_sound (disk.file number).reads
after_is_sound (Said channel bytes done) disk sound number = sound number
after_is_sound (Placed file bytes) disk sound number =
    with_change_keeps IsSoundFile file (λ _. synced_file bytes) disk.file number (sound number)
    (synced_is_sound bytes)
after_is_sound (Crashed outcome) disk sound number = synced_is_sound (left_file outcome (disk.file number))

pub disk_is_sound : (events : List Event) (number : ℕ) → IsSoundFile ((disk_after events).file number)
disk_is_sound [] number = synced_is_sound []
disk_is_sound (event ∷ earlier) number = after_is_sound event (disk_after earlier) (disk_is_sound earlier) number

-- what reads is an image
pub reads_is_image : (file : DiskFile) → IsSoundFile file → IsFileImage file file.reads
reads_is_image file sound =
    record { no_shorter = sound.least_reads; no_longer = sound.reads_greatest; synced = sound.synced }

pub contents_is_image : (events : List Event)
    → IsCrashImage (disk_after events) (contents_on (disk_after events))
contents_is_image events = record {
  file = λ number. reads_is_image ((disk_after events).file number) (disk_is_sound events number);
  said = refl;
}

-- an image of now is one since each moment up to now, and since now no other is one
pub image_counts : (events : List Event) (moment : ℕ) (image : Image) → IsCrashImage (disk_after events) image
    → IsImageSince events moment image
image_counts [] moment image is = is
image_counts (event ∷ earlier) moment image is = inl is

pub includes_only_now : (events : List Event) (image : Image) → IsImageSince events (length events) image
    → IsCrashImage (disk_after events) image
includes_only_now [] image since = since
includes_only_now (event ∷ earlier) image (inl now) = now
includes_only_now (event ∷ earlier) image (inr before) = absurd (omega (arith, before.0))

-- an image since a later moment is one since an earlier one
pub includes_earlier : (events : List Event) (early late : ℕ) (image : Image) → early ≤ late
    → IsImageSince events late image → IsImageSince events early image
includes_earlier [] early late image less since = since
includes_earlier (event ∷ before) early late image less (inl now) = inl now
includes_earlier (event ∷ before) early late image less (inr past) =
    inr (
      omega (arith, less, past.0),
      elim past.1 [
        | inl within ↦ inl within
        | inr since ↦ inr (includes_earlier before early late image less since)
      ],
    )
