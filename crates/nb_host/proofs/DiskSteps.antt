-- How the images that a crash may leave of the host in memory follow, call by call, from those of before.
use Rattle.std.proofs.Common.{◌≡◌, ◌≢◌, ℕ, ◌+◌, ◌<◌, ◌≤◌, min, max, Bool, true, false, ◌&&◌, ◌==◌, nat_le, nat_lt, if◌then◌else◌, ◌⊎◌, inl, inr, List, [], ◌∷◌, length, take, map, slice_index, refl, sym, ◌∙◌, ap, subst, arith}
use Rattle.std.specs.List.{range_with_len}
use Rattle.std.proofs.Math.Path.{fun_ext}
use Rattle.std.proofs.lemmas.Bool.{cases_lt, lt-ltb, le-ltb, lt-leb, eq-eqb, ne_eqb, or_from}
use Rattle.std.proofs.lemmas.Bool.Decides.{eqb_tells, leb_tells}
use Rattle.std.proofs.lemmas.List.{ext_get_or, take_all}
use Rattle.std.proofs.lemmas.List.FromFn.{length-map-range_with_len, get_or-map-range_with_len}
use Rattle.nb_host.specs.declared.span.Span.{Span}
use Rattle.nb_host.specs.declared.host.Channel.{Channel}
use Rattle.nb_host.specs.declared.host.Channel.TheVariants.{Out, Err}
use Rattle.nb_host.specs.Image.{Image, IsTorn, IsPartlyCut, FileBecomes, Says, SaysPart}
use Rattle.nb_host.specs.declared.outcome.Outcome.{Outcome}
use Rattle.nb_host.specs.declared.outcome.Outcome.TheVariants.{Kept, Lost, Filled}
use Rattle.nb_host.specs.Crashes.{ImagesFollow, Stays}
use Rattle.nb_host.specs.Disk.{DiskFile, Disk, Event, Wrote, Cut, Synced, Said, Crashed, is_unsynced, left_file, filled_byte, crash_model_by, IsFileImage, IsCrashImage, contents_on, synced_file, written_file, cut_file, with_change, with_said, after_event, disk_after, in_progress, IsImageSince}
use Rattle.nb_host.specs.DiskLaws.{IsSoundFile, length-take_less, disk_is_sound, reads_is_image, contents_is_image}
use Rattle.nb_host.proofs.Callers.{torn_by_nothing, torn_by_first, overwritten_is_torn}
use Rattle.nb_host.proofs.Calls.{says_nothing}

-- Bytes put together from two files: those of the base where the test holds, and else those of the other.

abbrev merged : (ℕ → Bool) → List ℕ → List ℕ → ℕ → List ℕ
merged test base bytes len =
    map (λ offset. if test offset then slice_index base offset else slice_index bytes offset) (range_with_len 0 len)

length-merged : (test : ℕ → Bool) (base bytes : List ℕ) (len : ℕ) → length (merged test base bytes len) ≡ len
length-merged test base bytes len =
    length-map-range_with_len (λ offset. if test offset then slice_index base offset else slice_index bytes offset) 0 len

merged_base : (test : ℕ → Bool) (base bytes : List ℕ) (len offset : ℕ) → offset < len → test offset ≡ true
    → slice_index (merged test base bytes len) offset ≡ slice_index base offset
merged_base test base bytes len offset within holds =
    get_or-map-range_with_len
    (λ offset. if test offset then slice_index base offset else slice_index bytes offset) 0 len offset offset 0 within
    (omega arith)
    ∙ rw holds refl

merged_bytes : (test : ℕ → Bool) (base bytes : List ℕ) (len offset : ℕ) → offset < len → test offset ≡ false
    → slice_index (merged test base bytes len) offset ≡ slice_index bytes offset
merged_bytes test base bytes len offset within fails =
    get_or-map-range_with_len
    (λ offset. if test offset then slice_index base offset else slice_index bytes offset) 0 len offset offset 0 within
    (omega arith)
    ∙ rw fails refl

abbrev in_range : ℕ → ℕ → ℕ → Bool
in_range from end offset = nat_le from offset && nat_lt offset end

in_range_cases : (from end offset : ℕ) → ((in_range from end offset ≡ true) × (from ≤ offset) × (offset < end))
    ⊎ ((in_range from end offset ≡ false) × ((offset < from) ⊎ (end ≤ offset)))
in_range_cases from end offset =
    elim (leb_tells from offset) [
      | inl low ↦
          elim (cases_lt offset end) [
            | inl below ↦
                let high = lt-ltb offset end below in
                inl (rw (low.0, high) refl, low.1, below)
            | inr past ↦
                let high = le-ltb offset end past in
                inr (rw (low.0, high) refl, inr past)
          ]
      | inr below ↦ inr (rw below.0 refl, inl below.1)
    ]

outside_range : (from end offset : ℕ) → (offset < from) ⊎ (end ≤ offset) → in_range from end offset ≡ false
outside_range from end offset (inl below) = let low = lt-leb from offset below in rw low refl
outside_range from end offset (inr past) =
    let high = le-ltb offset end past in
    elim (nat_le from offset) as (λ (b : Bool). (b && nat_lt offset end) ≡ false) [ true ↦ high | false ↦ refl ]

outside_both : (span : Span) (spans : List Span) (offset : ℕ) → (offset < span.from) ⊎ (span.end ≤ offset)
    → is_unsynced spans offset ≡ false → is_unsynced (span ∷ spans) offset ≡ false
outside_both span spans offset outside none =
    or_from (in_range span.from span.end offset) (is_unsynced spans offset)
    (outside_range span.from span.end offset outside) none

-- One file.

-- an image after a write follows from one before it, which has the base's bytes back in the written range
before_write : (at b : ℕ) (rest : List ℕ) (done : ℕ) (file : DiskFile) (bytes : List ℕ) → IsSoundFile file
    → IsFileImage (written_file at (b ∷ rest) done file) bytes
    → (start : List ℕ) × IsFileImage file start × IsTorn at (length (b ∷ rest)) start bytes
before_write at b rest done file bytes sound is =
    let end = at + length (b ∷ rest) in
    let len = min (length bytes) file.greatest in
    let test = in_range at end in
    let span : Span = record { from = min at (length file.reads); end = end } in
    let start = merged test file.base bytes len in
    let counts = length-merged test file.base bytes len in (
      start,
      record {
        no_shorter = omega (arith, counts, is.no_shorter, sound.least_base, sound.base_greatest);
        no_longer = omega (arith, counts);
        synced = λ offset within in_base none.
            let inside : offset < len = omega (arith, counts) in
            elim (in_range_cases at end offset) [
              | inl holds ↦ merged_base test file.base bytes len offset inside holds.0
              | inr fails ↦
                  elim (cases_lt offset (length file.reads)) [
                    | inl reads ↦
                        let free : is_unsynced (span ∷ file.unsynced) offset ≡ false =
                        outside_both span file.unsynced offset
                        (elim fails.1 [ inl below ↦ inl (omega arith) | inr past ↦ inr past ]) none
                        in
                        merged_bytes test file.base bytes len offset inside fails.0
                        ∙ is.synced offset (omega arith) in_base free
                    | inr past ↦ let cut = sound.past_end offset past in_base in (cc)
                  ]
            ];
      },
      record {
        nothing = λ none. absurd (omega arith);
        no_shorter = omega (arith, counts);
        no_longer = omega (arith, counts, is.no_longer);
        below = λ offset within below.
            let inside : offset < len = omega (arith, counts) in
            sym (merged_bytes test file.base bytes len offset inside (outside_range at end offset (inl below)));
        above = λ offset within past.
            let inside : offset < len = omega (arith, counts) in
            sym (merged_bytes test file.base bytes len offset inside (outside_range at end offset (inr past)));
      },
    )

-- an image after a cut follows from one before it, which has the base's bytes back from the new length on
before_cut : (len : ℕ) (file : DiskFile) (bytes : List ℕ) → IsSoundFile file
    → IsFileImage (cut_file len file) bytes
    → (start : List ℕ) × IsFileImage file start × IsPartlyCut len start bytes
before_cut len file bytes sound is =
    let most = max (length bytes) file.least in
    let test = nat_le len in
    let span : Span = record { from = len; end = length file.reads } in
    let start = merged test file.base bytes most in
    let counts = length-merged test file.base bytes most in (
      start,
      record {
        no_shorter = omega (arith, counts);
        no_longer = omega (arith, counts, is.no_longer, sound.least_base, sound.base_greatest);
        synced = λ offset within in_base none.
            let inside : offset < most = omega (arith, counts) in
            elim (leb_tells len offset) [
              | inl cut ↦ merged_base test file.base bytes most offset inside cut.0
              | inr left ↦
                  let free : is_unsynced (span ∷ file.unsynced) offset ≡ false =
                  outside_both span file.unsynced offset (inl left.1) none
                  in
                  merged_bytes test file.base bytes most offset inside left.0
                  ∙ is.synced offset (omega (arith, is.no_shorter, left.1)) in_base free
            ];
      },
      record {
        no_shorter = omega (arith, counts, is.no_shorter);
        no_longer = omega (arith, counts);
        below = λ offset within below.
            let inside : offset < most = omega arith in
            sym (merged_bytes test file.base bytes most offset inside (lt-leb len offset below));
      },
    )

-- All files.

abbrev with_bytes : ℕ → List ℕ → (ℕ → List ℕ) → ℕ → List ℕ
with_bytes number bytes file other = if other == number then bytes else file other

change_here : (number : ℕ) (change : DiskFile → DiskFile) (file : ℕ → DiskFile)
    → with_change number change file number ≡ change (file number)
change_here number change file = let same = eq-eqb number number refl in rw same refl

change_elsewhere : (number : ℕ) (change : DiskFile → DiskFile) (file : ℕ → DiskFile) (other : ℕ) → other ≢ number
    → with_change number change file other ≡ file other
change_elsewhere number change file other differs = let apart = ne_eqb other number differs in rw apart refl

bytes_here : (number : ℕ) (bytes : List ℕ) (file : ℕ → List ℕ) → with_bytes number bytes file number ≡ bytes
bytes_here number bytes file = let same = eq-eqb number number refl in rw same refl

bytes_elsewhere : (number : ℕ) (bytes : List ℕ) (file : ℕ → List ℕ) (other : ℕ) → other ≢ number
    → with_bytes number bytes file other ≡ file other
bytes_elsewhere number bytes file other differs = let apart = ne_eqb other number differs in rw apart refl

-- an image after one file changed follows from one before, where that file's bytes do
before_change : (number : ℕ) (change : DiskFile → DiskFile) (P : List ℕ → List ℕ → Type 0) (disk : Disk)
    (image : Image) → IsCrashImage (record disk { file = with_change number change disk.file }) image
    → ((bytes : List ℕ) → IsFileImage (change (disk.file number)) bytes
    → (start : List ℕ) × IsFileImage (disk.file number) start × P start bytes)
    → (start : Image) × IsCrashImage disk start × FileBecomes number P start image
before_change number change P disk image is follows =
    let changed : IsFileImage (change (disk.file number)) (image.file number) =
    subst (λ (file : DiskFile). IsFileImage file (image.file number)) (change_here number change disk.file)
    (is.file number)
    in
    let first = follows (image.file number) changed in
    let file = with_bytes number first.0 image.file in
    let here = bytes_here number first.0 image.file in (
      record { file = file; said = image.said },
      record {
        file = λ other.
            elim (eqb_tells other number) [
              | inl same ↦
                  subst (λ (n : ℕ). IsFileImage (disk.file n) (file n)) (sym same.1)
                  (subst (λ (bytes : List ℕ). IsFileImage (disk.file number) bytes) (sym here) first.1)
              | inr apart ↦
                  subst (λ (bytes : List ℕ). IsFileImage (disk.file other) bytes)
                  (sym (bytes_elsewhere number first.0 image.file other apart.1))
                  (subst (λ (file : DiskFile). IsFileImage file (image.file other))
                  (change_elsewhere number change disk.file other apart.1) (is.file other))
            ];
        said = is.said;
      },
      record {
        file = subst (λ (bytes : List ℕ). P bytes (image.file number)) (sym here) first.2;
        others = λ other apart. sym (bytes_elsewhere number first.0 image.file other apart);
        said = refl;
      },
    )

-- bytes that a crash may leave of a file that wasn't changed since it was synced are those that read
synced_image : (reads bytes : List ℕ) → IsFileImage (synced_file reads) bytes → bytes ≡ reads
synced_image reads bytes is =
    ext_get_or 0 bytes reads (omega (arith, is.no_shorter, is.no_longer))
    (λ offset within. is.synced offset within (omega (arith, is.no_shorter, is.no_longer)) refl)

-- what a crash leaves of a file is one of its images
left_is_image : (outcome : Outcome) (file : DiskFile) → IsSoundFile file → IsFileImage file (left_file outcome file)
left_is_image Kept file sound = reads_is_image file sound
left_is_image Lost file sound =
    record { no_shorter = sound.least_base; no_longer = sound.base_greatest; synced = λ offset _ _ _. refl }
left_is_image (Filled filler) file sound =
    let counts = length-map-range_with_len (filled_byte filler file) 0 file.greatest in
    record {
      no_shorter = omega (arith, counts, sound.least_base, sound.base_greatest);
      no_longer = omega (arith, counts);
      synced = λ offset within in_base none.
          get_or-map-range_with_len (filled_byte filler file) 0 file.greatest offset offset 0 (omega (arith, counts))
          (omega arith)
          ∙ rw none refl;
    }

same_image : (image : Image) (file : ℕ → List ℕ) (said : Channel → List ℕ) → image.file ≡ file → image.said ≡ said
    → image ≡ record { file = file; said = said }
same_image image file said files channels =
    ap (λ (f : ℕ → List ℕ). let now : Image = record { file = f; said = image.said } in now) files
    ∙ ap (λ (s : Channel → List ℕ). let now : Image = record { file = file; said = s } in now) channels

-- where every file is as it was synced, a crash leaves just what reads
pub synced_disk_image : (reads : ℕ → List ℕ) (said : Channel → List ℕ) (image : Image)
    → IsCrashImage (record { file = λ number. synced_file (reads number); said = said }) image
    → image ≡ record { file = reads; said = said }
synced_disk_image reads said image is =
    same_image image reads said
    (fun_ext (λ number. synced_image (reads number) (image.file number) (is.file number))) is.said

-- what reads after a write in part
torn_written : (at : ℕ) (bytes : List ℕ) (done : ℕ) (file : DiskFile)
    → IsTorn at (length bytes) file.reads (written_file at bytes done file).reads
torn_written at [] done file = torn_by_nothing at 0 file.reads
torn_written at (b ∷ rest) done file =
    let part = take done (b ∷ rest) in
    torn_by_first at (length part) (length (b ∷ rest)) (length-take_less done (b ∷ rest))
    (overwritten_is_torn at part file.reads)

-- Each call, by what it did.

write_step : (number at : ℕ) (bytes : List ℕ) (done : ℕ) (events : List Event) (image : Image)
    → IsCrashImage (after_event (Wrote number at bytes done) (disk_after events)) image
    → (start : Image) × IsCrashImage (disk_after events) start
    × FileBecomes number (IsTorn at (length bytes)) start image
write_step number at [] done events image is =
    before_change number (written_file at [] done) (IsTorn at 0) (disk_after events) image is
    (λ bytes file. (bytes, file, torn_by_nothing at 0 bytes))
write_step number at (b ∷ rest) done events image is =
    before_change number (written_file at (b ∷ rest) done) (IsTorn at (length (b ∷ rest))) (disk_after events) image is
    (λ bytes file.
    before_write at b rest done ((disk_after events).file number) bytes (disk_is_sound events number) file)

cut_step : (number len : ℕ) (events : List Event) (image : Image)
    → IsCrashImage (after_event (Cut number len) (disk_after events)) image
    → (start : Image) × IsCrashImage (disk_after events) start × FileBecomes number (IsPartlyCut len) start image
cut_step number len events image is =
    before_change number (cut_file len) (IsPartlyCut len) (disk_after events) image is
    (λ bytes file. before_cut len ((disk_after events).file number) bytes (disk_is_sound events number) file)

first_of_bytes : (done : ℕ) (bytes : List ℕ) → (n : ℕ) × (n ≤ length bytes) × (take done bytes ≡ take n bytes)
first_of_bytes done bytes =
    elim (cases_lt done (length bytes)) [
      | inl part ↦ (done, omega arith, refl)
      | inr all ↦
          (length bytes, omega arith, take_all done bytes all ∙ sym (take_all (length bytes) bytes (omega arith)))
    ]

says_with : (channel : Channel) (bytes : List ℕ) (start image : Image)
    → image.said ≡ with_said channel bytes start.said → image.file ≡ start.file
    → Says channel bytes start image
says_with Out bytes start image said files = record {
  said = ap (λ (s : Channel → List ℕ). s Out) said;
  others = elim [ Out ↦ λ apart. absurd (apart refl) | Err ↦ λ apart. ap (λ (s : Channel → List ℕ). s Err) said ];
  files = files;
}
says_with Err bytes start image said files = record {
  said = ap (λ (s : Channel → List ℕ). s Err) said;
  others = elim [ Out ↦ λ apart. ap (λ (s : Channel → List ℕ). s Out) said | Err ↦ λ apart. absurd (apart refl) ];
  files = files;
}

say_step : (channel : Channel) (bytes : List ℕ) (done : ℕ) (events : List Event) (image : Image)
    → IsCrashImage (after_event (Said channel bytes done) (disk_after events)) image
    → (start : Image) × IsCrashImage (disk_after events) start × SaysPart channel bytes start image
say_step channel bytes done events image is =
    let start : Image = record { file = image.file; said = (disk_after events).said } in
    let first = first_of_bytes done bytes in
    let says = says_with channel (take done bytes) start image is.said refl in (
      start,
      record { file = is.file; said = refl },
      (first.0, first.1, subst (λ (part : List ℕ). Says channel part start image) first.2 says),
    )

sync_step : (events : List Event) (image : Image) → IsCrashImage (after_event Synced (disk_after events)) image
    → (start : Image) × IsCrashImage (disk_after events) start × Stays start image
sync_step events image is =
    let disk = disk_after events in (
      contents_on disk,
      contents_is_image events,
      synced_disk_image (λ number. (disk.file number).reads) disk.said image is,
    )

crash_step : (outcome : Outcome) (events : List Event) (image : Image)
    → IsCrashImage (after_event (Crashed outcome) (disk_after events)) image
    → (start : Image) × IsCrashImage (disk_after events) start × Stays start image
crash_step outcome events image is =
    let disk = disk_after events in (
      record { file = λ number. left_file outcome (disk.file number); said = disk.said },
      record { file = λ number. left_is_image outcome (disk.file number) (disk_is_sound events number); said = refl },
      synced_disk_image (λ number. left_file outcome (disk.file number)) disk.said image is,
    )

-- Calls as they are recorded.

-- an event whose images, however much of it got done, follow by the step from those of before
abbrev pub IsStep : Event → List Event → (Image → Image → Type 0) → Type 0
IsStep event earlier step = (done : ℕ) (image : Image)
    → IsCrashImage (after_event (in_progress done event) (disk_after earlier)) image
    → (start : Image) × IsCrashImage (disk_after earlier) start × step start image

-- a call that was recorded
pub follows_event : {H : Type 0} (events : H → List Event) (old new : H) (event : Event)
    (step : Image → Image → Type 0) → events new ≡ event ∷ events old
    → ((image : Image) → IsCrashImage (after_event event (disk_after (events old))) image
    → (start : Image) × IsCrashImage (disk_after (events old)) start × step start image)
    → IsStep event (events old) step
    → ImagesFollow (crash_model_by events) old new step
follows_event events old new event step recorded now within =
    let here : (moment : ℕ) (image : Image) → IsImageSince (event ∷ events old) moment image
    → IsImageSince (events new) moment image = λ moment image is.
    subst (λ (all : List Event). IsImageSince all moment image) (sym recorded) is
    in
    record {
      follows = λ _. record {
        later = rw recorded (omega arith);
        now = λ image is.
            now image (subst (λ (all : List Event). IsCrashImage (disk_after all) image) recorded is);
        since = λ moment image before is.
            elim (subst (λ (all : List Event). IsImageSince all moment image) recorded is) [
              | inl last ↦ inr (λ past up. here past image (inl last), now image last)
              | inr earlier ↦
                  elim earlier.1 [
                    | inl inside ↦
                        inr (λ past up. here past image (inr (up, inl inside)), within inside.0 image inside.1)
                    | inr old_image ↦ inl old_image
                  ]
            ];
        keeps = λ moment image before is. here moment image (inr (before, inr is));
      };
    }

-- a call that left no trace
pub follows_nothing : {H : Type 0} (events : H → List Event) (old new : H) (step : Image → Image → Type 0)
    → events new ≡ events old → ((image : Image) → step image image)
    → ImagesFollow (crash_model_by events) old new step
follows_nothing events old new step same itself = record {
  follows = λ _. record {
    later = rw same (omega arith);
    now = λ image is. (
      image,
      subst (λ (all : List Event). IsCrashImage (disk_after all) image) same is,
      itself image,
    );
    since = λ moment image before is.
        inl (subst (λ (all : List Event). IsImageSince all moment image) same is);
    keeps = λ moment image before is.
        subst (λ (all : List Event). IsImageSince all moment image) (sym same) is;
  };
}

pub follows_write : {H : Type 0} (events : H → List Event) (old new : H) (number at : ℕ) (bytes : List ℕ)
    (done : ℕ) → events new ≡ Wrote number at bytes done ∷ events old
    → ImagesFollow (crash_model_by events) old new (FileBecomes number (IsTorn at (length bytes)))
follows_write events old new number at bytes done recorded =
    follows_event events old new (Wrote number at bytes done) (FileBecomes number (IsTorn at (length bytes))) recorded
    (write_step number at bytes done (events old)) (λ part. write_step number at bytes part (events old))

pub follows_cut : {H : Type 0} (events : H → List Event) (old new : H) (number len : ℕ)
    → events new ≡ Cut number len ∷ events old
    → ImagesFollow (crash_model_by events) old new (FileBecomes number (IsPartlyCut len))
follows_cut events old new number len recorded =
    follows_event events old new (Cut number len) (FileBecomes number (IsPartlyCut len)) recorded
    (cut_step number len (events old)) (λ _. cut_step number len (events old))

pub follows_say : {H : Type 0} (events : H → List Event) (old new : H) (channel : Channel) (bytes : List ℕ)
    (done : ℕ) → events new ≡ Said channel bytes done ∷ events old
    → ImagesFollow (crash_model_by events) old new (SaysPart channel bytes)
follows_say events old new channel bytes done recorded =
    follows_event events old new (Said channel bytes done) (SaysPart channel bytes) recorded
    (say_step channel bytes done (events old)) (λ part. say_step channel bytes part (events old))

pub follows_sync : {H : Type 0} (events : H → List Event) (old new : H) → events new ≡ Synced ∷ events old
    → ImagesFollow (crash_model_by events) old new Stays
follows_sync events old new recorded =
    follows_event events old new Synced Stays recorded (sync_step (events old)) (λ _. sync_step (events old))

pub follows_crash : {H : Type 0} (events : H → List Event) (old new : H) (outcome : Outcome)
    → events new ≡ Crashed outcome ∷ events old → ImagesFollow (crash_model_by events) old new Stays
follows_crash events old new outcome recorded =
    follows_event events old new (Crashed outcome) Stays recorded (crash_step outcome (events old))
    (λ _. crash_step outcome (events old))

-- What reads after a call, by what it did.

pub torn_event : (old new : List Event) (number at : ℕ) (bytes : List ℕ) (done : ℕ)
    → new ≡ Wrote number at bytes done ∷ old
    → FileBecomes number (IsTorn at (length bytes)) (contents_on (disk_after old)) (contents_on (disk_after new))
torn_event old new number at bytes done recorded =
    let disk = disk_after old in
    let change = written_file at bytes done in
    let torn : IsTorn at (length bytes) (disk.file number).reads (change (disk.file number)).reads =
    torn_written at bytes done (disk.file number)
    in
    subst (λ (all : List Event). FileBecomes number (IsTorn at (length bytes)) (contents_on disk) (contents_on (disk_after all)))
    (sym recorded)
    (record {
      file = subst (λ (file : DiskFile). IsTorn at (length bytes) (disk.file number).reads file.reads)
          (sym (change_here number change disk.file)) torn;
      others = λ other apart. ap (λ (file : DiskFile). file.reads) (change_elsewhere number change disk.file other apart);
      said = refl;
    })

pub says_event : (old new : List Event) (channel : Channel) (bytes : List ℕ) (done : ℕ)
    → new ≡ Said channel bytes done ∷ old
    → SaysPart channel bytes (contents_on (disk_after old)) (contents_on (disk_after new))
says_event old new channel bytes done recorded =
    let start = contents_on (disk_after old) in
    let image = contents_on (disk_after (Said channel bytes done ∷ old)) in
    let first = first_of_bytes done bytes in
    let says = says_with channel (take done bytes) start image refl refl in
    subst (λ (all : List Event). SaysPart channel bytes start (contents_on (disk_after all))) (sym recorded)
    (first.0, first.1, subst (λ (part : List ℕ). Says channel part start image) first.2 says)

pub says_none : (old new : List Event) (channel : Channel) (bytes : List ℕ) → new ≡ old
    → SaysPart channel bytes (contents_on (disk_after old)) (contents_on (disk_after new))
says_none old new channel bytes same =
    says_nothing channel bytes (contents_on (disk_after old)) (contents_on (disk_after new))
    (ap (λ (all : List Event). contents_on (disk_after all)) same)

pub sync_durable : (old new : List Event) → new ≡ Synced ∷ old → (image : Image)
    → IsCrashImage (disk_after new) image → image ≡ contents_on (disk_after new)
sync_durable old new recorded image is =
    let disk = disk_after old in
    let last = subst (λ (all : List Event). IsCrashImage (disk_after all) image) recorded is in
    synced_disk_image (λ number. (disk.file number).reads) disk.said image last
    ∙ ap (λ (all : List Event). contents_on (disk_after all)) (sym recorded)

pub crash_durable : (old new : List Event) (outcome : Outcome) → new ≡ Crashed outcome ∷ old → (image : Image)
    → IsCrashImage (disk_after new) image → image ≡ contents_on (disk_after new)
crash_durable old new outcome recorded image is =
    let disk = disk_after old in
    let last = subst (λ (all : List Event). IsCrashImage (disk_after all) image) recorded is in
    synced_disk_image (λ number. left_file outcome (disk.file number)) disk.said image last
    ∙ ap (λ (all : List Event). contents_on (disk_after all)) (sym recorded)

-- what reads after a crash is one of the images of before
pub crash_image : (old new : List Event) (outcome : Outcome) → new ≡ Crashed outcome ∷ old
    → IsCrashImage (disk_after old) (contents_on (disk_after new))
crash_image old new outcome recorded =
    let disk = disk_after old in
    subst (λ (all : List Event). IsCrashImage disk (contents_on (disk_after all))) (sym recorded)
    (record { file = λ number. left_is_image outcome (disk.file number) (disk_is_sound old number); said = refl })

-- a say of nothing that was recorded
pub follows_unsaid : {H : Type 0} (events : H → List Event) (old new : H) (channel : Channel) (bytes : List ℕ)
    → events new ≡ events old → ImagesFollow (crash_model_by events) old new (SaysPart channel bytes)
follows_unsaid events old new channel bytes same =
    follows_nothing events old new (SaysPart channel bytes) same
    (λ image. says_nothing channel bytes image image refl)
