-- What the files of a folder hold and what was said, and how a call changes it.
use Rattle.std.specs.Prelude.{◌≡◌, ◌≢◌, ℕ, ◌+◌, ◌-◌, ◌<◌, ◌≤◌, min, max, List, [], ◌∷◌, ◌++◌, length, take, drop, replicate, slice_index}
use Rattle.nb_host.specs.declared.host.Channel.{Channel}

-- The bytes of each file, by its number, and the bytes said on each channel. A file that isn't there has none.
pub record Image : Type 0 where
  pub file : ℕ → List ℕ
  pub said : Channel → List ℕ

-- A file after a write at this offset. A gap before the offset reads as zeros, and a write of no bytes does nothing.
abbrev pub overwritten : ℕ → List ℕ → List ℕ → List ℕ
overwritten at [] file = file
overwritten at (b ∷ bytes) file =
    take at file ++ replicate (at - length file) 0 ++ (b ∷ bytes) ++ drop (at + length (b ∷ bytes)) file

abbrev pub IsOverwritten : ℕ → List ℕ → List ℕ → List ℕ → Type 0
IsOverwritten at bytes old new = new ≡ overwritten at bytes old

abbrev pub IsCut : ℕ → List ℕ → List ℕ → Type 0
IsCut len old new = new ≡ take len old

-- A file after a write of so many bytes at this offset, perhaps in part. It isn't shorter than before, nor longer than the
-- longer of before and the written range's end. Outside the range, and the gap before it, the bytes are those of before.
-- A write of no bytes does nothing.
pub record IsTorn (at len : ℕ) (old new : List ℕ) : Type 0 where
  pub nothing : len ≡ 0 → new ≡ old
  pub no_shorter : length old ≤ length new
  pub no_longer : length new ≤ max (length old) (at + len)
  pub below : (i : ℕ) → i < length old → i < at → slice_index new i ≡ slice_index old i
  pub above : (i : ℕ) → i < length old → at + len ≤ i → slice_index new i ≡ slice_index old i

-- A file after a cut to this length, perhaps in part: the length is between the new and the old, and from the new
-- length on the bytes may be anything.
pub record IsPartlyCut (len : ℕ) (old new : List ℕ) : Type 0 where
  pub no_shorter : min (length old) len ≤ length new
  pub no_longer : length new ≤ length old
  pub below : (i : ℕ) → i < length new → i < len → slice_index new i ≡ slice_index old i

-- One file becomes what a relation between its old and its new bytes says, and nothing else changes.
pub record FileBecomes (number : ℕ) (P : List ℕ → List ℕ → Type 0) (old new : Image) : Type 0 where
  pub file : P (old.file number) (new.file number)
  pub others : (other : ℕ) → other ≢ number → new.file other ≡ old.file other
  pub said : new.said ≡ old.said

-- One channel gains these bytes, and nothing else changes.
pub record Says (channel : Channel) (bytes : List ℕ) (old new : Image) : Type 0 where
  pub said : new.said channel ≡ old.said channel ++ bytes
  pub others : (other : Channel) → other ≢ channel → new.said other ≡ old.said other
  pub files : new.file ≡ old.file

-- One channel gains the first of these bytes, and nothing else changes.
abbrev pub SaysPart : Channel → List ℕ → Image → Image → Type 0
SaysPart channel bytes old new = (n : ℕ) × (n ≤ length bytes) × Says channel (take n bytes) old new

-- a file as a read sees it from this offset on, into so much room
abbrev pub readable : ℕ → ℕ → List ℕ → List ℕ
readable at room file = take room (drop at file)

-- One file stays as it is, whatever else changes: so do calls on other files, a sync and a say.
abbrev pub KeepsFile : ℕ → Image → Image → Type 0
KeepsFile file old new = new.file file ≡ old.file file
