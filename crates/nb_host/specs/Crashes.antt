-- What a crash may leave of a host's files and channels, and how a stretch of calls changes that.
use Rattle.std.specs.Prelude.{◌≡◌, ℕ, ◌≤◌, ◌⊎◌, Bool, IsTrue, List, Contains}
use Rattle.nb_host.specs.Image.{Image}

-- A host's meanings of a crash. The last three are known of an honest host alone.
pub record CrashModel (H : Type 0) : Type 1 where
  -- whether a host of this type returns what was written, and a sync that succeeds makes what the files hold outlast a
  -- crash
  pub is_honest : Bool
  -- may_leave h i: a crash now may leave the image i
  pub may_leave : H → Image → Type 0
  -- moment h: how far h has come, which never falls
  pub moment : H → ℕ
  -- left_since h m i: a crash at a moment from m up to now, within calls too, may have left the image i
  pub left_since : H → ℕ → Image → Type 0

-- A crash in the stretch of calls from the old host to the new one may have left this image: it is one since each moment
-- up to the start.
abbrev pub MayHaveLeft : {H : Type 0} → CrashModel H → H → H → Image → Type 0
MayHaveLeft model old new image =
    (moment : ℕ) → moment ≤ model.moment old → model.left_since new moment image

-- What a stretch of calls does to the images: each of now, and each of the stretch, follows by the step from one at the
-- start. The last two fields are of the images since a moment before the stretch: by `since` no others come than those of
-- the stretch, and by `keeps` none goes.
pub record EachFollows {H : Type 0} (model : CrashModel H) (old new : H) (step : Image → Image → Type 0) : Type 0 where
  pub later : model.moment old ≤ model.moment new
  pub now : (image : Image) → model.may_leave new image
      → (start : Image) × model.may_leave old start × step start image
  pub since : (moment : ℕ) (image : Image) → moment ≤ model.moment old → model.left_since new moment image
      → model.left_since old moment image
      ⊎ (MayHaveLeft model old new image × ((start : Image) × model.may_leave old start × step start image))
  pub keeps : (moment : ℕ) (image : Image) → moment ≤ model.moment old → model.left_since old moment image
      → model.left_since new moment image

-- A stretch of calls leads from the old host to the new one: each image of an honest one, at every moment of the stretch
-- and within its calls, follows by the step from an image at its start.
pub record ImagesFollow {H : Type 0} (model : CrashModel H) (old new : H) (step : Image → Image → Type 0) : Type 0 where
  pub follows : IsTrue model.is_honest → EachFollows model old new step

-- A stretch of calls leads from the old host to the new one, whatever it does.
abbrev pub IsStretch : {H : Type 0} → CrashModel H → H → H → Type 0
IsStretch model old new = ImagesFollow model old new (λ _ _. Unit {0})

-- an image that stays as it is
abbrev pub Stays : Image → Image → Type 0
Stays old new = new ≡ old

-- Two images agree in every file but these, and in what was said.
pub record AgreesOutside (files : List ℕ) (old new : Image) : Type 0 where
  pub others : (number : ℕ) → (Contains files number → ⊥) → new.file number ≡ old.file number
  pub said : new.said ≡ old.said

-- A stretch of calls changes only these files: every image since its start agrees, in every other file and in what was
-- said, with an image at its start.
abbrev pub ChangesOnly : {H : Type 0} → CrashModel H → List ℕ → H → H → Type 0
ChangesOnly model files old new = ImagesFollow model old new (AgreesOutside files)

-- Every image that a crash may have left since the start of the stretch has this property.
abbrev pub EverySince : {H : Type 0} → CrashModel H → (Image → Type 0) → H → H → Type 0
EverySince model P old new = (image : Image) → IsTrue model.is_honest
    → model.left_since new (model.moment old) image → P image

-- The laws of every honest host.

-- What reads is one of the images.
abbrev pub LeavesContents : {H : Type 0} → CrashModel H → (H → Image) → Type 0
LeavesContents {H} model contents = (host : H) → IsTrue model.is_honest → model.may_leave host (contents host)

-- What was said stays.
abbrev pub LeavesSaid : {H : Type 0} → CrashModel H → (H → Image) → Type 0
LeavesSaid {H} model contents = (host : H) (image : Image) → IsTrue model.is_honest → model.may_leave host image
    → image.said ≡ (contents host).said

-- An image of now is one since each moment up to now.
abbrev pub IncludesNow : {H : Type 0} → CrashModel H → Type 0
IncludesNow {H} model = (host : H) (moment : ℕ) (image : Image) → IsTrue model.is_honest
    → moment ≤ model.moment host → model.may_leave host image → model.left_since host moment image

-- An image since a later moment is one since an earlier one.
abbrev pub IncludesEarlier : {H : Type 0} → CrashModel H → Type 0
IncludesEarlier {H} model = (host : H) (earlier later : ℕ) (image : Image) → IsTrue model.is_honest
    → earlier ≤ later → model.left_since host later image → model.left_since host earlier image

-- An image since now is one of now.
abbrev pub IncludesOnlyNow : {H : Type 0} → CrashModel H → Type 0
IncludesOnlyNow {H} model = (host : H) (image : Image) → IsTrue model.is_honest
    → model.left_since host (model.moment host) image → model.may_leave host image
