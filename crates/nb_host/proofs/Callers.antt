-- What crates above may cite: on one file's bytes, on images, on stretches of calls, on counts, and on hosts that tell
-- nothing. Every other proof file of this crate is its own.
use Rattle.std.proofs.Common.{◌≡◌, ◌≢◌, ℕ, ◌+◌, ◌-◌, ◌<◌, ◌≤◌, min, max, Bool, true, false, IsTrue, IsOk, OnOk, ◌⊎◌, inl, inr, Contains, Result, Ok, Err, List, [], ◌∷◌, ◌++◌, length, take, drop, slice_index, refl, sym, subst, ap, ◌∙◌, arith, rules, append_assoc, add_assoc, length-append}
use Rattle.std.proofs.lemmas.Bool.Decides.{nat_tests}
use Rattle.std.proofs.lemmas.Grind.{common_steps}
use Rattle.std.proofs.lemmas.Slice.{drop-append-drop}
use Rattle.std.proofs.lemmas.List.{take_at, get_or-take, get_or-drop, ext_get_or}
use Rattle.std.proofs.lemmas.List.Elements.{Contains-append_left, Contains-append_right}
use Rattle.nb_host.specs.Crashes.{CrashModel, ImagesFollow, Stays, AgreesOutside, ChangesOnly, EverySince, IncludesOnlyNow, IncludesEarlier}
use Rattle.nb_host.specs.Counts.{next_count}
use Rattle.nb_host.specs.Image.{Image, overwritten, readable, IsTorn, IsPartlyCut, FileBecomes, Says, SaysPart, KeepsFile}
use Rattle.nb_host.specs.Meaning.{HostModel, Leads, Over, HaltedAtFault, Counts, Ran, RanSyncing, RanSaying, CallTally, IsDurable, IsDurableFile, FileIs, FileStays, untold_host}
use Rattle.nb_host.specs.Page.{HasPage, page_of, page_start, same_page}
use Rattle.nb_host.specs.declared.host.Channel.{Channel}
use Rattle.nb_host.specs.declared.host.HostError.{HostError}
use Rattle.nb_host.specs.declared.host.HostError.TheVariants.{Fault}
use Rattle.nb_host.specs.declared.page_name.PageName.{PageName}
use Rattle.nb_host.specs.declared.page_name.TheConstants.{PAGE_SIZE}

-- The bytes of one file.

pub length-overwritten : (at : ℕ) (b : ℕ) (bytes file : List ℕ)
    → length (overwritten at (b ∷ bytes) file) ≡ max (length file) (at + length (b ∷ bytes))
length-overwritten at b bytes file = grind (arith, common_steps)

-- nothing done is a write in part
pub torn_by_nothing : (at len : ℕ) (file : List ℕ) → IsTorn at len file file
torn_by_nothing at len file = record {
  nothing = λ _. refl;
  no_shorter = omega arith;
  no_longer = omega arith;
  below = λ i _ _. refl;
  above = λ i _ _. refl;
}

pub overwritten_is_torn : (at : ℕ) (bytes file : List ℕ)
    → IsTorn at (length bytes) file (overwritten at bytes file)
overwritten_is_torn at [] file = torn_by_nothing at 0 file
overwritten_is_torn at (b ∷ bytes) file = record {
  nothing = λ none. absurd (omega arith);
  no_shorter = omega (arith, length-overwritten at b bytes file);
  no_longer = omega (arith, length-overwritten at b bytes file);
  below = λ i within before. grind (arith, common_steps);
  above = λ i within after. grind (arith, common_steps);
}

-- a write of the first of the bytes is one of all of them, in part
pub torn_by_first : (at n len : ℕ) {old new : List ℕ} → n ≤ len → IsTorn at n old new → IsTorn at len old new
torn_by_first at n len less torn = record {
  nothing = λ none. torn.nothing (omega arith);
  no_shorter = torn.no_shorter;
  no_longer = omega (arith, torn.no_longer);
  below = torn.below;
  above = λ i within after. torn.above i within (omega arith);
}

-- nothing done is a cut in part
pub partly_cut_by_nothing : (len : ℕ) (file : List ℕ) → IsPartlyCut len file file
partly_cut_by_nothing len file =
    record { no_shorter = omega arith; no_longer = omega arith; below = λ i _ _. refl }

-- a write at the end appends
pub overwritten-at_end : (bytes file : List ℕ) → overwritten (length file) bytes file ≡ file ++ bytes
overwritten-at_end [] file = grind (arith, common_steps)
overwritten-at_end (b ∷ bytes) file = grind (arith, common_steps)

-- a write that begins within the file leaves no gap
pub overwritten-within : (at : ℕ) (bytes file : List ℕ) → at ≤ length file
    → overwritten at bytes file ≡ take at file ++ bytes ++ drop (at + length bytes) file
overwritten-within at [] file within = grind (arith, common_steps)
overwritten-within at (b ∷ bytes) file within = grind (arith, common_steps)

-- what was written is what a read of its range sees
pub readable-overwritten : (at : ℕ) (bytes file : List ℕ)
    → readable at (length bytes) (overwritten at bytes file) ≡ bytes
readable-overwritten at [] file = grind (arith, common_steps)
readable-overwritten at (b ∷ bytes) file = grind (arith, common_steps)

pub length-readable : (from room : ℕ) (file : List ℕ)
    → length (readable from room file) ≡ min room (length file - from)
length-readable from room file = grind (arith, common_steps)

pub slice_index-readable : (from room i : ℕ) (file : List ℕ) → i < room
    → slice_index (readable from room file) i ≡ slice_index file (from + i)
slice_index-readable from room i file within =
    get_or-take room (drop from file) i 0 within ∙ get_or-drop from file i 0

-- two files with the same bytes in a range that both hold whole read the same there
pub same_readable : (from room : ℕ) (old new : List ℕ) → from + room ≤ length old → from + room ≤ length new
    → ((i : ℕ) → from ≤ i → i < from + room → slice_index new i ≡ slice_index old i)
    → readable from room new ≡ readable from room old
same_readable from room old new in_old in_new same =
    ext_get_or 0 (readable from room new) (readable from room old)
    (omega (arith, length-readable from room old, length-readable from room new))
    (λ i within. let below : i < room = omega (arith, length-readable from room new) in
    slice_index-readable from room i new below ∙ same (from + i) (omega arith) (omega arith)
    ∙ sym (slice_index-readable from room i old below))

-- a range of the old file that ends before a write begins reads as before
pub readable-torn_after : (from room : ℕ) {at len : ℕ} {old new : List ℕ} → IsTorn at len old new
    → from + room ≤ length old → from + room ≤ at → readable from room new ≡ readable from room old
readable-torn_after from room {old = old} {new = new} torn within before =
    same_readable from room old new within (omega (arith, torn.no_shorter))
    (λ i low high. torn.below i (omega arith) (omega arith))

-- a range of the old file that begins after a write's end reads as before
pub readable-torn_before : (from room : ℕ) {at len : ℕ} {old new : List ℕ} → IsTorn at len old new
    → from + room ≤ length old → at + len ≤ from → readable from room new ≡ readable from room old
readable-torn_before from room {old = old} {new = new} torn within after =
    same_readable from room old new within (omega (arith, torn.no_shorter))
    (λ i low high. torn.above i (omega arith) (omega arith))

-- Images.

pub becomes_more : {number : ℕ} {P Q : List ℕ → List ℕ → Type 0} {old new : Image}
    → FileBecomes number P old new → ((before after : List ℕ) → P before after → Q before after)
    → FileBecomes number Q old new
becomes_more step more = record { file = more _ _ step.file; others = step.others; said = step.said }

-- a change of one file after a change of the same file
pub becomes_then : {number : ℕ} {P Q R : List ℕ → List ℕ → Type 0} {old middle new : Image}
    → FileBecomes number P old middle → FileBecomes number Q middle new
    → ((before between after : List ℕ) → P before between → Q between after → R before after)
    → FileBecomes number R old new
becomes_then first second joined = record {
  file = joined _ _ _ first.file second.file;
  others = λ other spared. second.others other spared ∙ first.others other spared;
  said = second.said ∙ first.said;
}

-- nothing else changes where a file becomes what it was
pub becomes_itself : (number : ℕ) (P : List ℕ → List ℕ → Type 0) (image : Image)
    → P (image.file number) (image.file number) → FileBecomes number P image image
becomes_itself number P image same = record { file = same; others = λ other spared. refl; said = refl }

-- where nothing changes, a file becomes what a relation allows that may leave it
pub becomes_same : (number : ℕ) (P : List ℕ → List ℕ → Type 0) {old new : Image} → new ≡ old
    → P (old.file number) (old.file number) → FileBecomes number P old new
becomes_same number P {old = old} same stays =
    subst (λ (image : Image). FileBecomes number P old image) (sym same) (becomes_itself number P old stays)

-- Counts.

-- Stretches of calls, by what they do to the images that a crash may leave.

-- no call yet
pub begins : {H : Type 0} (model : CrashModel H) (host : H) → ImagesFollow model host host Stays
begins model host = record {
  follows = λ _. record {
    later = omega arith;
    now = λ image is. (image, is, refl);
    since = λ moment image before is. inl is;
    keeps = λ moment image before is. is;
  };
}

pub weaken : {H : Type 0} {model : CrashModel H} {old new : H} {S T : Image → Image → Type 0}
    → ImagesFollow model old new S → ((start image : Image) → S start image → T start image)
    → ImagesFollow model old new T
weaken run more = record {
  follows = λ honest. let by = run.follows honest in record {
    later = by.later;
    now = λ image is. let first = by.now image is in (first.0, first.1, more first.0 image first.2);
    since = λ moment image before is.
        elim (by.since moment image before is) [
          | inl earlier ↦ inl earlier
          | inr left ↦
              let first = left.1 in
              inr (left.0, (first.0, first.1, more first.0 image first.2))
        ];
    keeps = by.keeps;
  };
}

-- A stretch after another. What joins the two steps may use what is known of the images in the middle.
pub goes_on : {H : Type 0} {model : CrashModel H} {old middle new : H} {S T U : Image → Image → Type 0}
    → ImagesFollow model old middle S → ImagesFollow model middle new T
    → ((start image : Image) → S start image → U start image)
    → ((start between image : Image) → IsTrue model.is_honest → S start between
    → model.may_leave middle between → T between image → U start image)
    → ImagesFollow model old new U
goes_on first second alone both = record {
  follows = λ honest.
      let one = first.follows honest in
      let two = second.follows honest in
      record {
        later = omega (arith, one.later, two.later);
        now = λ image is.
            let between = two.now image is in
            let start = one.now between.0 between.1 in
            (start.0, start.1, both start.0 between.0 image honest start.2 between.1 between.2);
        since = λ moment image before is.
            elim (two.since moment image (omega (arith, before, one.later)) is) [
              | inl earlier ↦
                  elim (one.since moment image before earlier) [
                    | inl old ↦ inl old
                    | inr left ↦
                        let start = left.1 in
                        inr (
                          λ past up. two.keeps past image (omega (arith, up, one.later)) (left.0 past up),
                          (start.0, start.1, alone start.0 image start.2),
                        )
                  ]
              | inr left ↦
                  let between = left.1 in
                  let start = one.now between.0 between.1 in
                  inr (
                    λ past up. left.0 past (omega (arith, up, one.later)),
                    (start.0, start.1, both start.0 between.0 image honest start.2 between.1 between.2),
                  )
            ];
        keeps = λ moment image before is.
            two.keeps moment image (omega (arith, before, one.later)) (one.keeps moment image before is);
      };
}

-- a call whose step goes on with itself, as in a loop
pub again : {H : Type 0} {model : CrashModel H} {old middle new : H} {S : Image → Image → Type 0}
    → ((a b c : Image) → S a b → S b c → S a c) → ImagesFollow model old middle S → ImagesFollow model middle new S
    → ImagesFollow model old new S
again joined first second =
    goes_on first second (λ start image step. step)
    (λ start between image _ one _ two. joined start between image one two)

-- a call that changes nothing, after a stretch
pub stays_after : {H : Type 0} {model : CrashModel H} {old middle new : H} {S : Image → Image → Type 0}
    → ImagesFollow model old middle S → ImagesFollow model middle new Stays → ImagesFollow model old new S
stays_after {S = S} first second =
    goes_on first second (λ start image step. step)
    (λ start between image _ one _ two. subst (λ (i : Image). S start i) (sym two) one)

-- what follows by the step from every image at the start holds of every image since
pub every_since : {H : Type 0} {model : CrashModel H} {old new : H} {S : Image → Image → Type 0}
    (P : Image → Type 0) → IncludesOnlyNow model → ImagesFollow model old new S
    → ((image : Image) → IsTrue model.is_honest → model.may_leave old image → P image)
    → ((start image : Image) → IsTrue model.is_honest → model.may_leave old start → S start image → P image)
    → EverySince model P old new
every_since {model = model} {old = old} P only run at_start follows = λ image honest since.
    elim ((run.follows honest).since (model.moment old) image (omega arith) since) [
      | inl old_image ↦ at_start image honest (only old image honest old_image)
      | inr left ↦ let first = left.1 in follows first.0 image honest first.1 first.2
    ]

-- Two stretches, one right after the other: an image since the start of both is one of the first or one of the second.
pub since_either : {H : Type 0} {model : CrashModel H} {old middle new : H} {S T : Image → Image → Type 0}
    → ImagesFollow model old middle S → ImagesFollow model middle new T → (image : Image)
    → IsTrue model.is_honest → model.left_since new (model.moment old) image
    → model.left_since middle (model.moment old) image ⊎ model.left_since new (model.moment middle) image
since_either {model = model} {old = old} {middle = middle} first second image honest since =
    let one = first.follows honest in
    elim ((second.follows honest).since (model.moment old) image one.later since) [
      | inl before ↦ inl before
      | inr left ↦ inr (left.0 (model.moment middle) (omega arith))
    ]

-- Each image of the one or the other is one since the start of both.
pub either_since : {H : Type 0} {model : CrashModel H} {old middle new : H} {S T : Image → Image → Type 0}
    → IncludesEarlier model → ImagesFollow model old middle S → ImagesFollow model middle new T → (image : Image)
    → IsTrue model.is_honest
    → model.left_since middle (model.moment old) image ⊎ model.left_since new (model.moment middle) image
    → model.left_since new (model.moment old) image
either_since {model = model} {old = old} {middle = middle} {new = new} counts first second image honest either =
    let one = first.follows honest in
    elim either [
      | inl before ↦ (second.follows honest).keeps (model.moment old) image one.later before
      | inr after ↦ counts new (model.moment old) (model.moment middle) image honest one.later after
    ]

-- Stretches that change only some files.

pub agrees_itself : (files : List ℕ) (image : Image) → AgreesOutside files image image
agrees_itself files image = record { others = λ number spared. refl; said = refl }

pub agrees_more : {fewer more : List ℕ} {start image : Image}
    → ((number : ℕ) → Contains fewer number → Contains more number) → AgreesOutside fewer start image
    → AgreesOutside more start image
agrees_more within agrees = record {
  others = λ number spared. agrees.others number (λ has. spared (within number has));
  said = agrees.said;
}

pub agrees_both : {first second : List ℕ} {start between image : Image} → AgreesOutside first start between
    → AgreesOutside second between image → AgreesOutside (first ++ second) start image
agrees_both {first = first} {second = second} before after = record {
  others = λ number spared.
      after.others number (λ has. spared (Contains-append_right first second number has))
      ∙ before.others number (λ has. spared (Contains-append_left first second number has));
  said = after.said ∙ before.said;
}

-- a file's change, whatever it is, is one of that file only
pub becomes_agrees : {number : ℕ} {P : List ℕ → List ℕ → Type 0} {start image : Image}
    → FileBecomes number P start image → AgreesOutside (number ∷ []) start image
becomes_agrees becomes = record {
  others = λ other spared. becomes.others other (λ same. spared (0, omega arith, sym same));
  said = becomes.said;
}

pub changes_more : {H : Type 0} {model : CrashModel H} {fewer more : List ℕ} {old new : H}
    → ((number : ℕ) → Contains fewer number → Contains more number) → ChangesOnly model fewer old new
    → ChangesOnly model more old new
changes_more within run = weaken run (λ start image agrees. agrees_more within agrees)

pub changes_both : {H : Type 0} {model : CrashModel H} {first second : List ℕ} {old middle new : H}
    → ChangesOnly model first old middle → ChangesOnly model second middle new
    → ChangesOnly model (first ++ second) old new
changes_both {first = first} {second = second} one two =
    goes_on one two (λ start image agrees. agrees_more (Contains-append_left first second) agrees)
    (λ start between image _ before _ after. agrees_both before after)

-- every image since the start agrees outside the files with an image at the start
pub changes_every : {H : Type 0} {model : CrashModel H} {files : List ℕ} {old new : H} → IncludesOnlyNow model
    → ChangesOnly model files old new
    → EverySince model (λ image. (start : Image) × model.may_leave old start × AgreesOutside files start image) old new
changes_every {model = model} {files = files} {old = old} only run =
    every_since (λ image. (start : Image) × model.may_leave old start × AgreesOutside files start image) only run
    (λ image _ is. (image, is, agrees_itself files image)) (λ start image _ is agrees. (start, is, agrees))

-- What is durable in one file reads as before after calls that spare it, since it does in every image.
pub durable_file_reads : {H : Type 0} (m : HostModel H) {number : ℕ} {old new : H} → IsDurableFile m number old
    → ImagesFollow m.crashes old new (KeepsFile number) → IsTrue m.crashes.is_honest
    → (m.contents new).file number ≡ (m.contents old).file number
durable_file_reads m {new = new} durable run honest =
    let start = (run.follows honest).now (m.contents new) (m.leaves_contents new honest) in
    start.2 ∙ durable start.0 honest start.1

-- It stays durable.
pub durable_file_spared : {H : Type 0} (m : HostModel H) {number : ℕ} {old new : H} → IsDurableFile m number old
    → ImagesFollow m.crashes old new (KeepsFile number) → IsDurableFile m number new
durable_file_spared m durable run = λ image honest is.
    let start = (run.follows honest).now image is in
    start.2 ∙ durable start.0 honest start.1 ∙ sym (durable_file_reads m durable run honest)

-- Both for calls that change only other files.
changes_spare : {H : Type 0} {model : CrashModel H} {files : List ℕ} {number : ℕ} {old new : H}
    → (Contains files number → ⊥) → ChangesOnly model files old new → ImagesFollow model old new (KeepsFile number)
changes_spare {number = number} spared run = weaken run (λ start image agrees. agrees.others number spared)

pub durable_file_holds : {H : Type 0} (m : HostModel H) {files : List ℕ} {number : ℕ} {old new : H}
    → (Contains files number → ⊥) → IsDurableFile m number old → ChangesOnly m.crashes files old new
    → IsTrue m.crashes.is_honest → (m.contents new).file number ≡ (m.contents old).file number
durable_file_holds m spared durable run = durable_file_reads m durable (changes_spare spared run)

pub durable_file_stays : {H : Type 0} (m : HostModel H) {files : List ℕ} {number : ℕ} {old new : H}
    → (Contains files number → ⊥) → IsDurableFile m number old → ChangesOnly m.crashes files old new
    → IsDurableFile m number new
durable_file_stays m spared durable run = durable_file_spared m durable (changes_spare spared run)

-- and for a say
pub said_spares : {H : Type 0} {model : CrashModel H} {number : ℕ} {channel : Channel} {bytes : List ℕ} {old new : H}
    → ImagesFollow model old new (SaysPart channel bytes) → ImagesFollow model old new (KeepsFile number)
said_spares {number = number} run =
    weaken run (λ start image says. ap (λ (files : ℕ → List ℕ). files number) says.2.files)

-- What is durable as a whole is so in each file.
pub durable_each : {H : Type 0} (m : HostModel H) (number : ℕ) {host : H} → IsDurable m host
    → IsDurableFile m number host
durable_each m number durable = λ image honest is. ap (λ (i : Image). i.file number) (durable image honest is)

-- What calls lead to, one after the other: in what reads and in the images alike.

-- no call yet
pub leads_none : {H : Type 0} (m : HostModel H) (host : H) {S : Image → Image → Type 0}
    → ((image : Image) → S image image) → Leads m S host host
leads_none m host {S = S} itself = record {
  contents = λ _. itself (m.contents host);
  images = weaken (begins m.crashes host)
      (λ start image same. subst (λ (i : Image). S start i) (sym same) (itself start));
}

pub leads_more : {H : Type 0} {m : HostModel H} {old new : H} {S T : Image → Image → Type 0}
    → Leads m S old new → ((start image : Image) → S start image → T start image) → Leads m T old new
leads_more {m = m} {old = old} {new = new} leads more = record {
  contents = λ tells. more (m.contents old) (m.contents new) (leads.contents tells);
  images = weaken leads.images more;
}

pub leads_then : {H : Type 0} {m : HostModel H} {old middle new : H} {S T U : Image → Image → Type 0}
    → Leads m S old middle → Leads m T middle new → ((start image : Image) → S start image → U start image)
    → ((start between image : Image) → S start between → T between image → U start image) → Leads m U old new
leads_then {m = m} {old = old} {middle = middle} {new = new} first second alone both = record {
  contents = λ tells.
      both (m.contents old) (m.contents middle) (m.contents new) (first.contents tells) (second.contents tells);
  images = goes_on first.images second.images alone
      (λ start between image _ one _ two. both start between image one two);
}

-- a call whose step goes on with itself, as in a loop
pub leads_again : {H : Type 0} {m : HostModel H} {old middle new : H} {S : Image → Image → Type 0}
    → ((a b c : Image) → S a b → S b c → S a c) → Leads m S old middle → Leads m S middle new → Leads m S old new
leads_again joined first second = leads_then first second (λ start image step. step) joined

-- a call that changes nothing, after others
pub leads_after : {H : Type 0} {m : HostModel H} {old middle new : H} {S : Image → Image → Type 0}
    → Leads m S old middle → Leads m Stays middle new → Leads m S old new
leads_after {S = S} first second =
    leads_then first second (λ start image step. step)
    (λ start between image one two. subst (λ (i : Image). S start i) (sym two) one)

-- others, after a call that changes nothing
pub leads_before : {H : Type 0} {m : HostModel H} {old middle new : H} {S : Image → Image → Type 0}
    → ((image : Image) → S image image) → Leads m Stays old middle → Leads m S middle new → Leads m S old new
leads_before {S = S} itself first second =
    leads_then first second (λ start image same. subst (λ (i : Image). S start i) (sym same) (itself start))
    (λ start between image same step. subst (λ (i : Image). S i image) same step)

-- Calls that spare a file: those on other files, a sync, and a say.

pub others_spare : {H : Type 0} {m : HostModel H} {file : ℕ} {files : List ℕ} {old new : H} → (Contains files file → ⊥)
    → Leads m (AgreesOutside files) old new → Leads m (KeepsFile file) old new
others_spare {file = file} apart leads = leads_more leads (λ start image agrees. agrees.others file apart)

pub sync_spares : {H : Type 0} {m : HostModel H} {file : ℕ} {old new : H} → Leads m Stays old new
    → Leads m (KeepsFile file) old new
sync_spares {file = file} leads = leads_more leads (λ start image same. ap (λ (i : Image). i.file file) same)

pub say_spares : {H : Type 0} {m : HostModel H} {file : ℕ} {channel : Channel} {bytes : List ℕ} {old new : H}
    → Leads m (SaysPart channel bytes) old new → Leads m (KeepsFile file) old new
say_spares {file = file} leads =
    leads_more leads (λ start image says. ap (λ (files : ℕ → List ℕ). files file) says.2.files)

-- A file that is as its last call left it stays so through them.
pub left_stays : {H : Type 0} (m : HostModel H) {file : ℕ} {this : List ℕ → Type 0} {that : List ℕ → List ℕ → Type 0}
    {old new : H} → Leads m (KeepsFile file) old new → FileIs m file this that old → FileIs m file this that new
left_stays m {file = file} {this = this} {that = that} {old = old} leads left = record {
  reads = λ tells. subst this (sym (leads.contents tells)) (left.reads tells);
  images = λ image honest is.
      let start = (leads.images.follows honest).now image is in
      subst (λ (w : List ℕ). that w (image.file file)) (sym (leads.contents (m.tells_if_honest honest)))
      (subst (λ (w : List ℕ). that ((m.contents old).file file) w) (sym start.2) (left.images start.0 honest start.1));
}

pub stays_left : {H : Type 0} (m : HostModel H) {file : ℕ} {old new : H} → Leads m (KeepsFile file) old new
    → FileStays m file old new
stays_left m leads = left_stays m leads (record { reads = λ _. refl; images = λ image _ is. (image, is, refl) })

-- Calls after a sync: each image is one before it, or follows from what read at the sync.
pub leads_synced : {H : Type 0} {m : HostModel H} {old middle new : H} {S T U : Image → Image → Type 0}
    → Leads m S old middle → IsDurable m middle → Leads m T middle new
    → ((start image : Image) → S start image → U start image)
    → ((start image : Image) → IsTrue m.tells → S start (m.contents middle) → T (m.contents middle) image → U start image)
    → Leads m U old new
leads_synced {m = m} {old = old} {middle = middle} {new = new} {S = S} {T = T} first durable second alone both = record {
  contents = λ tells.
      both (m.contents old) (m.contents new) tells (first.contents tells) (second.contents tells);
  images = goes_on first.images second.images alone
      (λ start between image honest one is two.
      let same = durable between honest is in
      both start image (m.tells_if_honest honest) (subst (λ (i : Image). S start i) same one)
      (subst (λ (i : Image). T i image) same two));
}

-- nothing, and nothing again
pub stays_both : {H : Type 0} {m : HostModel H} {old middle new : H} → Leads m Stays old middle
    → Leads m Stays middle new → Leads m Stays old new
stays_both first second = leads_after first second

-- Where what reads stays for a host that tells, it stays for every host: the contents of one that tells nothing are
-- constant.
pub contents_stay : {H : Type 0} (m : HostModel H) (old new : H) → Over m Stays old new
    → m.contents new ≡ m.contents old
contents_stay m old new stays =
    elim m.tells as (λ (b : Bool). m.tells ≡ b → m.contents new ≡ m.contents old) [
      | true ↦ λ is. stays (search rules)
      | false ↦ λ is. m.untold is new old
    ] refl

pub stays_contents : {H : Type 0} {m : HostModel H} {old new : H} → Leads m Stays old new
    → m.contents new ≡ m.contents old
stays_contents {m = m} {old = old} {new = new} leads = contents_stay m old new leads.contents

-- What calls owe to the counts, one after the other.

-- an answer that is Ok isn't a refusal
pub ok_is_no_error : {T E : Type 0} {result : Result T E} {error : E} → IsOk result → result ≢ Err error
ok_is_no_error {T = T} {E = E} ok same =
    let never = subst (λ (r : Result T E). IsOk r) same ok in absurd (search rules)

-- calls that came to an end at a fault, after others that met none
pub stopped_after : {H : Type 0} {m : HostModel H} {old middle new : H} → m.faults middle ≡ m.faults old
    → HaltedAtFault m middle new → HaltedAtFault m old new
stopped_after same stopped = record { count = stopped.count ∙ ap next_count same; last = stopped.last }

-- calls after others that met no fault, said nothing and synced nothing
pub counts_after : {H T E : Type 0} {m : HostModel H} {fault : E} {old middle new : H} {result : Result T E}
    → m.faults middle ≡ m.faults old → m.tally middle ≡ m.tally old → Counts m fault middle new result
    → Counts m fault old new result
counts_after {m = m} {old = old} {middle = middle} {new = new} same tally counts = record {
  count = subst (λ n. n ≤ m.faults new) same counts.count;
  rose = λ err. stopped_after same (counts.rose err);
  spared = λ never. counts.spared never ∙ same;
  tally = counts.tally ∙ tally;
}

-- another answer, which stands for a fault exactly where this one does
pub counts_as : {H T U E F : Type 0} {m : HostModel H} {fault : E} {other_fault : F} {old new : H}
    {result : Result T E} {other : Result U F} → Counts m fault old new result
    → (other ≡ Err other_fault → result ≡ Err fault) → (result ≡ Err fault → other ≡ Err other_fault)
    → Counts m other_fault old new other
counts_as counts there back = record {
  count = counts.count;
  rose = λ err. counts.rose (there err);
  spared = λ never. counts.spared (λ err. never (back err));
  tally = counts.tally;
}

pub counts_of_ran : {H T E : Type 0} {m : HostModel H} {fault : E} {by : Image → Image → Type 0} {old new : H}
    {result : Result T E} → Ran m fault by old new result → Counts m fault old new result
counts_of_ran ran = record { count = ran.count; rose = ran.rose; spared = ran.spared; tally = ran.tally }

-- where calls lead, and what they owe to the counts
pub ran_by : {H T E : Type 0} {m : HostModel H} {fault : E} {by : Image → Image → Type 0} {old new : H}
    {result : Result T E} → Leads m by old new → Counts m fault old new result → Ran m fault by old new result
ran_by leads counts = record {
  leads = leads;
  count = counts.count;
  rose = counts.rose;
  spared = counts.spared;
  tally = counts.tally;
}

-- The same where some of the calls are syncs.

pub syncing_none : {H T E : Type 0} {m : HostModel H} {fault : E} {by : Image → Image → Type 0} {old new : H}
    {result : Result T E} → Ran m fault by old new result → RanSyncing m 0 fault by old new result
syncing_none {m = m} ran = record {
  leads = ran.leads;
  count = ran.count;
  rose = ran.rose;
  spared = ran.spared;
  refused = ap (λ (t : CallTally). t.refused_says) ran.tally;
  synced = λ _ _. let same = ap (λ (t : CallTally). t.syncs) ran.tally in omega arith;
  at_most = λ _. let same = ap (λ (t : CallTally). t.syncs) ran.tally in omega arith;
}

-- calls after others that answered Ok, with where both lead
pub syncing_then : {H T U E F : Type 0} {m : HostModel H} {first second : ℕ} {fault : E} {other_fault : F}
    {one two by : Image → Image → Type 0} {old middle new : H} {result : Result T E} {other : Result U F}
    → IsOk result → RanSyncing m first fault one old middle result
    → RanSyncing m second other_fault two middle new other → Leads m by old new
    → RanSyncing m (first + second) other_fault by old new other
syncing_then {m = m} {old = old} {middle = middle} {new = new} {result = result} ok before after leads =
    let same = before.spared (ok_is_no_error ok) in
    record {
      leads = leads;
      count = subst (λ n. n ≤ m.faults new) same after.count;
      rose = λ err. stopped_after same (after.rose err);
      spared = λ never. after.spared never ∙ same;
      refused = after.refused ∙ before.refused;
      synced = λ tells fine. omega (arith, before.synced tells ok, after.synced tells fine);
      at_most = λ tells. omega (arith, before.synced tells ok, after.at_most tells);
    }

-- how often calls sync, as far as it is known: of a host that tells
pub syncing_told : {H T E : Type 0} {m : HostModel H} {one two : ℕ} {fault : E} {by : Image → Image → Type 0}
    {old new : H} {result : Result T E} → (IsTrue m.tells → one ≡ two) → RanSyncing m one fault by old new result
    → RanSyncing m two fault by old new result
syncing_told same ran = record {
  leads = ran.leads;
  count = ran.count;
  rose = ran.rose;
  spared = ran.spared;
  refused = ran.refused;
  synced = λ tells ok. omega (arith, same tells, ran.synced tells ok);
  at_most = λ tells. omega (arith, same tells, ran.at_most tells);
}

-- Hosts that tell nothing.

pub untold_leads : {H : Type 0} {faults : H → ℕ} {by : Image → Image → Type 0} {old new : H}
    → Leads (untold_host faults) by old new
untold_leads = record {
  contents = λ tells. absurd (search rules);
  images = record { follows = λ honest. absurd (search rules) };
}

pub untold_ran : {H T E : Type 0} {faults : H → ℕ} {fault : E} {by : Image → Image → Type 0} {old new : H}
    {result : Result T E} → faults old ≤ faults new → (result ≡ Err fault → faults new ≡ next_count (faults old))
    → (result ≢ Err fault → faults new ≡ faults old) → Ran (untold_host faults) fault by old new result
untold_ran count rose spared = record {
  leads = untold_leads;
  count = count;
  rose = λ err. record { count = rose err; last = refl };
  spared = spared;
  tally = refl;
}

pub untold_syncing : {H T E : Type 0} {faults : H → ℕ} {fault : E} {by : Image → Image → Type 0} {syncs : ℕ}
    {old new : H} {result : Result T E} → faults old ≤ faults new
    → (result ≡ Err fault → faults new ≡ next_count (faults old))
    → (result ≢ Err fault → faults new ≡ faults old) → RanSyncing (untold_host faults) syncs fault by old new result
untold_syncing count rose spared = record {
  leads = untold_leads;
  count = count;
  rose = λ err. record { count = rose err; last = refl };
  spared = spared;
  refused = refl;
  synced = λ tells. absurd (search rules);
  at_most = λ tells. absurd (search rules);
}

pub untold_spoke : {H : Type 0} {faults : H → ℕ} {channel : Channel} {bytes : List ℕ} {old new : H}
    {result : Result (Unit {0}) HostError} → faults old ≤ faults new
    → (result ≡ Err Fault → faults new ≡ next_count (faults old)) → (result ≢ Err Fault → faults new ≡ faults old)
    → RanSaying (untold_host faults) channel bytes old new result
untold_spoke {faults = faults} {channel = channel} {bytes = bytes} {old = old} {new = new} {result = result} count rose spared = record {
  said = elim result as (λ (r : Result (Unit {0}) HostError). OnOk r (Over (untold_host faults) (Says channel bytes) old new))
      [ Ok x ↦ λ tells. absurd (search rules) | Err error ↦ tt ];
  leads = untold_leads;
  nothing = λ _. untold_leads;
  count = count;
  rose = λ err. record { count = rose err; last = refl };
  spared = spared;
  refused = λ tells. absurd (search rules);
  syncs = refl;
}

-- Names of pages.

pub same_page_eq : (a b : PageName) → same_page a b ≡ true → a ≡ b
same_page_eq a b same = grind (arith, nat_tests)

pub same_page_refl : (a : PageName) → same_page a a ≡ true
same_page_refl a = grind (arith, nat_tests)

pub same_page_apart : (a b : PageName) → same_page a b ≡ false → a ≢ b
same_page_apart a b apart same =
    let this : same_page a b ≡ true = subst (λ c. same_page a c ≡ true) same (same_page_refl a) in (cc)

-- Pages.

-- a page of its full length is whole in the file
pub whole_page : (bytes : List ℕ) (page : ℕ) → length (page_of bytes page) ≡ PAGE_SIZE → HasPage bytes page
whole_page bytes page full = omega (arith, length-readable (page_start page) PAGE_SIZE bytes, full)

-- a write of one page, perhaps in part, leaves every other page that is whole
pub page_stays : (page other : ℕ) {old new : List ℕ} → IsTorn (page_start page) PAGE_SIZE old new
    → HasPage old other → other ≢ page → page_of new other ≡ page_of old other
page_stays page other torn whole apart = elim (split page other apart) [
  | inl before ↦ readable-torn_after (page_start other) PAGE_SIZE torn (omega arith) (omega arith)
  | inr after ↦ readable-torn_before (page_start other) PAGE_SIZE torn (omega arith) (omega arith)
] where
  split : (page other : ℕ) → other ≢ page → (other < page) ⊎ (page < other)
  split page other apart = grind arith

-- a page that was written is the bytes
pub page_written : (page : ℕ) (bytes file : List ℕ) → length bytes ≡ PAGE_SIZE
    → page_of (overwritten (page_start page) bytes file) page ≡ bytes
page_written page bytes file full =
    ap (λ n. readable (page_start page) n (overwritten (page_start page) bytes file)) (sym full)
    ∙ readable-overwritten (page_start page) bytes file

-- a page that is written whole is torn at most
pub page_torn : (page : ℕ) (bytes file : List ℕ) → length bytes ≡ PAGE_SIZE
    → IsTorn (page_start page) PAGE_SIZE file (overwritten (page_start page) bytes file)
page_torn page bytes file full =
    subst (λ n. IsTorn (page_start page) n file (overwritten (page_start page) bytes file)) full
    (overwritten_is_torn (page_start page) bytes file)

-- after a page was written, another that was whole is as before
pub page_kept : (page other : ℕ) (bytes file : List ℕ) → length bytes ≡ PAGE_SIZE → HasPage file other
    → other ≢ page → page_of (overwritten (page_start page) bytes file) other ≡ page_of file other
page_kept page other bytes file full whole apart =
    page_stays page other (page_torn page bytes file full) whole apart
