-- What the calls of a snapshot writer make of the file in every image.
use Rattle.std.proofs.Common.{◌≡◌, ℕ, ◌^◌, ◌<◌, ◌≤◌, inl, inr, IsTrue, List, [], ◌∷◌, length, drop, slice_index, sym, ap, subst, ◌∙◌, arith, length-take}
use Rattle.std.proofs.lemmas.Bool.{cases_eq}
use Rattle.nb_host.specs.Image.{Image, FileBecomes, IsTorn}
use Rattle.nb_host.specs.Meaning.{HostModel, Leads, IsDurable}
use Rattle.nb_host.specs.Crashes.{Stays}
use Rattle.nb_host.proofs.Callers.{becomes_same, leads_synced, leads_more, stays_contents}
use Rattle.nb_format.specs.declared.snap_writer.Filling.{Filling}
use Rattle.nb_format.specs.Images.{IsShutNow}
use Rattle.nb_format.specs.Snapshot.{snapshot_gate, IsSnapshot, IsUnfinished}
use Rattle.nb_format.specs.Writer.{plan_of, added_count, HasFilled, HasShutGate, StaysShut, StaysUnfinished, Closes}
use Rattle.nb_format.proofs.Writing.{front_torn, opened_is}

-- One file.

-- what is written behind a shut gate leaves it
pub behind_shut : (at len : ℕ) (old new : List ℕ) → 1 ≤ at → IsTorn at len old new → StaysShut old new
behind_shut at len old new behind torn = λ before. record {
  there = omega (arith, torn.no_shorter, before.there);
  shut = torn.below 0 before.there behind ∙ before.shut;
}

pub zero_is_shut : (bytes : List ℕ) → bytes ≡ 0 ∷ [] → HasShutGate bytes
zero_is_shut bytes is = record {
  there = omega (arith, ap length is);
  shut = ap (λ (w : List ℕ). slice_index w 0) is;
}

pub shut_is_unfinished : (bytes : List ℕ) → HasShutGate bytes → IsUnfinished bytes
shut_is_unfinished bytes has = λ long open'. absurd (omega (arith, has.shut, open'))

-- the gate of a full filling, perhaps in part
pub gate_closes : (filling : Filling) (read old new : List ℕ) → added_count filling ≡ (plan_of filling).count
    → (plan_of filling).time < 2 ^ 64 → old ≡ read → IsTorn 0 1 old new → Closes filling read old new
gate_closes filling read old new full fits same torn = λ bodies has before.
    let is = front_torn old new before.there torn in
    let filled = subst (λ (w : List ℕ). HasFilled filling w bodies) (sym same) has in
    elim (cases_eq (slice_index new 0) snapshot_gate) [
      | inl open' ↦
          inl (subst (λ (w : List ℕ). IsSnapshot w bodies (plan_of filling).time)
          (sym (is ∙ ap (λ (b : ℕ). b ∷ drop 1 old) open')) (opened_is filling old bodies filled full fits))
      | inr shut ↦ inr (λ long. shut)
    ]

-- Stretches of calls.

-- the header behind a shut gate
pub header_leads : {H : Type 0} {m : HostModel H} {file len : ℕ} {old middle new : H}
    → Leads m (FileBecomes file StaysUnfinished) old middle → (IsTrue m.tells → (m.contents middle).file file ≡ 0 ∷ [])
    → IsDurable m middle → Leads m (FileBecomes file (IsTorn 1 len)) middle new
    → Leads m (FileBecomes file StaysUnfinished) old new
header_leads {m = m} {file = file} {len = len} {middle = middle} shut is durable header =
    leads_synced shut durable header (λ start image step. step)
    (λ start image tells one two.
    let before = zero_is_shut ((m.contents middle).file file) (is tells) in
    record {
      file = λ _. shut_is_unfinished (image.file file)
          (behind_shut 1 len ((m.contents middle).file file) (image.file file) (omega arith) two.file before);
      others = λ other spared. two.others other spared ∙ one.others other spared;
      said = two.said ∙ one.said;
    })

-- and then the gate is shut in every image
pub header_shut : {H : Type 0} {m : HostModel H} {file len : ℕ} {middle new : H}
    → (IsTrue m.tells → (m.contents middle).file file ≡ 0 ∷ []) → IsDurable m middle
    → Leads m (FileBecomes file (IsTorn 1 len)) middle new → IsShutNow m file new
header_shut {m = m} {file = file} {len = len} {middle = middle} is durable header = record {
  reads = λ _. tt;
  images = λ image honest may.
      let start = (header.images.follows honest).now image may in
      let before = ap (λ (i : Image). i.file file) (durable start.0 honest start.1) ∙ is (m.tells_if_honest honest) in
      behind_shut 1 len (start.0.file file) (image.file file) (omega arith) start.2.file
      (zero_is_shut (start.0.file file) before);
}

-- where nothing changes, a file whose gate is shut is unfinished still
still_closes : {filling : Filling} {file : ℕ} {read : List ℕ} {start image : Image} → image ≡ start
    → FileBecomes file (Closes filling read) start image
still_closes {filling = filling} {file = file} {read = read} {start = start} same =
    becomes_same file (Closes filling read) same (λ bodies has before. inr (shut_is_unfinished (start.file file) before))

pub stays_closes : {H : Type 0} {m : HostModel H} {filling : Filling} {file : ℕ} {read : List ℕ} {old new : H}
    → Leads m Stays old new → Leads m (FileBecomes file (Closes filling read)) old new
stays_closes {filling = filling} {file = file} {read = read} stays =
    leads_more stays (λ start image same. still_closes same)

-- the gate, opened over what is durable
pub closes_leads : {H : Type 0} {m : HostModel H} {filling : Filling} {old middle new : H}
    → added_count filling ≡ (plan_of filling).count → (plan_of filling).time < 2 ^ 64
    → Leads m Stays old middle → IsDurable m middle
    → Leads m (FileBecomes (plan_of filling).file (IsTorn 0 1)) middle new
    → Leads m (FileBecomes (plan_of filling).file (Closes filling ((m.contents old).file (plan_of filling).file))) old new
closes_leads {m = m} {filling = filling} {old = old} {middle = middle} full fits sync durable gate' =
    let number = (plan_of filling).file in
    let read = (m.contents old).file number in
    let kept = stays_contents sync in
    leads_synced sync durable gate'
    (λ start image same. still_closes same)
    (λ start image tells one two.
    let from : FileBecomes number (IsTorn 0 1) start image =
    subst (λ (i : Image). FileBecomes number (IsTorn 0 1) i image) one two in
    let same : start.file number ≡ read = ap (λ (i : Image). i.file number) (sym one ∙ kept) in
    record {
      file = gate_closes filling read (start.file number) (image.file number) full fits same from.file;
      others = from.others;
      said = from.said;
    })
