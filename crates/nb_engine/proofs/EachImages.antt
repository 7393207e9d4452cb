-- What holds of each image of a stretch of calls that begins where what reads is durable.
use Rattle.std.proofs.Common.{◌≡◌, ℕ, inl, inr, IsTrue, refl, sym, subst, ◌∙◌, ap, List, arith}
use Rattle.nb_host.specs.declared.host.Channel.{Channel}
use Rattle.nb_host.specs.Crashes.{ImagesFollow, Stays}
use Rattle.nb_host.specs.Image.{Image, SaysPart}
use Rattle.nb_host.specs.Meaning.{HostModel, Leads, IsDurable}
use Rattle.nb_host.proofs.Callers.{weaken, goes_on, begins}
use Rattle.nb_engine.specs.Frame.{EachImage}

-- no call yet
pub each_none : {H : Type 0} (m : HostModel H) (P : Image → Type 0) (host : H) → IsDurable m host
    → (IsTrue m.crashes.is_honest → P (m.contents host)) → EachImage m P host host
each_none m P host durable here = record {
  follows = λ honest.
      let none = (begins m.crashes host).follows honest in
      record {
        later = none.later;
        now = λ image is. (image, is, subst P (sym (durable image honest is)) (here honest));
        since = λ moment image before is. inl is;
        keeps = none.keeps;
      };
}

-- where what reads is durable, each image follows from it
pub from_durable : {H : Type 0} (m : HostModel H) (S : Image → Image → Type 0) (P : Image → Type 0) {old new : H} → IsDurable m old
    → ImagesFollow m.crashes old new S → (IsTrue m.crashes.is_honest → (image : Image) → S (m.contents old) image → P image)
    → EachImage m P old new
from_durable m S P {old = old} durable run more = record {
  follows = λ honest.
      let by = run.follows honest in
      record {
        later = by.later;
        now = λ image is.
            let start = by.now image is in (
              start.0,
              start.1,
              more honest image (subst (λ (i : Image). S i image) (durable start.0 honest start.1) start.2),
            );
        since = λ moment image before is.
            elim (by.since moment image before is) [
              | inl earlier ↦ inl earlier
              | inr left ↦
                  let start = left.1 in
                  inr (
                    left.0,
                    (
                      start.0,
                      start.1,
                      more honest image (subst (λ (i : Image). S i image) (durable start.0 honest start.1) start.2),
                    ),
                  )
            ];
        keeps = by.keeps;
      };
}

-- what holds of each holds of each by more
pub each_weaker : {H : Type 0} (m : HostModel H) (P Q : Image → Type 0) {old new : H} → EachImage m P old new
    → ((image : Image) → P image → Q image) → EachImage m Q old new
each_weaker m P Q each more = weaken each (λ start image is. more image is)

-- a stretch after a stretch, where what reads between is durable
pub each_then : {H : Type 0} (m : HostModel H) (P Q R : Image → Type 0) {old middle new : H} → EachImage m P old middle
    → EachImage m Q middle new → ((image : Image) → P image → R image) → ((image : Image) → Q image → R image)
    → EachImage m R old new
each_then m P Q R first second one two =
    goes_on first second (λ start image is. one image is) (λ start between image honest is left later. two image later)

-- what reads is one of the images
pub each_reads : {H : Type 0} (m : HostModel H) (P : Image → Type 0) {old new : H} → EachImage m P old new
    → IsTrue m.crashes.is_honest → P (m.contents new)
each_reads m P {new = new} each honest =
    let last = (each.follows honest).now (m.contents new) (m.leaves_contents new honest) in last.2

-- what is durable stays so through a call that changes nothing, and through a say
pub durable_stays : {H : Type 0} (m : HostModel H) {old new : H} → IsDurable m old → Leads m Stays old new → IsDurable m new
durable_stays m {old = old} {new = new} durable leads image honest is =
    let start = (leads.images.follows honest).now image is in
    start.2 ∙ durable start.0 honest start.1 ∙ sym (leads.contents (m.tells_if_honest honest))

same_image : {a b : Image} → a.file ≡ b.file → a.said ≡ b.said → a ≡ b
same_image {a} {b} files said =
    ap (λ (f : ℕ → List ℕ). record { file = f; said = a.said }) files ∙ ap (λ (s : Channel → List ℕ). record { file = b.file; said = s }) said

pub durable_said : {H : Type 0} (m : HostModel H) (channel : Channel) (bytes : List ℕ) {old new : H} → IsDurable m old
    → Leads m (SaysPart channel bytes) old new → IsDurable m new
durable_said m channel bytes {old = old} {new = new} durable leads image honest is =
    let start = (leads.images.follows honest).now image is in
    let files = start.2.2.files ∙ ap (λ (i : Image). i.file) (durable start.0 honest start.1) in
    same_image (files ∙ sym (leads.contents (m.tells_if_honest honest)).2.files) (m.leaves_said new image honest is)

-- Where what reads is durable, calls lead by more than they say of any image: what follows from it.
pub leads_from_durable : {H : Type 0} {m : HostModel H} (S T : Image → Image → Type 0) {old new : H} → IsDurable m old
    → Leads m S old new → (IsTrue m.tells → (image : Image) → S (m.contents old) image → T (m.contents old) image)
    → Leads m T old new
leads_from_durable {m = m} S T {old = old} durable leads more = record {
  contents = λ tells. more tells (m.contents _) (leads.contents tells);
  images = record {
    follows = λ honest.
        let tells = m.tells_if_honest honest in
        let by = leads.images.follows honest in
        let from : (start image : Image) → m.crashes.may_leave old start → S start image → T start image =
        λ start image is step.
        let same = durable start honest is in
        subst (λ (i : Image). T i image) (sym same) (more tells image (subst (λ (i : Image). S i image) same step)) in
        record {
          later = by.later;
          now = λ image is. let start = by.now image is in (start.0, start.1, from start.0 image start.1 start.2);
          since = λ moment image before is.
              elim (by.since moment image before is) [
                | inl earlier ↦ inl earlier
                | inr left ↦ let start = left.1 in inr (left.0, (start.0, start.1, from start.0 image start.1 start.2))
              ];
          keeps = by.keeps;
        };
  };
}

-- What calls lead by, and what holds of each image by each of a family of facts that hold at the start, together.
pub leads_each : {H : Type 0} {m : HostModel H} {S : Image → Image → Type 0} (Index : Type 0) (P : Index → Image → Type 0)
    {old new : H} → IsDurable m old → Leads m S old new
    → (IsTrue m.crashes.is_honest → (i : Index) → P i (m.contents old)) → ((i : Index) → EachImage m (P i) old new)
    → Leads m (λ start image. S start image × (IsTrue m.crashes.is_honest → (i : Index) → P i image)) old new
leads_each {m = m} {S = S} Index P {old = old} {new = new} durable leads here each = record {
  contents = λ tells. (leads.contents tells, λ honest i. each_reads m (P i) (each i) honest);
  images = record {
    follows = λ honest.
        let by = leads.images.follows honest in
        record {
          later = by.later;
          now = λ image is.
              let start = by.now image is in (
                start.0,
                start.1,
                (start.2, λ honest i. let own = ((each i).follows honest).now image is in own.2),
              );
          since = λ moment image before is.
              elim (by.since moment image before is) [
                | inl earlier ↦ inl earlier
                | inr left ↦
                    let start = left.1 in
                    let start_moment = m.crashes.moment old in
                    inr (
                      left.0,
                      (
                        start.0,
                        start.1,
                        (
                          start.2,
                          λ honest i.
                              elim (((each i).follows honest).since start_moment image (omega arith) (left.0 start_moment (omega arith))) [
                                | inl earlier ↦
                                    subst (P i) (sym (durable image honest (m.includes_only_now old image honest earlier))) (here honest i)
                                | inr own ↦ own.1.2
                              ],
                        ),
                      ),
                    )
              ];
          keeps = by.keeps;
        };
  };
}

-- a fact of each image, where it is known of a host that tells
pub each_told : {H : Type 0} (m : HostModel H) (P : Image → Type 0) {old new : H} → (IsTrue m.tells → EachImage m P old new)
    → EachImage m P old new
each_told m P each = record { follows = λ honest. (each (m.tells_if_honest honest)).follows honest }

-- a step, by which an image stays where this holds of it
abbrev pub SparedWhere : (Image → Image → Type 0) → (Image → Type 0) → Image → Image → Type 0
SparedWhere S Q start image = S start image × (Q start → image ≡ start)

-- calls that change nothing, where this holds of what is durable at their start
pub leads_spared : {H : Type 0} {m : HostModel H} (S : Image → Image → Type 0) (Q : Image → Type 0) {old new : H}
    → IsDurable m old → Leads m S old new → (IsTrue m.tells → Q (m.contents old) → Leads m Stays old new)
    → Leads m (SparedWhere S Q) old new
leads_spared {m = m} S Q {old = old} {new = new} durable leads spared = record {
  contents = λ tells. (leads.contents tells, λ is. (spared tells is).contents tells);
  images = record { follows = λ honest. (weaken behind.images (λ start image both. (both.0, both.1 honest))).follows honest };
} where
  Same : Q (m.contents old) → Image → Type 0
  Same is image = image ≡ m.contents old

  each : (is : Q (m.contents old)) → EachImage m (Same is) old new
  each is =
      each_told m (Same is) (λ tells. from_durable m Stays (Same is) durable (spared tells is).images (λ honest image same. same))

  behind : Leads m (λ start image. S start image × (IsTrue m.crashes.is_honest → Q start → image ≡ start)) old new
  behind =
      leads_from_durable _ (λ start image. S start image × (IsTrue m.crashes.is_honest → Q start → image ≡ start)) durable
      (leads_each (Q (m.contents old)) Same durable leads (λ honest is. refl) each)
      (λ tells image both. both)

-- a stretch behind calls that change nothing
pub each_behind : {H : Type 0} {m : HostModel H} (P : Image → Type 0) {old middle new : H} → IsDurable m old → Leads m Stays old middle
    → (IsTrue m.crashes.is_honest → P (m.contents old)) → EachImage m P middle new → EachImage m P old new
each_behind {m = m} P durable stays here each =
    each_then m P P P
    (from_durable m Stays P durable stays.images (λ honest image same. subst P (sym same) (here honest))) each
    (λ image is. is) (λ image is. is)
