-- What crates above may cite of a snapshot writer: how its calls go together. Every other proof file of this crate is its own.
use Rattle.std.proofs.Common.{◌≡◌, ℕ, zero, suc, ◌+◌, inl, inr, Contains, IsTrue, List, [], ◌∷◌, ◌++◌, sym, ap, subst, ◌∙◌, arith, append_assoc}
use Rattle.std.proofs.lemmas.List.{append-nil, length_push}
use Rattle.std.proofs.lemmas.List.Elements.{Contains-append_right}
use Rattle.nb_host.specs.Crashes.{AgreesOutside, EverySince}
use Rattle.nb_host.specs.Image.{Image, FileBecomes, KeepsFile}
use Rattle.nb_host.specs.Meaning.{HostModel, IsDurableFile, FileIs, Leads, Over}
use Rattle.nb_host.proofs.Callers.{goes_on, leads_more, every_since, left_stays, others_spare}
use Rattle.nb_model.specs.declared.body.Body.{Body}
use Rattle.nb_format.specs.declared.snap_writer.Filling.{Filling}
use Rattle.nb_format.specs.Snapshot.{IsSnapshot, IsUnfinished}
use Rattle.nb_format.specs.Writer.{SnapshotPlan, plan_of, IsEmptyFilling, HasFilled, HasShutGate, IsBegun, StaysShut, StaysUnfinished, Closes}
use Rattle.nb_format.specs.Images.{IsUnfinishedNow, IsShutNow, IsFilledNow, IsBeingWritten, ChangesWith, AddsBody, AddsEach, IsWritten}
use Rattle.nb_format.proofs.Closing.{shut_is_unfinished}
use Rattle.nb_format.proofs.Reading.{last_of-push}
use Rattle.nb_format.proofs.Writing.{begun_filled, filled_is_shut}

-- the gate of a file that is being filled is shut in every image
filled_is_shut_now : {H : Type 0} {m : HostModel H} {filling : Filling} {bodies : List Body} {host : H}
    → IsFilledNow m filling bodies host → IsShutNow m (plan_of filling).file host
filled_is_shut_now filled = record { reads = λ _. tt; images = filled.left.images }

-- Steps.

changes_alone : {others : List ℕ} {number : ℕ} {P Q : List ℕ → List ℕ → Type 0} {start image : Image}
    → ((old new : List ℕ) → P old new → Q old new) → ChangesWith others number P start image
    → ChangesWith others number Q start image
changes_alone more step = record { file = more _ _ step.file; kept = step.kept }

-- a change of the file alone is one beside others
becomes_changes : (others : List ℕ) {number : ℕ} {P : List ℕ → List ℕ → Type 0} {start image : Image}
    → FileBecomes number P start image → ChangesWith others number P start image
becomes_changes others {number = number} step = record {
  file = step.file;
  kept = record {
    others = λ other spared. step.others other (λ same. spared (0, omega arith, sym same));
    said = step.said;
  };
}

-- a change of the file, after one beside others
changes_then : {others : List ℕ} {number : ℕ} {P Q R : List ℕ → List ℕ → Type 0} {start between image : Image}
    → ChangesWith others number P start between → FileBecomes number Q between image
    → (P (start.file number) (between.file number) → Q (between.file number) (image.file number)
    → R (start.file number) (image.file number))
    → ChangesWith others number R start image
changes_then {others = others} first second joined =
    let after = becomes_changes others second in
    record {
      file = joined first.file second.file;
      kept = record {
        others = λ other spared. after.kept.others other spared ∙ first.kept.others other spared;
        said = after.kept.said ∙ first.kept.said;
      };
    }

-- Stretches.

-- a call of the writer on a file that is being written
call_leads : {H : Type 0} {m : HostModel H} {others : List ℕ} {plan : SnapshotPlan} {filling : Filling} {bodies : List Body}
    {P Q : List ℕ → List ℕ → Type 0} {start middle now : H}
    → IsBeingWritten m others plan filling bodies start middle
    → Leads m (FileBecomes (plan_of filling).file P) middle now
    → ((old new : List ℕ) → StaysUnfinished old new → Q old new)
    → ((old between new : List ℕ) → IsTrue m.tells → HasShutGate between → P between new → Q old new)
    → Leads m (ChangesWith others plan.file Q) start now
call_leads {m = m} {plan = plan} {filling = filling} {bodies = bodies} {P = P} {middle = middle} {now = now} being call alone both =
    let here = subst (λ (p : SnapshotPlan). Leads m (FileBecomes p.file P) middle now) being.planned call in
    let gate = subst (λ (p : SnapshotPlan). IsShutNow m p.file middle) being.planned (filled_is_shut_now being.filled) in
    record {
      contents = λ tells.
          let shut = filled_is_shut filling ((m.contents middle).file (plan_of filling).file) bodies (being.filled.left.reads tells) in
          let now_shut = subst (λ (p : SnapshotPlan). HasShutGate ((m.contents middle).file p.file)) being.planned shut in
          changes_then (being.since.contents tells) (here.contents tells) (λ one two. both _ _ _ tells now_shut two);
      images = goes_on being.since.images here.images (λ from image step. changes_alone alone step)
          (λ from between image honest one is two.
          changes_then one two (λ _ step. both _ _ _ (m.tells_if_honest honest) (gate.images between honest is) step));
    }

-- a stretch of calls on other files
kept_leads : {H : Type 0} {m : HostModel H} {others : List ℕ} {number : ℕ} {P : List ℕ → List ℕ → Type 0} {start middle now : H}
    → (Contains others number → ⊥) → Leads m (ChangesWith others number P) start middle
    → Leads m (AgreesOutside others) middle now → Leads m (ChangesWith others number P) start now
kept_leads {m = m} {others = others} {number = number} {P = P} {start = start} {middle = middle} {now = now} spared first second = record {
  contents = λ tells. joined _ _ _ (first.contents tells) (second.contents tells);
  images = goes_on first.images second.images (λ from image step. step)
      (λ from between image honest one is two. joined from between image one two);
} where
  there : (other : ℕ) → Contains others other → Contains (number ∷ others) other
  there other has = Contains-append_right (number ∷ []) others other has

  joined : (from between image : Image) → ChangesWith others number P from between → AgreesOutside others between image
      → ChangesWith others number P from image
  joined from between image one two = record {
    file = subst (λ (w : List ℕ). P (from.file number) w) (sym (two.others number spared)) one.file;
    kept = record {
      others = λ other apart.
          two.others other (λ has. apart (there other has)) ∙ one.kept.others other apart;
      said = two.said ∙ one.kept.said;
    };
  }

-- What `begin` says begins it.
pub being_begun : {H : Type 0} {m : HostModel H} (others : List ℕ) {plan : SnapshotPlan} {filling : Filling} {old new : H}
    → IsEmptyFilling plan filling → Over m (FileBecomes plan.file (IsBegun plan)) old new → IsShutNow m plan.file new
    → Leads m (FileBecomes plan.file StaysUnfinished) old new → IsBeingWritten m others plan filling [] old new
being_begun {m = m} others {plan = plan} {filling = filling} {old = old} {new = new} empty begun shut leads =
    record {
      planned = empty.plan;
      since = leads_more leads (λ start image step. becomes_changes others step);
      filled = record {
        added = empty.added;
        last = empty.last;
        left = subst
            (λ (p : SnapshotPlan). FileIs m p.file (λ reads. HasFilled filling reads []) (λ reads image. HasShutGate image) new)
            (sym empty.plan)
            (record {
              reads = λ tells. begun_filled plan filling ((m.contents new).file plan.file) empty (begun tells).file;
              images = shut.images;
            });
      };
    }

-- A body is added, or not: the file stays unfinished.
pub add_leads : {H : Type 0} {m : HostModel H} {others : List ℕ} {plan : SnapshotPlan} {filling : Filling} {bodies : List Body} {start old new : H}
    → IsBeingWritten m others plan filling bodies start old → Leads m (FileBecomes (plan_of filling).file StaysShut) old new
    → Leads m (ChangesWith others plan.file StaysUnfinished) start new
add_leads being call =
    call_leads being call (λ old new stays. stays) (λ old between new _ shut step _. shut_is_unfinished new (step shut))

-- One `add` goes on with it.
pub being_added : {H : Type 0} {m : HostModel H} {others : List ℕ} {plan : SnapshotPlan} {filling next : Filling} {bodies : List Body} (body : Body)
    {start old new : H} → IsBeingWritten m others plan filling bodies start old → AddsBody m body filling next old new
    → IsBeingWritten m others plan next (bodies ++ body ∷ []) start new
being_added {m = m} {filling = filling} {next = next} {bodies = bodies} body {new = new} being adds = record {
  planned = adds.added.plan ∙ being.planned;
  since = add_leads being adds.leads;
  filled = record {
    added = adds.added.added ∙ ap (λ (n : ℕ). n + 1) being.filled.added ∙ sym (length_push bodies body);
    last = adds.added.last ∙ sym (last_of-push bodies body);
    left = subst
        (λ (p : SnapshotPlan). FileIs m p.file (λ reads. HasFilled next reads (bodies ++ body ∷ [])) (λ reads image. HasShutGate image) new)
        (sym adds.added.plan)
        (record {
          reads = λ tells. adds.filled bodies tells (being.filled.left.reads tells);
          images = λ image honest is.
              let from = (adds.leads.images.follows honest).now image is in
              from.2.file (being.filled.left.images from.0 honest from.1);
        });
  };
}

-- An `add` for each body of a list goes on with it.
pub being_each : {H : Type 0} {m : HostModel H} {others : List ℕ} {plan : SnapshotPlan} (filling last : Filling) (bodies more : List Body)
    {start old new : H} → IsBeingWritten m others plan filling bodies start old → AddsEach m more filling last old new
    → IsBeingWritten m others plan last (bodies ++ more) start new
being_each {H = H} {m = m} {others = others} {plan = plan} filling last bodies [] {start = start} {old = old} {new = new} being each =
    subst (λ (l : List Body). IsBeingWritten m others plan last l start new) (sym (append-nil bodies))
    (subst (λ (f : Filling). IsBeingWritten m others plan f bodies start new) (sym each.0)
    (subst (λ (h : H). IsBeingWritten m others plan filling bodies start h) (sym each.1) being))
being_each {H = H} {m = m} {others = others} {plan = plan} filling last bodies (body ∷ more) {start = start} {old = old} {new = new} being each =
    subst (λ (l : List Body). IsBeingWritten m others plan last l start new) (append_assoc bodies (body ∷ []) more)
    (being_each each.0 last (bodies ++ body ∷ []) more (being_added body being each.2) each.3)

-- After `close` the file is the snapshot or unfinished.
pub close_leads : {H : Type 0} {m : HostModel H} {others : List ℕ} {plan : SnapshotPlan} {filling : Filling} {bodies : List Body} {start old new : H}
    → IsBeingWritten m others plan filling bodies start old
    → Leads m (FileBecomes (plan_of filling).file (Closes filling ((m.contents old).file (plan_of filling).file))) old new
    → Leads m (ChangesWith others plan.file (IsWritten bodies plan.time)) start new
close_leads {m = m} {plan = plan} {filling = filling} {bodies = bodies} being call =
    call_leads being call (λ old new stays before. inr (stays before))
    (λ old between new tells shut step _.
    elim (step bodies (being.filled.left.reads tells) shut) [
      | inl is ↦ inl (subst (λ (p : SnapshotPlan). IsSnapshot new bodies p.time) being.planned is)
      | inr still ↦ inr still
    ])

-- Where no call was made on another file, no other changed.
pub changes_becomes : {number : ℕ} {P : List ℕ → List ℕ → Type 0} {start image : Image}
    → ChangesWith [] number P start image → FileBecomes number P start image
changes_becomes {number = number} step = record {
  file = step.file;
  others = λ other apart. step.kept.others other (λ has. apart (only other number has));
  said = step.kept.said;
} where
  only : (other number : ℕ) → Contains (number ∷ []) other → other ≡ number
  only other number (zero, within, is) = sym is
  only other number (suc i, within, is) = absurd (omega arith)

-- What stays through calls that spare the file.

pub filled_kept : {H : Type 0} {m : HostModel H} {filling : Filling} {bodies : List Body} {old new : H}
    → Leads m (KeepsFile (plan_of filling).file) old new → IsFilledNow m filling bodies old → IsFilledNow m filling bodies new
filled_kept {m = m} leads filled =
    record { added = filled.added; last = filled.last; left = left_stays m leads filled.left }

-- and through calls on the other files
pub being_kept : {H : Type 0} {m : HostModel H} {others : List ℕ} {plan : SnapshotPlan} {filling : Filling} {bodies : List Body} {start old new : H}
    → (Contains others plan.file → ⊥) → Leads m (AgreesOutside others) old new
    → IsBeingWritten m others plan filling bodies start old → IsBeingWritten m others plan filling bodies start new
being_kept {others = others} spared leads being = record {
  planned = being.planned;
  since = kept_leads spared being.since leads;
  filled = filled_kept (others_spare (subst (λ (p : SnapshotPlan). Contains others p.file → ⊥) (sym being.planned) spared) leads) being.filled;
}

-- Every image since.

pub written_every : {H : Type 0} {m : HostModel H} {others : List ℕ} {file : ℕ} {P : List ℕ → List ℕ → Type 0} {start now : H}
    (Q : List ℕ → Type 0) → ((bytes : List ℕ) → IsUnfinished bytes → Q bytes)
    → ((old new : List ℕ) → IsUnfinished old → P old new → Q new) → IsUnfinishedNow m file start
    → Leads m (ChangesWith others file P) start now → EverySince m.crashes (λ image. Q (image.file file)) start now
written_every {m = m} {file = file} Q at_start after unfinished leads =
    every_since (λ image. Q (image.file file)) m.includes_only_now leads.images
    (λ image honest is. at_start (image.file file) (unfinished.images image honest is))
    (λ from image honest is step. after (from.file file) (image.file file) (unfinished.images from honest is) step.file)

pub unfinished_durable : {H : Type 0} (m : HostModel H) {file : ℕ} {host : H} → IsDurableFile m file host
    → (IsTrue m.tells → IsUnfinished ((m.contents host).file file)) → IsUnfinishedNow m file host
unfinished_durable m durable unfinished = record {
  reads = λ _. tt;
  images = λ image honest is.
      subst IsUnfinished (sym (durable image honest is)) (unfinished (m.tells_if_honest honest));
}
