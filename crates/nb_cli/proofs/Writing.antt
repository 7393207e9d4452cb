-- What a snapshot writer has taken so far.
use Rattle.std.proofs.Common.{◌≡◌, ℕ, List, [], ◌∷◌, ◌++◌, length, length-append, sym, subst, ◌∙◌, arith, IsTrue, Bool}
use Rattle.nb_model.specs.declared.body.Body.{Body}
use Rattle.nb_host.specs.Image.{Image, FileBecomes}
use Rattle.nb_host.specs.Meaning.{HostModel, Leads}
use Rattle.nb_host.proofs.Callers.{becomes_then, leads_more, leads_again}
use Rattle.nb_format.specs.declared.snap_writer.Filling.{Filling}
use Rattle.nb_format.specs.Reader.{last_of}
use Rattle.nb_format.specs.Writer.{SnapshotPlan, plan_of, added_count, last_added, IsEmptyFilling, HasOneMore, HasFilled, shut_bytes, IsBegun}
use Rattle.nb_cli.specs.Once.{once_file}
use Rattle.nb_cli.specs.OnceAnswer.{BecomesAny}
use Rattle.nb_format.proofs.Reading.{last_of-push}

-- the snapshot that `once` writes
abbrev pub once_plan : ℕ → ℕ → SnapshotPlan
once_plan count when = record { file = once_file; count = count; time = when }

-- The writer has taken these bodies, over any host; and they are what the file holds, where the host tells.
pub record HasTaken (tells : Bool) (now : Image) (count when : ℕ) (filling : Filling) (bodies : List Body) : Type 0 where
  pub plan : plan_of filling ≡ once_plan count when
  pub added : added_count filling ≡ length bodies
  pub last : last_added filling ≡ last_of bodies
  pub filled : IsTrue tells → HasFilled filling (now.file (plan_of filling).file) bodies

-- whatever the writer does, the file of `once` becomes anything
pub becomes_any : {H : Type 0} {m : HostModel H} {P : List ℕ → List ℕ → Type 0} {old new : H} {number : ℕ} → number ≡ once_file
    → Leads m (FileBecomes number P) old new → Leads m (FileBecomes once_file BecomesAny) old new
becomes_any {m = m} {P = P} {old = old} {new = new} here leads =
    let R : ℕ → Type 0 = λ n. Leads m (FileBecomes n P) old new in
    leads_more (subst R here leads)
    (λ start image becomes. record { file = tt; others = becomes.others; said = becomes.said })

-- calls of the writer after others
pub any_then : {H : Type 0} {m : HostModel H} {P : List ℕ → List ℕ → Type 0} {old middle new : H} {number : ℕ} → number ≡ once_file
    → Leads m (FileBecomes once_file BecomesAny) old middle → Leads m (FileBecomes number P) middle new
    → Leads m (FileBecomes once_file BecomesAny) old new
any_then here first second =
    leads_again (λ a b c one two. becomes_then one two (λ _ _ _ _ _. tt)) first (becomes_any here second)

pub HasTaken-none : {tells : Bool} {middle now : Image} {count when : ℕ} {filling : Filling} {plan : SnapshotPlan}
    → plan ≡ once_plan count when → IsEmptyFilling plan filling → (IsTrue tells → FileBecomes plan.file (IsBegun plan) middle now)
    → HasTaken tells now count when filling []
HasTaken-none {now = now} {plan = plan} planned empty begun = record {
  plan = empty.plan ∙ planned;
  added = empty.added;
  last = empty.last;
  filled = λ told. record {
    spelled = let S : SnapshotPlan → Type 0 = λ p. now.file p.file ≡ shut_bytes p [] in subst S (sym empty.plan) (begun told).file;
    added = empty.added;
    last = empty.last;
    stored = record { each = λ k d below. absurd (omega arith); ids = λ k below. absurd (omega arith); count = omega arith };
  };
}

pub HasTaken-more : {tells : Bool} {middle now : Image} {count when : ℕ} {filling next : Filling} {bodies : List Body} {body : Body}
    → HasTaken tells middle count when filling bodies → HasOneMore body filling next
    → (IsTrue tells → HasFilled filling (middle.file (plan_of filling).file) bodies → HasFilled next (now.file (plan_of filling).file) (bodies ++ body ∷ []))
    → HasTaken tells now count when next (bodies ++ body ∷ [])
HasTaken-more {now = now} {next = next} {bodies = bodies} {body = body} taken more filled = record {
  plan = more.plan ∙ taken.plan;
  added = omega (arith, length-append bodies (body ∷ []));
  last = more.last ∙ sym (last_of-push bodies body);
  filled = λ told. let P : SnapshotPlan → Type 0 = λ p. HasFilled next (now.file p.file) (bodies ++ body ∷ []) in subst P (sym more.plan) (filled told (taken.filled told));
}
