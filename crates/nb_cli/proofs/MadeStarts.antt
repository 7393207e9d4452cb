-- What was made can be started: what the files spell, and why a run of it isn't refused.
use Rattle.std.proofs.Common.{◌≡◌, ◌⊎◌, inl, inr, ℕ, zero, suc, ◌+◌, ◌-◌, ◌*◌, ◌/◌, ◌^◌, ◌<◌, ◌≤◌, max, Ok, None, List, [], ◌∷◌, length, refl, sym, ap, subst, ◌∙◌, arith}
use Rattle.std.proofs.lemmas.Bool.{cond-false, lt-leb}
use Rattle.std.proofs.lemmas.List.{length_push}
use Rattle.std.proofs.lemmas.List.Sums.{sum_by_push}
use Rattle.std.proofs.Math.Nat.{mul-le-mul_left, div-mul-le_self, div-le_self}
use Rattle.nb_model.specs.Limits.{gm_limit}
use Rattle.nb_model.specs.Octree.{total_mass}
use Rattle.nb_model.specs.Valid.{AreInRange}
use Rattle.nb_format.specs.ParamsText.{params_of}
use Rattle.nb_format.proofs.CanonicalParams.{params_of-without_edge}
use Rattle.nb_journal.specs.Form.{IsFresh}
use Rattle.nb_journal.specs.Offsets.{journal_file}
use Rattle.nb_engine.specs.declared.refusal.Refusal.{Refusal}
use Rattle.nb_engine.specs.declared.refusal.Refusal.TheVariants as refusal
use Rattle.nb_engine.specs.Refusal.{NeedsNoCause}
use Rattle.nb_engine.specs.Start.{Start, HasStart, start_refusal, IsStartReady, IsStartRefused, IsOfParameters, IsOfStart}
use Rattle.nb_cli.specs.declared.words.Job.TheVariants as job
use Rattle.nb_cli.specs.Make.{body_at, made_bodies, made_params, made_start, HasMade}
use Rattle.nb_cli.specs.Demo.{IsOfDemo, start_after_make, go_after_start}
use Rattle.nb_cli.proofs.Causes.{one_start, not_refused_job}

pub length-made : (seed n : ℕ) → length (made_bodies seed n) ≡ n
length-made seed zero = refl
length-made seed (suc n) = omega (arith, length_push (made_bodies seed n) (body_at seed n), length-made seed n)

-- the mass of each is at most 1000
mass-made : (seed n : ℕ) → total_mass (made_bodies seed n) ≤ 1000 * n
mass-made seed zero = omega arith
mass-made seed (suc n) =
    let push = sum_by_push (λ b. b.mass) (made_bodies seed n) (body_at seed n) in
    let small : (body_at seed n).mass ≤ 1000 = omega arith in
    omega (arith, push, small, mass-made seed n)

-- the parameters are in range, and the bodies aren't too heavy
grav-made : (count : ℕ) → (made_params count).grav * (1000 * max count 1) ≤ 2 ^ 60 - 1
grav-made count = div-mul-le_self (2 ^ 60 - 1) (1000 * max count 1)

pub made_in_range : (count : ℕ) → AreInRange (made_params count)
made_in_range count = record {
  grav = omega (arith, div-le_self (2 ^ 60 - 1) (1000 * max count 1));
  theta_num = omega arith;
  some_theta_den = omega arith;
  theta_den = omega arith;
  some_soft = omega arith;
  soft = omega arith;
  some_leaf = omega arith;
  leaf = omega arith;
  some_every = omega arith;
  every = omega arith;
}

made_light : (seed count : ℕ) → start_refusal (made_params count) (made_bodies seed count) ≡ None
made_light seed count =
    let grav = (made_params count).grav in
    let mass : total_mass (made_bodies seed count) ≤ 1000 * max count 1 = omega (arith, mass-made seed count) in
    let less = mul-le-mul_left grav mass in
    let below : grav * total_mass (made_bodies seed count) < gm_limit = omega (arith, less, grav-made count) in
    cond-false _ _ _ (lt-leb _ _ below)

-- What was made spells the start.
pub made_has_start : (seed count : ℕ) (files : ℕ → List ℕ) → HasMade seed count files → HasStart files (made_start seed count)
made_has_start seed count files made = record {
  parameters = ap params_of made.params ∙ params_of-without_edge (made_params count) (made_in_range count);
  snapshot = made.init;
}

pub made_ready : (seed count : ℕ) (files : ℕ → List ℕ) → HasMade seed count files → IsFresh (files journal_file)
    → IsStartReady files (made_start seed count)
made_ready seed count files made fresh = record {
  fresh = fresh;
  starts = made_has_start seed count files made;
  light = made_light seed count;
}

-- and no other
pub made_only : {files : ℕ → List ℕ} {start : Start} (seed count : ℕ) → HasMade seed count files → IsStartReady files start
    → start ≡ made_start seed count
made_only {files = files} seed count made ready = one_start ready.starts (made_has_start seed count files made)

-- ---- refusals of the sessions behind it

pub start_device : (why : Refusal) → start_after_make why ≡ refusal.Device → why ≡ refusal.Device
start_device (refusal.Params error) same = absurd (cc)
start_device (refusal.Snapshot error) same = absurd (cc)
start_device (refusal.TooHeavy grav mass) same = absurd (cc)
start_device refusal.NotStarted same = absurd (cc)
start_device refusal.Started same = absurd (cc)
start_device (refusal.LegOpen target time) same = absurd (cc)
start_device (refusal.TickLimit ticks) same = absurd (cc)
start_device refusal.InitThere same = absurd (cc)
start_device (refusal.TooMany count) same = absurd (cc)
start_device refusal.Device same = refl
start_device (refusal.Damaged page) same = absurd (cc)
start_device refusal.NoMemory same = absurd (cc)

pub go_device : (why : Refusal) → go_after_start why ≡ refusal.Device → why ≡ refusal.Device
go_device (refusal.Params error) same = absurd (cc)
go_device (refusal.Snapshot error) same = absurd (cc)
go_device (refusal.TooHeavy grav mass) same = absurd (cc)
go_device refusal.NotStarted same = absurd (cc)
go_device refusal.Started same = absurd (cc)
go_device (refusal.LegOpen target time) same = absurd (cc)
go_device (refusal.TickLimit ticks) same = absurd (cc)
go_device refusal.InitThere same = absurd (cc)
go_device (refusal.TooMany count) same = absurd (cc)
go_device refusal.Device same = refl
go_device (refusal.Damaged page) same = absurd (cc)
go_device refusal.NoMemory same = absurd (cc)

pub start_needless : (why : Refusal) → NeedsNoCause why → NeedsNoCause (start_after_make why)
start_needless why (inl device) = inl (ap start_after_make device)
start_needless why (inr memory) = inr (ap start_after_make memory)

pub go_needless : (why : Refusal) → NeedsNoCause why → NeedsNoCause (go_after_start why)
go_needless why (inl device) = inl (ap go_after_start device)
go_needless why (inr memory) = inr (ap go_after_start memory)

-- `start` isn't refused by what was made
pub made_starts : (seed count : ℕ) (files : ℕ → List ℕ) (why : Refusal) → HasMade seed count files → IsFresh (files journal_file)
    → NeedsNoCause why ⊎ IsStartRefused files why → NeedsNoCause (start_after_make why)
made_starts seed count files why made fresh (inl needless) = start_needless why needless
made_starts seed count files why made fresh (inr refused) =
    absurd (not_refused_job files (job.Start 4) why (made_start seed count, made_ready seed count files made fresh) refused)

pub start_of_demo : (why : Refusal) → IsOfStart why → IsOfDemo (start_after_make why)
start_of_demo (refusal.Params error) of_start = tt
start_of_demo (refusal.Snapshot error) of_start = tt
start_of_demo (refusal.TooHeavy grav mass) of_start = tt
start_of_demo refusal.Started of_start = tt
start_of_demo refusal.Device of_start = tt
start_of_demo (refusal.Damaged page) of_start = tt
start_of_demo refusal.NoMemory of_start = tt
start_of_demo _ of_start = absurd of_start

pub parameters_of_demo : (why : Refusal) → IsOfParameters why → IsOfDemo (start_after_make why)
parameters_of_demo (refusal.Params error) of_parameters = tt
parameters_of_demo refusal.Device of_parameters = tt
parameters_of_demo refusal.NoMemory of_parameters = tt
parameters_of_demo _ of_parameters = absurd of_parameters
