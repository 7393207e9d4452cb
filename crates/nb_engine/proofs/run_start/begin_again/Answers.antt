use Rattle.std.proofs.Common.{◌≡◌, ◌⊎◌, inr, ℕ, ◌^◌, ◌<◌, ◌≤◌, List, IsTrue, refl, sym, subst, ap, ◌∙◌}
use Rattle.nb_host.specs.declared.page_name.PageName.{PageName}
use Rattle.nb_model.specs.declared.body.Body.{Body}
use Rattle.nb_model.specs.Limits.{most_bodies}
use Rattle.nb_format.specs.Reader.{count_of, time_of}
use Rattle.nb_engine.specs.declared.init_file.Census.{Census}
use Rattle.nb_engine.specs.declared.refusal.Refusal.{Refusal}
use Rattle.nb_engine.specs.Files.{init_file}
use Rattle.nb_engine.specs.Reading.{IsPlanned}
use Rattle.nb_engine.specs.Refusal.{NeedsNoCause}
use Rattle.nb_engine.specs.Snapshots.{IsPageDamaged}
use Rattle.nb_engine.specs.Start.{init_record_name}
use Rattle.nb_engine.proofs.SecondReadings.{init_broken, second_cause, refused_never, same_count, same_time}
use Rattle.nb_engine.proofs.run_start.begin_again.Goals as goal
use Rattle.nb_engine.proofs.run_start.begin_again.Goals.{then-count-plan-via-then-count-plan, then-count-plan-via-else-count-plan+then-time-plan}

-- Where the header is refused, or isn't the one that was planned with.

pub returns-in-Err-clause-cause : goal.returns-in-Err-clause-cause
returns-in-Err-clause-cause g c =
    let m = g.H.Host.meaning in
    let plan = c.args.plan.now in
    let Holds : List Body → Type 0 = λ bodies. IsPlanned plan bodies ((m.contents c.args.host.now).file init_file) in
    let At : PageName → Type 0 = λ page. page ≡ init_record_name 0 in
    subst (λ (why : Refusal). NeedsNoCause why ⊎ IsPageDamaged m At Holds why) (sym c.second_refusal.ensures)
    (second_cause At Holds c.in-Err.error 0 (λ by. refl)
    (λ by told bodies planned. refused_never (c.in-Err.ensures.first told by) bodies plan.time planned.snapshot))

pub returns-then-count-plan-clause-cause : goal.returns-then-count-plan-clause-cause
returns-then-count-plan-clause-cause g c =
    let m = g.H.Host.meaning in
    let plan = c.args.plan.now in
    let reader = c.in-Ok.reader in
    let Holds : List Body → Type 0 = λ bodies. IsPlanned plan bodies ((m.contents c.args.host.now).file init_file) in
    let never : IsTrue m.tells → (bodies : List Body) → Holds bodies → ⊥ = λ told bodies planned.
    let read = c.in-Ok.ensures.header told in
    let few : count_of reader ≤ most_bodies = c.in-Ok.ensures.start.count in
    let count = same_count read planned.snapshot in
    let planned_count = ap (λ (x : Census). x.count) planned.census in
    elim c.then-count-plan.branch [
      | then-count-plan-via-then-count-plan w ↦ absurd (w.if-count-plan.true (c.count.ensures.value ∙ count ∙ sym planned_count))
      | then-count-plan-via-else-count-plan+then-time-plan w ↦
          let fits : time_of reader < 2 ^ 64 = subst (λ (n : ℕ). n < 2 ^ 64) w.time.ensures w.time.type_inv in
          absurd (w.if-time-plan.true (w.time.ensures ∙ same_time fits few read planned.snapshot))
    ] in
    let At : PageName → Type 0 = λ page. page ≡ init_record_name 0 in
    subst (λ (why : Refusal). NeedsNoCause why ⊎ IsPageDamaged m At Holds why) (sym c.damaged_init.ensures)
    (inr (init_broken At Holds 0 refl never))
