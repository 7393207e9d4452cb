use Rattle.std.proofs.Common.{◌≡◌, ◌⊎◌, inr, ◌^◌, ◌<◌, ◌≤◌, ℕ, IsTrue, List, length, sym, subst, ◌∙◌}
use Rattle.nb_model.specs.declared.body.Body.{Body}
use Rattle.nb_model.specs.Limits.{most_bodies}
use Rattle.nb_format.specs.Reader.{count_of, time_of}
use Rattle.nb_format.specs.Snapshot.{IsSnapshot}
use Rattle.nb_engine.specs.declared.refusal.Refusal.{Refusal}
use Rattle.nb_engine.specs.Refusal.{NeedsNoCause}
use Rattle.nb_cli.specs.Demo.{IsUnlike}
use Rattle.nb_cli.proofs.ReadingBack.{unlike, read_back_cause, refused_never, same_count, same_time}
use Rattle.nb_cli.proofs.demo_command.begin_reading.Goals as goal
use Rattle.nb_cli.proofs.demo_command.begin_reading.Goals.{then-count-via-then-count, then-count-via-else-count+then-time}

pub returns-in-Err-clause-cause : goal.returns-in-Err-clause-cause
returns-in-Err-clause-cause g c =
    let m = g.H.Host.meaning in
    let Written : Type 0 = (bodies : List Body)
    × IsSnapshot ((m.contents c.args.host.now).file c.args.file) bodies c.args.time × (length bodies ≡ c.args.count) in
    subst (λ (why : Refusal). NeedsNoCause why ⊎ IsUnlike m c.args.file Written why) (sym c.unread.ensures)
    (read_back_cause Written c.in-Err.error c.args.file 0
    (λ by told written. refused_never (c.in-Err.ensures.first told by) written.0 c.args.time written.1))

pub returns-then-count-clause-cause : goal.returns-then-count-clause-cause
returns-then-count-clause-cause g c =
    let m = g.H.Host.meaning in
    let reader = c.in-Ok.reader in
    let Written : Type 0 = (bodies : List Body)
    × IsSnapshot ((m.contents c.args.host.now).file c.args.file) bodies c.args.time × (length bodies ≡ c.args.count) in
    let never : IsTrue m.tells → Written → ⊥ = λ told written.
    let has = c.in-Ok.ensures.header told in
    let few : count_of reader ≤ most_bodies = c.in-Ok.ensures.start.count in
    elim c.then-count.branch [
      | then-count-via-then-count w ↦ absurd (w.if-count.true (c.count.ensures.value ∙ same_count has written.1 ∙ written.2))
      | then-count-via-else-count+then-time w ↦
          let fits : time_of reader < 2 ^ 64 = subst (λ (n : ℕ). n < 2 ^ 64) w.time.ensures w.time.type_inv in
          absurd (w.if-time.true (w.time.ensures ∙ same_time fits few has written.1))
    ] in
    subst (λ (why : Refusal). NeedsNoCause why ⊎ IsUnlike m c.args.file Written why) (sym c.damaged.ensures)
    (inr (unlike Written c.args.file 0 never))
