use Rattle.std.proofs.Common.{◌≡◌, ◌⊎◌, inl, inr, List, [], ◌∷◌, Err, refl, sym, ap, ◌∙◌, arith, rules}
use Rattle.nb_model.specs.declared.body.Body.{Body}
use Rattle.nb_cache.proofs.Callers.{ran_more}
use Rattle.nb_record.proofs.Callers.{different_ids}
use Rattle.nb_tick.specs.Slots.{slot_of, drifted_file}
use Rattle.nb_engine.specs.declared.init_file.Census.{Census}
use Rattle.nb_engine.specs.Files.{init_file}
use Rattle.nb_engine.specs.Reading.{IsPlanned}
use Rattle.nb_engine.specs.Refusal.{NeedsNoCause, of_cache, of_order}
use Rattle.nb_engine.specs.Snapshots.{IsPageDamaged}
use Rattle.nb_engine.specs.Start.{IsReadPlace, IsLaidPlace}
use Rattle.nb_engine.proofs.CachedCalls.{went_none, went_on, went_to, went_as, among_none, among_of}
use Rattle.nb_engine.proofs.SecondReadings.{order_is_fault, cache_is_fault, cause_more, order_cause}
use Rattle.nb_engine.proofs.run_start.lay_bodies.Goals as goal

pub returns-in_err-census-clause-ran : goal.returns-in_err-census-clause-ran
returns-in_err-census-clause-ran g c =
    let files = slot_of 0 ∷ drifted_file ∷ [] in
    went_to (went_none g.H.Host.meaning files c.args.cache.now c.args.host.now c.requires.in_step)
    (ran_more (among_of files (1, omega arith, refl)) c.read_again.ensures.ran) (λ faulted. search rules) (λ fault. search rules)

pub returns-in_err-census-clause-cause : goal.returns-in_err-census-clause-cause
returns-in_err-census-clause-cause g c =
    let m = g.H.Host.meaning in
    let plan = c.args.plan.now in
    let Holds : List Body → Type 0 = λ bodies. IsPlanned plan bodies ((m.contents c.args.host.now).file init_file) in
    let These = IsReadPlace plan.census.count in
    let Those = IsLaidPlace plan.census.count in
    let why = c.in_err-census.field-0.0 in
    let handed_on : c.from_residual.result ≡ Err why = search rules in
    let cause : NeedsNoCause why ⊎ IsPageDamaged m Those Holds why =
    cause_more These Those Holds Holds c.in_err-census.ensures.cause (λ page at. inl at) (λ told bodies holds. holds) in
    rw handed_on cause

-- Where they can't be sorted.

pub returns-in_err-reorder-clause-cause : goal.returns-in_err-reorder-clause-cause
returns-in_err-reorder-clause-cause g c =
    let m = g.H.Host.meaning in
    let plan = c.args.plan.now in
    let Holds : List Body → Type 0 = λ bodies. IsPlanned plan bodies ((m.contents c.args.host.now).file init_file) in
    let to_is : c.file.result ≡ slot_of 0 = c.file.ensures ∙ c.of.ensures in
    let error = c.in_err-reorder.field-0.0 in
    let handed_on : c.from_residual-in_err-reorder.result ≡ Err (of_order error) = search rules in
    let At = IsLaidPlace plan.census.count in
    let cause : NeedsNoCause (of_order error) ⊎ IsPageDamaged m At Holds (of_order error) =
    order_cause At Holds error (λ name is.
    let bad = c.reorder.ensures.damaged name (c.in_err-reorder.was ∙ ap Err is) in
    let read : At name = elim bad.file [ inl from ↦ inr (inl from) | inr to ↦ inr (inr (to ∙ to_is)) ] in (
      read,
      λ told bodies planned.
          bad.listed told bodies (c.in_ok-census.ensures.read told bodies planned)
          (sym (ap (λ (x : Census). x.count) (c.in_ok-census.ensures.same ∙ planned.census))) (different_ids bodies planned.snapshot.stored.ids),
    )) in
    rw handed_on cause

pub returns-in_err-reorder-clause-ran : goal.returns-in_err-reorder-clause-ran
returns-in_err-reorder-clause-ran g c =
    let files = slot_of 0 ∷ drifted_file ∷ [] in
    let to_is : c.file.result ≡ slot_of 0 = c.file.ensures ∙ c.of.ensures in
    let error = c.in_err-reorder.field-0.0 in
    let handed_on : c.from_residual-in_err-reorder.result ≡ Err (of_order error) = search rules in
    let read = went_on (went_none g.H.Host.meaning files c.args.cache.now c.args.host.now c.requires.in_step)
    (ran_more (among_of files (1, omega arith, refl)) c.read_again.ensures.ran) (search rules) in
    went_to read (ran_more (among_of files (0, omega arith, sym to_is)) c.reorder.ensures.ran)
    (λ faulted. c.in_err-reorder.was ∙ ap Err (order_is_fault error (cc))) (λ fault. search rules)

-- Where they are flushed.

pub returns-in_err-flush-clause-ran : goal.returns-in_err-flush-clause-ran
returns-in_err-flush-clause-ran g c =
    let files = slot_of 0 ∷ drifted_file ∷ [] in
    let to_is : c.file.result ≡ slot_of 0 = c.file.ensures ∙ c.of.ensures in
    let error = c.in_err-flush.field-0.0 in
    let handed_on : c.from_residual-in_err-flush.result ≡ Err (of_cache error) = search rules in
    let read = went_on (went_none g.H.Host.meaning files c.args.cache.now c.args.host.now c.requires.in_step)
    (ran_more (among_of files (1, omega arith, refl)) c.read_again.ensures.ran) (search rules) in
    let sorted = went_on read (ran_more (among_of files (0, omega arith, sym to_is)) c.reorder.ensures.ran) (search rules) in
    went_to sorted (ran_more (among_none files) c.flush.ensures.ran)
    (λ faulted. c.in_err-flush.was ∙ ap Err (cache_is_fault error (cc))) (λ fault. search rules)

pub returns-clause-ran : goal.returns-clause-ran
returns-clause-ran g c =
    let files = slot_of 0 ∷ drifted_file ∷ [] in
    let to_is : c.file.result ≡ slot_of 0 = c.file.ensures ∙ c.of.ensures in
    let read = went_on (went_none g.H.Host.meaning files c.args.cache.now c.args.host.now c.requires.in_step)
    (ran_more (among_of files (1, omega arith, refl)) c.read_again.ensures.ran) (search rules) in
    let sorted = went_on read (ran_more (among_of files (0, omega arith, sym to_is)) c.reorder.ensures.ran) (search rules) in
    went_as (went_on sorted (ran_more (among_none files) c.flush.ensures.ran) (search rules)) (λ faulted. absurd (cc))
