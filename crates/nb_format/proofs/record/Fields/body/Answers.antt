use Rattle.std.proofs.Common.{◌≡◌, refl, rules, arith}
use Rattle.std.proofs.lemmas.Bool.{false≢true, cases_eq, eqb-false}
use Rattle.std.proofs.Math.Logic.{⊎_elim}
use Rattle.nb_format.proofs.RecordRefusals.{mass_is, flag_is, place_is, speed_is}
use Rattle.nb_format.proofs.record.Fields.body.Goals as goal

pub returns-then-self-eq0-clause-refusal : goal.returns-then-self-eq0-clause-refusal
returns-then-self-eq0-clause-refusal c = mass_is c.args.index c.args.self c.if-self-eq0.true

pub returns-then-not-is_flag-clause-refusal : goal.returns-then-not-is_flag-clause-refusal
returns-then-not-is_flag-clause-refusal c =
    flag_is c.args.index c.args.self c.if-self-eq0.false (λ small. false≢true (c.if-not-is_flag.ensures.1 small))

pub returns-then-not-is_in_box-clause-refusal : goal.returns-then-not-is_in_box-clause-refusal
returns-then-not-is_in_box-clause-refusal c =
    place_is c.args.index c.args.self c.if-self-eq0.false (c.if-not-is_flag.ensures.0 refl)
    (λ in_box. false≢true (c.if-not-is_in_box.ensures.1 in_box))

pub returns-then-not-may_move-clause-refusal : goal.returns-then-not-may_move-clause-refusal
returns-then-not-may_move-clause-refusal c =
    let small = c.if-not-is_flag.ensures.0 refl in
    let flag : c.args.self.flag ≡ 0 =
    ⊎_elim (λ one. absurd (false≢true (c.if-not-may_move.ensures.1 (λ in_box. absurd (eqb-false _ _ in_box one))))) (λ other. omega arith) (cases_eq c.args.self.flag 1) in
    speed_is c.args.index c.args.self c.if-self-eq0.false flag (c.if-not-is_in_box.ensures.0 refl)
    (λ slow. false≢true (c.if-not-may_move.ensures.1 (λ _. slow)))

pub returns-clause-stored : goal.returns-clause-stored
returns-clause-stored c = record {
  valid = record {
    some_mass = omega arith;
    mass = omega arith;
    at = c.if-not-is_in_box.ensures.0 refl;
    speed = c.if-not-may_move.ensures.0 refl;
  };
  id = omega arith;
  velocity = record { x = search rules; y = search rules; z = search rules };
}
