use Rattle.std.proofs.Common.{refl, sym, ap, subst, ◌∙◌, ◌<◌, ◌≤◌, ℕ}
use Rattle.std.specs.Int.{w64, to_le_bytes}
use Rattle.std.proofs.lemmas.Bool.{false≢true}
use Rattle.nb_model.specs.Limits.{most_bodies}
use Rattle.nb_format.proofs.Offsets.{u64_at-spells}
use Rattle.nb_format.proofs.HeaderBytes.{header_from_fields}
use Rattle.nb_format.proofs.HeaderRefusals.{unfinished_is, magic_is, count_is, zeros_is}
use Rattle.nb_format.proofs.header.decode.Goals as goal

pub returns-then-bytes-ne-GATE-clause-refusal : goal.returns-then-bytes-ne-GATE-clause-refusal
returns-then-bytes-ne-GATE-clause-refusal c = unfinished_is c.args.bytes.now c.if-bytes-ne-GATE.true

pub returns-then-not-stands_at-clause-refusal : goal.returns-then-not-stands_at-clause-refusal
returns-then-not-stands_at-clause-refusal c =
    magic_is c.args.bytes.now c.if-bytes-ne-GATE.false (λ named. false≢true (c.if-not-stands_at.ensures.1 named))

pub returns-then-count-gt-MOST_BODIES-clause-refusal : goal.returns-then-count-gt-MOST_BODIES-clause-refusal
returns-then-count-gt-MOST_BODIES-clause-refusal c =
    let count = u64_at-spells c.args.bytes.now 8 _ c.u64_at-count.type_inv c.u64_at-count.ensures in
    count_is c.args.bytes.now c.if-bytes-ne-GATE.false (c.if-not-stands_at.ensures.0 refl)
    (subst (λ (n : ℕ). most_bodies < n) (sym count) c.if-count-gt-MOST_BODIES.true)

pub returns-then-zeros-ne0-clause-refusal : goal.returns-then-zeros-ne0-clause-refusal
returns-then-zeros-ne0-clause-refusal c =
    let count = u64_at-spells c.args.bytes.now 8 _ c.u64_at-count.type_inv c.u64_at-count.ensures in
    let zeros = u64_at-spells c.args.bytes.now 24 _ c.u64_at-zeros.type_inv c.u64_at-zeros.ensures in
    zeros_is c.args.bytes.now c.if-bytes-ne-GATE.false (c.if-not-stands_at.ensures.0 refl)
    (subst (λ (n : ℕ). n ≤ most_bodies) (sym count) c.if-count-gt-MOST_BODIES.false) (λ zero. c.if-zeros-ne0.true (sym zeros ∙ zero))

pub returns-clause-header : goal.returns-clause-header
returns-clause-header c = record {
  spelled = header_from_fields c.args.bytes.now _ _ c.told-bytes (record {
    opened = c.if-bytes-ne-GATE.false;
    named = c.if-not-stands_at.ensures.0 refl;
    counted = c.u64_at-count.ensures;
    timed = c.u64_at-time.ensures;
    zeros = c.u64_at-zeros.ensures ∙ ap (to_le_bytes w64) c.if-zeros-ne0.false;
  });
  few = c.if-count-gt-MOST_BODIES.false;
  fits = c.u64_at-time.type_inv;
}
