use Rattle.std.proofs.Common.{◌≡◌, ℕ, ◌+◌, ◌*◌, ◌<◌, List, [], ◌∷◌, ◌++◌, length, get_or, set, arith, sym, ap, ◌∙◌, subst, inl, inr}
use Rattle.std.specs.Prelude.{◌≢◌}
use Rattle.std.proofs.lemmas.Bool.{cases_lt, eq-eqb, eqb-true}
use Rattle.nb_walk.specs.declared.group.Own.{Own}
use Rattle.nb_walk.specs.Group.{own_items}
use Rattle.nb_walk.proofs.Runs.{any_default}
use Rattle.nb_walk.proofs.Blocks.{SharedOut, out_pass, out_take, out_keep, out_each, out_some, block_within}
use Rattle.nb_walk.proofs.alone.share_out.Goals.{then-has+then-is_empty, then-has+else-is_empty, else-has}
use Rattle.nb_walk.proofs.alone.share_out.Goals as goal

pub loop-i-preserved : goal.loop-i-preserved
loop-i-preserved c =
    let e = c.args.entry.now in
    let old = c.args.owns.now in
    let now = c.loop-i.owns in
    let i = c.loop-i.i in
    let others = c.loop-i.others in
    let Out : List Own → ℕ → Type 0 = λ owns more. SharedOut e old owns (i + 1) more in
    let first = c.loop-i.auto.i in
    let test = c.loop-i-test.true in
    let end = c.min-end.ensures in
    let count = c.loop-i.invariant.count in
    let last : i < e.block * 64 + 64 = omega arith in
    let within : i < length now = omega arith in
    elim c.if-has.branch [
      | then-has+then-is_empty w ↦
          let d = w.index-owns-i.result in
          let left = sym c.has.ensures ∙ w.if-has.true in
          let none = eqb-true (length (own_items (get_or now i d))) 0 (sym w.is_empty.ensures ∙ w.if-is_empty.true) in
          let f = w.index-owns-i-then-is_empty.result in
          let o : Own = record { items = w.push.new.self; need = (get_or now i f).need } in
          let pushed : own_items o ≡ own_items (get_or now i d) ++ e.item ∷ [] = w.push.ensures.items ∙ ap (λ p. own_items p ++ e.item ∷ []) (any_default now i f d within) in
          subst (λ l. Out l c.if-has.others) (sym w.owns-is) (subst (λ n. Out (set now i o) n) (sym w.others-is)
          (out_take e old now i others first last c.loop-i.invariant o d left within c.requires.small none pushed))
      | then-has+else-is_empty w ↦
          let d = w.index-owns-i.result in
          let left = sym c.has.ensures ∙ w.if-has.true in
          let some : length (own_items (get_or now i d)) ≢ 0 = λ none.
          let is = eq-eqb (length (own_items (get_or now i d))) 0 none in
          let isnt = sym w.is_empty.ensures ∙ w.if-is_empty.false in
          (let both = sym isnt ∙ is in cc) in
          subst (λ l. Out l c.if-has.others) (sym w.owns-is) (subst (λ n. Out now n) (sym w.others-is)
          (out_keep e old now i others first last c.loop-i.invariant w.with-others.result d left within some w.with-others.ensures.sets w.with-others.ensures.below))
      | else-has w ↦
          let left = sym c.has.ensures ∙ w.if-has.false in
          subst (λ l. Out l c.if-has.others) (sym w.owns-is) (subst (λ n. Out now n) (sym w.others-is)
          (out_pass e old now i others first last c.loop-i.invariant left))
    ]

pub returns-clause-shares : goal.returns-clause-shares
returns-clause-shares c =
    let first = block_within (length c.args.owns.now) c.args.entry.now c.requires.shared in
    let end = c.min-end.ensures in
    let past = c.loop-i-test.false in
    out_each c.args.entry.now c.args.owns.now c.loop-i.owns c.loop-i.i c.loop-i.others c.requires.shared c.loop-i.invariant
    (elim (cases_lt (length c.args.owns.now) (c.args.entry.now.block * 64 + 64)) [ inl few ↦ inl (let to_end = c.loop-i.auto.i-end (omega arith) in omega arith) | inr many ↦ inr (let to_end = c.loop-i.auto.i-end (omega arith) in omega arith) ])

pub returns-clause-some : goal.returns-clause-some
returns-clause-some c =
    let first = block_within (length c.args.owns.now) c.args.entry.now c.requires.shared in
    let end = c.min-end.ensures in
    let to_end = c.loop-i.auto.i-end (omega arith) in
    out_some c.args.entry.now c.args.owns.now c.loop-i.owns c.loop-i.i c.loop-i.others c.requires.shared c.loop-i.invariant (omega arith) (omega arith)
