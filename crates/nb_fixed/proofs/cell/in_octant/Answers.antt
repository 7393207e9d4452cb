use Rattle.std.proofs.Common.{◌≡◌, ℕ, ◌+◌, ◌<◌, ◌==◌, Bool, true, false, cond, pos, List, [], ◌∷◌, ◌++◌, length, get_or, take, map, append-nil, Vec, Global, ap, sym, ◌∙◌, arith}
use Rattle.std.proofs.lemmas.Bool.{eq-eqb, ne_eqb}
use Rattle.std.proofs.lemmas.List.{get_or-map}
use Rattle.std.proofs.lemmas.List.Elements.{filter_more}
use Rattle.std.proofs.lemmas.Grind.{common_steps}
use Rattle.nb_model.specs.declared.body.Body.{Body}
use Rattle.nb_model.specs.Octree.{octant_at, in_octant}
use Rattle.nb_fixed.proofs.cell.in_octant.Goals as goal
use Rattle.nb_fixed.proofs.cell.in_octant.Goals.{then-octants-i+in_ok-push, else-octants-i}

abbrev none : Body
none = record { id = 0; mass = 0; out = false; at = record { x = 0; y = 0; z = 0 }; v = record { x = pos 0; y = pos 0; z = pos 0 } }

-- one body more, by whether it lies in the octant
in_octant_more : (level o i : ℕ) (bodies : List Body) (d : Body) (test : Bool) → i < length bodies → (octant_at level (get_or bodies i d).at == o) ≡ test → in_octant level (take (i + 1) bodies) o ≡ in_octant level (take i bodies) o ++ cond test (get_or bodies i d ∷ []) []
in_octant_more level o i bodies d test inside e =
    filter_more (λ b. octant_at level b.at == o) bodies i d inside ∙ ap (λ t. in_octant level (take i bodies) o ++ cond t (get_or bodies i d ∷ []) []) e

octant_read : (level i : ℕ) (bodies : List Body) (octants : List ℕ) (d : Body) → i < length bodies → octants ≡ map (λ b. octant_at level b.at) bodies → get_or octants i 0 ≡ octant_at level (get_or bodies i d).at
octant_read level i bodies octants d inside are =
    ap (λ os. get_or os i 0) are ∙ get_or-map (λ b. octant_at level b.at) bodies i d 0 inside

pub loop-i-preserved : goal.loop-i-preserved
loop-i-preserved c = λ level are.
    let bodies = c.args.bodies.now in
    let octants = c.args.octants.now in
    let o = c.args.octant in
    let i = c.loop-i.i in
    let inside : i < length bodies = omega arith in
    let so_far : c.loop-i.part.items ≡ in_octant level (take i bodies) o = c.loop-i.invariant level are in
    let read = octant_read level i bodies octants none inside are in
    elim c.if-octants-i.branch [
      | then-octants-i+in_ok-push w ↦ let more = in_octant_more level o i bodies none true inside (eq-eqb (octant_at level (get_or bodies i none).at) o (sym read ∙ w.if-octants-i.true)) in let pushed : w.push.new.self.items ≡ c.loop-i.part.items ++ (get_or bodies i none ∷ []) = grind (arith, common_steps) in ap (λ (v : Vec Body Global). v.items) w.part-is ∙ pushed ∙ ap (λ (xs : List Body). xs ++ (get_or bodies i none ∷ [])) so_far ∙ sym more
      | else-octants-i w ↦ let more = in_octant_more level o i bodies none false inside (ne_eqb (octant_at level (get_or bodies i none).at) o (λ e. w.if-octants-i.false (read ∙ e))) in ap (λ (v : Vec Body Global). v.items) w.part-is ∙ so_far ∙ sym (more ∙ append-nil (in_octant level (take i bodies) o))
    ]
