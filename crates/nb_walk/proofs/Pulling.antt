-- The interaction list by angle pulls as the definition's force does.
use Rattle.std.proofs.Common.{◌≡◌, ℕ, zero, suc, ◌+◌, ◌-◌, ◌*◌, ◌<◌, ◌≤◌, ◌↔◌, eqb, true, false, not, ◌&&◌, List, [], ◌∷◌, ◌++◌, length, map, sym, ap, ◌∙◌, refl, arith, subst, inl, inr}
use Rattle.std.specs.Prelude.{◌≢◌, IsTrue, All}
use Rattle.std.specs.List.{flat_map}
use Rattle.std.proofs.lemmas.Bool.{cases_lt, eq-eqb}
use Rattle.std.proofs.lemmas.List.{map-append}
use Rattle.std.proofs.lemmas.List.Concat.{flat_map-cons}
use Rattle.std.proofs.lemmas.List.Elements.{All-head, All-tail, All-filter}
use Rattle.nb_model.specs.declared.body.At.{At}
use Rattle.nb_model.specs.declared.body.Body.{Body}
use Rattle.nb_model.specs.declared.params.Params.{Params}
use Rattle.nb_model.specs.Valid.{IsInBox}
use Rattle.nb_model.specs.Vector.{plus, vector_sum}
use Rattle.nb_model.specs.Octree.{in_octant, is_same_cell, total_mass, centre_of_mass}
use Rattle.nb_model.specs.Gravity.{pull, is_far, is_accepted, direct_sum, octants, force_on}
use Rattle.nb_model.proofs.Facts.{force_on-nil, force_on-accepted, force_on-small_leaf, force_on-deepest_leaf, force_on-divided}
use Rattle.nb_key.specs.Morton.{key_at, IsKeyAt}
use Rattle.nb_key.proofs.Levels.{child_at}
use Rattle.nb_key.proofs.Ranges.{same_cell}
use Rattle.nb_record.specs.Order.{by_key}
use Rattle.nb_record.specs.Cells.{in_cell}
use Rattle.nb_model.specs.Leapfrog.{unescaped}
use Rattle.std.proofs.lemmas.List.Sorted.{All-permutation}
use Rattle.nb_record.proofs.Callers.{either, filter_yes, plus-zero, vector_sum-cons, vector_sum-append, octants_agree, octant_of_cell, all_in_cell, in_root, permuted, same_force_of_cell}
use Rattle.nb_walk.specs.declared.term.Term.{Term}
use Rattle.nb_walk.specs.declared.term.Term.TheVariants as term
use Rattle.nb_walk.specs.Angle.{by_angle}
use Rattle.nb_walk.specs.Items.{in_order}
use Rattle.nb_walk.specs.Terms.{Acceptance, body_terms, terms_to_depth, term_pull, pulls}
use Rattle.nb_walk.proofs.KeyLevels.{level_is, same_test}
use Rattle.nb_walk.proofs.Ways.{terms_none, terms_accepted, terms_leaf, terms_deepest, terms_parts}

module _ (params : Params) (p : At) where
  pub pulls-append : (xs ys : List Term) → pulls params p (xs ++ ys) ≡ plus (pulls params p xs) (pulls params p ys)
  pulls-append xs ys = ap vector_sum (map-append (term_pull params p) xs ys) ∙ vector_sum-append (map (term_pull params p) xs) (map (term_pull params p) ys)

  pub pulls_one : (t : Term) → pulls params p (t ∷ []) ≡ term_pull params p t
  pulls_one t = vector_sum-cons (term_pull params p t) [] ∙ plus-zero (term_pull params p t)

  pub pulls_bodies : (bs : List Body) → pulls params p (body_terms bs) ≡ direct_sum params p bs
  pulls_bodies bs = ap vector_sum (go bs) where
    go : (bs : List Body) → map (term_pull params p) (body_terms bs) ≡ map (λ b. pull params p b.mass b.at) bs
    go [] = refl
    go (b ∷ bs) = ap (λ l. pull params p b.mass b.at ∷ l) (go bs)

  pulls_flat : (f : ℕ → List Term) (os : List ℕ) → pulls params p (flat_map f os) ≡ vector_sum (map (λ o. pulls params p (f o)) os)
  pulls_flat f [] = refl
  pulls_flat f (o ∷ os) =
      ap (pulls params p) (flat_map-cons f o os)
      ∙ pulls-append (f o) (flat_map f os)
      ∙ ap (plus (pulls params p (f o))) (pulls_flat f os)
      ∙ sym (vector_sum-cons (pulls params p (f o)) (map (λ o. pulls params p (f o)) os))

  abbrev pub angle : Acceptance
  angle = λ key mass centre. by_angle params p key centre

  accepted_is : (level key : ℕ) (bodies : List Body) → IsInBox p → IsKeyAt level key → All (λ b. IsInBox b.at) bodies → All (λ b. key_at level b.at ≡ key) bodies → bodies ≢ []
      → is_accepted params p level bodies ≡ by_angle params p key (centre_of_mass bodies)
  accepted_is level key [] within at box keys some = absurd (some refl)
  accepted_is level key (b ∷ bs) within at box keys some =
      let cs = b ∷ bs in
      let b_key = All-head (λ c. key_at level c.at ≡ key) b bs keys in
      let same = same_cell level p b.at at.deepest within (All-head (λ c. IsInBox c.at) b bs box) in
      let holds : IsTrue (is_same_cell level p b.at) ↔ (key_at level p ≡ key) = (λ t. same.1 t ∙ b_key, λ e. same.0 (e ∙ sym b_key)) in
      let test = same_test (is_same_cell level p b.at) (key_at level p) key holds in
      ap (λ t. not t && is_far params p level (centre_of_mass cs)) test
      ∙ ap (λ l. not (eqb (key_at l p) key) && is_far params p l (centre_of_mass cs)) (sym (level_is level key at))

  all_here : (level key : ℕ) (bs : List Body) → All (λ b. key_at level b.at ≡ key) bs → in_cell level key bs ≡ bs
  all_here level key [] all = refl
  all_here level key (b ∷ bs) all =
      filter_yes (λ c. eqb (key_at level c.at) key) b bs (eq-eqb (key_at level b.at) key (All-head (λ c. key_at level c.at ≡ key) b bs all))
      ∙ ap (λ l. b ∷ l) (all_here level key bs (All-tail (λ c. key_at level c.at ≡ key) b bs all))

  -- the bodies of a cell
  pub record Own (level key : ℕ) (bodies : List Body) : Type 0 where
    pub at : IsKeyAt level key
    pub box : All (λ b. IsInBox b.at) bodies
    pub keys : All (λ b. key_at level b.at ≡ key) bodies

  abbrev Forces : ℕ → ℕ → ℕ → List Body → Type 0
  Forces depth level key bodies = pulls params p (terms_to_depth angle params.leaf depth key bodies) ≡ force_on params p level bodies

  taken : (depth level key : ℕ) (bodies : List Body) → IsInBox p → Own level key bodies → bodies ≢ [] → by_angle params p key (centre_of_mass bodies) ≡ true → Forces depth level key bodies
  taken depth level key bodies within own some is =
      ap (pulls params p) (terms_accepted angle params.leaf depth key bodies some is)
      ∙ pulls_one (term.Cell (total_mass bodies) (centre_of_mass bodies))
      ∙ sym (force_on-accepted params p level bodies own.at.deepest some (accepted_is level key bodies within own.at own.box own.keys some ∙ is))

  refused : (level key : ℕ) (bodies : List Body) → IsInBox p → Own level key bodies → bodies ≢ [] → by_angle params p key (centre_of_mass bodies) ≡ false → is_accepted params p level bodies ≡ false
  refused level key bodies within own some is = accepted_is level key bodies within own.at own.box own.keys some ∙ is

  small : (depth level key : ℕ) (bodies : List Body) → IsInBox p → Own level key bodies → bodies ≢ [] → by_angle params p key (centre_of_mass bodies) ≡ false → length bodies ≤ params.leaf → Forces depth level key bodies
  small depth level key bodies within own some is few =
      ap (pulls params p) (terms_leaf angle params.leaf depth key bodies some is few)
      ∙ pulls_bodies bodies
      ∙ sym (force_on-small_leaf params p level bodies own.at.deepest few some (refused level key bodies within own some is))

  deepest : (key : ℕ) (bodies : List Body) → IsInBox p → Own 21 key bodies → bodies ≢ [] → by_angle params p key (centre_of_mass bodies) ≡ false → Forces 0 21 key bodies
  deepest key bodies within own some is =
      ap (pulls params p) (terms_deepest angle params.leaf key bodies some is)
      ∙ pulls_bodies bodies
      ∙ sym (force_on-deepest_leaf params p 21 bodies refl some (refused 21 key bodies within own some is))

  part : (level key octant : ℕ) (bodies : List Body) → level < 21 → octant < 8 → Own level key bodies → Own (level + 1) (8 * key + octant) (in_octant level bodies octant)
  part level key octant bodies above below own =
      let whole = all_here level key bodies own.keys in
      let deeper = 8 * key + octant in
      let same : in_octant level bodies octant ≡ in_cell (level + 1) deeper bodies = ap (λ l. in_octant level l octant) (sym whole) ∙ octant_of_cell level key octant bodies below in
      subst (λ l. Own (level + 1) deeper l) (sym same) (record {
        at = subst (λ l. IsKeyAt l deeper) (omega arith) (child_at level key octant own.at above below);
        box = All-filter (λ b. eqb (key_at (level + 1) b.at) deeper) (λ b. IsInBox b.at) bodies own.box;
        keys = all_in_cell (level + 1) deeper bodies;
      })

  divided : (depth level key : ℕ) (bodies : List Body) → level + suc depth ≡ 21 → IsInBox p → Own level key bodies → bodies ≢ [] → by_angle params p key (centre_of_mass bodies) ≡ false → params.leaf < length bodies
      → ((octant : ℕ) → octant < 8 → Forces depth (level + 1) (8 * key + octant) (in_octant level bodies octant)) → Forces (suc depth) level key bodies
  divided depth level key bodies deep within own some is many parts =
      let back : 21 - 1 - depth ≡ level = omega arith in
      ap (pulls params p) (terms_parts angle params.leaf depth key bodies some is many)
      ∙ ap (λ l. pulls params p (flat_map (λ o. terms_to_depth angle params.leaf depth (8 * key + o) (in_octant l bodies o)) octants)) back
      ∙ pulls_flat (λ o. terms_to_depth angle params.leaf depth (8 * key + o) (in_octant level bodies o)) octants
      ∙ ap vector_sum (octants_agree (λ o. pulls params p (terms_to_depth angle params.leaf depth (8 * key + o) (in_octant level bodies o))) (λ o. force_on params p (level + 1) (in_octant level bodies o)) parts)
      ∙ sym (force_on-divided params p level bodies (omega arith) many some (refused level key bodies within own some is))

  some_cons : (b : Body) (bs : List Body) → b ∷ bs ≢ []
  some_cons b bs = λ e. cc

  pub terms_force : (depth level key : ℕ) (bodies : List Body) → level + depth ≡ 21 → IsInBox p → Own level key bodies → Forces depth level key bodies
  terms_force depth level key [] deep within own = ap (pulls params p) (terms_none angle params.leaf depth key) ∙ sym (force_on-nil params p level)
  terms_force zero level key (b ∷ bs) deep within own =
      elim (either (by_angle params p key (centre_of_mass (b ∷ bs)))) [
        | inl is ↦ taken 0 level key (b ∷ bs) within own (some_cons b bs) is
        | inr is ↦
            let there : level ≡ 21 = omega arith in
            subst (λ l. Own l key (b ∷ bs) → Forces 0 l key (b ∷ bs)) (sym there) (λ o. deepest key (b ∷ bs) within o (some_cons b bs) is) own
      ]
  terms_force (suc depth) level key (b ∷ bs) deep within own =
      elim (either (by_angle params p key (centre_of_mass (b ∷ bs)))) [
        | inl is ↦ taken (suc depth) level key (b ∷ bs) within own (some_cons b bs) is
        | inr is ↦ elim (cases_lt params.leaf (length (b ∷ bs))) [
          | inl many ↦ divided depth level key (b ∷ bs) deep within own (some_cons b bs) is many
              (λ octant below. terms_force depth (level + 1) (8 * key + octant) (in_octant level (b ∷ bs) octant) (omega arith) within (part level key octant (b ∷ bs) (omega arith) below own))
          | inr few ↦ small (suc depth) level key (b ∷ bs) within own (some_cons b bs) is few
        ]
      ]

-- the whole list gives the force of the bodies in the box
pub list_force : (params : Params) (p : At) (bodies : List Body) → IsInBox p → All (λ b. IsInBox b.at) bodies → pulls params p (terms_to_depth (angle params p) params.leaf 21 1 (in_order bodies)) ≡ force_on params p 0 (unescaped bodies)
list_force params p bodies within box =
    let all = unescaped bodies in
    let order = in_order bodies in
    let same = permuted by_key all in
    let inside : All (λ b. IsInBox b.at) all = All-filter (λ b. not b.out) (λ b. IsInBox b.at) bodies box in
    let own : Own params p 0 1 order = record {
      at = record { deepest = omega arith; least = omega arith; below = omega arith };
      box = All-permutation (λ b. IsInBox b.at) all order same inside;
      keys = subst (All (λ b. key_at 0 b.at ≡ 1)) (in_root order) (all_in_cell 0 1 order);
    } in
    terms_force params p 21 0 1 order (omega arith) within own
    ∙ ap (force_on params p 0) (sym (in_root order))
    ∙ sym (same_force_of_cell params p 0 1 all order (omega arith) inside same)
    ∙ ap (force_on params p 0) (in_root all)
