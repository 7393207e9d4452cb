-- What is left, as the terms to come and as sums over the items.
use Rattle.std.proofs.Common.{◌≡◌, ℕ, zero, suc, ◌+◌, ◌-◌, ◌*◌, eqb, true, not, List, [], ◌∷◌, length, map, sym, ap, ◌∙◌, refl, arith, subst, inl, inr}
use Rattle.std.specs.Prelude.{◌≢◌, sum_by, All}
use Rattle.std.specs.List.{flat_map}
use Rattle.std.proofs.lemmas.Bool.{cases_lt}
use Rattle.std.proofs.lemmas.List.Concat.{flat_map-cons}
use Rattle.std.proofs.lemmas.List.Sums.{sum_by-append, sum_by-cons}
use Rattle.std.proofs.lemmas.List.Elements.{All-head, All-tail, All-filter}
use Rattle.std.proofs.lemmas.List.Sorted.{All-permutation, sum_by-IsPermutation}
use Rattle.nb_model.specs.declared.body.At.{At}
use Rattle.nb_model.specs.declared.body.Body.{Body}
use Rattle.nb_model.specs.declared.params.Params.{Params}
use Rattle.nb_model.specs.Valid.{IsInBox}
use Rattle.nb_model.specs.Vector.{plus}
use Rattle.nb_model.specs.Octree.{in_octant, total_mass, centre_of_mass}
use Rattle.nb_model.specs.Gravity.{octants}
use Rattle.nb_model.specs.Leapfrog.{unescaped}
use Rattle.nb_model.proofs.Facts.{total_mass-octants}
use Rattle.nb_key.specs.Morton.{key_at, IsKeyAt}
use Rattle.nb_key.proofs.Levels.{root_is}
use Rattle.nb_record.specs.declared.tree.Tree.{Tree}
use Rattle.nb_record.specs.Order.{by_key}
use Rattle.nb_record.specs.Cells.{in_cell}
use Rattle.nb_record.proofs.Callers.{either, permuted, plus_comm, vector_sum-cons, all_in_cell, same_force_of_cell}
use Rattle.nb_walk.specs.declared.item.Item.{Item}
use Rattle.nb_walk.specs.declared.item.Item.TheVariants as item
use Rattle.nb_walk.specs.declared.term.Term.{Term}
use Rattle.nb_walk.specs.declared.term.Term.TheVariants as term
use Rattle.nb_walk.specs.Angle.{level_of}
use Rattle.nb_walk.specs.Terms.{Acceptance, body_terms, terms_to_depth, term_mass, pulls}
use Rattle.nb_walk.specs.Items.{in_order, bodies_from, item_force, remaining_force, item_mass, remaining_mass, item_terms, remaining_terms}
use Rattle.nb_walk.specs.Left.{IsItemOf, AreItemsOf}
use Rattle.nb_walk.proofs.KeyLevels.{its_level}
use Rattle.nb_walk.proofs.Ways.{remaining-nil, remaining-cons, terms_none, terms_accepted, terms_leaf, terms_deepest, terms_parts, under_permuted}
use Rattle.nb_walk.proofs.Pulling.{angle, Own, pulls-append, pulls_bodies, terms_force}

-- ---- the force

module _ (params : Params) (bodies : List Body) (tree : Tree) (file : List ℕ) (p : At) (within : IsInBox p) (box : All (λ b. IsInBox b.at) bodies) where
  key_level : (key page : ℕ) → IsItemOf params bodies tree file (item.Cell key page) → IsKeyAt (level_of key) key
  key_level key page (inl root) = subst (λ k. IsKeyAt (level_of k) k) (sym root.0) (its_level 1 root_is)
  key_level key page (inr cell) = subst (IsKeyAt (level_of key)) cell.key_is cell.is.key

  item_pulls : (x : Item) → IsItemOf params bodies tree file x → pulls params p (item_terms (angle params p) params.leaf bodies x) ≡ item_force params bodies p x
  item_pulls (item.Cell key page) is =
      let level = level_of key in
      let all = unescaped bodies in
      let order = in_order bodies in
      let at = key_level key page is in
      let same = permuted by_key all in
      let inside : All (λ b. IsInBox b.at) all = All-filter (λ b. not b.out) (λ b. IsInBox b.at) bodies box in
      let deepest = at.deepest in
      let own : Own params p level key (in_cell level key order) = record {
        at = at;
        box = All-filter (λ b. eqb (key_at level b.at) key) (λ b. IsInBox b.at) order (All-permutation (λ b. IsInBox b.at) all order same inside);
        keys = all_in_cell level key order;
      } in
      terms_force params p (21 - level) level key (in_cell level key order) (omega arith) within own
      ∙ sym (same_force_of_cell params p level key all order at.deepest inside same)
  item_pulls (item.Bodies from count) is = pulls_bodies params p (bodies_from bodies from count)

  pub remaining_pulls : (items : List Item) → AreItemsOf params bodies tree file items → pulls params p (remaining_terms (angle params p) params.leaf bodies items) ≡ remaining_force params bodies p items
  remaining_pulls [] are = ap (pulls params p) (remaining-nil (angle params p) params.leaf bodies)
  remaining_pulls (x ∷ xs) are =
      let w = angle params p in
      let rest = remaining_terms w params.leaf bodies xs in
      let here = item_terms w params.leaf bodies x in
      ap (pulls params p) (remaining-cons w params.leaf bodies x xs)
      ∙ pulls-append params p rest here
      ∙ ap (λ v. plus v (pulls params p here)) (remaining_pulls xs (All-tail (IsItemOf params bodies tree file) x xs are))
      ∙ ap (plus (remaining_force params bodies p xs)) (item_pulls x (All-head (IsItemOf params bodies tree file) x xs are))
      ∙ plus_comm (remaining_force params bodies p xs) (item_force params bodies p x)
      ∙ sym (vector_sum-cons (item_force params bodies p x) (map (item_force params bodies p) xs))

-- ---- the mass

mass_of_bodies : (bs : List Body) → sum_by term_mass (body_terms bs) ≡ total_mass bs
mass_of_bodies [] = refl
mass_of_bodies (b ∷ bs) = sum_by-cons term_mass (term.Body b) (body_terms bs) ∙ ap (λ n. b.mass + n) (mass_of_bodies bs) ∙ sym (sum_by-cons (λ c. c.mass) b bs)

mass_flat : (f : ℕ → List Term) (os : List ℕ) → sum_by term_mass (flat_map f os) ≡ sum_by (λ o. sum_by term_mass (f o)) os
mass_flat f [] = refl
mass_flat f (o ∷ os) =
    ap (sum_by term_mass) (flat_map-cons f o os) ∙ sum_by-append term_mass (f o) (flat_map f os) ∙ ap (λ n. sum_by term_mass (f o) + n) (mass_flat f os)
    ∙ sym (sum_by-cons (λ o. sum_by term_mass (f o)) o os)

sums_agree : (f g : ℕ → ℕ) (os : List ℕ) → ((o : ℕ) → f o ≡ g o) → sum_by f os ≡ sum_by g os
sums_agree f g [] same = refl
sums_agree f g (o ∷ os) same = sum_by-cons f o os ∙ ap (λ n. n + sum_by f os) (same o) ∙ ap (λ n. g o + n) (sums_agree f g os same) ∙ sym (sum_by-cons g o os)

module _ (w : Acceptance) (leaf : ℕ) where
  some_cons : (b : Body) (bs : List Body) → b ∷ bs ≢ []
  some_cons b bs = λ e. cc

  accepted_mass : (depth key : ℕ) (bs : List Body) → bs ≢ [] → w key (total_mass bs) (centre_of_mass bs) ≡ true → sum_by term_mass (terms_to_depth w leaf depth key bs) ≡ total_mass bs
  accepted_mass depth key bs some is = ap (sum_by term_mass) (terms_accepted w leaf depth key bs some is) ∙ sum_by-cons term_mass (term.Cell (total_mass bs) (centre_of_mass bs)) [] ∙ plus_zero (total_mass bs) where
    plus_zero : (n : ℕ) → n + 0 ≡ n
    plus_zero n = omega arith

  terms_mass : (depth key : ℕ) (bs : List Body) → sum_by term_mass (terms_to_depth w leaf depth key bs) ≡ total_mass bs
  terms_mass depth key [] = ap (sum_by term_mass) (terms_none w leaf depth key)
  terms_mass zero key (b ∷ bs) =
      elim (either (w key (total_mass (b ∷ bs)) (centre_of_mass (b ∷ bs)))) [
        | inl is ↦ accepted_mass 0 key (b ∷ bs) (some_cons b bs) is
        | inr is ↦ ap (sum_by term_mass) (terms_deepest w leaf key (b ∷ bs) (some_cons b bs) is) ∙ mass_of_bodies (b ∷ bs)
      ]
  terms_mass (suc depth) key (b ∷ bs) =
      elim (either (w key (total_mass (b ∷ bs)) (centre_of_mass (b ∷ bs)))) [
        | inl is ↦ accepted_mass (suc depth) key (b ∷ bs) (some_cons b bs) is
        | inr is ↦ elim (cases_lt leaf (length (b ∷ bs))) [
          | inl many ↦
              let part = λ (o : ℕ). terms_to_depth w leaf depth (8 * key + o) (in_octant (21 - 1 - depth) (b ∷ bs) o) in
              ap (sum_by term_mass) (terms_parts w leaf depth key (b ∷ bs) (some_cons b bs) is many)
              ∙ mass_flat part octants
              ∙ sums_agree (λ o. sum_by term_mass (part o)) (λ o. total_mass (in_octant (21 - 1 - depth) (b ∷ bs) o)) octants (λ o. terms_mass depth (8 * key + o) (in_octant (21 - 1 - depth) (b ∷ bs) o))
              ∙ total_mass-octants (21 - 1 - depth) (b ∷ bs)
          | inr few ↦ ap (sum_by term_mass) (terms_leaf w leaf (suc depth) key (b ∷ bs) (some_cons b bs) is few) ∙ mass_of_bodies (b ∷ bs)
        ]
      ]

  item_terms_mass : (bodies : List Body) (x : Item) → sum_by term_mass (item_terms w leaf bodies x) ≡ item_mass bodies x
  item_terms_mass bodies (item.Cell key page) =
      terms_mass (21 - level_of key) key (in_cell (level_of key) key (in_order bodies))
      ∙ sum_by-IsPermutation (λ b. b.mass) (in_cell (level_of key) key (unescaped bodies)) (in_cell (level_of key) key (in_order bodies)) (under_permuted (level_of key) key bodies)
  item_terms_mass bodies (item.Bodies from count) = mass_of_bodies (bodies_from bodies from count)

  pub remaining_terms_mass : (bodies : List Body) (items : List Item) → sum_by term_mass (remaining_terms w leaf bodies items) ≡ remaining_mass bodies items
  remaining_terms_mass bodies [] = ap (sum_by term_mass) (remaining-nil w leaf bodies)
  remaining_terms_mass bodies (x ∷ xs) =
      let rest = remaining_terms w leaf bodies xs in
      let here = item_terms w leaf bodies x in
      let cons = ap (sum_by term_mass) (remaining-cons w leaf bodies x xs) ∙ sum_by-append term_mass rest here in
      let tail = remaining_terms_mass bodies xs in
      let head = item_terms_mass bodies x in
      let sum = sum_by-cons (item_mass bodies) x xs in
      omega arith
