-- A list in Morton order is its own sorted list, with the bodies in the box in front. One whose ids rise is its own too. The
-- bodies of a file are valid, and so are those of a tree.
use Rattle.std.proofs.Common.{◌≡◌, ℕ, suc, ◌+◌, ◌<◌, List, [], ◌∷◌, length, take, sym, ap, subst, ◌∙◌, arith}
use Rattle.std.specs.Prelude.{map, slice_index, All}
use Rattle.std.specs.List.Sorted.{IsStrictlyIncreasing}
use Rattle.std.proofs.lemmas.Bool.{lt-ltb}
use Rattle.std.proofs.lemmas.List.Elements.{All-weaker}
use Rattle.std.proofs.lemmas.List.Sorted.{All-permutation, IsPermutation-refl, IsPermutation-sym}
use Rattle.std.proofs.lemmas.Option.{get_or_from_slice_get}
use Rattle.nb_model.specs.declared.body.Body.{Body}
use Rattle.nb_model.specs.declared.params.Params.{Params}
use Rattle.nb_model.specs.Valid.{IsInBox, IsValidBody}
use Rattle.nb_model.specs.Leapfrog.{unescaped}
use Rattle.nb_record.specs.declared.tree.Tree.{Tree}
use Rattle.nb_record.specs.Records.{body_of}
use Rattle.nb_record.specs.Order.{by_key, by_id, sorted_by, IsSortedByRank, record_of, HoldsBodies}
use Rattle.nb_record.specs.Tree.{IsTreeOf}
use Rattle.nb_record.proofs.Sorting.{only, permuted}
use Rattle.nb_record.proofs.Orders.{front, unescaped_sorted}

pub own_order : (rank : Body → ℕ) (bodies : List Body) → IsSortedByRank rank bodies → bodies ≡ sorted_by rank bodies
own_order rank bodies is = only rank bodies bodies (IsPermutation-refl bodies) is

pub own_front : (bodies : List Body) → IsSortedByRank by_key bodies → take (length (unescaped bodies)) bodies ≡ unescaped bodies
own_front bodies is =
    let own = own_order by_key bodies is in
    ap (take (length (unescaped bodies))) own ∙ front bodies ∙ sym (unescaped_sorted bodies) ∙ ap unescaped (sym own)

pub held_valid : (file : List ℕ) (bodies : List Body) → HoldsBodies file bodies → All IsValidBody bodies
held_valid file bodies has k d below =
    subst IsValidBody (sym (get_or_from_slice_get bodies k (body_of (record_of file k)) d (has.held k below))) (has.records k below).body

pub tree_valid : (tree : Tree) (files : ℕ → List ℕ) (params : Params) (bodies : List Body) → IsTreeOf tree files params bodies → All IsValidBody bodies
tree_valid tree files params bodies of_tree =
    All-permutation IsValidBody (sorted_by by_key bodies) bodies (IsPermutation-sym bodies (sorted_by by_key bodies) (permuted by_key bodies)) (held_valid (files tree.bodies) (sorted_by by_key bodies) of_tree.ordered)

pub tree_in_box : (tree : Tree) (files : ℕ → List ℕ) (params : Params) (bodies : List Body) → IsTreeOf tree files params bodies → All (λ b. IsInBox b.at) bodies
tree_in_box tree files params bodies of_tree = All-weaker IsValidBody (λ b. IsInBox b.at) (λ b is. is.at) bodies (tree_valid tree files params bodies of_tree)

ids_rise : (bodies : List Body) → IsStrictlyIncreasing (map (λ b. b.id) bodies) → IsSortedByRank by_id bodies
ids_rise [] rises = tt
ids_rise (b ∷ []) rises = tt
ids_rise (b ∷ c ∷ cs) rises = (lt-ltb b.id c.id (rises 0 (omega arith)), ids_rise (c ∷ cs) behind) where
  behind : IsStrictlyIncreasing (map (λ b. b.id) (c ∷ cs))
  behind k within =
      let next : suc k + 1 ≡ suc (k + 1) = omega arith in
      subst (λ j. slice_index (map (λ b. b.id) (c ∷ cs)) k < slice_index (map (λ b. b.id) (b ∷ c ∷ cs)) j) next (rises (suc k) (omega arith))

pub own_by_id : (bodies : List Body) → IsStrictlyIncreasing (map (λ b. b.id) bodies) → sorted_by by_id bodies ≡ bodies
own_by_id bodies rises = sym (own_order by_id bodies (ids_rise bodies rises))
