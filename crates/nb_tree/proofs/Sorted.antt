-- The front of a file is sorted, and its bodies are valid.
use Rattle.std.proofs.Common.{◌≡◌, ℕ, suc, ◌-◌, ◌<◌, true, false, List, [], ◌∷◌, length, get_or, refl, sym, ap, subst, ◌∙◌, arith}
use Rattle.std.specs.Prelude.{All}
use Rattle.std.proofs.lemmas.List.Elements.{All-head, All-tail}
use Rattle.std.proofs.lemmas.Option.{get_or_from_slice_get}
use Rattle.nb_model.specs.declared.body.Body.{Body}
use Rattle.nb_model.specs.Valid.{IsValidBody}
use Rattle.nb_record.specs.Records.{body_of}
use Rattle.nb_record.specs.Order.{by_key, precedes, record_of, IsSortedByRank}
use Rattle.nb_record.proofs.Callers.{Inside, own_order}
use Rattle.nb_tree.specs.Fronts.{IsFront}
use Rattle.nb_tree.proofs.Octants.{AreSorted}

each_inside : (bs : List Body) → All (λ b. b.out ≡ false) bs → Inside bs
each_inside [] all = tt
each_inside (b ∷ bs) all = (All-head (λ c. c.out ≡ false) b bs all, each_inside bs (All-tail (λ c. c.out ≡ false) b bs all))

in_order : (rank : Body → ℕ) (bs : List Body) → ((j k : ℕ) (d : Body) → k ≡ suc j → k < length bs → precedes rank (get_or bs j d) (get_or bs k d) ≡ true)
    → IsSortedByRank rank bs
in_order rank [] pairs = tt
in_order rank (b ∷ []) pairs = tt
in_order rank (b ∷ c ∷ cs) pairs = (pairs 0 1 b refl (omega arith), in_order rank (c ∷ cs) (λ j k d next within. pairs (suc j) (suc k) d (ap suc next) (omega arith)))

module _ {file : List ℕ} {count : ℕ} {front : List Body} (is : IsFront file count front) where
  reads : (j : ℕ) (d : Body) → j < length front → get_or front j d ≡ body_of (record_of file j)
  reads j d within = get_or_from_slice_get front j (body_of (record_of file j)) d (is.first.held j within)

  pub front_in_order : IsSortedByRank by_key front
  front_in_order = in_order by_key front (λ j k d next within.
      let back : k - 1 ≡ j = omega arith in
      let after = (is.order k within).after (omega arith) in
      let here : precedes by_key (body_of (record_of file j)) (body_of (record_of file k)) ≡ true =
      ap (λ i. precedes by_key (body_of (record_of file i)) (body_of (record_of file k))) (sym back) ∙ after in
      ap (λ b. precedes by_key b (get_or front k d)) (reads j d (omega arith))
      ∙ ap (precedes by_key (body_of (record_of file j))) (reads k d within) ∙ here)

  pub front_sorted : AreSorted front
  front_sorted = record { inside = each_inside front is.inside; sorted = sym (own_order by_key front front_in_order) }

  pub front_valid : All IsValidBody front
  front_valid k d below = subst IsValidBody (sym (reads k d below)) (is.first.each k below).body.body
