use Rattle.std.proofs.Common.{sym, subst}
use Rattle.std.specs.Prelude.{Contains}
use Rattle.std.proofs.lemmas.List.Filters.{dedup_is}
use Rattle.std.proofs.lemmas.List.Kept.{IsStrictlySortedBy-dedup, Contains-dedup, Contains-from_dedup}
use Rattle.std.proofs.lemmas.List.Sorted.{Contains-permutation, IsPermutation-sym}
use Rattle.nb_host.specs.Page.{IsRising}
use Rattle.nb_walk.proofs.Names.{same_name, by_name_total, same_by_name, same_name_equiv, rising_is, same_is}
use Rattle.nb_walk.proofs.pool.sort_names.Goals as goal

pub returns-clause-rising : goal.returns-clause-rising
returns-clause-rising c =
    let is = dedup_is same_name _ _ c.dedup.ensures.filtered in
    subst IsRising (sym is) (rising_is _ (IsStrictlySortedBy-dedup by_name_total same_by_name _ c.sort_unstable.ensures.sorted))

pub returns-clause-same : goal.returns-clause-same
returns-clause-same c = λ name.
    let is = dedup_is same_name _ _ c.dedup.ensures.filtered in
    let moved = c.sort_unstable.ensures.permutation in (
      λ there. Contains-permutation _ _ name (IsPermutation-sym _ _ moved) (Contains-from_dedup same_name _ name (subst (λ l. Contains l name) is there)),
      λ there. subst (λ l. Contains l name) (sym is) (Contains-dedup same_name_equiv same_is _ name (Contains-permutation _ _ name moved there)),
    )
