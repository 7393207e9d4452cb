use Rattle.std.proofs.Common.{◌≡◌, ◌⊎◌, ◌↔◌, ℕ, ◌-◌, true, List, set, Contains, subst}
use Rattle.nb_cache.specs.Marks.{marked_files}
use Rattle.nb_cache.proofs.Marking.{marked}
use Rattle.nb_cache.proofs.marks.Marks.mark.Goals as goal

pub returns : goal.returns
returns c =
    subst (λ (v : List ℕ). (other : ℕ) → (Contains (marked_files (set c.self.inside.marked (c.args.file - 3) true)) other ↔ ((other ≡ c.args.file) ⊎ Contains v other))) c.self.view_is
    (marked c.self.inside.marked c.self.told c.args.file c.requires.least c.requires.greatest)
