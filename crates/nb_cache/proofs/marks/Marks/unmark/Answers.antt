use Rattle.std.proofs.Common.{◌≢◌, ◌↔◌, ℕ, ◌-◌, false, List, set, Contains, subst}
use Rattle.nb_cache.specs.Marks.{marked_files}
use Rattle.nb_cache.proofs.Marking.{unmarked}
use Rattle.nb_cache.proofs.marks.Marks.unmark.Goals as goal

pub returns : goal.returns
returns c =
    subst (λ (v : List ℕ). (other : ℕ) → (Contains (marked_files (set c.self.inside.marked (c.args.file - 3) false)) other ↔ (Contains v other × (other ≢ c.args.file)))) c.self.view_is
    (unmarked c.self.inside.marked c.self.told c.args.file c.requires.least c.requires.greatest)
