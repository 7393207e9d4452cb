-- What the files of a run hold between ticks.
use Rattle.std.specs.Prelude.{ℕ, List, length}
use Rattle.nb_model.specs.declared.body.Body.{Body}
use Rattle.nb_model.specs.declared.params.Params.{Params}
use Rattle.nb_model.specs.Leapfrog.{half_kick}
use Rattle.nb_record.specs.Cells.{tree_cells}
use Rattle.nb_record.specs.Order.{by_key, sorted_by, HoldsBodies, HoldsKickedBodies}
use Rattle.nb_record.specs.Table.{IsCellTable}
use Rattle.nb_record.specs.Tree.{IsBitsFor}

-- the file holds these bodies in Morton order, with any kicks
abbrev pub HoldsState : List Body → List ℕ → Type 0
HoldsState bodies file = HoldsBodies file (sorted_by by_key bodies)

-- the file holds these bodies in Morton order, each with the half kick that it gets from all of them
abbrev pub HoldsKickedState : Params → List Body → List ℕ → Type 0
HoldsKickedState params bodies file = HoldsKickedBodies file (half_kick params bodies) (sorted_by by_key bodies)

-- The file is the table of the cells of the tree of these bodies, as a build makes it.
pub record IsCellIndexOf (params : Params) (bodies : List Body) (file : List ℕ) : Type 0 where
  pub bits : ℕ
  pub pages : ℕ
  pub least : IsBitsFor bits (length bodies)
  pub table : IsCellTable file bits pages (tree_cells params bodies)
