use Rattle.std.proofs.Common.{[]}
use Rattle.std.proofs.lemmas.List.Elements.{All-nil}
use Rattle.nb_model.specs.Leapfrog.{unescaped}
use Rattle.nb_record.specs.Cells.{tree_cells}
use Rattle.nb_record.proofs.TreeKeys.{keys_differ}
use Rattle.nb_record.proofs.TreeFound.{found_in_tree, of_tree, at_its_level, one_cell}
use Rattle.nb_record.proofs.SameLists.{same_cells_same_list}
use Rattle.nb_record.proofs.tree_laws.law_tree_cells.Goals as goal

pub returns : goal.returns
returns c = record {
  exactly = λ params bodies cell. (of_tree params (unescaped bodies) cell, λ of. found_in_tree params (unescaped bodies) of.0 cell of.1);
  distinct = λ params bodies. keys_differ params (unescaped bodies) 21 [] (unescaped bodies) (All-nil _);
  list = λ params bodies cells differ same. same_cells_same_list cells (tree_cells params bodies) differ (keys_differ params (unescaped bodies) 21 [] (unescaped bodies) (All-nil _))
      (λ cell within. found_in_tree params (unescaped bodies) ((same cell).0 within).0 cell ((same cell).0 within).1)
      (λ cell within. (same cell).1 (of_tree params (unescaped bodies) cell within));
  one = λ params bodies. one_cell params (unescaped bodies);
  level = λ params bodies level cell. at_its_level params (unescaped bodies) level cell;
}
