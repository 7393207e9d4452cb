use Rattle.nb_model.specs.Leapfrog.{unescaped}
use Rattle.nb_record.proofs.Ranges.{inside_box, cell_range, range_sum, range_within}
use Rattle.nb_record.proofs.Siblings.{in_root, octant_of_cell, first_of_octant, next_octant, index_in_cell}
use Rattle.nb_record.proofs.CellBodies.{member_of_cell}
use Rattle.nb_record.proofs.order_laws.law_in_cell.Goals as goal

pub returns : goal.returns
returns c = record {
  root = in_root;
  octant = λ level key octant bodies. octant_of_cell level key octant bodies;
  member = member_of_cell;
  range = λ level key bodies is some. cell_range level key (unescaped bodies) is (inside_box bodies) some;
  sums = λ f level key bodies is some. range_sum f level key (unescaped bodies) is (inside_box bodies) some;
  within = λ level key bodies is some. range_within level key (unescaped bodies) is (inside_box bodies) some;
  index = λ level key bodies is some. index_in_cell level key (unescaped bodies) is (inside_box bodies) some;
  follows = λ level key octant bodies is above below some. first_of_octant level key octant (unescaped bodies) is above below (inside_box bodies) some;
  next = λ level key octant later bodies is above before below. next_octant level key octant later (unescaped bodies) is above before below (inside_box bodies);
}
