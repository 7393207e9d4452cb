-- What crates above may cite. Every other proof file of this crate is its own.

-- checks of a header
pub use Rattle.nb_record.proofs.Checks.{cells_checked, bodies_checked}
-- the lists of a page, by their indexes
pub use Rattle.nb_record.proofs.Lists.{length-cells_of, cell_at, key_found, key_lacking, length-bodies_of, body_at}
-- files of bodies
pub use Rattle.nb_record.proofs.Files.{page_within, index_within, one_list}
pub use Rattle.nb_record.proofs.SameFiles.{same_pages, same_cell_page, same_file}
pub use Rattle.nb_record.proofs.MortonOrder.{own_order, own_front, own_by_id, held_valid, tree_valid, tree_in_box}
-- the order of bodies
pub use Rattle.nb_record.proofs.Sorting.{permuted, sorted, only, different_ids}
pub use Rattle.nb_record.proofs.Orders.{front, unescaped_sorted, ranks_rise, same_order, different_permuted}
-- tables of cells
pub use Rattle.nb_record.proofs.Chains.{LeadsOn, leads_on, chain_ends, chain_follows}
pub use Rattle.nb_record.proofs.Lookups.{cells_end, chain_holds}
-- lists in Morton order, and what is chosen from them
pub use Rattle.nb_record.proofs.Sorting.{either, Ordered, all_before, neighbours}
pub use Rattle.nb_record.proofs.Splits.{length-sorted_by, filter_yes, filter_no}
pub use Rattle.nb_record.proofs.Orders.{ordered_filtered}
pub use Rattle.nb_record.proofs.Moves.{IsPermutation-filter}
-- cells, and their bodies
pub use Rattle.nb_record.proofs.Siblings.{in_root, all_in_cell, octant_of_cell}
pub use Rattle.nb_record.proofs.TreeKids.{IsDivided, leaf_by_kids, divided_by_kids, kid_of_tree, empty_octant, root_of_tree}
pub use Rattle.nb_record.proofs.TreeFound.{found_in_tree, of_tree, at_its_level, one_cell}
pub use Rattle.nb_record.proofs.CellBodies.{cell_within, cell_read, cell_sums, cell_weighs}
-- sums and forces
pub use Rattle.nb_record.proofs.VectorSums.{plus-zero, plus_comm, plus_assoc, vector_sum-cons, vector_sum-append, vector_sum-IsPermutation}
pub use Rattle.nb_record.proofs.SameForces.{same_direct_sum, octants_agree, same_force_of_cell, same_force_of_all}
-- a key's chain
pub use Rattle.nb_record.proofs.Chains.{chain_within}
pub use Rattle.nb_record.proofs.Lookups.{cells_follow, starts_within, key_gone, cell_stands, chain_holds_from, page_holds}
-- the cells of a tree, by the recursion that gives them, and the places of a cell's bodies
pub use Rattle.nb_record.proofs.Orders.{morton_key-lt}
pub use Rattle.nb_record.proofs.Ranges.{by_key_inside, Inside, inside_box, range_sum, range_within}
pub use Rattle.nb_record.proofs.Siblings.{first_of_octant, index_in_cell, octant_number}
pub use Rattle.nb_record.proofs.TreeCells.{octants_small, cells-nil, cells-deepest, cells-leaf, cells-divided, IsReached, reached_octant}
pub use Rattle.nb_record.proofs.TreeFound.{root_reached}
pub use Rattle.nb_record.proofs.TreeKeys.{keys_differ}
pub use Rattle.nb_record.proofs.TreeCounts.{most_cells, length-octants}
pub use Rattle.nb_record.proofs.Moves.{IsKept, permutation_keeps}
pub use Rattle.nb_record.proofs.Orders.{each_at, escaped}
pub use Rattle.nb_record.proofs.SameLists.{same_table}
pub use Rattle.nb_record.proofs.SameTrees.{same_mass, same_tree}
