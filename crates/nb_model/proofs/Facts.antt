-- What other crates may cite of the proofs here: the other files are this crate's own.
pub use Rattle.nb_model.proofs.Roots.{integer_root_bounds, below_from_squares, is_integer_root, integer_root_is, le-integer_root, integer_root-lt}
pub use Rattle.nb_model.proofs.Quotients.{pull_along-pos, pull_along-neg, quotient_bound, pull_size-floor, pull_size-next}
pub use Rattle.nb_model.proofs.Vectors.{same_vector, same_position, IsAtMost, IsBelow-from_most, vector_sum_more}
pub use Rattle.nb_model.proofs.Wrapping.{IsRemainder, is_remainder, remainder_within, remainder_above, remainder_below}
pub use Rattle.nb_model.proofs.Pulls.{square_x-le, square_y-le, square_z-le, pull_bound, pull_too_far}
pub use Rattle.nb_model.proofs.Sums.{map_agree, sum_by_agree, sum_by-plus, sum_by-times, sum_by-map, sum_by-filter-le, length-filter-le, sum_by-filter-cons, filter-map}
pub use Rattle.nb_model.proofs.Octants.{half_at-lt, octant_at-lt, sum_by-octants, total_mass-octants, total_mass-in_octant-le, length-in_octant-le}
pub use Rattle.nb_model.proofs.Cells.{octant_forces, force_on-deepest, force_on-above, force_on-nil, force_on-accepted, force_on-deepest_leaf, force_on-small_leaf, force_on-divided, is_accepted-opens, octant_forces_more, octant_forces_all}
pub use Rattle.nb_model.proofs.Forces.{direct_sum_bound, force_on_bound, pull_below, direct_sum-take_below, force_on_below, gm-in_octant, octant_forces-take_below}
pub use Rattle.nb_model.proofs.Accelerated.{accelerated, half_kick-accelerated}
pub use Rattle.nb_model.proofs.Drifts.{IsBelow-from_test, is_below-from, IsDrifted, is_drifted, drift_body_cases, drift_body-in_box, drift-in_box, kick-in_box}
pub use Rattle.nb_model.proofs.Steps.{total_mass-unescaped-le, length-unescaped-le, gm-unescaped, half_kick_bound, half_kick_below, total_mass-kick, length-kick, ids-kick, escaped_count-kick, total_mass-drift, length-drift, ids-drift, kicked_body, kicked_again_body, drifted_body, IsValidBody-drifted, All-kick, All-drift, drift-kick_valid, step_valid}
