-- What crates above may cite. Every other proof file of this crate is its own.
use Rattle.std.proofs.Common.{◌≡◌, ℕ, List, [], ◌∷◌, ◌++◌}
-- the files that hold a list, and why one can't be sorted
pub use Rattle.nb_order.proofs.Reading.{is_listed, held_room, held_first, first_of, length-first_of, first_of-at, never_unsortable}
