-- What crates above may cite. Every other proof file of this crate is its own.
use Rattle.std.proofs.Common.{◌+◌, ◌≤◌, arith}
-- searches along a chain, and what a table makes of them
pub use Rattle.nb_cell.proofs.Ways.{comes_first, comes_on, ends_last, never_stops}
