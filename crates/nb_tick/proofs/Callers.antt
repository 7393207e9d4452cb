-- What crates above may cite. Every other proof file of this crate is its own.

-- what a cache shows of files into which nothing was put, and calls that write some files
pub use Rattle.nb_tick.proofs.Views.{seen_written, seen_flushed, leads_among}
-- the slots among the files of a tick
pub use Rattle.nb_tick.proofs.Ticking.{never_written, slot_cached}
