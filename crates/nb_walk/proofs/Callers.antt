-- What crates above may cite. Every other proof file of this crate is its own.

-- walks and pools over a tree, from their beginning to their end
pub use Rattle.nb_walk.proofs.OnTheirWay.{walk_begun, walk_finished, all_begun, begun_range, begun_within, goes_on, all_finished, called_finished}
-- a new pool, without walks
pub use Rattle.nb_walk.proofs.OnTheirWay.{none_on, none_in_range, none_within}
-- the pages that walks want, and each at which one waits
pub use Rattle.nb_walk.proofs.WantedPages.{item_page, needed_page, wanted_pages}
-- a pool's lists
pub use Rattle.nb_walk.proofs.OnTheirWay.{targets_begun, length_begun, some_wanted}
