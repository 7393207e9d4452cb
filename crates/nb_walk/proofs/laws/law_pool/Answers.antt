use Rattle.nb_walk.proofs.OnTheirWay.{all_begun, begun_range, begun_within, goes_on, all_finished, called_finished}
use Rattle.nb_walk.proofs.WantedPages.{wanted_pages}
use Rattle.nb_walk.proofs.laws.law_pool.Goals as goal

pub returns : goal.returns
returns c = record {
  begun = all_begun;
  range = begun_range;
  within = begun_within;
  whole = wanted_pages;
  goes_on = goes_on;
  finished = all_finished;
  called = called_finished;
}
