use Rattle.nb_record.proofs.Lookups.{starts_within, cells_end, cells_follow, chain_holds, key_gone, cell_stands, chain_holds_from, page_holds}
use Rattle.nb_record.proofs.laws.law_lookups.Goals as goal

pub returns : goal.returns
returns c = record {
  start = starts_within;
  last = λ file bits pages cells is. cells_end file pages;
  more = cells_follow;
  held = chain_holds;
  gone = key_gone;
  stands = cell_stands;
  held_from = chain_holds_from;
  held_on = page_holds;
}
