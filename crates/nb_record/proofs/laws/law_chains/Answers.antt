use Rattle.nb_record.proofs.Chains.{leads_on, chain_rises, chain_within, chain_whole, chain_ends, chain_follows}
use Rattle.nb_record.proofs.laws.law_chains.Goals as goal

pub returns : goal.returns
returns c = record {
  later = λ file bits pages cells is p below some. ((is.forms p below).next some, is.nexts p below);
  rising = λ file bits pages cells is n p. chain_rises file pages n p (leads_on file bits pages cells is);
  within = λ file bits pages cells is n p. chain_within file pages n p (leads_on file bits pages cells is);
  whole = λ file bits pages cells is n p. chain_whole file pages n p (leads_on file bits pages cells is);
  last = λ file bits pages cells is p. chain_ends file pages p;
  more = λ file bits pages cells is p. chain_follows file pages p (leads_on file bits pages cells is);
}
