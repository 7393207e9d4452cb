use Rattle.nb_walk.proofs.Remaining.{remaining_pulls, remaining_terms_mass}
use Rattle.nb_walk.proofs.laws.law_remaining.Goals as goal

pub returns : goal.returns
returns c = record {
  force = λ params bodies tree file p items within box are. remaining_pulls params bodies tree file p within box items are;
  mass = λ accepts leaf bodies items. remaining_terms_mass accepts leaf bodies items;
}
