use Rattle.std.specs.Prelude.{not}
use Rattle.std.proofs.lemmas.List.Elements.{All-filter}
use Rattle.nb_model.specs.Valid.{IsInBox}
use Rattle.nb_model.specs.Leapfrog.{unescaped}
use Rattle.nb_record.proofs.TreeForces.{force_taken, force_of_leaf, force_of_octants}
use Rattle.nb_record.proofs.force_laws.law_cell_force.Goals as goal

pub returns : goal.returns
returns c = record {
  taken = λ params bodies p level cell box within is. force_taken params (unescaped bodies) p level cell
      (record { box = All-filter (λ b. not b.out) (λ b. IsInBox b.at) bodies box; within = within; is = is });
  leaf = λ params bodies p level cell box within is. force_of_leaf params (unescaped bodies) p level cell
      (record { box = All-filter (λ b. not b.out) (λ b. IsInBox b.at) bodies box; within = within; is = is });
  divided = λ params bodies p level cell box within is. force_of_octants params (unescaped bodies) p level cell
      (record { box = All-filter (λ b. not b.out) (λ b. IsInBox b.at) bodies box; within = within; is = is });
}
