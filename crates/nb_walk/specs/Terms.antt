-- The interaction list of a walk down the tree: what acts on the target, each cell as one mass or each body by itself.
use Rattle.std.specs.Prelude.{ℕ, zero, suc, ◌+◌, ◌-◌, ◌*◌, nat_le, Bool, if◌then◌else◌, List, [], ◌∷◌, length, map}
use Rattle.std.specs.List.{flat_map}
use Rattle.nb_model.specs.declared.body.At.{At}
use Rattle.nb_model.specs.declared.body.V3.{V3}
use Rattle.nb_model.specs.declared.body.Body.{Body}
use Rattle.nb_model.specs.declared.params.Params.{Params}
use Rattle.nb_model.specs.Limits.{deepest_level}
use Rattle.nb_model.specs.Vector.{vector_sum}
use Rattle.nb_model.specs.Octree.{in_octant, total_mass, centre_of_mass}
use Rattle.nb_model.specs.Gravity.{pull, octants}
use Rattle.nb_walk.specs.declared.term.Term.{Term}
use Rattle.nb_walk.specs.declared.term.Term.TheVariants as term

-- An acceptance criterion, at some parameters and some target: whether the cell with this key, mass and centre of mass is one
-- term.
abbrev pub Acceptance : Type 0
Acceptance = ℕ → ℕ → At → Bool

abbrev pub body_terms : List Body → List Term
body_terms bodies = map (λ b. term.Body b) bodies

-- The terms of the cell with this key and these bodies: none where it is empty, the cell where it is accepted as one mass,
-- and `opened` where it isn't.
abbrev pub cell_terms : Acceptance → ℕ → List Body → List Term → List Term
cell_terms accepts key [] opened = []
cell_terms accepts key (b ∷ bs) opened =
    if accepts key (total_mass (b ∷ bs)) (centre_of_mass (b ∷ bs))
    then term.Cell (total_mass (b ∷ bs)) (centre_of_mass (b ∷ bs)) ∷ [] else opened

-- The same with so many levels below the cell, down which the recursion goes. An opened cell with at most `leaf` bodies,
-- and one at the deepest level, is a leaf, which has a term for each body, in their order. Any other has the terms of its
-- octants, one after the other.
unfoldable pub terms_to_depth : Acceptance → ℕ → ℕ → ℕ → List Body → List Term
terms_to_depth accepts leaf zero key bodies = cell_terms accepts key bodies (body_terms bodies)
terms_to_depth accepts leaf (suc depth) key bodies =
    let level = (deepest_level - 1) - depth in
    cell_terms accepts key bodies
    (if nat_le (length bodies) leaf then body_terms bodies
    else flat_map (λ octant. terms_to_depth accepts leaf depth (8 * key + octant) (in_octant level bodies octant)) octants)

-- The interaction list of these bodies, from the root cell down. A walk meets them in Morton order.
abbrev pub interaction_list : Acceptance → ℕ → List Body → List Term
interaction_list accepts leaf bodies = terms_to_depth accepts leaf deepest_level 1 bodies

-- ---- what terms give

abbrev pub term_pull : Params → At → Term → V3
term_pull params p (term.Cell mass centre) = pull params p mass centre
term_pull params p (term.Body b) = pull params p b.mass b.at

abbrev pub term_mass : Term → ℕ
term_mass (term.Cell mass centre) = mass
term_mass (term.Body b) = b.mass

-- the half kick that all of them give to a body at p
abbrev pub pulls : Params → At → List Term → V3
pulls params p terms = vector_sum (map (term_pull params p) terms)
