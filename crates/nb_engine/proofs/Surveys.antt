-- The census of bodies that are read one after the other.
use Rattle.std.proofs.Common.{◌≡◌, ◌≢◌, ℕ, ◌+◌, ◌*◌, ◌<◌, ◌≤◌, Bool, cond, List, [], ◌∷◌, ◌++◌, length, sym, ap, ◌∙◌, arith}
use Rattle.std.proofs.lemmas.List.{length_push}
use Rattle.std.proofs.lemmas.List.Sums.{sum_by_push, sum_by-le, count_by-le-length}
use Rattle.nb_model.specs.declared.body.Body.{Body}
use Rattle.nb_model.specs.Leapfrog.{escaped_count}
use Rattle.nb_model.specs.Limits.{most_bodies, mass_limit}
use Rattle.nb_model.specs.Octree.{total_mass}
use Rattle.nb_format.specs.declared.snap_reader.SnapReader.{SnapReader}
use Rattle.nb_format.specs.Reader.{count_of, read_count}
use Rattle.nb_format.specs.Snapshot.{AreStoredBodies}
use Rattle.nb_engine.specs.declared.init_file.Census.{Census}
use Rattle.nb_engine.specs.Reading.{census_of, IsCensus}
use Rattle.nb_engine.proofs.Reading.{HasGiven}

-- no body has more than the greatest mass
mass_bound : (bodies : List Body) → AreStoredBodies bodies → total_mass bodies ≤ length bodies * mass_limit
mass_bound bodies stored =
    sum_by-le (λ (b : Body). b.mass) mass_limit bodies
    (λ k d below. let small = (stored.each k d below).valid.mass in omega arith)

-- What bounds the census of the bodies that were given, when there is one body more: then none of its sums is too great.
pub record HasRoomFor (census : Census) : Type 0 where
  pub count : census.count < most_bodies
  pub mass : census.mass ≤ census.count * mass_limit
  pub gone : census.gone ≤ census.count

pub room_for : {tells : Bool} {bytes : List ℕ} {start reader : SnapReader} {bodies : List Body} {census : Census}
    → HasGiven tells bytes start reader bodies → census ≡ census_of bodies → read_count reader ≢ count_of reader
    → HasRoomFor census
room_for {start = start} {reader = reader} {bodies = bodies} {census = census} given is unended =
    let bound = mass_bound bodies given.stored in
    let few = count_by-le-length (λ (b : Body). b.out) bodies in
    let count : census.count ≡ length bodies = ap (λ (c : Census). c.count) is in
    let mass : census.mass ≡ total_mass bodies = ap (λ (c : Census). c.mass) is in
    let gone : census.gone ≡ escaped_count bodies = ap (λ (c : Census). c.gone) is in
    let more : length bodies ≢ count_of start = λ all. unended (given.read ∙ all ∙ sym given.count) in
    record {
      count = omega (arith, given.within, given.few);
      mass = omega (arith, ap (λ (n : ℕ). n * mass_limit) count);
      gone = omega arith;
    }

-- one body more
pub census-more : (bodies : List Body) (body : Body) {before after : Census} → before ≡ census_of bodies
    → after.count ≡ before.count + 1 → after.mass ≡ before.mass + body.mass → after.gone ≡ before.gone + cond body.out 1 0
    → after ≡ census_of (bodies ++ body ∷ [])
census-more bodies body {after = after} is more_count more_mass more_gone =
    let count : after.count ≡ length (bodies ++ body ∷ []) =
    more_count ∙ ap (λ (c : Census). c.count + 1) is ∙ sym (length_push bodies body) in
    let mass : after.mass ≡ total_mass (bodies ++ body ∷ []) =
    more_mass ∙ ap (λ (c : Census). c.mass + body.mass) is ∙ sym (sum_by_push (λ (b : Body). b.mass) bodies body) in
    let gone : after.gone ≡ escaped_count (bodies ++ body ∷ []) =
    more_gone ∙ ap (λ (c : Census). c.gone + cond body.out 1 0) is ∙ sym (sum_by_push (λ (b : Body). cond b.out 1 0) bodies body) in
    λ t. record { count = count t; mass = mass t; gone = gone t }

-- the census of the bodies that were given
pub census_given : {tells : Bool} {bytes : List ℕ} {start reader : SnapReader} {bodies : List Body} {census : Census}
    → HasGiven tells bytes start reader bodies → census ≡ census_of bodies → IsCensus census
census_given {bodies = bodies} {census = census} given is =
    let few = count_by-le-length (λ (b : Body). b.out) bodies in
    let count : census.count ≡ length bodies = ap (λ (c : Census). c.count) is in
    let gone : census.gone ≡ escaped_count bodies = ap (λ (c : Census). c.gone) is in
    record { count = omega (arith, given.within, given.few); gone = omega arith }
