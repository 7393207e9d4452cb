-- What is read of the initial snapshot before a run begins.
use Rattle.std.specs.Prelude.{◌≡◌, ℕ, ◌≤◌, List, length}
use Rattle.nb_model.specs.declared.body.Body.{Body}
use Rattle.nb_model.specs.Leapfrog.{escaped_count}
use Rattle.nb_model.specs.Limits.{most_bodies}
use Rattle.nb_model.specs.Octree.{total_mass}
use Rattle.nb_model.specs.Valid.{AreInRange}
use Rattle.nb_format.specs.Snapshot.{IsSnapshot}
use Rattle.nb_engine.specs.declared.init_file.Census.{Census}
use Rattle.nb_engine.specs.declared.run_start.StartPlan.{StartPlan}
use Rattle.nb_engine.specs.Start.{Start}

-- how many bodies there are, their mass, and how many of them are out
abbrev pub census_of : List Body → Census
census_of bodies = record { count = length bodies; mass = total_mass bodies; gone = escaped_count bodies }

-- the sums over some of the bodies, whatever the host tells
pub record IsCensus (census : Census) : Type 0 where
  pub count : census.count ≤ most_bodies
  pub gone : census.gone ≤ census.count

-- what a run is begun with, of which the bodies aren't in memory
abbrev pub start_plan : Start → StartPlan
start_plan start = record { params = start.params; time = start.time; census = census_of start.bodies }

-- what is known of it, whatever the host tells
pub record IsPlan (plan : StartPlan) : Type 0 where
  pub params : AreInRange plan.params
  pub census : IsCensus plan.census

-- The file is the snapshot of these bodies, with which a run is to begin by this plan.
pub record IsPlanned (plan : StartPlan) (bodies : List Body) (file : List ℕ) : Type 0 where
  pub snapshot : IsSnapshot file bodies plan.time
  pub census : plan.census ≡ census_of bodies
