-- Calls after calls of which none faulted.
use Rattle.std.proofs.Common.{◌≡◌, ℕ, IsOk, List, [], ◌∷◌, Result, Err, refl, subst, ◌∙◌}
use Rattle.std.specs.Prelude.{◌≢◌}
use Rattle.nb_host.specs.Meaning.{HostModel}
use Rattle.nb_host.proofs.Callers.{ok_is_no_error, stopped_after}
use Rattle.nb_cache.specs.InStep.{IsInStep}
use Rattle.nb_cache.specs.View.{CacheValue}
use Rattle.nb_cache.specs.Writes.{Writes, RanCached}
use Rattle.nb_cache.proofs.Callers.{writes_begins, writes_again, may_write}

-- calls that wrote these files alone, of which none faulted
pub record Goes {H : Type 0} (m : HostModel H) (files : List ℕ) (old_cache : CacheValue) (old : H) (new_cache : CacheValue) (new : H) : Type 0 where
  pub writes : Writes m files old_cache old new_cache new
  pub spared : m.faults new ≡ m.faults old

pub goes_none : {H : Type 0} (m : HostModel H) (files : List ℕ) (cache : CacheValue) (host : H) → IsInStep m cache host
    → Goes m files cache host cache host
goes_none m files cache host in_step = record { writes = writes_begins m files cache host in_step; spared = refl }

-- a call more
pub goes_on : {H T E : Type 0} {m : HostModel H} {early : E} {files : List ℕ} {old_cache middle_cache new_cache : CacheValue} {old middle new : H} {one : Result T E}
    → Goes m files old_cache old middle_cache middle → RanCached m early files middle_cache middle new_cache new one
    → IsOk one → Goes m files old_cache old new_cache new
goes_on goes ran ok = record {
  writes = writes_again goes.writes ran.writes;
  spared = ran.spared (ok_is_no_error ok) ∙ goes.spared;
}

-- the last call, whose answer is handed on
pub goes_ends : {H T D U E : Type 0} {m : HostModel H} {early : D} {fault : E} {files : List ℕ} {old_cache middle_cache new_cache : CacheValue} {old middle new : H} {one : Result T D} {result : Result U E}
    → Goes m files old_cache old middle_cache middle → RanCached m early files middle_cache middle new_cache new one
    → (result ≡ Err fault → one ≡ Err early) → (one ≡ Err early → result ≡ Err fault)
    → RanCached m fault files old_cache old new_cache new result
goes_ends goes ran there back = record {
  writes = writes_again goes.writes ran.writes;
  rose = λ faulted. stopped_after goes.spared (ran.rose (there faulted));
  spared = λ never. ran.spared (λ faulted. never (back faulted)) ∙ goes.spared;
}

-- an answer that stands for no fault
pub goes_done : {H U E : Type 0} {m : HostModel H} {fault : E} {files : List ℕ} {old_cache new_cache : CacheValue} {old new : H} {result : Result U E}
    → Goes m files old_cache old new_cache new → (result ≢ Err fault) → RanCached m fault files old_cache old new_cache new result
goes_done goes none = record { writes = goes.writes; rose = λ faulted. absurd (none faulted); spared = λ never. goes.spared }

-- the frame of a call, with another name of its one file
pub ran_in : {H T E : Type 0} {m : HostModel H} {fault : E} {file other : ℕ} {old_cache new_cache : CacheValue} {old new : H} {result : Result T E}
    → other ≡ file → RanCached m fault (other ∷ []) old_cache old new_cache new result → RanCached m fault (file ∷ []) old_cache old new_cache new result
ran_in {m = m} {fault = fault} {old_cache = old_cache} {new_cache = new_cache} {old = old} {new = new} {result = result} same ran =
    subst (λ f. RanCached m fault (f ∷ []) old_cache old new_cache new result) same ran

-- an answer that stands for no fault, after a call that wrote nothing
pub ran_read : {H T D U E : Type 0} {m : HostModel H} {early : D} {fault : E} (files : List ℕ) {old_cache new_cache : CacheValue} {old new : H} {one : Result T D} {result : Result U E}
    → RanCached m early [] old_cache old new_cache new one → IsOk one → (result ≢ Err fault) → RanCached m fault files old_cache old new_cache new result
ran_read files ran ok none = record {
  writes = may_write files ran.writes;
  rose = λ faulted. absurd (none faulted);
  spared = λ never. ran.spared (ok_is_no_error ok);
}
