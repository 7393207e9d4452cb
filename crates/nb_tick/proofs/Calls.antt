-- Calls after calls of which none faulted.
use Rattle.std.proofs.Common.{◌≡◌, ℕ, zero, suc, arith, IsOk, List, [], ◌∷◌, Result, Err, refl, subst, ◌∙◌}
use Rattle.std.specs.Prelude.{◌≢◌, Contains}
use Rattle.nb_host.specs.Meaning.{HostModel}
use Rattle.nb_host.proofs.Callers.{ok_is_no_error, stopped_after}
use Rattle.nb_cache.specs.InStep.{IsInStep}
use Rattle.nb_cache.specs.View.{CacheValue}
use Rattle.nb_cache.specs.Writes.{Writes, RanCached}
use Rattle.nb_cache.proofs.Callers.{no_file, writes_begins, writes_more, writes_again}

-- each of these files is one of those
abbrev pub AreAmong : List ℕ → List ℕ → Type 0
AreAmong few more = (file : ℕ) → Contains few file → Contains more file

pub among_none : (more : List ℕ) → AreAmong [] more
among_none more file has = absurd (no_file file has)

pub among_all : (files : List ℕ) → AreAmong files files
among_all files file has = has

-- calls that wrote these files alone, of which none faulted
pub record Went {H : Type 0} (m : HostModel H) (files : List ℕ) (old_cache : CacheValue) (old : H) (new_cache : CacheValue) (new : H) : Type 0 where
  pub writes : Writes m files old_cache old new_cache new
  pub spared : m.faults new ≡ m.faults old

pub went_none : {H : Type 0} (m : HostModel H) (files : List ℕ) (cache : CacheValue) (host : H) → IsInStep m cache host
    → Went m files cache host cache host
went_none m files cache host in_step = record { writes = writes_begins m files cache host in_step; spared = refl }

pub went_on : {H T E : Type 0} {m : HostModel H} {early : E} {few files : List ℕ} {old_cache middle_cache new_cache : CacheValue} {old middle new : H} {one : Result T E}
    → Went m files old_cache old middle_cache middle → AreAmong few files → RanCached m early few middle_cache middle new_cache new one
    → IsOk one → Went m files old_cache old new_cache new
went_on went among ran ok = record {
  writes = writes_again went.writes (writes_more among ran.writes);
  spared = ran.spared (ok_is_no_error ok) ∙ went.spared;
}

-- an answer handed on
pub went_to : {H T D U E : Type 0} {m : HostModel H} {early : D} {fault : E} {few files : List ℕ} {old_cache middle_cache new_cache : CacheValue} {old middle new : H} {one : Result T D} {result : Result U E}
    → Went m files old_cache old middle_cache middle → AreAmong few files → RanCached m early few middle_cache middle new_cache new one
    → (result ≡ Err fault → one ≡ Err early) → (one ≡ Err early → result ≡ Err fault)
    → RanCached m fault files old_cache old new_cache new result
went_to went among ran there back = record {
  writes = writes_again went.writes (writes_more among ran.writes);
  rose = λ faulted. stopped_after went.spared (ran.rose (there faulted));
  spared = λ never. ran.spared (λ faulted. never (back faulted)) ∙ went.spared;
}

-- an answer that stands for no fault
pub went_well : {H U E : Type 0} {m : HostModel H} {fault : E} {files : List ℕ} {old_cache new_cache : CacheValue} {old new : H} {result : Result U E}
    → Went m files old_cache old new_cache new → result ≢ Err fault → RanCached m fault files old_cache old new_cache new result
went_well went none = record { writes = went.writes; rose = λ faulted. absurd (none faulted); spared = λ never. went.spared }

-- one file by another name
pub among_one : {one other : ℕ} → one ≡ other → AreAmong (one ∷ []) (other ∷ [])
among_one same file has = subst (λ (n : ℕ). Contains (n ∷ []) file) same has

-- one of several
pub among_of : {one : ℕ} (files : List ℕ) → Contains files one → AreAmong (one ∷ []) files
among_of files there file (zero, below, is) = subst (Contains files) is there
among_of files there file (suc k, below, is) = absurd (omega arith)
