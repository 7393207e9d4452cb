-- The refusals of the crates below, as they are handed on.
use Rattle.std.proofs.Common.{◌≡◌, ℕ, List, Result, Err, ap, ◌∙◌}
use Rattle.nb_host.specs.Meaning.{HostModel}
use Rattle.nb_host.specs.declared.page_name.PageName.{PageName}
use Rattle.nb_cache.specs.declared.cache_error.CacheError.{CacheError}
use Rattle.nb_cache.specs.declared.cache_error.CacheError.TheVariants as cache
use Rattle.nb_cache.specs.View.{CacheValue}
use Rattle.nb_cache.specs.Writes.{RanCached}
use Rattle.nb_cache.proofs.Callers.{ran_as}
use Rattle.nb_order.specs.declared.order_error.OrderError.{OrderError}
use Rattle.nb_order.specs.declared.order_error.OrderError.TheVariants as order
use Rattle.nb_force.specs.declared.force_error.ForceError.{ForceError}
use Rattle.nb_force.specs.declared.force_error.ForceError.TheVariants.{Fault, Damaged}
use Rattle.nb_force.specs.Errors.{of_cache, of_order}

pub cache_fault : (error : CacheError) → of_cache error ≡ Fault → error ≡ cache.Fault
cache_fault cache.Fault is = cc
cache_fault cache.NoMemory is = cc
cache_fault (cache.Short name) is = cc

pub cache_short : (error : CacheError) (name : PageName) → of_cache error ≡ Damaged name → error ≡ cache.Short name
cache_short cache.Fault name is = cc
cache_short cache.NoMemory name is = cc
cache_short (cache.Short short) name is = cc

pub order_fault : (error : OrderError) → of_order error ≡ Fault → error ≡ order.Fault
order_fault order.Fault is = cc
order_fault order.NoMemory is = cc
order_fault (order.Damaged name) is = cc

pub order_damaged : (error : OrderError) (name : PageName) → of_order error ≡ Damaged name → error ≡ order.Damaged name
order_damaged order.Fault name is = cc
order_damaged order.NoMemory name is = cc
order_damaged (order.Damaged other) name is = cc

module _ {H T U : Type 0} {m : HostModel H} {files : List ℕ} {old_cache new_cache : CacheValue} {old new : H} where
  -- the frame of a call whose refusal is handed on
  pub cache_ran : {one : Result T CacheError} {result : Result U ForceError} (error : CacheError) → one ≡ Err error → result ≡ Err (of_cache error)
      → RanCached m cache.Fault files old_cache old new_cache new one → RanCached m Fault files old_cache old new_cache new result
  cache_ran error was handed_on ran =
      ran_as ran
      (λ faulted. let same : of_cache error ≡ Fault = cc in was ∙ ap Err (cache_fault error same))
      (λ early. let same : error ≡ cache.Fault = cc in handed_on ∙ ap (λ e. Err (of_cache e)) same)

  pub order_ran : {one : Result T OrderError} {result : Result U ForceError} (error : OrderError) → one ≡ Err error → result ≡ Err (of_order error)
      → RanCached m order.Fault files old_cache old new_cache new one → RanCached m Fault files old_cache old new_cache new result
  order_ran error was handed_on ran =
      ran_as ran
      (λ faulted. let same : of_order error ≡ Fault = cc in was ∙ ap Err (order_fault error same))
      (λ early. let same : error ≡ order.Fault = cc in handed_on ∙ ap (λ e. Err (of_order e)) same)
