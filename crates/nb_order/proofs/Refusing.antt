-- The cache's refusals, as they are handed on.
use Rattle.std.proofs.Common.{◌≡◌, Result, Err, refl}
use Rattle.std.specs.Prelude.{◌≢◌}
use Rattle.nb_host.specs.declared.page_name.PageName.{PageName}
use Rattle.nb_cache.specs.declared.cache_error.CacheError.{CacheError}
use Rattle.nb_cache.specs.declared.cache_error.CacheError.TheVariants as cache
use Rattle.nb_order.specs.declared.order_error.OrderError.TheVariants.{Fault, Damaged}
use Rattle.nb_order.specs.Errors.{of_cache}

pub fault_handed_on : (error : CacheError) → of_cache error ≡ Fault → error ≡ cache.Fault
fault_handed_on cache.Fault is = cc
fault_handed_on cache.NoMemory is = cc
fault_handed_on (cache.Short name) is = cc

pub short_handed_on : (error : CacheError) (name : PageName) → of_cache error ≡ Damaged name → error ≡ cache.Short name
short_handed_on cache.Fault name is = cc
short_handed_on cache.NoMemory name is = cc
short_handed_on (cache.Short short) name is = cc

-- a refusal of the host that is no fault is want of memory
pub only_memory : {T : Type 0} (error : CacheError) (result : Result T CacheError) → result ≡ Err error → (of_cache error ≢ Fault)
    → ((name : PageName) → result ≢ Err (cache.Short name)) → result ≡ Err cache.NoMemory
only_memory cache.Fault result is no_fault no_short = absurd (no_fault refl)
only_memory cache.NoMemory result is no_fault no_short = is
only_memory (cache.Short name) result is no_fault no_short = absurd (no_short name is)
