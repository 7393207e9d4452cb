-- A refusal of the host, as a cache tells it.
use Rattle.nb_host.specs.declared.host.HostError.{HostError}
use Rattle.nb_host.specs.declared.host.HostError.TheVariants as host
use Rattle.nb_cache.specs.declared.cache_error.CacheError.{CacheError}
use Rattle.nb_cache.specs.declared.cache_error.CacheError.TheVariants.{Fault, NoMemory}

abbrev pub of_host : HostError → CacheError
of_host host.Fault = Fault
of_host host.NoMemory = NoMemory
