-- A refusal of the cache, as the calls on a table of cells tell it.
use Rattle.nb_cache.specs.declared.cache_error.CacheError.{CacheError}
use Rattle.nb_cache.specs.declared.cache_error.CacheError.TheVariants as cache
use Rattle.nb_cell.specs.declared.cell_error.CellError.{CellError}
use Rattle.nb_cell.specs.declared.cell_error.CellError.TheVariants.{Fault, NoMemory, Damaged}

-- a page that isn't whole in its file is damaged
abbrev pub of_cache : CacheError → CellError
of_cache cache.Fault = Fault
of_cache cache.NoMemory = NoMemory
of_cache (cache.Short name) = Damaged name
