-- The refusals of the crates below, as a session tells them.
use Rattle.std.specs.Prelude.{◌≡◌, ◌⊎◌, ℕ}
use Rattle.nb_format.specs.declared.snap_error.SnapError.{SnapError}
use Rattle.nb_format.specs.declared.snap_error.SnapError.TheVariants as snap
use Rattle.nb_host.specs.declared.host.HostError.{HostError}
use Rattle.nb_host.specs.declared.host.HostError.TheVariants as host
use Rattle.nb_journal.specs.declared.error.JournalError.{JournalError}
use Rattle.nb_journal.specs.declared.error.JournalError.TheVariants as journal
use Rattle.nb_journal.specs.Offsets.{journal_file}
use Rattle.nb_engine.specs.Files.{init_file}
use Rattle.nb_cache.specs.declared.cache_error.CacheError.{CacheError}
use Rattle.nb_cache.specs.declared.cache_error.CacheError.TheVariants as cache
use Rattle.nb_order.specs.declared.order_error.OrderError.{OrderError}
use Rattle.nb_order.specs.declared.order_error.OrderError.TheVariants as order
use Rattle.nb_tick.specs.declared.tick_error.TickError.{TickError}
use Rattle.nb_tick.specs.declared.tick_error.TickError.TheVariants as tick
use Rattle.nb_engine.specs.declared.refusal.Refusal.{Refusal}
use Rattle.nb_engine.specs.declared.refusal.Refusal.TheVariants as refusal

-- the journal is damaged, at this byte
abbrev pub damaged_journal : ℕ → Refusal
damaged_journal offset = refusal.Damaged (record { file = journal_file; page = offset })

abbrev pub of_journal : JournalError → Refusal
of_journal journal.Fault = refusal.Device
of_journal journal.NoMemory = refusal.NoMemory
of_journal (journal.Damaged offset) = damaged_journal offset

abbrev pub of_host : HostError → Refusal
of_host host.Fault = refusal.Device
of_host host.NoMemory = refusal.NoMemory

abbrev pub of_snapshot : SnapError → Refusal
of_snapshot snap.Fault = refusal.Device
of_snapshot snap.NoMemory = refusal.NoMemory
of_snapshot error = refusal.Snapshot error

-- a refusal of a second reading of the initial snapshot, at this body
abbrev pub of_second_reading : SnapError → ℕ → Refusal
of_second_reading snap.Fault index = refusal.Device
of_second_reading snap.NoMemory index = refusal.NoMemory
of_second_reading error index = refusal.Damaged (record { file = init_file; page = index })

-- a refusal of the cache, of a file of bodies, or of a tick
abbrev pub of_cache : CacheError → Refusal
of_cache cache.Fault = refusal.Device
of_cache cache.NoMemory = refusal.NoMemory
of_cache (cache.Short page) = refusal.Damaged page

abbrev pub of_order : OrderError → Refusal
of_order order.Fault = refusal.Device
of_order order.NoMemory = refusal.NoMemory
of_order (order.Damaged page) = refusal.Damaged page

abbrev pub of_tick : TickError → Refusal
of_tick tick.Fault = refusal.Device
of_tick tick.NoMemory = refusal.NoMemory
of_tick (tick.Damaged page) = refusal.Damaged page

-- a refusal that needs no cause in the files: a device fault, or want of memory
abbrev pub NeedsNoCause : Refusal → Type 0
NeedsNoCause why = (why ≡ refusal.Device) ⊎ (why ≡ refusal.NoMemory)
