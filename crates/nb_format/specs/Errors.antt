-- A host's refusal, as a reader of a snapshot hands it on.
use Rattle.nb_host.specs.declared.host.HostError.{HostError}
use Rattle.nb_host.specs.declared.host.HostError.TheVariants as host
use Rattle.nb_format.specs.declared.snap_error.SnapError.{SnapError}
use Rattle.nb_format.specs.declared.snap_error.SnapError.TheVariants as snap

abbrev pub of_host : HostError → SnapError
of_host host.Fault = snap.Fault
of_host host.NoMemory = snap.NoMemory
