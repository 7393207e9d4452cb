-- The refusals of the crates below, as they are handed on.
use Rattle.std.proofs.Common.{◌≡◌}
use Rattle.nb_host.specs.declared.host.HostError.{HostError}
use Rattle.nb_host.specs.declared.host.HostError.TheVariants as host
use Rattle.nb_host.specs.declared.page_name.PageName.{PageName}
use Rattle.nb_cell.specs.declared.cell_error.CellError.{CellError}
use Rattle.nb_cell.specs.declared.cell_error.CellError.TheVariants as cell
use Rattle.nb_tree.specs.declared.tree_error.TreeError.TheVariants.{Fault, Damaged}
use Rattle.nb_tree.specs.Errors.{of_host, of_cell}

pub cell_damaged : (error : CellError) (name : PageName) → of_cell error ≡ Damaged name → error ≡ cell.Damaged name
cell_damaged cell.Fault name is = cc
cell_damaged cell.NoMemory name is = cc
cell_damaged (cell.Damaged other) name is = cc

pub host_fault : (error : HostError) → of_host error ≡ Fault → error ≡ host.Fault
host_fault host.Fault is = cc
host_fault host.NoMemory is = cc
