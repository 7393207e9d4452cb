-- The refusals of the crates below, as a build tells them.
use Rattle.nb_host.specs.declared.host.HostError.{HostError}
use Rattle.nb_host.specs.declared.host.HostError.TheVariants as host
use Rattle.nb_order.specs.declared.order_error.OrderError.{OrderError}
use Rattle.nb_order.specs.declared.order_error.OrderError.TheVariants as order
use Rattle.nb_cell.specs.declared.cell_error.CellError.{CellError}
use Rattle.nb_cell.specs.declared.cell_error.CellError.TheVariants as cell
use Rattle.nb_tree.specs.declared.tree_error.TreeError.{TreeError}
use Rattle.nb_tree.specs.declared.tree_error.TreeError.TheVariants.{Fault, NoMemory, Damaged}

abbrev pub of_host : HostError → TreeError
of_host host.Fault = Fault
of_host host.NoMemory = NoMemory

abbrev pub of_order : OrderError → TreeError
of_order order.Fault = Fault
of_order order.NoMemory = NoMemory
of_order (order.Damaged name) = Damaged name

abbrev pub of_cell : CellError → TreeError
of_cell cell.Fault = Fault
of_cell cell.NoMemory = NoMemory
of_cell (cell.Damaged name) = Damaged name
