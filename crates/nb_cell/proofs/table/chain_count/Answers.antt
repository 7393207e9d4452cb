use Rattle.std.proofs.Common.{◌^◌, ◌≤◌, arith}
use Rattle.std.proofs.Math.Pow.{pow_mono}
use Rattle.nb_cell.specs.declared.table.TheConstants.{MOST_BITS}
use Rattle.nb_cell.proofs.table.chain_count.Goals as goal

pub returns-clause-most : goal.returns-clause-most
returns-clause-most c = let few : 2 ^ c.args.bits ≤ 2 ^ MOST_BITS = pow_mono c.requires in omega arith
