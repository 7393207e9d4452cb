use Rattle.std.proofs.Common.{◌≡◌, ◌+◌, ◌-◌, ◌*◌, take, drop, arith, ap}
use Rattle.nb_host.specs.declared.page_name.TheConstants.{PAGE_SIZE}
use Rattle.nb_walk.proofs.tests.pools.bytes_of.Goals as goal

pub returns-clause-bytes : goal.returns-clause-bytes
returns-clause-bytes c =
    let start = c.args.page * PAGE_SIZE in
    let size : start + PAGE_SIZE - start ≡ PAGE_SIZE = omega arith in
    ap (λ n. take n (drop start c.args.file.now)) size
