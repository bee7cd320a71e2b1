-- A power of three that fits.
use Rattle.std.proofs.Common.{arith}
use Rattle.grid.proofs.Lengths.{cells_at_le}
use Rattle.tune.proofs.guarantee.side_at.Goals as goal

pub pow-requires : goal.pow-requires
pow-requires c = omega (arith, cells_at_le c.args.level)
