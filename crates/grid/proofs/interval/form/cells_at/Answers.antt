-- A power of three that fits.
use Rattle.std.proofs.Common.{arith}
use Rattle.grid.proofs.Lengths.{cells_at_le, cells_at_pos}
use Rattle.grid.proofs.interval.form.cells_at.Goals as goal

pub pow-requires : goal.pow-requires
pow-requires c = omega (arith, cells_at_le c.args.level)

pub returns : goal.returns
returns c =
    record {
      value = c.pow.ensures;
      some = omega (arith, cells_at_pos c.args.level);
      most = omega (arith, cells_at_le c.args.level);
    }
