-- The sum of the levels seen so far.
use Rattle.std.proofs.Common.{◌≡◌, ◌*◌, ◌≤◌}
use Rattle.table.specs.Rows.{level_of}
use Rattle.table.specs.Sums.{sum}
use Rattle.table.proofs.shape.Shape.rank_of.Given as goal

abbrev pub invariant-loop-span : goal.invariant-loop-span
invariant-loop-span l = (l.rank ≡ sum l.span-index (level_of l.row)) × (l.rank ≤ 255 * l.span-index)
