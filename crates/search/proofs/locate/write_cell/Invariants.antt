-- The cell's numbers that are written so far.
use Rattle.std.proofs.Common.{◌≡◌, ℕ, ◌<◌, length, slice_index}
use Rattle.search.specs.Points.{Coordinate}
use Rattle.search.proofs.locate.write_cell.Given as goal

abbrev pub invariant-loop-e : goal.invariant-loop-e
invariant-loop-e l = (length l.cell-items ≡ l.shape.n) × ((k : ℕ) → k < l.e → Coordinate l.row l.d l.side k (slice_index l.cell-items k))
