-- The long sides among the directions seen so far.
use Rattle.std.proofs.Common.{◌≡◌, ℕ, ◌<◌, ◌≤◌, length}
use Rattle.table.specs.Rows.{row_at}
use Rattle.table.specs.Boxes.{Long}
use Rattle.search.specs.Points.{longs_below}
use Rattle.search.specs.Cutting.{side_at, side_for}
use Rattle.search.proofs.sides.TakenBox.long_sides.Given as goal

abbrev pub invariant-loop-d : goal.invariant-loop-d
invariant-loop-d l =
    (l.count ≡ longs_below l.self.shape.n (row_at l.table l.self.row) l.d) × (length l.sides ≡ 6) × (l.count ≤ l.d)
    × ((e : ℕ) → e < l.d → Long l.self.shape.n (row_at l.table l.self.row) e
    → side_at l.sides (longs_below l.self.shape.n (row_at l.table l.self.row) e) ≡ side_for l.self.shape.n l.table l.self.row l.self.base e)
