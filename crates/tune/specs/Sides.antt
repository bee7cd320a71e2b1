-- The sides of boxes of two directions.
use Rattle.std.specs.Prelude.{ℕ, ◌<◌, ◌≤◌, List}
use Rattle.table.specs.Rows.{row_at, side_of}
use Rattle.table.specs.declared.rows.Row.{Row}

-- no side of a box has more cells
abbrev pub Within : Row → ℕ → Type 0
Within row most = (side_of row 0 ≤ most) × (side_of row 1 ≤ most)

-- no side of the first boxes has more cells
abbrev pub AllWithin : ℕ → List Row → ℕ → Type 0
AllWithin count boxes most = (j : ℕ) → j < count → Within (row_at boxes j) most
