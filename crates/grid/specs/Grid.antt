-- The cells of a direction, and what is an interval of them.
use Rattle.std.specs.Prelude.{◌≡◌, ℕ, ◌+◌, ◌-◌, ◌/◌, ◌%◌, ◌^◌, ◌≤◌}

-- the cells of a direction
abbrev pub cells : ℕ
cells = 3 ^ 19

-- the cells of an interval of a level
abbrev pub cells_at : ℕ → ℕ
cells_at level = 3 ^ (19 - level)

-- the middle cell of an interval
abbrev pub middle_of : ℕ → ℕ → ℕ
middle_of first level = first + (cells_at level - 1) / 2

-- a first cell and a level that are an interval: a multiple of its cells, inside the grid
abbrev pub IsInterval : ℕ → ℕ → Type 0
IsInterval first level = (level ≤ 19) × (first % cells_at level ≡ 0) × (first + cells_at level ≤ cells)
