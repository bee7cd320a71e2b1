-- The boxes that rows hold: their cells, sides and ranks.
use Rattle.std.specs.Prelude.{◌≡◌, ℕ, ◌+◌, ◌<◌, ◌≤◌, List, [], length, replicate, slice_index, slice_index_or}
use Rattle.grid.specs.Grid.{cells, cells_at, middle_of}
use Rattle.grid.specs.declared.interval.Interval.{Interval}
use Rattle.table.specs.Sums.{sum}
use Rattle.table.specs.declared.rows.Entry.{Entry}
use Rattle.table.specs.declared.rows.Entry.TheVariants.{Waiting}
use Rattle.table.specs.declared.rows.Row.{Row}
use Rattle.table.specs.declared.rows.Span.{Span}

-- the numbers of an interval
abbrev pub span_of : Interval → Span
span_of i = record { first = i.first; level = i.level }

-- the first cell 0 and the level 0: all cells of a direction
abbrev pub all_cells : Span
all_cells = record { first = 0; level = 0 }

-- the numbers of a box in direction d
abbrev pub span_at : Row → ℕ → Span
span_at row d = slice_index_or row.spans d all_cells

-- the first cell of a box in direction d
abbrev pub first_of : Row → ℕ → ℕ
first_of row d = (span_at row d).first

-- its level there
abbrev pub level_of : Row → ℕ → ℕ
level_of row d = (span_at row d).level

-- its side there, in cells
abbrev pub side_of : Row → ℕ → ℕ
side_of row d = cells_at (level_of row d)

-- the rank of a box: the sum of its levels
abbrev pub rank : ℕ → Row → ℕ
rank n row = sum n (level_of row)

-- a cell of the grid is the list of its n numbers
pub record IsCell (n : ℕ) (c : List ℕ) : Type 0 where
  pub directions : length c ≡ n
  pub inside : (d : ℕ) → d < n → slice_index c d < cells

-- the cell c lies in the box
pub record LiesIn (n : ℕ) (c : List ℕ) (row : Row) : Type 0 where
  pub from : (d : ℕ) → d < n → first_of row d ≤ slice_index c d
  pub to : (d : ℕ) → d < n → slice_index c d < first_of row d + side_of row d

-- c is the middle cell of the box
pub record IsMiddle (n : ℕ) (row : Row) (c : List ℕ) : Type 0 where
  pub directions : length c ≡ n
  pub middle : (d : ℕ) → d < n → slice_index c d ≡ middle_of (first_of row d) (level_of row d)

-- the whole grid, with an entry
abbrev pub whole_grid : Entry → Row
whole_grid e = record { spans = replicate 6 all_cells; entry = e }

-- what is read past the end of a table
abbrev pub no_row : Row
no_row = record { spans = []; entry = Waiting }

-- row j of a table
abbrev pub row_at : List Row → ℕ → Row
row_at table j = slice_index_or table j no_row
