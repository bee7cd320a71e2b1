-- Rows that are boxes of a search, boxes that can be cut, and the first of a rank.
use Rattle.std.specs.Prelude.{◌≡◌, ℕ, ◌+◌, ◌*◌, ◌/◌, ◌<◌, ◌≤◌, false, List, length, Some, Option}
use Rattle.grid.specs.Grid.{IsInterval}
use Rattle.order.specs.First.{FirstAmong}
use Rattle.order.specs.Records.{candidate_before}
use Rattle.order.specs.declared.answer.Answer.{Answer}
use Rattle.order.specs.declared.records.Candidate.{Candidate}
use Rattle.table.specs.Entries.{shown_by, waiting}
use Rattle.table.specs.Rows.{first_of, level_of, rank, row_at}
use Rattle.table.specs.declared.rows.Row.{Row}

-- direction d of a box is a long side: its level is the level of the box
pub record Long (n : ℕ) (row : Row) (d : ℕ) : Type 0 where
  pub direction : d < n
  pub level : level_of row d ≡ rank n row / n

-- what a box of n directions has in direction d: an interval; in a used direction its level is at most the finest
-- and at most one above that of each used direction, and in an unused one it is 0
pub record InDirection (n finest : ℕ) (row : Row) (d : ℕ) : Type 0 where
  pub interval : IsInterval (first_of row d) (level_of row d)
  pub at_most : d < n → level_of row d ≤ finest
  pub near : d < n → (e : ℕ) → e < n → level_of row d ≤ level_of row e + 1
  pub unused : n ≤ d → level_of row d ≡ 0

-- a row that is a box with its answer
pub record IsBox (n finest : ℕ) (row : Row) : Type 0 where
  pub answered : waiting row.entry ≡ false
  pub directions : (d : ℕ) → d < 6 → InDirection n finest row d

-- a table whose first rows, as many as there are boxes, are boxes with their answers
pub record Own (n finest boxes : ℕ) (table : List Row) : Type 0 where
  pub rows : boxes ≤ length table
  pub each : (j : ℕ) → j < boxes → IsBox n finest (row_at table j)

-- row j is a box of rank r that can be cut
pub record OfRank (n finest boxes : ℕ) (table : List Row) (r j : ℕ) : Type 0 where
  pub within : j < boxes
  pub ranked : rank n (row_at table j) ≡ r
  pub unfinished : r < n * finest

-- c stands for a box of rank r that can be cut, with its answer
pub record Offered (n finest boxes : ℕ) (table : List Row) (r : ℕ) (c : Candidate) : Type 0 where
  pub box : OfRank n finest boxes table r c.row
  pub answered : shown_by (row_at table c.row).entry ≡ Some c.answer

-- the first box of rank r that can be cut, or none
abbrev pub FirstOfRank : ℕ → ℕ → ℕ → List Row → ℕ → Option Candidate → Type 0
FirstOfRank n finest boxes table r o = FirstAmong candidate_before (Offered n finest boxes table r) o

-- row j is the first box of rank r that can be cut
abbrev pub First : ℕ → ℕ → ℕ → List Row → ℕ → ℕ → Type 0
First n finest boxes table r j = (a : Answer) × FirstOfRank n finest boxes table r (Some (record { answer = a; row = j }))
