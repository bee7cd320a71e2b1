-- Cutting one taken box along its long sides.
use Rattle.std.specs.Prelude.{◌≡◌, ℕ, ◌+◌, ◌-◌, ◌*◌, ◌/◌, ◌%◌, ◌<◌, ◌≤◌, Bool, false, ◌≢◌, ◌⊎◌, List, length, pos, slice_index_or, slice_set}
use Rattle.grid.specs.Grid.{IsInterval}
use Rattle.grid.specs.declared.interval.Interval.{Interval}
use Rattle.grid.specs.declared.interval.cut.Thirds.{Thirds}
use Rattle.order.specs.Answers.{Numbered, earlier_answer}
use Rattle.order.specs.Records.{direction_before, direction_key}
use Rattle.order.specs.declared.answer.Answer.TheVariants.{Reading}
use Rattle.table.specs.Boxes.{Long}
use Rattle.table.specs.Entries.{answer_of}
use Rattle.table.specs.Rows.{first_of, level_of, rank, row_at, span_of}
use Rattle.table.specs.declared.rows.Entry.{Entry}
use Rattle.table.specs.declared.rows.Row.{Row}
use Rattle.search.specs.Points.{longs_below, Given, IsThird, Kept, Same, Side, Six, Third, high, low, lower, middle, outer, start_of, upper}
use Rattle.search.specs.declared.sides.LongSide.{LongSide}

-- a row whose side d is an interval of more than one cell, so that it can be cut
pub record Cuttable (row : Row) (d : ℕ) : Type 0 where
  pub within : d < 6
  pub interval : IsInterval (first_of row d) (level_of row d)
  pub level : level_of row d < 19

-- an interval is that third of side d of a row
pub record PartOf (part : Third) (row : Row) (d : ℕ) (i : Interval) : Type 0 where
  pub first : i.first ≡ start_of part (first_of row d) (level_of row d)
  pub level : i.level ≡ level_of row d + 1

-- the thirds of side d of a row
pub record ThirdsIn (row : Row) (d : ℕ) (thirds : Thirds) : Type 0 where
  pub low : PartOf lower row d thirds.low
  pub middle : PartOf middle row d thirds.middle
  pub high : PartOf upper row d thirds.high

-- the row with an interval for its side d, and with an entry
abbrev pub with_side : Row → ℕ → Interval → Entry → Row
with_side row d i e = record { spans = slice_set row.spans d (span_of i); entry = e }

-- long sides go by their directions
abbrev pub side_key : LongSide → Numbered
side_key side = direction_key side.direction

abbrev pub side_before : LongSide → LongSide → Bool
side_before a b = direction_before a.direction b.direction

-- the side at a place of a list
abbrev pub side_at : List LongSide → ℕ → LongSide
side_at sides k = slice_index_or sides k (record { direction = record { w = Reading (pos 0); number = 0 }; row = 0 })

-- the row of a point of a side
abbrev pub row_of : LongSide → Side → ℕ
row_of side low = side.row
row_of side high = side.row + 1

-- direction e stands ahead of place k
abbrev pub Ahead : List LongSide → ℕ → ℕ → Type 0
Ahead sides k e = (i : ℕ) × (i < k) × ((side_at sides i).direction.number ≡ e)

-- the middle third of each of some directions, and the rest as it was
pub record MiddleOf (old new : Row) (cuts : ℕ → Type 0) : Type 0 where
  pub cut : (e : ℕ) → cuts e → IsThird middle old new e
  pub rest : (e : ℕ) → e < 6 → (cuts e → ⊥) → Same old new e

-- an outer third of direction d, the middle third of each of some others, and the rest as it was
pub record OuterOf (old new : Row) (d : ℕ) (s : Side) (cuts : ℕ → Type 0) : Type 0 where
  pub own : IsThird (outer s) old new d
  pub cut : (e : ℕ) → e ≢ d → cuts e → IsThird middle old new e
  pub rest : (e : ℕ) → e < 6 → e ≢ d → (cuts e → ⊥) → Same old new e
  pub six : Six new

-- sides along which row j can be cut: of different directions, with rows of their own
pub record Sides (table : List Row) (j : ℕ) (sides : List LongSide) : Type 0 where
  pub within : j < length table
  pub cuttable : (k : ℕ) → k < length sides → Cuttable (row_at table j) (side_at sides k).direction.number
  pub after : (k : ℕ) → k < length sides → j < (side_at sides k).row
  pub rows : (k : ℕ) → k < length sides → (side_at sides k).row + 1 < length table
  pub directions : (i k : ℕ) → i < k → k < length sides → (side_at sides i).direction.number ≢ (side_at sides k).direction.number
  pub apart : (i k : ℕ) → i < length sides → k < length sides → i ≢ k → (s z : Side) → row_of (side_at sides i) s ≢ row_of (side_at sides k) z

-- row j is cut along the sides in their order
pub record CutAlong (table : List Row) (j : ℕ) (sides : List LongSide) (after : List Row) : Type 0 where
  pub same_length : length after ≡ length table
  pub entries : (m : ℕ) → (row_at after m).entry ≡ (row_at table m).entry
  pub kept : MiddleOf (row_at table j) (row_at after j) (Ahead sides (length sides))
  pub six : Six (row_at after j)
  pub given : (k : ℕ) (s : Side) → k < length sides
      → OuterOf (row_at table j) (row_at after (row_of (side_at sides k) s)) (side_at sides k).direction.number s (Ahead sides k)
  pub others : (m : ℕ) → m ≢ j → ((k : ℕ) (s : Side) → k < length sides → m ≢ row_of (side_at sides k) s) → row_at after m ≡ row_at table m

-- row j is a box of rank r that can be cut, and its points have the rows from base on
pub record Taking (n r : ℕ) (table : List Row) (j base : ℕ) : Type 0 where
  pub some : 1 ≤ n
  pub six : n ≤ 6
  pub near : (d e : ℕ) → d < n → e < n → level_of (row_at table j) d ≤ level_of (row_at table j) e + 1
  pub intervals : (d : ℕ) → d < 6 → IsInterval (first_of (row_at table j) d) (level_of (row_at table j) d)
  pub ranked : rank n (row_at table j) ≡ r
  pub coarse : r / n < 19
  pub ahead : j < base
  pub room : base + 2 * (n - r % n) ≤ length table

-- a side whose points have the rows at and at + 1
abbrev pub with_row : List Row → ℕ → ℕ → LongSide
with_row table d at =
    record {
      direction = record { w = earlier_answer (answer_of (row_at table at).entry) (answer_of (row_at table (at + 1)).entry); number = d };
      row = at;
    }

-- the long side d of row j: its rows follow those of the long sides before it
abbrev pub side_for : ℕ → List Row → ℕ → ℕ → ℕ → LongSide
side_for n table j base d = with_row table d (base + 2 * longs_below n (row_at table j) d)

-- the long sides of row j by rising direction
pub record Gathered (n : ℕ) (table : List Row) (j base : ℕ) (sides : List LongSide) : Type 0 where
  pub size : length sides ≡ 6
  pub placed : (d : ℕ) → Long n (row_at table j) d → side_at sides (longs_below n (row_at table j) d) ≡ side_for n table j base d

-- the long sides of row j in the order of cutting
pub record InCutOrder (n : ℕ) (table : List Row) (j base : ℕ) (sides : List LongSide) : Type 0 where
  pub each : (k : ℕ) → k < length sides → (d : ℕ) × Long n (row_at table j) d × (side_at sides k ≡ side_for n table j base d)
  pub all : (d : ℕ) → Long n (row_at table j) d → (k : ℕ) × (k < length sides) × (side_at sides k ≡ side_for n table j base d)
  pub distinct : (i k : ℕ) → i ≢ k → i < length sides → k < length sides → (side_at sides i).direction.number ≢ (side_at sides k).direction.number
  pub rising : (i k : ℕ) → i < k → k < length sides → side_before (side_at sides k) (side_at sides i) ≡ false

-- row j, a box with the rows of its points from base on, is cut along its long sides in the order of cutting
pub record CutBox (n : ℕ) (table : List Row) (j base : ℕ) (after : List Row) : Type 0 where
  pub same_length : length after ≡ length table
  pub entries : (m : ℕ) → (row_at after m).entry ≡ (row_at table m).entry
  pub kept : Kept n (row_at table j) (row_at after j)
  pub given : (d : ℕ) (s : Side) → Long n (row_at table j) d
      → Given n (row_at table j) (row_at after (row_of (side_for n table j base d) s)) d s (λ e. side_before (side_for n table j base e) (side_for n table j base d))
  pub others : (m : ℕ) → m ≢ j → (m < base) ⊎ (base + 2 * longs_below n (row_at table j) n ≤ m) → row_at after m ≡ row_at table m
