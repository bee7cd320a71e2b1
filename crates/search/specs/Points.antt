-- The points of a round, their cells, and what closing makes of the taken boxes.
use Rattle.std.specs.Prelude.{◌≡◌, ℕ, ◌+◌, ◌*◌, ◌/◌, ◌<◌, Bool, T, ◌≢◌, List, length, ◌==◌, slice_index}
use Rattle.grid.specs.Grid.{cells_at, middle_of}
use Rattle.order.specs.Answers.{earlier_answer}
use Rattle.order.specs.declared.answer.Answer.{Answer}
use Rattle.ranks.specs.Ranks.{ranks}
use Rattle.table.specs.Boxes.{First, Long}
use Rattle.table.specs.Entries.{answer_of, before}
use Rattle.table.specs.Rows.{first_of, level_of, rank, row_at}
use Rattle.table.specs.Sums.{bit, sum}
use Rattle.table.specs.declared.rows.Row.{Row}
use Rattle.search.specs.Counts.{points_below}
pub use Rattle.search.specs.declared.side.Side.{Side}
pub use Rattle.search.specs.declared.side.Side.TheVariants.{Low as low, High as high}
use Rattle.search.specs.declared.states.Round.{Round}

-- direction d of a box is a long side, as a test
abbrev pub is_long : ℕ → Row → ℕ → Bool
is_long n row d = level_of row d == rank n row / n

-- the long sides of a box before direction d
abbrev pub longs_below : ℕ → Row → ℕ → ℕ
longs_below n row d = sum d (λ e. bit (is_long n row e))

-- the number of the point of the long side d of the box taken for rank r:
-- after the points of the lower chosen ranks and those of the box's long sides before d, low before high
abbrev pub point_at : Round → ℕ → Row → ℕ → Side → ℕ
point_at round r row d low = points_below round.shape.n (ranks round.chosen) r + 2 * longs_below round.shape.n row d
point_at round r row d high = points_below round.shape.n (ranks round.chosen) r + 2 * longs_below round.shape.n row d + 1

-- row j is taken for the chosen rank r: it is the first box of the rank that can be cut
pub record Taken (round : Round) (table : List Row) (r j : ℕ) : Type 0 where
  pub in_set : T (ranks round.chosen r)
  pub first : First round.shape.n round.shape.finest round.boxes table r j

-- point p is that of the long side d, low or high, of the row j taken for rank r
pub record IsPoint (round : Round) (table : List Row) (p r j d : ℕ) (s : Side) : Type 0 where
  pub taken : Taken round table r j
  pub long : Long round.shape.n (row_at table j) d
  pub number : p ≡ point_at round r (row_at table j) d s

-- a third of a side of level t
abbrev pub third_at : ℕ → ℕ
third_at t = cells_at (t + 1)

-- the middle moved down or up by a third of the side
abbrev pub Moved : Side → ℕ → ℕ → ℕ → Type 0
Moved low first t x = x + third_at t ≡ middle_of first t
Moved high first t x = x ≡ middle_of first t + third_at t

-- x is the cell in direction e of the point of the long side d
pub record Coordinate (row : Row) (d : ℕ) (s : Side) (e x : ℕ) : Type 0 where
  pub moved : e ≡ d → Moved s (first_of row e) (level_of row e) x
  pub middle : e ≢ d → x ≡ middle_of (first_of row e) (level_of row e)

-- c begins with the cell of the point of the long side d: the middle of the box, moved in direction d
pub record CellOf (n : ℕ) (row : Row) (d : ℕ) (s : Side) (c : List ℕ) : Type 0 where
  pub moved : Moved s (first_of row d) (level_of row d) (slice_index c d)
  pub others : (e : ℕ) → e < n → e ≢ d → slice_index c e ≡ middle_of (first_of row e) (level_of row e)

-- c begins with the cell of point p
pub record Located (round : Round) (table : List Row) (p : ℕ) (c : List ℕ) : Type 0 where
  pub row : ℕ
  pub of : ℕ
  pub direction : ℕ
  pub side : Side
  pub point : IsPoint round table p of row direction side
  pub cell : CellOf round.shape.n (row_at table row) direction side c

-- w: the earlier of the two answers of a direction of the taken row j
abbrev pub w_of : Round → List Row → ℕ → ℕ → ℕ → Answer
w_of round table r j d =
    earlier_answer (answer_of (row_at table (round.boxes + point_at round r (row_at table j) d low)).entry)
    (answer_of (row_at table (round.boxes + point_at round r (row_at table j) d high)).entry)

-- direction d of the taken row j is cut before direction e: by w, then by lower number
abbrev pub cut_before : Round → List Row → ℕ → ℕ → ℕ → ℕ → Bool
cut_before round table r j d e = before (w_of round table r j d) d (w_of round table r j e) e

pub data Third : Type 0 where
  lower middle upper : Third

abbrev pub outer : Side → Third
outer low = lower
outer high = upper

-- the first cell of a third
abbrev pub start_of : Third → ℕ → ℕ → ℕ
start_of lower first t = first
start_of middle first t = first + third_at t
start_of upper first t = first + 2 * third_at t

-- the new row has that third of the old row's side d
pub record IsThird (part : Third) (old new : Row) (d : ℕ) : Type 0 where
  pub first : first_of new d ≡ start_of part (first_of old d) (level_of old d)
  pub level : level_of new d ≡ level_of old d + 1

-- the side d stays
pub record Same (old new : Row) (d : ℕ) : Type 0 where
  pub first : first_of new d ≡ first_of old d
  pub level : level_of new d ≡ level_of old d

-- a row has six spans
abbrev pub Six : Row → Type 0
Six row = length row.spans ≡ 6

-- what the taken row keeps: the middle third of each long side
pub record Kept (n : ℕ) (old new : Row) : Type 0 where
  pub cut : (e : ℕ) → Long n old e → IsThird middle old new e
  pub rest : (e : ℕ) → e < 6 → (Long n old e → ⊥) → Same old new e
  pub six : Six new

-- what the row of a point receives: an outer third of its direction, of what the directions cut before it have left
pub record Given (n : ℕ) (old new : Row) (d : ℕ) (s : Side) (earlier : ℕ → Bool) : Type 0 where
  pub own : IsThird (outer s) old new d
  pub cut : (e : ℕ) → Long n old e → e ≢ d → T (earlier e) → IsThird middle old new e
  pub rest : (e : ℕ) → e < 6 → e ≢ d → (Long n old e → T (earlier e) → ⊥) → Same old new e
  pub six : Six new
