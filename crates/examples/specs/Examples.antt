-- The worked examples of the rules, and what each of them claims.
use Rattle.std.specs.Prelude.{◌≡◌, ℕ, ◌-◌, ◌<◌, true, ◌≢◌, List, [], ◌∷◌, ◌++◌, map, length, replicate, ℤ, pos, Some, None, Option, slice_index}
use Rattle.std.specs.List.{AllByRecursion}
use Rattle.grid.specs.Grid.{IsInterval}
use Rattle.grid.specs.Thirds.{ThirdsOf}
use Rattle.grid.specs.declared.interval.Interval.{Interval}
use Rattle.grid.specs.declared.interval.cut.Thirds.{Thirds}
use Rattle.order.specs.declared.answer.Answer.{Answer}
use Rattle.order.specs.declared.answer.Answer.TheVariants.{Reading}
use Rattle.ranks.specs.Ranks.{Ranks, none, with}
use Rattle.policy.specs.Fronts.{IsFront}
use Rattle.policy.specs.Levels.{level}
use Rattle.policy.specs.declared.front.Front.{Front}
use Rattle.hull.specs.Decide.{hull_ranks}
use Rattle.record.specs.declared.item.Named.TheVariants.{Every}
use Rattle.table.specs.Boxes.{IsBox, Long}
use Rattle.table.specs.Fronts.{widened}
use Rattle.table.specs.Rows.{level_of, rank, row_at}
use Rattle.table.specs.declared.rows.Row.{Row}
use Rattle.search.specs.Counts.{points_of}
use Rattle.search.specs.Points.{Taken, cut_before, longs_below}
use Rattle.search.specs.Runs.{rounds_for}
use Rattle.search.specs.Tales.{Leads, Tale}
use Rattle.search.specs.Tales.Tale.{◌then◌, begun}
use Rattle.search.specs.declared.states.Rest.{Rest}
use Rattle.search.specs.declared.states.Round.{Round}

pub data Example : Type 0 where
  -- the interval of a first cell and a level t, and where its low, middle and high third begin
  thirds : (first t low middle high : ℕ) → Example
  -- a box of n directions and rank r: its level t, and how many long sides it has
  box : (n r t long_sides : ℕ) → Example
  -- a round of n directions that cuts the listed ranks: how many points it has
  points : (n : ℕ) (chosen : List ℕ) (count : ℕ) → Example
  -- how many closed rounds bring every level of a search of n directions to k
  rounds : (n k count : ℕ) → Example
  -- a hull of a share, where the ranks from 0 on have these readings: the ranks that it chooses
  hull : (n share : ℕ) (readings chosen : List ℕ) → Example
  -- the first round of n directions, by Every, with the readings of the middle cell and of the points:
  -- the direction that is cut first, and the ranks of the boxes after it
  division : (n middle : ℕ) (readings : List ℕ) (first : ℕ) (ranks : List ℕ) → Example

-- the listed ranks and no other
abbrev pub only : List ℕ → Ranks
only [] = none
only (r ∷ rs) = with (only rs) r

abbrev pub reading : ℕ → Answer
reading x = Reading (pos x)

-- the entries of a front whose ranks from 0 on have these readings
abbrev pub entries_of : List ℕ → List (Option Answer)
entries_of readings = map (λ x. Some (reading x)) readings ++ replicate (114 - length readings) None

-- the least and the greatest of some readings
abbrev pub ends_of : List ℕ → Option (ℤ × ℤ)
ends_of [] = None
ends_of (x ∷ xs) = widened (ends_of xs) (Some (reading x))

-- a search of one round, by Every
abbrev pub one_round : ℕ → ℕ → List ℕ → Tale
one_round n middle readings = begun n 19 (reading middle) then record { cap = None; by = Every; answers = map reading readings }

-- a round takes row 0 for rank 0, and cuts it along this direction first
pub record CutsFirst (n first : ℕ) (round : Round) (filled : List Row) : Type 0 where
  pub taken : Taken round filled 0 0
  pub before_others : (d : ℕ) → d < n → d ≢ first → cut_before round filled 0 0 first d ≡ true

-- what an example claims
abbrev pub Right : Example → Type 0
Right (thirds first t low middle high) =
    IsInterval first t × (t < 19)
    × ((i : Interval) (parts : Thirds) → i.first ≡ first → i.level ≡ t → ThirdsOf i parts
    → (parts.low.first ≡ low) × (parts.middle.first ≡ middle) × (parts.high.first ≡ high))
Right (box n r t long_sides) =
    ((f : Front) → f.directions ≡ n → level f r ≡ t)
    × ((finest : ℕ) (row : Row) → IsBox n finest row → rank n row ≡ r
    → (longs_below n row n ≡ long_sides) × ((d : ℕ) → Long n row d → level_of row d ≡ t))
Right (points n chosen count) = points_of n (only chosen) ≡ count
Right (rounds n k count) = rounds_for n k ≡ count
Right (hull n share readings chosen) =
    IsFront n (entries_of readings) (ends_of readings)
    × ((f : Front) → f.directions ≡ n → f.entries ≡ entries_of readings → f.readings ≡ ends_of readings
    → (r : ℕ) → hull_ranks share f r ≡ only chosen r)
Right (division n middle readings first ranks) =
    (table : List Row) (rest : Rest) (after : List Row) (led : Leads table (one_round n middle readings) rest after)
    → CutsFirst n first led.3.round led.3.filled × (rest.boxes ≡ length ranks)
    × ((j : ℕ) → j < length ranks → rank n (row_at after j) ≡ slice_index ranks j)

-- each of them is right
abbrev pub AllRight : List Example → Type 0
AllRight = AllByRecursion Right

abbrev pub examples : List Example
examples =
    thirds 0 0 0 387420489 774840978
    ∷ box 2 3 1 1
    ∷ box 6 0 0 6
    ∷ points 6 (0 ∷ []) 12
    ∷ rounds 1 3 13
    ∷ rounds 2 1 3
    ∷ rounds 2 2 30
    ∷ hull 1 0 (22 ∷ 10 ∷ 6 ∷ []) (0 ∷ 1 ∷ 2 ∷ [])
    ∷ hull 1 0 (22 ∷ 10 ∷ 5 ∷ []) (0 ∷ 2 ∷ [])
    ∷ hull 1 1000 (12 ∷ 10 ∷ []) (0 ∷ 1 ∷ [])
    ∷ hull 1 1000 (11 ∷ 10 ∷ []) (0 ∷ [])
    ∷ hull 1 1000 (10 ∷ 10 ∷ []) (0 ∷ [])
    ∷ division 2 50 (40 ∷ 70 ∷ 30 ∷ 60 ∷ []) 1 (2 ∷ 2 ∷ 2 ∷ 1 ∷ 1 ∷ [])
    ∷ []
