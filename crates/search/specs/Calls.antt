-- The calls: each outcome, with the table, the cell list and the state after it.
use Rattle.std.specs.Prelude.{◌≡◌, ℕ, ◌+◌, ◌<◌, ◌≤◌, T, ◌≢◌, List, length, ℤ, Some, Ok, Err, Option, Result, MatchOption, slice_index, slice_set}
use Rattle.order.specs.Answers.{allowed}
use Rattle.order.specs.First.{FirstAmong}
use Rattle.order.specs.Records.{candidate_before}
use Rattle.order.specs.declared.answer.Answer.{Answer}
use Rattle.order.specs.declared.answer.Answer.TheVariants.{Reading}
use Rattle.order.specs.declared.records.Candidate.{Candidate}
use Rattle.policy.specs.declared.front.Front.{Front}
use Rattle.ranks.specs.Ranks.{Ranks, ranks}
use Rattle.refusal.specs.Checks.{Check, Gives, Refused}
use Rattle.refusal.specs.declared.Refusal.{Refusal}
use Rattle.refusal.specs.declared.Refusal.TheVariants.{Directions, FinestLevel, NoRow, ReadingOutOfRange, NotOwnTable, NothingToCut, NoRoom, NoSuchPoint, AlreadyAnswered, PointWaits, ShortCellList}
use Rattle.table.specs.Boxes.{OfRank, Own}
use Rattle.table.specs.Entries.{shown_by, waiting}
use Rattle.table.specs.Fronts.{FrontOf}
use Rattle.table.specs.Rows.{row_at, whole_grid}
use Rattle.table.specs.declared.rows.Entry.TheVariants.{Answered, Waiting}
use Rattle.table.specs.declared.rows.Row.{Row}
use Rattle.search.specs.Counts.{points_of}
use Rattle.search.specs.Points.{Given, IsPoint, Kept, Located, Side, Taken, cut_before}
use Rattle.search.specs.declared.states.Rest.{Rest}
use Rattle.search.specs.declared.states.Round.{Round}

-- Begin

-- the search at rest that begin gives
pub record Begun (n finest : ℕ) (rest : Rest) : Type 0 where
  pub is_n : rest.shape.n ≡ n
  pub is_finest : rest.shape.finest ≡ finest
  pub one_box : rest.boxes ≡ 1
  pub no_round : rest.rounds ≡ 0

abbrev pub Begins : ℕ → ℕ → List Row → Answer → Result Rest Refusal → List Row → Type 0
Begins n finest table a out after =
    Check ((1 ≤ n) × (n ≤ 6)) (Refused table after out Directions)
    (Check ((1 ≤ finest) × (finest ≤ 19)) (Refused table after out FinestLevel)
    (Check (1 ≤ length table) (Refused table after out NoRow)
    (Check (T (allowed a)) (Refused table after out ReadingOutOfRange)
    (Gives out (Begun n finest) × (after ≡ slice_set table 0 (whole_grid (Answered a)))))))

-- Open

-- the table is the search's own
abbrev pub OwnRest : Rest → List Row → Type 0
OwnRest rest table = Own rest.shape.n rest.shape.finest rest.boxes table

-- some box can be cut
abbrev pub SomeBox : Rest → List Row → Type 0
SomeBox rest table = (r : ℕ) × (j : ℕ) × OfRank rest.shape.n rest.shape.finest rest.boxes table r j

-- there are rows for so many points
abbrev pub Room : Rest → List Row → ℕ → Type 0
Room rest table points = (rest.boxes + points ≤ length table) × (rest.boxes + points ≤ 65535)

-- rows from low up to high become the whole grid, which waits, and every other row remains
pub record Cleared (low high : ℕ) (table after : List Row) : Type 0 where
  pub same_length : length after ≡ length table
  pub waits : (j : ℕ) → low ≤ j → j < high → row_at after j ≡ whole_grid Waiting
  pub below : (j : ℕ) → j < low → row_at after j ≡ row_at table j
  pub above : (j : ℕ) → high ≤ j → row_at after j ≡ row_at table j

-- the round of some chosen ranks
pub record Opened (rest : Rest) (chosen : Ranks) (round : Round) : Type 0 where
  pub same_shape : round.shape ≡ rest.shape
  pub same_boxes : round.boxes ≡ rest.boxes
  pub same_rounds : round.rounds ≡ rest.rounds
  pub is_chosen : ranks round.chosen ≡ chosen
  pub is_points : round.points ≡ points_of rest.shape.n chosen

-- opening on a table that is the search's own
abbrev pub OpensIn : (Front → Ranks) → Rest → List Row → Result Round (Refusal × Rest) → List Row → Type 0
OpensIn meaning rest table out after =
    Check (SomeBox rest table) (Refused table after out (NothingToCut, rest))
    ((front : Front) × FrontOf rest.shape.n rest.shape.finest rest.boxes table front
    × Check (Room rest table (points_of rest.shape.n (meaning front))) (Refused table after out (NoRoom, rest))
    (Gives out (Opened rest (meaning front)) × Cleared rest.boxes (rest.boxes + points_of rest.shape.n (meaning front)) table after))

abbrev pub Opens : (Front → Ranks) → Rest → List Row → Result Round (Refusal × Rest) → List Row → Type 0
Opens meaning rest table out after =
    Check (OwnRest rest table) (Refused table after out (NotOwnTable, rest))
    (OpensIn meaning rest table out after)

-- In a round

-- the table is the round's own
pub record OwnRound (round : Round) (table : List Row) : Type 0 where
  pub own : Own round.shape.n round.shape.finest round.boxes table
  pub rows : round.boxes + round.points ≤ length table
  pub boxes : (r : ℕ) → T (ranks round.chosen r) → (j : ℕ) × OfRank round.shape.n round.shape.finest round.boxes table r j

-- point p waits
abbrev pub Waits : Round → List Row → ℕ → Type 0
Waits round table p = T (waiting (row_at table (round.boxes + p)).entry)

-- the list begins with the cell of point p, and nothing after that has changed
pub record LocatedIn (round : Round) (table : List Row) (p : ℕ) (list after : List ℕ) : Type 0 where
  pub cell : Located round table p after
  pub same_length : length after ≡ length list
  pub nothing_after : (d : ℕ) → round.shape.n ≤ d → slice_index after d ≡ slice_index list d

abbrev pub LocatesIn : Round → List Row → ℕ → List ℕ → Result (Unit {0}) Refusal → List ℕ → Type 0
LocatesIn round table p list out after =
    Check (p < round.points) (Refused list after out NoSuchPoint)
    (Check (round.shape.n ≤ length list) (Refused list after out ShortCellList)
    ((out ≡ Ok tt) × LocatedIn round table p list after))

abbrev pub Locates : Round → List Row → ℕ → List ℕ → Result (Unit {0}) Refusal → List ℕ → Type 0
Locates round table p list out after =
    Check (OwnRound round table) (Refused list after out NotOwnTable)
    (LocatesIn round table p list out after)

-- some point that waits, or none where none waits
abbrev pub WaitingPoint : Round → List Row → Option ℕ → Type 0
WaitingPoint round table o =
    MatchOption o ((p : ℕ) → p < round.points → Waits round table p → ⊥) (λ p. (p < round.points) × Waits round table p)

abbrev pub FindsWaiting : Round → List Row → Result (Option ℕ) Refusal → Type 0
FindsWaiting round table out =
    Check (OwnRound round table) (out ≡ Err NotOwnTable)
    (Gives out (WaitingPoint round table))

-- the row of a point with an answer; its box remains
abbrev pub with_answer : Row → Answer → Row
with_answer row a = record { spans = row.spans; entry = Answered a }

abbrev pub AnswersIn : Round → List Row → ℕ → Answer → Result (Unit {0}) Refusal → List Row → Type 0
AnswersIn round table p a out after =
    Check (p < round.points) (Refused table after out NoSuchPoint)
    (Check (Waits round table p) (Refused table after out AlreadyAnswered)
    ((out ≡ Ok tt) × (after ≡ slice_set table (round.boxes + p) (with_answer (row_at table (round.boxes + p)) a))))

abbrev pub Answers : Round → List Row → ℕ → Answer → Result (Unit {0}) Refusal → List Row → Type 0
Answers round table p a out after =
    Check (T (allowed a)) (Refused table after out ReadingOutOfRange)
    (Check (OwnRound round table) (Refused table after out NotOwnTable)
    (AnswersIn round table p a out after))

-- Close

abbrev pub NoneWaits : Round → List Row → Type 0
NoneWaits round table = (p : ℕ) → p < round.points → Waits round table p → ⊥

-- each taken box is cut along its long sides, and everything else remains
pub record CutAll (round : Round) (table after : List Row) : Type 0 where
  pub same_length : length after ≡ length table
  pub entries : (j : ℕ) → (row_at after j).entry ≡ (row_at table j).entry
  pub taken : (r j : ℕ) → Taken round table r j → Kept round.shape.n (row_at table j) (row_at after j)
  pub given : (p r j d : ℕ) (s : Side) → IsPoint round table p r j d s
      → Given round.shape.n (row_at table j) (row_at after (round.boxes + p)) d s (λ e. cut_before round table r j e d)
  pub others : (j : ℕ) → j < round.boxes → ((r : ℕ) → Taken round table r j → ⊥) → row_at after j ≡ row_at table j
  pub above : (j : ℕ) → round.boxes + round.points ≤ j → row_at after j ≡ row_at table j

-- the search at rest after a round
pub record Rested (round : Round) (rest : Rest) : Type 0 where
  pub same_shape : rest.shape ≡ round.shape
  pub boxes : rest.boxes ≡ round.boxes + round.points
  pub rounds : rest.rounds ≡ round.rounds + 1

-- closing on a table that is the round's own
abbrev pub ClosesIn : Round → List Row → Result Rest (Refusal × Round) → List Row → Type 0
ClosesIn round table out after =
    Check (NoneWaits round table) (Refused table after out (PointWaits, round))
    (Gives out (Rested round) × CutAll round table after)

abbrev pub Closes : Round → List Row → Result Rest (Refusal × Round) → List Row → Type 0
Closes round table out after =
    Check (OwnRound round table) (Refused table after out (NotOwnTable, round))
    (ClosesIn round table out after)

-- Best

-- c is a box of the search, with its answer
pub record BoxOf (rest : Rest) (table : List Row) (c : Candidate) : Type 0 where
  pub within : c.row < rest.boxes
  pub shows : shown_by (row_at table c.row).entry ≡ Some c.answer

-- the row and the reading of the first box, or none if no box has a reading
abbrev pub BestOf : Rest → List Row → Option (ℕ × ℤ) → Type 0
BestOf rest table o =
    MatchOption o ((j : ℕ) (x : ℤ) → j < rest.boxes → shown_by (row_at table j).entry ≢ Some (Reading x))
    (λ best. FirstAmong candidate_before (BoxOf rest table) (Some (record { answer = Reading best.1; row = best.0 })))

abbrev pub Bests : Rest → List Row → Result (Option (ℕ × ℤ)) Refusal → Type 0
Bests rest table out =
    Check (OwnRest rest table) (out ≡ Err NotOwnTable)
    (Gives out (BestOf rest table))
