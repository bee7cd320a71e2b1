-- Runs of a search: its book, the calls that its state allows, and what holds after each list of them.
use Rattle.std.specs.Prelude.{◌≡◌, ℕ, ◌+◌, ◌-◌, ◌*◌, ◌%◌, ◌^◌, ◌<◌, ◌≤◌, ◌≢◌, ◌⊎◌, List, [], ◌∷◌, ◌++◌, map, length, replicate, ℤ, Some, None, Ok, Err, Option, Result, slice_index_or, slice_set}
use Rattle.grid.specs.Grid.{cells_at}
use Rattle.order.specs.declared.answer.Answer.{Answer}
use Rattle.policy.specs.Rules.{OnlyFilled, ReachesLargest}
use Rattle.policy.specs.declared.front.Front.{Front}
use Rattle.ranks.specs.Ranks.{Ranks}
use Rattle.refusal.specs.declared.Refusal.{Refusal}
use Rattle.table.specs.Entries.{shown_by}
use Rattle.table.specs.Fronts.{FrontOf}
use Rattle.table.specs.Rows.{IsCell, IsMiddle, LiesIn, rank, row_at, side_of}
use Rattle.table.specs.Sums.{sum}
use Rattle.table.specs.declared.rows.Row.{Row}
use Rattle.search.specs.Calls.{Answers, Bests, Closes, FindsWaiting, Locates, Opens, OwnRest, OwnRound}
use Rattle.search.specs.Points.{longs_below}
use Rattle.search.specs.declared.states.Rest.{Rest}
use Rattle.search.specs.declared.states.Round.{Round}

-- a cell of the book, with the answer that was given for it
pub record Noted : Type 0 where
  pub cell : List ℕ
  pub answer : Option Answer

-- what is known of a search besides its table: the cells measured or to be measured, the closed rounds and their points
pub record Book : Type 0 where
  pub cells : List Noted
  pub rounds : ℕ
  pub points : ℕ

abbrev pub noted : Book → ℕ → Noted
noted book i = slice_index_or book.cells i (record { cell = []; answer = None })

-- the answers of its cells, in the order of the cells
abbrev pub answers_in : Book → List (Option Answer)
answers_in book = map (λ x. x.answer) book.cells

-- begin notes the grid's middle cell with its answer
abbrev pub first_book : ℕ → Answer → Book
first_book n a = record { cells = record { cell = replicate n 581130733; answer = Some a } ∷ []; rounds = 0; points = 0 }

-- open notes the cells of its points
abbrev pub opened_book : Book → List (List ℕ) → Book
opened_book book cells =
    record { cells = book.cells ++ map (λ c. record { cell = c; answer = None }) cells; rounds = book.rounds; points = book.points }

-- an answer is noted for its point's cell; those of the open round follow the middle cell and the points of closed rounds
abbrev pub answered_book : Book → ℕ → Answer → Book
answered_book book p a =
    record {
      cells = slice_set book.cells (1 + book.points + p) (record { cell = (noted book (1 + book.points + p)).cell; answer = Some a });
      rounds = book.rounds;
      points = book.points;
    }

-- close counts the round and its points
abbrev pub closed_book : Book → ℕ → Book
closed_book book points = record { cells = book.cells; rounds = book.rounds + 1; points = book.points + points }

pub data State : Type 0 where
  at_rest : Rest → State
  in_round : Round → State

abbrev pub boxes_of : State → ℕ
boxes_of (at_rest rest) = rest.boxes
boxes_of (in_round round) = round.boxes

abbrev pub rounds_of : State → ℕ
rounds_of (at_rest rest) = rest.rounds
rounds_of (in_round round) = round.rounds

-- the points of the open round
abbrev pub open_points : State → ℕ
open_points (at_rest rest) = 0
open_points (in_round round) = round.points

abbrev pub OwnTable : State → List Row → Type 0
OwnTable (at_rest rest) table = OwnRest rest table
OwnTable (in_round round) table = OwnRound round table

-- the cells that locate gives for a round's points
pub record CellsOf (round : Round) (table : List Row) (cells : List (List ℕ)) : Type 0 where
  pub count : length cells ≡ round.points
  pub each : (p : ℕ) → p < round.points
      → (list : List ℕ) × (length list ≡ round.shape.n) × Locates round table p list (Ok tt) (slice_index_or cells p [])

-- an accepted open has cells for all its points, at least two of them
abbrev pub LocatedCells : Result Round (Refusal × Rest) → List Row → Type 0
LocatedCells (Ok round) table = (2 ≤ round.points) × ((cells : List (List ℕ)) × CellsOf round table cells)
LocatedCells (Err refused) table = Unit {0}

-- a meaning keeps the two rules at the front of a table
abbrev pub LawfulAt : (Front → Ranks) → Rest → List Row → Type 0
LawfulAt meaning rest table =
    (front : Front) → FrontOf rest.shape.n rest.shape.finest rest.boxes table front
    → OnlyFilled front (meaning front) × ReachesLargest front (meaning front)

-- the search's table after a refused call: as the call left it, if that was the table used, and as it was, if another was used
abbrev pub Left : List Row → List Row → List Row → List Row → Type 0
Left table used left after = ((used ≡ table) × (after ≡ left)) ⊎ (after ≡ table)

-- the states, tables and books that calls lead to, from a search as begin gave it
pub data Run (begun : Rest) (written : List Row) (a : Answer) : State → List Row → Book → Type 0 where
  start : Run begun written a (at_rest begun) written (first_book begun.shape.n a)
  opened : {rest : Rest} {table : List Row} {book : Book} → Run begun written a (at_rest rest) table book
      → (meaning : Front → Ranks) → LawfulAt meaning rest table → (round : Round) (after : List Row) → Opens meaning rest table (Ok round) after
      → (cells : List (List ℕ)) → CellsOf round after cells
      → Run begun written a (in_round round) after (opened_book book cells)
  open_refused : {rest : Rest} {table : List Row} {book : Book} → Run begun written a (at_rest rest) table book
      → (meaning : Front → Ranks) (used left after : List Row) (refused : Refusal × Rest)
      → Opens meaning rest used (Err refused) left → Left table used left after
      → Run begun written a (at_rest refused.1) after book
  located : {round : Round} {table : List Row} {book : Book} → Run begun written a (in_round round) table book
      → (used : List Row) (p : ℕ) (list after : List ℕ) (out : Result (Unit {0}) Refusal) → Locates round used p list out after
      → Run begun written a (in_round round) table book
  waited : {round : Round} {table : List Row} {book : Book} → Run begun written a (in_round round) table book
      → (used : List Row) (out : Result (Option ℕ) Refusal) → FindsWaiting round used out
      → Run begun written a (in_round round) table book
  answered : {round : Round} {table : List Row} {book : Book} → Run begun written a (in_round round) table book
      → (p : ℕ) (given : Answer) (after : List Row) → Answers round table p given (Ok tt) after
      → Run begun written a (in_round round) after (answered_book book p given)
  answer_refused : {round : Round} {table : List Row} {book : Book} → Run begun written a (in_round round) table book
      → (p : ℕ) (given : Answer) (used left after : List Row) (e : Refusal)
      → Answers round used p given (Err e) left → Left table used left after
      → Run begun written a (in_round round) after book
  closed : {round : Round} {table : List Row} {book : Book} → Run begun written a (in_round round) table book
      → (rest : Rest) (after : List Row) → Closes round table (Ok rest) after
      → Run begun written a (at_rest rest) after (closed_book book round.points)
  close_refused : {round : Round} {table : List Row} {book : Book} → Run begun written a (in_round round) table book
      → (used left after : List Row) (refused : Refusal × Round)
      → Closes round used (Err refused) left → Left table used left after
      → Run begun written a (in_round refused.1) after book
  best : {rest : Rest} {table : List Row} {book : Book} → Run begun written a (at_rest rest) table book
      → (used : List Row) (out : Result (Option (ℕ × ℤ)) Refusal) → Bests rest used out
      → Run begun written a (at_rest rest) table book

-- the cell c lies in the box of row j, and in no other of the boxes
pub record OnlyIn (n boxes : ℕ) (table : List Row) (c : List ℕ) (j : ℕ) : Type 0 where
  pub within : j < boxes
  pub lies : LiesIn n c (row_at table j)
  pub only : (i : ℕ) → i < boxes → LiesIn n c (row_at table i) → i ≡ j

-- the answer of a row was given for its middle cell
pub record GivenFor (n : ℕ) (book : Book) (row : Row) (i : ℕ) : Type 0 where
  pub within : i < length book.cells
  pub middle : IsMiddle n row (noted book i).cell
  pub given : (a : Answer) × (shown_by row.entry ≡ Some a) × ((noted book i).answer ≡ Some a)

-- the closed rounds after which every level is at least k
abbrev pub rounds_for : ℕ → ℕ → ℕ
rounds_for n k = 3 ^ (n - 1) * sum k (λ i. 3 ^ (i * n))

-- what holds of a search, its table and its book
pub record Holds (n finest : ℕ) (state : State) (table : List Row) (book : Book) : Type 0 where
  -- every cell of the grid lies in exactly one box
  pub one_box : (c : List ℕ) → IsCell n c → (j : ℕ) × OnlyIn n (boxes_of state) table c j
  -- each box's answer was given for its middle cell
  pub answers : (j : ℕ) → j < boxes_of state → (i : ℕ) × GivenFor n book (row_at table j) i
  -- after enough closed rounds no side of a box is longer than that of level k
  pub sides : (k : ℕ) → 1 ≤ k → k ≤ finest → rounds_for n k ≤ book.rounds
      → (j d : ℕ) → j < boxes_of state → d < n → side_of (row_at table j) d ≤ cells_at k
  -- all measured points are different cells
  pub apart : (i j : ℕ) → i < length book.cells → j < length book.cells → i ≢ j → (noted book i).cell ≢ (noted book j).cell
  -- boxes = 1 + points of closed rounds
  pub counted : boxes_of state ≡ 1 + book.points
  -- the search counts its closed rounds
  pub rounds : rounds_of state ≡ book.rounds
  -- the book has a cell for each box and each point of the open round
  pub noted_all : length book.cells ≡ boxes_of state + open_points state
  -- the table is the search's own
  pub own : OwnTable state table
  -- the levels of a box differ by at most one, so that a box of rank r has n - (r mod n) long sides
  pub long_sides : (j : ℕ) → j < boxes_of state → longs_below n (row_at table j) n ≡ n - rank n (row_at table j) % n

-- whatever calls follow, these hold
abbrev pub EveryRun : Rest → List Row → Answer → Type 0
EveryRun begun written a =
    (state : State) (table : List Row) (book : Book) → Run begun written a state table book
    → Holds begun.shape.n begun.shape.finest state table book

-- a first round of a search that begin gave: what holds of the search at rest after it, with one closed round
abbrev pub FirstRound : ℕ → ℕ → Result Rest Refusal → List Row → Type 0
FirstRound n finest (Ok rest) table = (book : Book) × Holds n finest (at_rest rest) table book × (book.rounds ≡ 1)
FirstRound n finest (Err e) table = Unit {0}
