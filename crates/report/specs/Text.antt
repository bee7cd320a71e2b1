-- The text of a search at rest with its table, and of a refusal.
use Rattle.std.specs.Prelude.{ℕ, zero, suc, List, [], ◌++◌, ℤ, Some, None, codes, decimal, Option}
use Rattle.grid.specs.Text.{side_text}
use Rattle.order.specs.Answers.{answer_text}
use Rattle.table.specs.Entries.{answer_of}
use Rattle.table.specs.Rows.{first_of, level_of, row_at}
use Rattle.table.specs.declared.rows.Row.{Row}
use Rattle.search.specs.declared.states.Rest.{Rest}

-- the sides of a box in the directions below d, by rising direction, with a space before each
abbrev pub sides_text : Row → ℕ → List ℕ
sides_text row zero = []
sides_text row (suc d) = sides_text row d ++ (codes " " ++ side_text (first_of row d) (level_of row d))

-- the line of a box of n directions: its row, its reading or a dash, its sides
abbrev pub box_text : ℕ → ℕ → Row → List ℕ
box_text n j row = decimal j ++ (codes " " ++ (answer_text (answer_of row.entry) ++ (sides_text row n ++ codes "\n")))

-- the lines of the rows below j
abbrev pub boxes_text : ℕ → List Row → ℕ → List ℕ
boxes_text n table zero = []
boxes_text n table (suc j) = boxes_text n table j ++ box_text n j (row_at table j)

-- the first line: directions, finest level, closed rounds, boxes
abbrev pub head_text : Rest → List ℕ
head_text rest =
    codes "directions " ++ (decimal rest.shape.n ++ (codes " finest " ++ (decimal rest.shape.finest
    ++ (codes " rounds " ++ (decimal rest.rounds ++ (codes " boxes " ++ (decimal rest.boxes ++ codes "\n")))))))

-- the last line: the row of the best box, or a dash
abbrev pub best_text : Option (ℕ × ℤ) → List ℕ
best_text None = codes "best -\n"
best_text (Some best) = codes "best " ++ (decimal best.0 ++ codes "\n")

-- a search with its table, and what best gives for them
abbrev pub search_text : Rest → List Row → Option (ℕ × ℤ) → List ℕ
search_text rest table best = head_text rest ++ (boxes_text rest.shape.n table rest.boxes ++ best_text best)

-- a refusal by its number and its place
abbrev pub refusal_text : ℕ → ℕ → List ℕ
refusal_text number place = codes "refused " ++ (decimal number ++ (codes " at " ++ (decimal place ++ codes "\n")))
