-- The numbers that the hull compares: the value and the size of a rank, the least reading, the margin.
use Rattle.std.specs.Prelude.{ℕ, ◌*◌, ◌/◌, ℤ, pos, ◌+ℤ◌, Some, None, Option, unsigned_abs}
use Rattle.grid.specs.Grid.{cells_at}
use Rattle.order.specs.declared.answer.Answer.{Answer}
use Rattle.order.specs.declared.answer.Answer.TheVariants.{Reading, NotFeasible}
use Rattle.policy.specs.Levels.{entry, level}
use Rattle.policy.specs.declared.front.Front.{Front}

-- the least reading, or 0 if there is none
abbrev pub least_in : Option (ℤ × ℤ) → ℤ
least_in None = pos 0
least_in (Some ends) = ends.0

abbrev pub least : Front → ℤ
least f = least_in f.readings

-- what "not feasible" counts for: the greatest reading plus 1, or 0 if there is none
abbrev pub past_in : Option (ℤ × ℤ) → ℤ
past_in None = pos 0
past_in (Some ends) = ends.1 +ℤ pos 1

abbrev pub value_in : Option (ℤ × ℤ) → Option Answer → ℤ
value_in ends None = pos 0
value_in ends (Some (Reading x)) = x
value_in ends (Some NotFeasible) = past_in ends

-- the value of a rank's entry
unfoldable pub value : Front → ℕ → ℤ
value f r = value_in f.readings (entry f r)

-- the size of a rank: the longest side of its boxes
unfoldable pub size : Front → ℕ → ℕ
size f r = cells_at (level f r)

-- the share e, in ten thousandths, of the least reading, the fraction dropped
unfoldable pub margin : ℕ → Front → ℤ
margin e f = pos (unsigned_abs (least f) * e / 10000)
