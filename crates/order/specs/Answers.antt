-- Which answers there are, their order, and that of an answer with a number beside it.
use Rattle.std.specs.Prelude.{ℕ, Bool, true, false, cond, not, ◌&&◌, ◌||◌, List, ℤ, pos, neg_ℤ, Some, None, codes, Option, int_le, int_lt, nat_lt}
use Rattle.std.specs.Fmt.{signed_decimal}
use Rattle.order.specs.declared.answer.Answer.{Answer}
use Rattle.order.specs.declared.answer.Answer.TheVariants.{Reading, NotFeasible}

-- a reading is a whole number from -1,000,000,000 to 1,000,000,000
abbrev pub in_range : ℤ → Bool
in_range x = int_le (neg_ℤ (pos 1000000000)) x && int_le x (pos 1000000000)

abbrev pub allowed : Answer → Bool
allowed (Reading x) = in_range x
allowed NotFeasible = true

-- readings by value, and "not feasible" after all readings
abbrev pub answer_before : Answer → Answer → Bool
answer_before (Reading a) (Reading b) = int_lt a b
answer_before (Reading a) NotFeasible = true
answer_before NotFeasible b = false

-- answers by their order, and no answer after all of them
abbrev pub entry_before : Option Answer → Option Answer → Bool
entry_before (Some a) (Some b) = answer_before a b
entry_before (Some a) None = true
entry_before None b = false

-- the earlier of two answers
abbrev pub earlier_answer : Answer → Answer → Answer
earlier_answer a b = cond (answer_before b a) b a

-- an answer with the number of a row, a direction or a rank
pub record Numbered : Type 0 where
  pub answer : Answer
  pub number : ℕ

-- by answer, then by lower number
abbrev pub numbered_before : Numbered → Numbered → Bool
numbered_before a b = answer_before a.answer b.answer || (not (answer_before b.answer a.answer) && nat_lt a.number b.number)

-- how an answer is written: its reading, or a dash
abbrev pub answer_text : Answer → List ℕ
answer_text (Reading x) = signed_decimal x
answer_text NotFeasible = codes "-"
