-- What an entry shows, and the answer by which a row goes.
use Rattle.std.specs.Prelude.{ℕ, Bool, true, false, cond, Some, None, Option}
use Rattle.order.specs.Answers.{allowed, numbered_before}
use Rattle.order.specs.declared.answer.Answer.{Answer}
use Rattle.order.specs.declared.answer.Answer.TheVariants.{NotFeasible}
use Rattle.table.specs.declared.rows.Entry.{Entry}
use Rattle.table.specs.declared.rows.Entry.TheVariants.{Answered, Waiting}

-- the answer that an entry shows; a reading out of range reads as the waiting mark
abbrev pub shown_by : Entry → Option Answer
shown_by (Answered a) = cond (allowed a) (Some a) None
shown_by Waiting = None

abbrev pub none_shown : Option Answer → Bool
none_shown (Some a) = false
none_shown None = true

-- the entry reads as the waiting mark
abbrev pub waiting : Entry → Bool
waiting e = none_shown (shown_by e)

abbrev pub or_last : Option Answer → Answer
or_last (Some a) = a
or_last None = NotFeasible

-- the answer by which a row goes; without one it goes last
abbrev pub answer_of : Entry → Answer
answer_of e = or_last (shown_by e)

-- by answer, then by lower number
abbrev pub before : Answer → ℕ → Answer → ℕ → Bool
before a i b j = numbered_before (record { answer = a; number = i }) (record { answer = b; number = j })
