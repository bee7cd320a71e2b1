-- The table after an answer: one row has it, and the table is still the round's own.
use Rattle.std.proofs.lemmas.Grind.{common_steps}
use Rattle.std.proofs.Common.{◌≡◌, ℕ, ◌+◌, ◌<◌, ◌≢◌, List, ap, ◌∙◌, arith, get_or-set_other, get_or-set_same}
use Rattle.order.specs.declared.answer.Answer.{Answer}
use Rattle.table.specs.Rows.{no_row, row_at}
use Rattle.table.specs.declared.rows.Entry.TheVariants.{Answered}
use Rattle.table.specs.declared.rows.Row.{Row}
use Rattle.search.specs.Calls.{OwnRound}
use Rattle.search.specs.declared.states.Round.{Round}
use Rattle.search.proofs.Outcomes.{AnsweredBy}

module _ (round : Round) (table : List Row) (p : ℕ) (a : Answer) (after : List Row) (k : AnsweredBy round table p a after) where
  pub row_other : (j : ℕ) → j ≢ round.boxes + p → row_at after j ≡ row_at table j
  row_other j x = ap (λ t. row_at t j) k.after_is ∙ get_or-set_other table (round.boxes + p) j _ no_row x

  pub row_here : (row_at after (round.boxes + p)).entry ≡ Answered a
  row_here = ap (λ t. (row_at t (round.boxes + p)).entry) k.after_is
      ∙ ap (λ r. r.entry) (get_or-set_same table (round.boxes + p) _ no_row (omega (arith, k.own.rows, k.point)))

  pub rows : (j : ℕ) → j < round.boxes → row_at after j ≡ row_at table j
  rows j l = row_other j (omega arith)

  pub own_answered : OwnRound round after
  own_answered = grind (arith, common_steps)
