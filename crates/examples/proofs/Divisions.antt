-- First rounds of two directions that cut direction 1 first.
use Rattle.std.proofs.Common.{◌≡◌, ℕ, zero, suc, ◌+◌, ◌<◌, true, false, ◌≢◌, List, [], ◌∷◌, map, get_or, refl, ◌∙◌, ap₂, arith, lit<}
use Rattle.order.specs.Answers.{earlier_answer}
use Rattle.order.specs.declared.answer.Answer.{Answer}
use Rattle.policy.specs.Levels.{filled}
use Rattle.table.specs.Entries.{answer_of, before}
use Rattle.table.specs.Rows.{rank, row_at}
use Rattle.table.specs.declared.rows.Entry.TheVariants.{Answered}
use Rattle.table.specs.declared.rows.Row.{Row}
use Rattle.search.proofs.Outcomes.{begun_by, closed_by, opened_by}
use Rattle.search.specs.Calls.{CutAll}
use Rattle.search.specs.Points.{cut_before, w_of}
use Rattle.search.specs.declared.side.Side.TheVariants.{Low as low, High as high}
use Rattle.search.specs.declared.states.Round.{Round}
use Rattle.examples.specs.Examples.{Right, division, reading}
use Rattle.examples.proofs.Filling.{filled_by}
use Rattle.examples.proofs.FirstRounds.{cuts_whole}
use Rattle.examples.proofs.WholeGrid.{CutsWhole, kept_rank, rank_of_one, rank_of_zero, w_at}

-- w of a direction whose points have these readings
abbrev pub w_by : ℕ → ℕ → Answer
w_by x y = earlier_answer (answer_of (Answered (reading x))) (answer_of (Answered (reading y)))

-- readings of the points with which direction 1 goes first
pub record OneFirst (x y z u : ℕ) : Type 0 where
  pub ahead : before (w_by z u) 1 (w_by x y) 0 ≡ true
  pub behind : before (w_by x y) 0 (w_by z u) 1 ≡ false

module _ (x y z u : ℕ) (order : OneFirst x y z u) where
  abbrev answers : List Answer
  answers = map reading (x ∷ y ∷ z ∷ u ∷ [])

  module _ (round : Round) (table : List Row) (g : CutsWhole round table)
      (shows : (p : ℕ) (a : Answer) → p < 4 → (row_at table (round.boxes + p)).entry ≡ Answered (get_or answers p a)) where
    w_zero : w_of round table 0 0 0 ≡ w_by x y
    w_zero = w_at round table g answers shows 0 (lit< tt) (lit< tt)

    w_one : w_of round table 0 0 1 ≡ w_by z u
    w_one = w_at round table g answers shows 1 (lit< tt) (lit< tt)

    cuts_first : (d : ℕ) → d < 2 → d ≢ 1 → cut_before round table 0 0 1 d ≡ true
    cuts_first zero l other = ap₂ (λ (v w : Answer). before v 1 w 0) w_one w_zero ∙ order.ahead
    cuts_first (suc zero) l other = absurd (other refl)
    cuts_first (suc (suc d)) l other = absurd (omega arith)

    cut_first : cut_before round table 0 0 1 0 ≡ true
    cut_first = cuts_first 0 (lit< tt) (λ same. omega arith)

    cut_last : cut_before round table 0 0 0 1 ≡ false
    cut_last = ap₂ (λ (v w : Answer). before v 0 w 1) w_zero w_one ∙ order.behind

    ranks_after : (after : List Row) → CutAll round table after → (j : ℕ) → j < 5 → rank 2 (row_at after j) ≡ get_or (2 ∷ 2 ∷ 2 ∷ 1 ∷ 1 ∷ []) j 0
    ranks_after after cut zero l = kept_rank round table g after cut
    ranks_after after cut (suc zero) l = rank_of_zero round table g after cut low cut_first
    ranks_after after cut (suc (suc zero)) l = rank_of_zero round table g after cut high cut_first
    ranks_after after cut (suc (suc (suc zero))) l = rank_of_one round table g after cut low cut_last
    ranks_after after cut (suc (suc (suc (suc zero)))) l = rank_of_one round table g after cut high cut_last
    ranks_after after cut (suc (suc (suc (suc (suc j))))) l = absurd (omega arith)

  pub of_division : (middle : ℕ) → Right (division 2 middle (x ∷ y ∷ z ∷ u ∷ []) 1 (2 ∷ 2 ∷ 2 ∷ 1 ∷ 1 ∷ []))
  of_division middle table rest after (last, between, begins, k) =
      let b = begun_by 2 19 table (reading middle) last between begins in
      let o = opened_by filled last between k.round k.plays.cleared k.plays.opens in
      let c = closed_by k.round k.filled rest after k.closes in
      let f = filled_by k.plays.answered in
      let g = cuts_whole table between k.plays.cleared (reading middle) last k.round b o answers k.filled f c.own in (
        record { taken = g.taken; before_others = cuts_first k.round k.filled g f.points },
        omega (arith, c.rested.boxes, g.one, k.all),
        ranks_after k.round k.filled g f.points after c.cut,
      )
