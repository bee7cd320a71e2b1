-- One rank more.
use Rattle.std.proofs.Common.{◌≡◌, ℕ, List, length, take, Some, Option, subst, arith}
use Rattle.order.specs.declared.records.Candidate.{Candidate}
use Rattle.table.specs.Boxes.{First, FirstOfRank}
use Rattle.table.specs.declared.rows.Row.{Row}
use Rattle.search.specs.Calls.{OwnRound}
use Rattle.search.specs.declared.states.Round.{Round}
use Rattle.search.proofs.Slices.{first_in_table}
use Rattle.search.proofs.Turns.{turns_more, turns_end, popped_taking, popped_room, popped_some}
use Rattle.search.proofs.close.cut_taken.Goals as goal

-- what is found in the slice of the boxes is the first box
first_box : (round : Round) (table : List Row) → OwnRound round table → (o : Option Candidate) (taken : Candidate) (r : ℕ) → o ≡ Some taken
    → FirstOfRank round.shape.n round.shape.finest (length (take round.boxes table)) (take round.boxes table) r o
    → First round.shape.n round.shape.finest round.boxes table r taken.row
first_box round table own o taken r is f = (
  taken.answer,
  subst (FirstOfRank round.shape.n round.shape.finest round.boxes table r) is
      (first_in_table round.shape.n round.shape.finest round.boxes table own.own.rows r o f),
)

pub cut-requires : goal.cut-requires
cut-requires c =
    let round = c.args.round.now in let table = c.args.table.now in let low = c.in-Some.ensures.steps in
    popped_taking round table c.requires _ _ _ c.loop-rank.invariant _ low.0 _ (first_box round table c.requires _ _ _ c.in-Some-firsts.is (c.firsts-firsts.ensures _ low.1))

pub overflow_add-next : goal.overflow_add-next
overflow_add-next c =
    let round = c.args.round.now in let table = c.args.table.now in let low = c.in-Some.ensures.steps in
    let fits = popped_room round table c.requires _ _ _ c.loop-rank.invariant _ low.0 _ (first_box round table c.requires _ _ _ c.in-Some-firsts.is (c.firsts-firsts.ensures _ low.1)) in
    omega arith

pub loop-rank-preserved-in-Some-firsts : goal.loop-rank-preserved-in-Some-firsts
loop-rank-preserved-in-Some-firsts c =
    let round = c.args.round.now in let table = c.args.table.now in let low = c.in-Some.ensures.steps in
    rw c.long_sides.ensures
    (turns_more round table c.requires _ _ _ c.loop-rank.invariant _ low.0 _ (first_box round table c.requires _ _ _ c.in-Some-firsts.is (c.firsts-firsts.ensures _ low.1))
    _ _ low.1 low.2 c.cut.ensures)

pub loop-rank-preserved : goal.loop-rank-preserved
loop-rank-preserved c =
    let round = c.args.round.now in let table = c.args.table.now in let low = c.in-Some.ensures.steps in
    absurd (popped_some round table c.requires _ _ _ c.loop-rank.invariant _ low.0 _ c.in_default.not-Some
    (first_in_table round.shape.n round.shape.finest round.boxes table c.requires.own.rows _ _ (c.firsts-firsts.ensures _ low.1)))

pub returns : goal.returns
returns c = turns_end c.args.round.now c.args.table.now c.requires _ _ _ c.loop-rank.invariant c.in-None.ensures.steps.0
