-- Which points wait after a round is opened, and whose table it is once it is closed.
use Rattle.std.proofs.Common.{ℕ, ◌+◌, T, List, sym, subst, subst₂, arith}
use Rattle.policy.specs.declared.front.Front.{Front}
use Rattle.ranks.specs.Ranks.{Ranks}
use Rattle.table.specs.Boxes.{Own}
use Rattle.table.specs.Entries.{waiting}
use Rattle.table.specs.declared.rows.Row.{Row}
use Rattle.table.specs.declared.shape.Shape.{Shape}
use Rattle.search.specs.Calls.{OwnRest}
use Rattle.search.specs.Runs.{LawfulAt}
use Rattle.search.specs.Turns.{AnsweredBelow}
use Rattle.search.specs.declared.states.Rest.{Rest}
use Rattle.search.specs.declared.states.Round.{Round}
use Rattle.search.proofs.Closing.{own_after}
use Rattle.search.proofs.Openings.{own_round}
use Rattle.search.proofs.Outcomes.{ClosedBy, OpenedBy}

-- after opening all points wait
pub none_answered : (meaning : Front → Ranks) (rest : Rest) (table : List Row) (round : Round) (after : List Row)
    → LawfulAt meaning rest table → OpenedBy meaning rest table round after → AnsweredBelow round after 0
none_answered meaning rest table round after lawful o = record {
  own = own_round meaning rest table round after lawful o;
  within = omega (arith, round.few.1);
  answered = λ q l w. omega arith;
  waits = λ q l m. subst (λ (r : Row). T (waiting r.entry))
      (sym (o.cleared.waits (round.boxes + q) (omega (arith, o.opened.same_boxes)) (omega (arith, o.opened.same_boxes, o.opened.is_points)))) tt;
}

-- after closing the table is the search's own
pub own_closed : (round : Round) (table : List Row) (rest : Rest) (after : List Row) → ClosedBy round table rest after → OwnRest rest after
own_closed round table rest after k =
    subst₂ (λ (s : Shape) (b : ℕ). Own s.n s.finest b after) (sym k.rested.same_shape) (sym k.rested.boxes) (own_after round table after k.own k.cut k.none_waits)
