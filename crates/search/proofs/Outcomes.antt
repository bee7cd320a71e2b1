-- What an accepted call says once its checks are passed, and what a refused one leaves.
use Rattle.std.proofs.Common.{◌≡◌, ℕ, ◌+◌, ◌<◌, ◌≤◌, T, List, length, set, Ok, Err, Result, sym, ap, inl, inr, arith}
use Rattle.order.specs.Answers.{allowed}
use Rattle.order.specs.declared.answer.Answer.{Answer}
use Rattle.policy.specs.declared.front.Front.{Front}
use Rattle.ranks.specs.Ranks.{Ranks}
use Rattle.refusal.specs.declared.Refusal.{Refusal}
use Rattle.table.specs.Fronts.{FrontOf}
use Rattle.table.specs.Rows.{row_at, whole_grid}
use Rattle.table.specs.declared.rows.Entry.TheVariants.{Answered}
use Rattle.table.specs.declared.rows.Row.{Row}
use Rattle.search.specs.Calls.{Answers, Begins, Begun, Cleared, Closes, CutAll, LocatedIn, Locates, NoneWaits, Opened, Opens, OwnRest, OwnRound, Rested, Room, with_answer}
use Rattle.search.specs.Counts.{points_of}
use Rattle.search.specs.declared.states.Rest.{Rest}
use Rattle.search.specs.declared.states.Round.{Round}

pub ok_err : {X E Y : Type 0} {x : X} {e : E} → Ok x ≡ Err e → Y
ok_err p = let z : ◌≡◌ {A = ℕ} 0 1 = cc in absurd (omega arith)

-- the state that a refusal gives back
handed : {X S : Type 0} (state : S) (refused : Refusal × S) (why : Refusal) → ◌≡◌ {A = Result X (Refusal × S)} (Err refused) (Err (why, state)) → refused.1 ≡ state
handed state refused why e = let p : refused ≡ (why, state) = cc in ap (λ x. x.1) p

-- Begin

pub record BegunBy (n finest : ℕ) (table : List Row) (a : Answer) (rest : Rest) (after : List Row) : Type 0 where
  pub rows : 1 ≤ length table
  pub allowed_answer : T (allowed a)
  pub begun : Begun n finest rest
  pub after_is : after ≡ set table 0 (whole_grid (Answered a))

pub begun_by : (n finest : ℕ) (table : List Row) (a : Answer) (rest : Rest) (after : List Row) → Begins n finest table a (Ok rest) after → BegunBy n finest table a rest after
begun_by n finest table a rest after (inl x) = ok_err x.1.0
begun_by n finest table a rest after (inr (s, inl x)) = ok_err x.1.0
begun_by n finest table a rest after (inr (s, inr (f, inl x))) = ok_err x.1.0
begun_by n finest table a rest after (inr (s, inr (f, inr (l, inl x)))) = ok_err x.1.0
begun_by n finest table a rest after (inr (s, inr (f, inr (l, inr (k, x))))) = record { rows = l; allowed_answer = k; begun = x.0; after_is = x.1 }

-- Open

pub record OpenedBy (meaning : Front → Ranks) (rest : Rest) (table : List Row) (round : Round) (after : List Row) : Type 0 where
  pub own : OwnRest rest table
  pub front : Front
  pub of : FrontOf rest.shape.n rest.shape.finest rest.boxes table front
  pub room : Room rest table (points_of rest.shape.n (meaning front))
  pub opened : Opened rest (meaning front) round
  pub cleared : Cleared rest.boxes (rest.boxes + points_of rest.shape.n (meaning front)) table after

pub opened_by : (meaning : Front → Ranks) (rest : Rest) (table : List Row) (round : Round) (after : List Row) → Opens meaning rest table (Ok round) after → OpenedBy meaning rest table round after
opened_by meaning rest table round after (inl x) = ok_err x.1.0
opened_by meaning rest table round after (inr (own, inl x)) = ok_err x.1.0
opened_by meaning rest table round after (inr (own, inr (some, (front, of, inl x)))) = ok_err x.1.0
opened_by meaning rest table round after (inr (own, inr (some, (front, of, inr (room, x))))) =
    record { own = own; front = front; of = of; room = room; opened = x.0; cleared = x.1 }

pub open_refusal : (meaning : Front → Ranks) (rest : Rest) (table : List Row) (refused : Refusal × Rest) (after : List Row) → Opens meaning rest table (Err refused) after → (refused.1 ≡ rest) × (after ≡ table)
open_refusal meaning rest table refused after (inl x) = (handed rest refused _ x.1.0, x.1.1)
open_refusal meaning rest table refused after (inr (own, inl x)) = (handed rest refused _ x.1.0, x.1.1)
open_refusal meaning rest table refused after (inr (own, inr (some, (front, of, inl x)))) = (handed rest refused _ x.1.0, x.1.1)
open_refusal meaning rest table refused after (inr (own, inr (some, (front, of, inr (room, x))))) = absurd x.0

-- Locate

pub located_by : (round : Round) (table : List Row) (p : ℕ) (list after : List ℕ) → Locates round table p list (Ok tt) after → LocatedIn round table p list after
located_by round table p list after (inl x) = ok_err x.1.0
located_by round table p list after (inr (own, inl x)) = ok_err x.1.0
located_by round table p list after (inr (own, inr (l, inl x))) = ok_err x.1.0
located_by round table p list after (inr (own, inr (l, inr (room, x)))) = x.1

-- Answer

pub record AnsweredBy (round : Round) (table : List Row) (p : ℕ) (a : Answer) (after : List Row) : Type 0 where
  pub allowed_answer : T (allowed a)
  pub own : OwnRound round table
  pub point : p < round.points
  pub after_is : after ≡ set table (round.boxes + p) (with_answer (row_at table (round.boxes + p)) a)

pub answered_by : (round : Round) (table : List Row) (p : ℕ) (a : Answer) (after : List Row) → Answers round table p a (Ok tt) after → AnsweredBy round table p a after
answered_by round table p a after (inl x) = ok_err x.1.0
answered_by round table p a after (inr (k, inl x)) = ok_err x.1.0
answered_by round table p a after (inr (k, inr (own, inl x))) = ok_err x.1.0
answered_by round table p a after (inr (k, inr (own, inr (l, inl x)))) = ok_err x.1.0
answered_by round table p a after (inr (k, inr (own, inr (l, inr (w, x))))) = record { allowed_answer = k; own = own; point = l; after_is = x.1 }

pub answer_refusal : (round : Round) (table : List Row) (p : ℕ) (a : Answer) (e : Refusal) (after : List Row) → Answers round table p a (Err e) after → after ≡ table
answer_refusal round table p a e after (inl x) = x.1.1
answer_refusal round table p a e after (inr (k, inl x)) = x.1.1
answer_refusal round table p a e after (inr (k, inr (own, inl x))) = x.1.1
answer_refusal round table p a e after (inr (k, inr (own, inr (l, inl x)))) = x.1.1
answer_refusal round table p a e after (inr (k, inr (own, inr (l, inr (w, x))))) = ok_err (sym x.0)

-- Close

pub record ClosedBy (round : Round) (table : List Row) (rest : Rest) (after : List Row) : Type 0 where
  pub own : OwnRound round table
  pub none_waits : NoneWaits round table
  pub rested : Rested round rest
  pub cut : CutAll round table after

pub closed_by : (round : Round) (table : List Row) (rest : Rest) (after : List Row) → Closes round table (Ok rest) after → ClosedBy round table rest after
closed_by round table rest after (inl x) = ok_err x.1.0
closed_by round table rest after (inr (own, inl x)) = ok_err x.1.0
closed_by round table rest after (inr (own, inr (none, x))) = record { own = own; none_waits = none; rested = x.0; cut = x.1 }

pub close_refusal : (round : Round) (table : List Row) (refused : Refusal × Round) (after : List Row) → Closes round table (Err refused) after → (refused.1 ≡ round) × (after ≡ table)
close_refusal round table refused after (inl x) = (handed round refused _ x.1.0, x.1.1)
close_refusal round table refused after (inr (own, inl x)) = (handed round refused _ x.1.0, x.1.1)
close_refusal round table refused after (inr (own, inr (none, x))) = absurd x.0
