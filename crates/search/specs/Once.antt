-- For each call and input there is one outcome, with the memory after it. Waiting is left out: which point it gives is free.
use Rattle.std.specs.Prelude.{◌≡◌, ℕ, List, ℤ, Option, Result}
use Rattle.order.specs.declared.answer.Answer.{Answer}
use Rattle.policy.specs.declared.front.Front.{Front}
use Rattle.ranks.specs.Ranks.{Ranks}
use Rattle.refusal.specs.declared.Refusal.{Refusal}
use Rattle.table.specs.declared.rows.Row.{Row}
use Rattle.search.specs.Calls.{Answers, Begins, Bests, Closes, Locates, Opens}
use Rattle.search.specs.declared.states.Rest.{Rest}
use Rattle.search.specs.declared.states.Round.{Round}

-- a relation between results and memory holds of one pair at most
abbrev pub One : {X M : Type 0} → (X → M → Type 0) → Type 0
One {X} {M} relation = (out out' : X) (after after' : M) → relation out after → relation out' after' → (out ≡ out') × (after ≡ after')

pub record OneOutcome : Type 0 where
  pub begin : (n finest : ℕ) (table : List Row) (a : Answer) → One (Begins n finest table a)
  pub «open» : (meaning : Front → Ranks) (rest : Rest) (table : List Row) → One (Opens meaning rest table)
  pub locate : (round : Round) (table : List Row) (p : ℕ) (list : List ℕ) → One (Locates round table p list)
  pub answer : (round : Round) (table : List Row) (p : ℕ) (a : Answer) → One (Answers round table p a)
  pub close : (round : Round) (table : List Row) → One (Closes round table)
  pub best : (rest : Rest) (table : List Row) (out out' : Result (Option (ℕ × ℤ)) Refusal) → Bests rest table out → Bests rest table out' → out ≡ out'
