-- A table is a round's own when its rows are boxes and each chosen rank has a first box.
use Rattle.std.proofs.Common.{◌≡◌, ℕ, ◌+◌, ◌<◌, ◌≤◌, true, T, List, length, get_or, is_some, Some, None, Option, sym, refl}
use Rattle.std.proofs.lemmas.Bool.{true≢false}
use Rattle.order.specs.declared.records.Candidate.{Candidate}
use Rattle.ranks.specs.Ranks.{ranks}
use Rattle.table.specs.Boxes.{FirstOfRank, OfRank, Own}
use Rattle.table.specs.declared.rows.Row.{Row}
use Rattle.search.specs.Calls.{OwnRound}
use Rattle.search.specs.declared.states.Round.{Round}
use Rattle.search.proofs.Firsts.{some_first}
use Rattle.search.proofs.Places.{chosen_bound}

module _ (round : Round) (table : List Row) (firsts : List (Option Candidate))
    (f : (r : ℕ) → r < 114 → FirstOfRank round.shape.n round.shape.finest round.boxes table r (get_or firsts r None)) where
  box_of : (r : ℕ) (o : Option Candidate) → is_some o ≡ true → FirstOfRank round.shape.n round.shape.finest round.boxes table r o
      → (j : ℕ) × OfRank round.shape.n round.shape.finest round.boxes table r j
  box_of r None e g = absurd (true≢false (sym e))
  box_of r (Some c) e g = (c.row, g.0.box)

  some_of : Own round.shape.n round.shape.finest round.boxes table → (r j : ℕ) (o : Option Candidate) → OfRank round.shape.n round.shape.finest round.boxes table r j
      → FirstOfRank round.shape.n round.shape.finest round.boxes table r o → is_some o ≡ true
  some_of own r j None b g = absurd (g _ (some_first round.shape.n round.shape.finest round.boxes table r own j b).1.1.0)
  some_of own r j (Some c) b g = refl

  pub owned : Own round.shape.n round.shape.finest round.boxes table → round.boxes + round.points ≤ length table
      → ((r : ℕ) → r < 114 → T (ranks round.chosen r) → is_some (get_or firsts r None) ≡ true) → OwnRound round table
  owned own rows all = record {
    own = own;
    rows = rows;
    boxes = λ r t. let h = chosen_bound round r t in box_of r (get_or firsts r None) (all r h t) (f r h);
  }

  pub present : OwnRound round table → (r : ℕ) → r < 114 → T (ranks round.chosen r) → is_some (get_or firsts r None) ≡ true
  present own r h t = let b = own.boxes r t in some_of own.own r b.0 (get_or firsts r None) b.1 (f r h)
