-- The front that the boxes of a table form.
use Rattle.std.specs.Prelude.{◌≡◌, ℕ, ◌<◌, cond, List, ℤ, ◌≤ℤ◌, Some, None, Option, int_lt}
use Rattle.order.specs.declared.answer.Answer.{Answer}
use Rattle.order.specs.declared.answer.Answer.TheVariants.{Reading, NotFeasible}
use Rattle.order.specs.declared.records.Candidate.{Candidate}
use Rattle.policy.specs.Levels.{entry}
use Rattle.policy.specs.declared.front.Front.{Front}
use Rattle.table.specs.Boxes.{FirstOfRank}
use Rattle.table.specs.Entries.{shown_by}
use Rattle.table.specs.Rows.{row_at}
use Rattle.table.specs.declared.rows.Row.{Row}

-- row j is a box with the reading x
abbrev pub Reads : ℕ → List Row → ℕ → ℤ → Type 0
Reads boxes table j x = (j < boxes) × (shown_by (row_at table j).entry ≡ Some (Reading x))

-- the least and the greatest reading of all boxes, or none
abbrev pub ReadingsOf : ℕ → List Row → Option (ℤ × ℤ) → Type 0
ReadingsOf boxes table None = (j : ℕ) (x : ℤ) → Reads boxes table j x → ⊥
ReadingsOf boxes table (Some ends) =
    ((j : ℕ) × Reads boxes table j ends.0) × ((j : ℕ) × Reads boxes table j ends.1)
    × ((j : ℕ) (x : ℤ) → Reads boxes table j x → (ends.0 ≤ℤ x) × (x ≤ℤ ends.1))

-- the ends of some readings, once the reading of an answer, if it has one, is among them
abbrev pub widened : Option (ℤ × ℤ) → Option Answer → Option (ℤ × ℤ)
widened ends None = ends
widened ends (Some NotFeasible) = ends
widened None (Some (Reading x)) = Some (x, x)
widened (Some ends) (Some (Reading x)) = Some (cond (int_lt x ends.0) x ends.0, cond (int_lt ends.1 x) x ends.1)

-- the answer of a candidate
abbrev pub answer_in : Option Candidate → Option Answer
answer_in None = None
answer_in (Some c) = Some c.answer

-- the entry of rank r is the answer of its first box that can be cut
abbrev pub EntryOf : ℕ → ℕ → ℕ → List Row → ℕ → Option Answer → Type 0
EntryOf n finest boxes table r a = (o : Option Candidate) × FirstOfRank n finest boxes table r o × (a ≡ answer_in o)

pub record FrontOf (n finest boxes : ℕ) (table : List Row) (front : Front) : Type 0 where
  pub directions : front.directions ≡ n
  pub readings : ReadingsOf boxes table front.readings
  pub entries : (r : ℕ) → r < 114 → EntryOf n finest boxes table r (entry front r)
