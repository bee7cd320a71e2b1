-- What the text of a search says, and when there is none.
use Rattle.std.specs.Prelude.{◌≡◌, ℕ, List, ◌++◌, ℤ, Ok, Err, string_bytes, Option, Result, String, OnOk}
use Rattle.refusal.specs.declared.Refusal.TheVariants.{NotOwnTable}
use Rattle.table.specs.declared.rows.Row.{Row}
use Rattle.search.specs.Calls.{BestOf, OwnRest}
use Rattle.search.specs.declared.states.Rest.{Rest}
use Rattle.report.specs.Text.{search_text}
use Rattle.report.specs.declared.text.NoText.{NoText}
use Rattle.report.specs.declared.text.NoText.TheVariants.{Memory, Refused}

-- the bytes are the text of a search with a table of its own
pub record TextOf (rest : Rest) (table : List Row) (bytes : List ℕ) : Type 0 where
  pub own : OwnRest rest table
  pub best : Option (ℕ × ℤ)
  pub is_best : BestOf rest table best
  pub is_text : bytes ≡ search_text rest table best

-- there is no text: the table is not the search's own, or the memory does not suffice
abbrev pub NoTextOf : Rest → List Row → NoText → Type 0
NoTextOf rest table (Refused why) = (why ≡ NotOwnTable) × (OwnRest rest table → ⊥)
NoTextOf rest table Memory = Unit {0}

module _ {Z : Type 0} where
  -- the text of a search at rest with its table, or why there is none
  abbrev pub Written : Rest → List Row → Result (String Z) NoText → Type 0
  Written rest table (Ok s) = TextOf rest table (string_bytes s)
  Written rest table (Err why) = NoTextOf rest table why

  -- where the result is Ok, the text has some more bytes at its end
  abbrev pub Adds : {E : Type 0} → String Z → Result (Unit {0}) E → List ℕ → String Z → Type 0
  Adds text out bytes after = OnOk out (string_bytes after ≡ string_bytes text ++ bytes)
