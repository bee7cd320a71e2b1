-- What replaying a record gives: the end of the run that it tells, or why it tells none.
use Rattle.std.specs.Prelude.{◌≡◌, ℕ, ◌<◌, ◌≤◌, List, [], ◌∷◌, ◌++◌, map, length, take, Some, Ok, Err, Result, ◌≢◌}
use Rattle.std.specs.List.{flat_map}
use Rattle.policy.specs.declared.cap.Most.{Most}
use Rattle.record.specs.Items.{Fit, bytes_of, mark_bytes}
use Rattle.record.specs.declared.item.Item.{Item}
use Rattle.record.specs.declared.item.Item.TheVariants as item
use Rattle.record.specs.declared.item.Mark.{Mark}
use Rattle.refusal.specs.Checks.{Check}
use Rattle.refusal.specs.declared.Refusal.{Refusal}
use Rattle.refusal.specs.declared.Refusal.TheVariants.{MarkOutOfTurn, RecordCutShort, UnknownMark}
use Rattle.table.specs.declared.rows.Row.{Row}
use Rattle.search.specs.Calls.{Begins}
use Rattle.search.specs.Runs.{Book, Holds, Run, answers_in, at_rest}
use Rattle.search.specs.Tales.{Leads, Plays, Tale, Told, answers_of, finest_of, items_of, middle_of, n_of, record_of, round_items}
use Rattle.search.specs.Turns.{Declines, InTurn}
use Rattle.search.specs.declared.replay.refused_at.RefusedAt.{RefusedAt}
use Rattle.search.specs.declared.replay.due.Due.{Due}
use Rattle.search.specs.declared.replay.due.Due.TheVariants as due
use Rattle.search.specs.declared.states.Rest.{Rest}
use Rattle.search.specs.declared.states.Round.{Round}

-- items with which the record of a run begins, what is due after them, and the table as the calls so far left it
pub data Starts (table : List Row) : List Item → Due → List Row → Type 0 where
  nothing : Starts table [] due.Start table
  shaped : {n finest : ℕ} → Starts table (item.Begin n finest ∷ []) (due.Centre n finest) table
  rested : {rest : Rest} {after : List Row} (tale : Tale) → Leads table tale rest after → Starts table (items_of tale) (due.Rest rest) after
  capped : {rest : Rest} {after : List Row} (tale : Tale) → Leads table tale rest after → (most : Most)
      → Starts table (items_of tale ++ item.Cap most.number ∷ []) (due.Capped rest most) after
  playing : {rest : Rest} {round : Round} {between after : List Row} (tale : Tale) → Leads table tale rest between → (told : Told) → Plays rest between told round after
      → length told.answers < round.points → Starts table (items_of tale ++ round_items told) (due.Points round (length told.answers)) after

-- a refusal for a cause, at a place
abbrev pub at : Refusal → ℕ → RefusedAt
at why place = record { why = why; place = place }

-- the bytes begin with a mark
abbrev pub Marked : List ℕ → Type 0
Marked bytes = (m : Mark) × (take 2 bytes ≡ mark_bytes m)

-- with one that may come
abbrev pub MarkedInTurn : Due → List ℕ → Type 0
MarkedInTurn d bytes = (m : Mark) × (take 2 bytes ≡ mark_bytes m) × InTurn d m

-- they begin with a whole item
abbrev pub Whole : List ℕ → Type 0
Whole bytes = (i : Item) × (rest : List ℕ) × Fit i × (bytes ≡ bytes_of i ++ rest)

-- the item with which they begin is refused
abbrev pub Declined : Due → List Row → ℕ → List ℕ → RefusedAt → Type 0
Declined d table here bytes e = (i : Item) × (rest : List ℕ) × Fit i × (bytes ≡ bytes_of i ++ rest) × Declines here d table i e.why e.place

-- why the bytes that stand at `here` do not go on with the record, in the order of the checks:
-- the record ends while something is due, or inside a mark; the mark is unknown; it is out of turn; its body is cut short; its item is refused
abbrev pub Stops : Due → List Row → ℕ → List ℕ → RefusedAt → Type 0
Stops d table here bytes e =
    Check (0 < length bytes) (((rest : Rest) → d ≢ due.Rest rest) × (e ≡ at RecordCutShort here))
    (Check (2 ≤ length bytes) (e ≡ at RecordCutShort here)
    (Check (Marked bytes) (e ≡ at UnknownMark here)
    (Check (MarkedInTurn d bytes) (e ≡ at MarkOutOfTurn here)
    (Check (Whole bytes) (e ≡ at RecordCutShort here)
    (Declined d table here bytes e)))))

-- the record begins as one of a run, which left the table so, and does not go on as one
pub record Refuses (table : List Row) (bytes : List ℕ) (e : RefusedAt) (after : List Row) : Type 0 where
  pub items : List Item
  pub rest : List ℕ
  pub due : Due
  pub whole : flat_map bytes_of items ++ rest ≡ bytes
  pub starts : Starts table items due after
  pub stops : Stops due after (length (flat_map bytes_of items)) rest e

-- the search and the table to which the run leads whose record this is; else a refusal
abbrev pub Replays : List Row → List ℕ → Result Rest RefusedAt → List Row → Type 0
Replays table bytes (Ok rest) after = (tale : Tale) × (record_of tale ≡ bytes) × Leads table tale rest after
Replays table bytes (Err e) after = Refuses table bytes e after

-- the run is one of a search as begin gives it, so that what holds of all of these holds of it;
-- its book has the answers of the record in their order
pub record RunOf (table : List Row) (tale : Tale) (rest : Rest) (after : List Row) : Type 0 where
  pub begun : Rest
  pub written : List Row
  pub book : Book
  pub begins : Begins (n_of tale) (finest_of tale) table (middle_of tale) (Ok begun) written
  pub run : Run begun written (middle_of tale) (at_rest rest) after book
  pub answers : answers_in book ≡ map Some (answers_of tale)
  pub holds : Holds (n_of tale) (finest_of tale) (at_rest rest) after book

-- what an accepted replay leaves is the search and the table of such a run
abbrev pub KeepsLaw : List Row → List ℕ → Result Rest RefusedAt → List Row → Type 0
KeepsLaw table bytes (Ok rest) after = (tale : Tale) × (record_of tale ≡ bytes) × RunOf table tale rest after
KeepsLaw table bytes (Err e) after = Unit {0}
