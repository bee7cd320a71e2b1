-- What is answered to an input: the text of the run that it tells, or of a refusal.
use Rattle.std.specs.Prelude.{◌≡◌, ℕ, ◌≤◌, List, length, replicate, Ok, Err, Result}
use Rattle.refusal.specs.Checks.{Check}
use Rattle.refusal.specs.Numbers.{number_of}
use Rattle.refusal.specs.declared.Refusal.TheVariants.{InputTooLong}
use Rattle.search.specs.Replays.{Replays}
use Rattle.search.specs.declared.replay.refused_at.RefusedAt.{RefusedAt}
use Rattle.search.specs.declared.states.Rest.{Rest}
use Rattle.table.specs.Rows.{whole_grid}
use Rattle.table.specs.declared.rows.Entry.TheVariants.{Waiting}
use Rattle.table.specs.declared.rows.Row.{Row}
use Rattle.report.specs.Outcome.{TextOf}
use Rattle.report.specs.Text.{refusal_text}

-- the table that a record is replayed on
abbrev pub fresh_table : List Row
fresh_table = replicate 1024 (whole_grid Waiting)

-- the text of what a replay gives
abbrev pub TextOfReplay : Result Rest RefusedAt → List Row → List ℕ → Type 0
TextOfReplay (Ok rest) after text = TextOf rest after text
TextOfReplay (Err e) after text = text ≡ refusal_text (number_of e.why) e.place

-- an input that is too long is refused at its 16,384th byte; any other is replayed
abbrev pub Replies : List ℕ → List ℕ → Type 0
Replies input text =
    Check (length input ≤ 16384) (text ≡ refusal_text (number_of InputTooLong) 16384)
    ((out : Result Rest RefusedAt) × (after : List Row) × Replays fresh_table input out after × TextOfReplay out after text)
