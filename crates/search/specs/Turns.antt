-- A record item by item: what may come, what each item makes of a run, and why one is refused.
use Rattle.std.specs.Prelude.{◌≡◌, ℕ, ◌+◌, ◌<◌, ◌≤◌, T, ◌⊎◌, List, [], ◌∷◌, Some, None, Ok, Err, Option, Result}
use Rattle.order.specs.Answers.{allowed}
use Rattle.order.specs.declared.answer.Answer.{Answer}
use Rattle.policy.specs.declared.cap.Most.{Most}
use Rattle.policy.specs.declared.front.Front.{Front}
use Rattle.ranks.specs.Ranks.{Ranks}
use Rattle.record.specs.Items.{mark_of}
use Rattle.record.specs.declared.item.Item.{Item}
use Rattle.record.specs.declared.item.Item.TheVariants as item
use Rattle.record.specs.declared.item.Mark.{Mark}
use Rattle.record.specs.declared.item.Mark.TheVariants as mark
use Rattle.record.specs.declared.item.Named.{Named}
use Rattle.refusal.specs.Checks.{Check, Refused}
use Rattle.refusal.specs.declared.Refusal.{Refusal}
use Rattle.refusal.specs.declared.Refusal.TheVariants.{CapOutOfRange, MarkOutOfTurn, ReadingOutOfRange, ShareAboveLimit}
use Rattle.table.specs.declared.rows.Row.{Row}
use Rattle.search.specs.Calls.{Answers, Begins, Closes, Opens, OpensIn, OwnRest, OwnRound, Waits}
use Rattle.search.specs.Tales.{CapMakes, Makes, meaning_of, under}
use Rattle.search.specs.declared.replay.refused_at.RefusedAt.{RefusedAt}
use Rattle.search.specs.declared.replay.due.Due.{Due}
use Rattle.search.specs.declared.replay.due.Due.TheVariants as due
use Rattle.search.specs.declared.states.Rest.{Rest}
use Rattle.search.specs.declared.states.Round.{Round}

-- the marks that may come
abbrev pub may_come : Due → List Mark
may_come due.Start = mark.Begin ∷ []
may_come (due.Centre n finest) = mark.Value ∷ mark.NotFeasible ∷ []
may_come (due.Rest rest) = mark.Cap ∷ mark.Every ∷ mark.Hull ∷ []
may_come (due.Capped rest most) = mark.Every ∷ mark.Hull ∷ []
may_come (due.Points round p) = mark.Value ∷ mark.NotFeasible ∷ []

abbrev pub Among : Mark → List Mark → Type 0
Among m [] = ⊥
Among m (x ∷ xs) = (m ≡ x) ⊎ Among m xs

-- the mark is in turn
abbrev pub InTurn : Due → Mark → Type 0
InTurn d m = Among m (may_come d)

-- the number of a cap, if there is one
abbrev pub cap_number : Option Most → Option ℕ
cap_number None = None
cap_number (Some most) = Some most.number

-- a round may be opened on this search at rest, under this cap or none
pub data Ready : Due → Rest → Option Most → Type 0 where
  plain : {rest : Rest} → Ready (due.Rest rest) rest None
  with_cap : {rest : Rest} {most : Most} → Ready (due.Capped rest most) rest (Some most)

-- what an accepted item makes of what is due and of the table
pub data Turn : Due → List Row → Item → Due → List Row → Type 0 where
  begins : {n finest : ℕ} {table : List Row} → Turn due.Start table (item.Begin n finest) (due.Centre n finest) table
  centre : {n finest : ℕ} {a : Answer} {rest : Rest} {table after : List Row}
      → Begins n finest table a (Ok rest) after → Turn (due.Centre n finest) table (item.Answer a) (due.Rest rest) after
  caps : {rest : Rest} {m : ℕ} {table : List Row} (most : Most) → most.number ≡ m → Turn (due.Rest rest) table (item.Cap m) (due.Capped rest most) table
  opens : {d : Due} {rest : Rest} {cap : Option Most} {by : Named} {round : Round} {table after : List Row} → Ready d rest cap → Makes by
      → Opens (under (cap_number cap) (meaning_of by)) rest table (Ok round) after → Turn d table (item.Round by) (due.Points round 0) after
  point : {round : Round} {p : ℕ} {a : Answer} {table after : List Row}
      → Answers round table p a (Ok tt) after → p + 1 < round.points → Turn (due.Points round p) table (item.Answer a) (due.Points round (p + 1)) after
  last : {round : Round} {p : ℕ} {a : Answer} {rest : Rest} {table between after : List Row}
      → Answers round table p a (Ok tt) between → p + 1 ≡ round.points → Closes round between (Ok rest) after
      → Turn (due.Points round p) table (item.Answer a) (due.Rest rest) after

-- why an item in turn is refused whose mark stands at `here`: the cause and the place
pub data Declines (here : ℕ) : Due → List Row → Item → Refusal → ℕ → Type 0 where
  bad_reading : {d : Due} {a : Answer} {table : List Row} → (T (allowed a) → ⊥) → Declines here d table (item.Answer a) ReadingOutOfRange here
  -- begin refuses: the place is that of the record's beginning
  no_begin : {n finest : ℕ} {a : Answer} {why : Refusal} {table after : List Row} → T (allowed a)
      → Begins n finest table a (Err why) after → Declines here (due.Centre n finest) table (item.Answer a) why 0
  no_cap : {rest : Rest} {m : ℕ} {table : List Row} → (CapMakes (Some m) → ⊥) → Declines here (due.Rest rest) table (item.Cap m) CapOutOfRange here
  no_policy : {d : Due} {rest : Rest} {cap : Option Most} {by : Named} {table : List Row} → Ready d rest cap → (Makes by → ⊥)
      → Declines here d table (item.Round by) ShareAboveLimit here
  -- on its own table open refuses for want of boxes to cut or of room
  no_round : {d : Due} {rest : Rest} {cap : Option Most} {by : Named} {refused : Refusal × Rest} {table after : List Row} → Ready d rest cap → Makes by
      → OpensIn (under (cap_number cap) (meaning_of by)) rest table (Err refused) after → Declines here d table (item.Round by) refused.0 here

-- an item's outcome: what is due after it, or why it is refused; a refusal leaves the table
abbrev pub Turns : ℕ → Due → List Row → Item → Result Due RefusedAt → List Row → Type 0
Turns here d table i (Ok next) after = Turn d table i next after
Turns here d table i (Err e) after =
    (after ≡ table) × (((InTurn d (mark_of i) → ⊥) × (e.why ≡ MarkOutOfTurn) × (e.place ≡ here)) ⊎ (InTurn d (mark_of i) × Declines here d table i e.why e.place))

-- opening where a refusal keeps the search
abbrev pub OpensOr : (Front → Ranks) → Rest → List Row → Result Round Refusal → List Row → Type 0
OpensOr meaning rest table (Ok round) after = OpensIn meaning rest table (Ok round) after
OpensOr meaning rest table (Err why) after = (refused : Refusal × Rest) × (why ≡ refused.0) × OpensIn meaning rest table (Err refused) after

-- opening by the policy that a record names
abbrev pub OpensNamed : Option ℕ → Named → Rest → List Row → Result Round Refusal → List Row → Type 0
OpensNamed cap by rest table out after =
    Check (Makes by) (Refused table after out ShareAboveLimit) (OpensOr (under cap (meaning_of by)) rest table out after)

-- which of these is due
abbrev pub IsRest : Due → Type 0
IsRest d = (rest : Rest) × (d ≡ due.Rest rest)

abbrev pub IsCapped : Due → Type 0
IsCapped d = (rest : Rest) × (most : Most) × (d ≡ due.Capped rest most)

abbrev pub IsPoints : Due → Type 0
IsPoints d = (round : Round) × (p : ℕ) × (d ≡ due.Points round p)

-- the points below p of a round are answered, and the others wait
pub record AnsweredBelow (round : Round) (table : List Row) (p : ℕ) : Type 0 where
  pub own : OwnRound round table
  pub within : p < round.points
  pub answered : (q : ℕ) → q < p → Waits round table q → ⊥
  pub waits : (q : ℕ) → p ≤ q → q < round.points → Waits round table q

-- the table is that of the search or the round at hand
abbrev pub OwnDue : Due → List Row → Type 0
OwnDue due.Start table = Unit {0}
OwnDue (due.Centre n finest) table = Unit {0}
OwnDue (due.Rest rest) table = OwnRest rest table
OwnDue (due.Capped rest most) table = OwnRest rest table
OwnDue (due.Points round p) table = AnsweredBelow round table p

abbrev pub OwnNext : Result Due RefusedAt → List Row → Type 0
OwnNext (Ok d) table = OwnDue d table
OwnNext (Err e) table = Unit {0}
