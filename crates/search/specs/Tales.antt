-- Runs as records tell them: what a record says of a run, its bytes, and where the run leads.
use Rattle.std.specs.Prelude.{◌≡◌, ℕ, ◌≤◌, List, [], ◌∷◌, ◌++◌, map, length, Some, None, Ok, Option}
use Rattle.std.specs.List.{flat_map}
use Rattle.hull.specs.Decide.{hull_ranks}
use Rattle.order.specs.declared.answer.Answer.{Answer}
use Rattle.policy.specs.Levels.{filled}
use Rattle.policy.specs.declared.front.Front.{Front}
use Rattle.ranks.specs.Ranks.{Ranks, lowest_of}
use Rattle.record.specs.Items.{bytes_of}
use Rattle.record.specs.declared.item.Item.{Item}
use Rattle.record.specs.declared.item.Item.TheVariants as item
use Rattle.record.specs.declared.item.Named.{Named}
use Rattle.record.specs.declared.item.Named.TheVariants as named
use Rattle.table.specs.declared.rows.Row.{Row}
use Rattle.search.specs.Calls.{Answers, Begins, Closes, Opens}
use Rattle.search.specs.declared.states.Rest.{Rest}
use Rattle.search.specs.declared.states.Round.{Round}

infixl 20 ◌then◌
-- a round as a record tells it: its cap, if it has one, its policy, and the answers of its points in their order
pub record Told : Type 0 where
  pub cap : Option ℕ
  pub by : Named
  pub answers : List Answer

-- a run as a record tells it: directions, finest level and the answer for the middle cell, then its rounds
pub data Tale : Type 0 where
  begun : ℕ → ℕ → Answer → Tale
  ◌then◌ : Tale → Told → Tale

-- how the search was begun
abbrev pub n_of : Tale → ℕ
n_of (begun n finest a) = n
n_of (tale then told) = n_of tale

abbrev pub finest_of : Tale → ℕ
finest_of (begun n finest a) = finest
finest_of (tale then told) = finest_of tale

abbrev pub middle_of : Tale → Answer
middle_of (begun n finest a) = a
middle_of (tale then told) = middle_of tale

-- all its answers, in the order in which they were given
abbrev pub answers_of : Tale → List Answer
answers_of (begun n finest a) = a ∷ []
answers_of (tale then told) = answers_of tale ++ told.answers

-- the items of a record, one after another

abbrev pub cap_items : Option ℕ → List Item
cap_items None = []
cap_items (Some m) = item.Cap m ∷ []

abbrev pub round_items : Told → List Item
round_items told = cap_items told.cap ++ item.Round told.by ∷ map item.Answer told.answers

abbrev pub items_of : Tale → List Item
items_of (begun n finest a) = item.Begin n finest ∷ item.Answer a ∷ []
items_of (tale then told) = items_of tale ++ round_items told

-- the record of a run: the bytes of its items
abbrev pub record_of : Tale → List ℕ
record_of tale = flat_map bytes_of (items_of tale)

-- the policy of a round

-- there is such a policy
abbrev pub Makes : Named → Type 0
Makes named.Every = Unit {0}
Makes (named.Hull share) = share ≤ 10000

-- there is such a cap
abbrev pub CapMakes : Option ℕ → Type 0
CapMakes None = Unit {0}
CapMakes (Some m) = (1 ≤ m) × (m ≤ 114)

-- what a policy means that is named in a record
abbrev pub meaning_of : Named → Front → Ranks
meaning_of named.Every = filled
meaning_of (named.Hull share) = hull_ranks share

-- what a policy means under a cap, or under none
abbrev pub under : Option ℕ → (Front → Ranks) → Front → Ranks
under None meaning front = meaning front
under (Some m) meaning front = lowest_of m (meaning front)

-- where a run leads

-- the points of a round are answered in their order, from point 0 on
pub data AnsweredInOrder (round : Round) (table : List Row) : List Answer → List Row → Type 0 where
  none : AnsweredInOrder round table [] table
  more : {before after : List Row} (answers : List Answer) (a : Answer) → AnsweredInOrder round table answers before
      → Answers round before (length answers) a (Ok tt) after → AnsweredInOrder round table (answers ++ a ∷ []) after

-- a round is opened, and as many of its points are answered as there are answers
pub record Plays (rest : Rest) (table : List Row) (told : Told) (round : Round) (after : List Row) : Type 0 where
  pub cleared : List Row
  pub caps : CapMakes told.cap
  pub makes : Makes told.by
  pub opens : Opens (under told.cap (meaning_of told.by)) rest table (Ok round) cleared
  pub answered : AnsweredInOrder round cleared told.answers after

-- a round is opened, all its points are answered, and it is closed
pub record Completes (rest : Rest) (table : List Row) (told : Told) (next : Rest) (after : List Row) : Type 0 where
  pub round : Round
  pub filled : List Row
  pub plays : Plays rest table told round filled
  pub all : length told.answers ≡ round.points
  pub closes : Closes round filled (Ok next) after

-- the run on a table leads to a search at rest and a table
abbrev pub Leads : List Row → Tale → Rest → List Row → Type 0
Leads table (begun n finest a) rest after = Begins n finest table a (Ok rest) after
Leads table (tale then told) rest after =
    (last : Rest) × (between : List Row) × Leads table tale last between × Completes last between told rest after
