-- The entries of a front by rank and by level.
use Rattle.std.specs.Prelude.{◌≡◌, ℕ, ◌/◌, ◌<◌, ◌≤◌, List, get_or, is_some, Some, None, Option, slice_index_or}
use Rattle.order.specs.First.{FirstAmong}
use Rattle.order.specs.Records.{rank_before}
use Rattle.order.specs.declared.answer.Answer.{Answer}
use Rattle.order.specs.declared.records.RankEntry.{RankEntry}
use Rattle.ranks.specs.Ranks.{Ranks}
use Rattle.policy.specs.declared.front.Front.{Front}

-- the entry of a rank
abbrev pub entry : Front → ℕ → Option Answer
entry f r = slice_index_or f.entries r None

-- the ranks with a filled entry
unfoldable pub filled : Front → Ranks
filled f r = is_some (entry f r)

-- the level of a rank
abbrev pub level : Front → ℕ → ℕ
level f r = r / f.directions

-- e is a filled rank from low up to high, with its answer
pub record FilledBetween (entries : List (Option Answer)) (low high : ℕ) (e : RankEntry) : Type 0 where
  pub from : low ≤ e.rank
  pub below : e.rank < high
  pub holds : get_or entries e.rank None ≡ Some e.answer

-- e is a filled rank of level t, with its answer
pub record FilledAt (f : Front) (t : ℕ) (e : RankEntry) : Type 0 where
  pub of_level : level f e.rank ≡ t
  pub holds : entry f e.rank ≡ Some e.answer

-- the rank that goes first of a level, by answer and then by lower rank; none where no rank of the level is filled
abbrev pub FirstOfLevel : Front → ℕ → Option RankEntry → Type 0
FirstOfLevel f t e = FirstAmong rank_before (FilledAt f t) e
