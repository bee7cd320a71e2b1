-- The two rules that every policy keeps.
use Rattle.std.specs.Prelude.{◌≡◌, ℕ, true}
use Rattle.ranks.specs.Ranks.{Ranks, Lowest}
use Rattle.policy.specs.Levels.{filled, level}
use Rattle.policy.specs.declared.front.Front.{Front}

-- every chosen rank has a filled entry
abbrev pub OnlyFilled : Front → Ranks → Type 0
OnlyFilled f chosen = (r : ℕ) → chosen r ≡ true → filled f r ≡ true

-- if any entry is filled, some chosen rank has the level of the lowest filled rank: the largest boxes are cut
abbrev pub ReachesLargest : Front → Ranks → Type 0
ReachesLargest f chosen = (r : ℕ) → Lowest (filled f) r → (k : ℕ) × (chosen k ≡ true) × (level f k ≡ level f r)
