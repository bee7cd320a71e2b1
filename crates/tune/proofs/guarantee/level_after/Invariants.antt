-- The next level's rounds, and what the level after it asks for besides.
use Rattle.std.proofs.Common.{◌≡◌, ◌+◌, ◌≤◌}
use Rattle.search.specs.Runs.{rounds_for}
use Rattle.tune.proofs.Rounds.{step}
use Rattle.tune.proofs.guarantee.level_after.Given as goal

abbrev pub invariant-loop-level : goal.invariant-loop-level
invariant-loop-level l =
    (rounds_for 2 l.level ≤ l.rounds) × (l.next ≡ rounds_for 2 (l.level + 1)) × (l.more ≡ step (l.level + 1)) × (l.next ≤ l.more)
