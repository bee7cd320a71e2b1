-- The filled ranks below the one at hand.
use Rattle.std.proofs.Common.{◌≡◌}
use Rattle.ranks.specs.Ranks.{ranks}
use Rattle.ranks.proofs.Collect.{up_to}
use Rattle.policy.specs.Levels.{filled}
use Rattle.policy.proofs.front.Front.filled.Given as goal

abbrev pub invariant-loop-rank : goal.invariant-loop-rank
invariant-loop-rank l = ranks l.chosen ≡ up_to (filled l.self) l.rank
