-- The first box of each rank so far.
use Rattle.std.proofs.Common.{◌≡◌, ℕ, ◌<◌, length, get_or, None}
use Rattle.table.specs.Boxes.{FirstOfRank}
use Rattle.table.proofs.shape.Shape.firsts.Given as goal

abbrev pub invariant-loop-row : goal.invariant-loop-row
invariant-loop-row l = (length l.firsts ≡ 114) × ((r : ℕ) → r < 114 → FirstOfRank l.self.n l.self.finest l.row l.boxes r (get_or l.firsts r None))
