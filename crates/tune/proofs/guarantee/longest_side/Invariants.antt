-- The boxes seen so far.
use Rattle.tune.specs.Sides.{AllWithin}
use Rattle.tune.proofs.guarantee.longest_side.Given as goal

abbrev pub invariant-loop-row : goal.invariant-loop-row
invariant-loop-row l = AllWithin l.row-index l.boxes l.longest
