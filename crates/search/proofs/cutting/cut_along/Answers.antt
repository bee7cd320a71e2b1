-- One cut more.
use Rattle.std.proofs.Common.{rules}
use Rattle.search.proofs.Parts.{cut_step}
use Rattle.search.proofs.cutting.cut_along.Goals as goal

pub loop-side-preserved : goal.loop-side-preserved
loop-side-preserved c =
    cut_step _ _ _ c.requires _ _ _ c.loop-side-test.true c.loop-side.invariant _ c.thirds_of-thirds.ensures _ _ _
    c.give.ensures c.give-in-loop-side.ensures c.with_side-left.ensures
    (search rules)
