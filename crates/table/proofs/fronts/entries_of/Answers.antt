-- No entry is written at first.
use Rattle.std.proofs.Common.{None, refl, arith}
use lib.ListN.{get_or-replicate}
use Rattle.table.proofs.fronts.entries_of.Goals as goal

pub loop-r-init : goal.loop-r-init
loop-r-init c = (refl, λ q h. absurd (omega arith), λ q _ h. get_or-replicate 114 q None None h)
