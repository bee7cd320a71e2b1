-- One level more.
use Rattle.std.proofs.Common.{◌+◌, arith}
use Rattle.tune.proofs.Rounds.{rounds_step, step_le, step_nine}
use Rattle.tune.proofs.guarantee.level_after.Goals as goal

pub overflow_add-next : goal.overflow_add-next
overflow_add-next c = omega (arith, step_le (c.loop-level.level + 1) (omega arith))

pub overflow_mul-more : goal.overflow_mul-more
overflow_mul-more c = omega (arith, step_le (c.loop-level.level + 1) (omega arith))

pub loop-level-preserved : goal.loop-level-preserved
loop-level-preserved c =
    let k = c.loop-level.level + 1 in
    (omega arith, omega (arith, rounds_step k), omega (arith, step_nine k), omega arith)
