-- A square of at most 728 steps.
use Rattle.std.proofs.Common.{arith}
use Rattle.std.proofs.lemmas.Nat.{mul-le}
use Rattle.tune.proofs.instrument.square.Goals as goal

pub returns : goal.returns
returns c =
    let d = c.abs_diff-distance.result in
    mul-le d d 728 728 (omega arith) (omega arith)
