-- The examples are right, and counted.
use Rattle.std.proofs.Common.{refl}
use Rattle.examples.proofs.AllRight.{all_right}
use Rattle.examples.proofs.worked.examples_are_right.Goals as goal

pub returns : goal.returns
returns c = (all_right, refl)
