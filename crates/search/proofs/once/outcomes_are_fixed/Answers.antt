-- Each call has one outcome.
use Rattle.search.proofs.OnePoint.{one_outcome}
use Rattle.search.proofs.once.outcomes_are_fixed.Goals as goal

pub returns : goal.returns
returns c = one_outcome
