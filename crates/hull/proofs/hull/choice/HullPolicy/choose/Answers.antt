-- The ranks of the conditions, and of the slopes.
use Rattle.std.proofs.Common.{rules}
use Rattle.hull.specs.Chosen.{hull_conditions}
use Rattle.hull.proofs.Slopes.{hull_slopes}
use Rattle.hull.proofs.Bounds.{products_fit}
use Rattle.hull.proofs.hull.choice.HullPolicy.choose.Goals as goal

pub returns-clause-set : goal.returns-clause-set
returns-clause-set c = search rules

pub returns-clause-conditions : goal.returns-clause-conditions
returns-clause-conditions c j = rw (returns-clause-set c) (hull_conditions c.args.self.now.share c.args.front.now j)

pub returns-clause-slopes : goal.returns-clause-slopes
returns-clause-slopes c j = rw (returns-clause-set c) (hull_slopes c.args.self.now.share c.args.front.now j)

pub returns-clause-products : goal.returns-clause-products
returns-clause-products c = products_fit c.args.self.now.share c.args.front.now c.args.self.now.ok
