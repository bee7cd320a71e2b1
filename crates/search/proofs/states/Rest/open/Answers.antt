-- The chain of open's checks, and the cells of its points.
use Rattle.std.proofs.Common.{inr}
use Rattle.search.proofs.Cells.{located_cells}
use Rattle.search.proofs.states.Rest.open.Goals as goal

pub returns-clause-located : goal.returns-clause-located
returns-clause-located g c =
    let policy = c.args.policy.now in
    located_cells (g.P.Policy.chosen policy) c.args.self c.args.table.now c.open_in.new.table c.open_in.result
    (λ front of. (g.met.P.Policy.sound policy front, g.met.P.Policy.reaches policy front)) (inr (c.owns.ensures.0 c.if-not-owns.false, c.open_in.ensures))
