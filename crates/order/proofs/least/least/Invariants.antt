-- The first of the records seen so far, which are one more than the later ones seen.
use Rattle.std.proofs.Common.{◌+◌, ◌≡◌, get_or}
use Rattle.std.specs.List.{IsFirstBest}
use Rattle.order.proofs.least.least.Given as goal

abbrev pub invariant-loop-i : goal.invariant-loop-i
invariant-loop-i g l = let o = g.T.Ordered in IsFirstBest (λ a b. o.before (o.key a) (o.key b)) l.records (l.i + 1) l.first × (l.best ≡ get_or l.records l.first l.best)
