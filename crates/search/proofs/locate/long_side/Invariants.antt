-- The long sides so far.
use Rattle.std.proofs.Common.{◌≡◌, ◌≤◌}
use Rattle.table.specs.Sums.{bit, sum}
use Rattle.search.specs.Points.{is_long}
use Rattle.search.proofs.locate.long_side.Given as goal

abbrev pub invariant-loop-d : goal.invariant-loop-d
invariant-loop-d l = (l.seen ≡ sum l.d (λ e. bit (is_long l.shape.n l.row e))) × (l.seen ≤ l.number)
