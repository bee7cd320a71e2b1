-- The table and what is left of the box after the cuts so far.
use Rattle.search.proofs.Parts.{CutTo}
use Rattle.search.proofs.cutting.cut_along.Given as goal

abbrev pub invariant-loop-side : goal.invariant-loop-side
invariant-loop-side l = CutTo l.initial.table l.j l.sides l.side-index l.table l.left
