-- What was read so far begins the record of a run, and the table is that of what is due.
use Rattle.std.proofs.Common.{length}
use Rattle.search.specs.Turns.{OwnDue}
use Rattle.search.proofs.Replaying.{SoFar}
use Rattle.search.proofs.replay.replay.Given as goal

abbrev pub invariant-loop-rest : goal.invariant-loop-rest
invariant-loop-rest l = SoFar l.initial.table l.bytes l.rest l.due l.table × OwnDue l.due l.table

abbrev pub decreases-loop-rest : goal.decreases-loop-rest
decreases-loop-rest l = length l.rest
