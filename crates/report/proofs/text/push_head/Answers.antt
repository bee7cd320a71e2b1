-- What is read of the search is what the search has.
use Rattle.report.proofs.text.push_head.Goals as goal

pub returns : goal.returns
returns c = rw (← c.shape-shape.ensures, ← c.rounds-rounds.ensures, ← c.boxes-boxes.ensures) c.write.ensures.bytes
