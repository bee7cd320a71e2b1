-- What was read is all that stands at the front, and where nothing was read nothing does.
use Rattle.std.proofs.Common.{rules}
use Rattle.std.proofs.lemmas.Int.{ints}
use Rattle.record.specs.declared.item.Mark.TheVariants as mark
use Rattle.record.proofs.Front.{found, unknown}
use Rattle.record.proofs.read.read.Goals as goal

pub returns-in-66 : goal.returns-in-66
returns-in-66 c = found (search rules) (search rules) tt

pub returns-in-86 : goal.returns-in-86
returns-in-86 c = found (search rules) (search (rules, ints, c.type_inv.bytes)) (search rules)

pub returns-in-78 : goal.returns-in-78
returns-in-78 c = found (search rules) (search rules) tt

pub returns-in-67 : goal.returns-in-67
returns-in-67 c = found (search rules) (search rules) tt

pub returns-in-82 : goal.returns-in-82
returns-in-82 c = found (search rules) (search rules) tt

pub returns-in-82-2 : goal.returns-in-82-2
returns-in-82-2 c = found (search rules) (search (rules, c.type_inv.bytes)) (search rules)

pub returns-in-len2-up : goal.returns-in-len2-up
returns-in-len2-up c = unknown (search rules) (elim [
  | mark.Begin ↦ search rules
  | mark.Value ↦ search rules
  | mark.NotFeasible ↦ search rules
  | mark.Cap ↦ search rules
  | mark.Every ↦ search rules
  | mark.Hull ↦ search rules
])
