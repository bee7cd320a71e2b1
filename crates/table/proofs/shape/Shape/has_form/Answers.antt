-- The form is there in each of the six directions.
use Rattle.std.proofs.Common.{rules}
use Rattle.std.proofs.lemmas.Iterator.{YieldsList-from_range, cases_from_all}
use Rattle.table.specs.Boxes.{InDirection}
use Rattle.table.proofs.Below.{every_below}
use Rattle.table.proofs.shape.Shape.has_form.Goals as goal

pub returns : goal.returns
returns c =
    let s = c.args.self.now in let row = c.args.row.now in
    every_below c.all.result 6 (InDirection s.n s.finest row)
    (cases_from_all _ _ c.all.result (InDirection s.n s.finest row) (λ d. InDirection s.n s.finest row d → ⊥) c.all.ensures.ran (YieldsList-from_range 0 6 6 (cc) (cc)) (λ x q k. search rules) (λ x q k. search rules))
