-- The ends once all rows are seen.
use Rattle.std.proofs.Common.{length, None, rules, subst, sym}
use Rattle.std.proofs.lemmas.Iterator.{YieldsList-from_slice}
use Rattle.std.proofs.lemmas.Iterator.Consumers.{fold_from_yields_List}
use Rattle.table.specs.Fronts.{ReadingsOf}
use Rattle.table.proofs.Ends.{all_seen, seen}
use Rattle.table.proofs.fronts.readings_of.Goals as goal

pub returns : goal.returns
returns c =
    let boxes = c.args.boxes.now in
    subst (ReadingsOf (length boxes) boxes)
    (sym (fold_from_yields_List _ seen None _ c.fold.ensures.ran (YieldsList-from_slice boxes (cc)) (λ a x b q k. search rules)))
    (all_seen boxes)
