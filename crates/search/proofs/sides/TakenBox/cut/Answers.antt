-- The long sides in their order are sides to cut along.
use Rattle.std.proofs.Common.{ℕ, subst, take}
use Rattle.search.specs.Cutting.{CutAlong}
use Rattle.search.proofs.CutBoxes.{sides_ready, box_cut}
use Rattle.search.proofs.sides.TakenBox.cut.Goals as goal

pub cut_along-requires : goal.cut_along-requires
cut_along-requires c = rw c.long_sides.ensures (sides_ready _ _ _ _ _ c.requires _ c.cut_order-sides.ensures)

pub returns : goal.returns
returns c =
    let along = subst (λ (k : ℕ). CutAlong c.args.table.now c.args.self.now.row (take k c.cut_order-sides.result) c.cut_along.new.table) c.long_sides.ensures c.cut_along.ensures in
    box_cut _ _ _ _ _ c.requires _ c.cut_order-sides.ensures _ along
