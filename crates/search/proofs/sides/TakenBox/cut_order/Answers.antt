-- The gathered sides, arranged.
use Rattle.std.proofs.Common.{ℕ, subst, take}
use Rattle.std.specs.List.Sorted.{IsPermutation}
use Rattle.search.proofs.ArrangedSides.{taken_order}
use Rattle.search.proofs.sides.TakenBox.cut_order.Goals as goal

pub returns : goal.returns
returns c =
    let b = c.args.self.now in
    taken_order b.shape.n b.rank _ _ _ c.requires _ c.long_sides-sides.ensures _ (subst (λ (k : ℕ). IsPermutation (take k c.long_sides-sides.result) c.arrange.new.records) c.long_sides.ensures c.arrange.ensures.same) c.arrange.ensures.rising _
