-- One direction more.
use Rattle.std.proofs.Common.{ℕ, ◌+◌, length, sym, ap, ◌∙◌, arith, length-set}
use Rattle.search.proofs.Longs.{fits, long_more, count_more, count_same, long_same}
use Rattle.search.proofs.sides.TakenBox.long_sides.Goals as goal
use Rattle.search.proofs.sides.TakenBox.long_sides.Goals.{then-from-level, else-from-level}

pub side-requires : goal.side-requires
side-requires c = omega (arith, c.loop-d.invariant.0, fits _ _ _ _ _ c.requires c.loop-d.d c.loop-d-test.true (sym c.from.ensures ∙ c.if-from-level.true), c.requires.room)

pub loop-d-preserved : goal.loop-d-preserved
loop-d-preserved c =
    let inv = c.loop-d.invariant in
    elim c.if-from-level.branch [
      | then-from-level w ↦ (
        w.count-is ∙ ap (λ (x : ℕ). x + 1) inv.0 ∙ count_more _ _ _ _ _ c.requires c.loop-d.d c.loop-d-test.true (sym c.from.ensures ∙ w.if-from-level.true),
        ap length w.sides-is ∙ simp length-set inv.1,
        omega (arith, w.count-is),
        λ e h l. rw w.sides-is (long_more _ _ _ _ _ c.requires c.loop-d.sides c.loop-d.d c.loop-d.count _ inv.1 c.loop-d-test.true (sym c.from.ensures ∙ w.if-from-level.true) inv.0 inv.2 w.side.ensures inv.3 e h l),
      )
      | else-from-level w ↦ (
        w.count-is ∙ inv.0 ∙ count_same _ _ _ _ _ c.requires c.loop-d.d c.loop-d-test.true (λ e. w.if-from-level.false (c.from.ensures ∙ e)),
        ap length w.sides-is ∙ inv.1,
        omega (arith, w.count-is),
        λ e h l. rw w.sides-is (long_same _ _ _ _ _ c.requires c.loop-d.sides c.loop-d.d (λ e. w.if-from-level.false (c.from.ensures ∙ e)) inv.3 e h l),
      )
    ]
