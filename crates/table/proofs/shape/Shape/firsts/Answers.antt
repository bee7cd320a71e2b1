-- One box more.
use Rattle.std.proofs.Common.{length, None, sym, refl, ap, ◌∙◌, arith, length-set}
use lib.ListN.{get_or-replicate}
use Rattle.table.proofs.FirstBoxes.{rank_bound, firsts_none, firsts_put, firsts_other}
use Rattle.table.proofs.shape.Shape.firsts.Goals as goal
use Rattle.table.proofs.shape.Shape.firsts.Goals.{then-rank-below+in-Some, then-rank-below+in_default, else-rank-below}

pub loop-row-init : goal.loop-row-init
loop-row-init c = (refl, λ r h. firsts_none _ _ _ r _ (get_or-replicate 114 r None None h))

pub loop-row-preserved : goal.loop-row-preserved
loop-row-preserved c =
    let s = c.args.self.now in
    let table = c.args.boxes.now in let i = c.loop-row.row in
    elim c.if-rank-below.branch [
      | then-rank-below+in-Some w ↦
          let cut = rw c.from-2.ensures at (rw c.from.ensures at w.if-rank-below.true) in
          let low = rank_bound s.n s.finest _ s.few s.fine cut in (
            ap length w.firsts-is ∙ simp length-set c.loop-row.invariant.0,
            λ r h. rw w.firsts-is (firsts_put s.n s.finest table i c.loop-row.firsts c.rank_of-rank.result
                (record { answer = w.in-Some.answer; row = i }) w.earlier.result
                c.rank_of-rank.ensures cut refl (sym w.in-Some.ensures) (omega (arith, c.loop-row.invariant.0)) w.earlier.ensures r (c.loop-row.invariant.1 r h)),
          )
      | then-rank-below+in_default w ↦ (
        ap length w.firsts-is ∙ c.loop-row.invariant.0,
        λ r h. rw w.firsts-is (firsts_other s.n s.finest table i r _ (λ e l a shows. w.in_default.not-Some a (w.shown.ensures ∙ shows)) (c.loop-row.invariant.1 r h)),
      )
      | else-rank-below w ↦ (
        ap length w.firsts-is ∙ c.loop-row.invariant.0,
        λ r h. rw w.firsts-is (firsts_other s.n s.finest table i r _
            (λ e l a shows. omega (arith, c.rank_of-rank.ensures, rw c.from-2.ensures at (rw c.from.ensures at w.if-rank-below.false))) (c.loop-row.invariant.1 r h)),
      )
    ]
