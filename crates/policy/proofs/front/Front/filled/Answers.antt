-- One rank more, and all of them.
use Rattle.std.proofs.Common.{◌≡◌, sym, ap, ◌∙◌, arith}
use Rattle.ranks.specs.Ranks.{ranks, with}
use Rattle.ranks.proofs.Collect.{up_to, up_to_in, up_to_out, up_to_all}
use Rattle.policy.specs.Levels.{filled}
use Rattle.policy.specs.Filled.{filled_end}
use Rattle.policy.proofs.front.Front.filled.Goals as goal
use Rattle.policy.proofs.front.Front.filled.Goals.{then-is_some, else-is_some}

pub loop-rank-preserved : goal.loop-rank-preserved
unfolding filled
loop-rank-preserved c =
    let q = filled c.args.self.now in
    let i = c.loop-rank.rank in
    elim c.if-is_some.branch [
      | then-is_some w ↦
          ap ranks w.chosen-is ∙ w.insert.ensures.put (omega arith) ∙ ap (λ p. with p i) c.loop-rank.invariant
          ∙ up_to_in q i (sym c.is_some.ensures ∙ w.if-is_some.true)
      | else-is_some w ↦
          ap ranks w.chosen-is ∙ c.loop-rank.invariant ∙ up_to_out q i (sym c.is_some.ensures ∙ w.if-is_some.false)
    ]

pub returns : goal.returns
returns c =
    let f = c.args.self.now in
    let end : c.loop-rank.rank ≡ 114 = omega arith in
    c.loop-rank.invariant ∙ ap (up_to (filled f)) end ∙ up_to_all (filled f) 114 (filled_end f)
