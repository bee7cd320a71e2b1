-- The answer is out of range, or it is written, and the last one closes the round.
use Rattle.std.proofs.Common.{◌≡◌, ◌+◌, Err, Result, ap, ◌∙◌, sym, refl, subst, inr, arith}
use Rattle.std.proofs.lemmas.Result.{err_from_is_err_and}
use Rattle.record.specs.declared.item.Item.TheVariants as item
use Rattle.search.specs.declared.replay.due.Due.{Due}
use Rattle.search.specs.declared.replay.due.Due.TheVariants as due
use Rattle.search.specs.declared.replay.refused_at.RefusedAt.{RefusedAt}
use Rattle.search.specs.Turns.{Turns}
use Rattle.search.specs.Turns.Declines.{bad_reading}
use Rattle.search.specs.Turns.Turn.{last, point}
use Rattle.search.proofs.Answering.{own_answered}
use Rattle.search.proofs.NextPoints.{own_closed}
use Rattle.search.proofs.Outcomes.{answered_by, closed_by}
use Rattle.search.proofs.Turning.{answer_among, answers_ok}
use Rattle.search.proofs.replay.turn.answer_point.Goals as goal

pub returns-in_err-check_reading-clause-turns : goal.returns-in_err-check_reading-clause-turns
returns-in_err-check_reading-clause-turns c =
    let bad = c.in_err-check_reading.ensures in
    let found = err_from_is_err_and c.from_residual.result c.from_residual.ensures.1 in
    subst (λ (r : Result Due RefusedAt). Turns c.args.place (due.Points c.args.round c.args.p) c.args.table.now (item.Answer c.args.answer) r c.args.table.now) (sym (found.1 ∙ ap Err (found.2 ∙ bad.1)))
    (refl, inr (answer_among c.args.answer, bad_reading bad.0))

pub returns-then-p-round-clause-turns : goal.returns-then-p-round-clause-turns
returns-then-p-round-clause-turns c =
    point (answers_ok c.args.round c.args.table.now c.args.p c.args.answer c.note.new.table c.in_ok-check_reading.ensures c.requires c.note.ensures) c.if-p-round.true

pub returns-else-p-round : goal.returns-else-p-round
returns-else-p-round c =
    let round = c.args.round in let table = c.args.table.now in let p = c.args.p in let a = c.args.answer in
    let answered = answers_ok round table p a c.note.new.table c.in_ok-check_reading.ensures c.requires c.note.ensures in
    let k = answered_by round table p a c.note.new.table answered in
    let end : p + 1 ≡ round.points = omega (arith, c.if-p-round.false, c.requires.within) in
    let closes = inr (own_answered round table p a c.note.new.table k, c.close_answered.ensures) in
    record {
      turns = last answered end closes;
      own = own_closed round c.note.new.table c.close_answered.result _ (closed_by round c.note.new.table c.close_answered.result _ closes);
    }
