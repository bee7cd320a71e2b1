-- The answer is out of range, or begin gives its result.
use Rattle.std.proofs.Common.{Err, Result, ap, ◌∙◌, sym, refl, subst, inr}
use Rattle.std.proofs.lemmas.Result.{err_from_is_err_and}
use Rattle.record.specs.declared.item.Item.TheVariants as item
use Rattle.search.specs.declared.replay.due.Due.{Due}
use Rattle.search.specs.declared.replay.due.Due.TheVariants as due
use Rattle.search.specs.declared.replay.refused_at.RefusedAt.{RefusedAt}
use Rattle.search.specs.Turns.{Turns}
use Rattle.search.specs.Turns.Declines.{bad_reading, no_begin}
use Rattle.search.specs.Turns.Turn.{centre}
use Rattle.search.proofs.Turning.{answer_among, begin_refusal, own_begun}
use Rattle.search.proofs.replay.turn.answer_middle.Goals as goal

pub returns-in_err-check_reading-clause-turns : goal.returns-in_err-check_reading-clause-turns
returns-in_err-check_reading-clause-turns c =
    let bad = c.in_err-check_reading.ensures in
    let found = err_from_is_err_and c.from_residual.result c.from_residual.ensures.1 in
    subst (λ (r : Result Due RefusedAt). Turns c.args.place (due.Centre c.args.n c.args.finest) c.args.table.now (item.Answer c.args.answer) r c.args.table.now) (sym (found.1 ∙ ap Err (found.2 ∙ bad.1)))
    (refl, inr (answer_among c.args.answer, bad_reading bad.0))

pub returns-in-Ok : goal.returns-in-Ok
returns-in-Ok c =
    let begun = c.in-Ok.ensures.outcome in
    record { turns = centre begun; own = own_begun c.args.n c.args.finest c.args.table.now c.args.answer c.in-Ok.rest _ begun }

pub returns-in-Err : goal.returns-in-Err
returns-in-Err c =
    let refused = c.in-Err.ensures.outcome in
    record {
      turns = (
        begin_refusal c.args.n c.args.finest c.args.table.now c.args.answer c.in-Err.why _ refused,
        inr (answer_among c.args.answer, no_begin c.in_ok-check_reading.ensures refused),
      );
      own = tt;
    }
