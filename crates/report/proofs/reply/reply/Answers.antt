-- The text of what the replay gave.
use Rattle.std.proofs.Common.{ℕ, replicate, Ok, Err, ap, ◌∙◌, subst, inr}
use Rattle.std.proofs.lemmas.Result.{IfOk-weaker}
use Rattle.search.specs.Replays.{Replays}
use Rattle.table.specs.declared.rows.Row.{Row}
use Rattle.report.specs.Text.{refusal_text}
use Rattle.report.proofs.reply.reply.Goals as goal

pub returns-in-Err : goal.returns-in-Err
returns-in-Err c =
    let refused = c.in-Err.refused in
    IfOk-weaker _ _ _ (λ s e. inr (
      c.if-input-gt-LONGEST.false,
      (
        Err refused,
        c.replay.new.table,
        subst (λ (row : Row). Replays (replicate 1024 row) c.args.input.now (Err refused) c.replay.new.table) c.whole-table.ensures c.in-Err.ensures.outcome,
        e ∙ ap (λ (k : ℕ). refusal_text k refused.place) c.number-in-Err.ensures.value,
      ),
    )) c.refusal_text-in-Err.ensures

pub returns-in-Ok-search_text : goal.returns-in-Ok-search_text
returns-in-Ok-search_text c = inr (
  c.if-input-gt-LONGEST.false,
  (
    Ok c.in-Ok.rest,
    c.replay.new.table,
    subst (λ (row : Row). Replays (replicate 1024 row) c.args.input.now (Ok c.in-Ok.rest) c.replay.new.table) c.whole-table.ensures c.in-Ok.ensures.outcome,
    c.in-Ok-search_text.ensures,
  ),
)
