-- What is due and the item as they were matched.
use Rattle.std.proofs.Common.{sym, subst₂}
use Rattle.record.specs.declared.item.Item.{Item}
use Rattle.search.specs.Turns.{Turn, Turns}
use Rattle.search.specs.Turns.Ready.{plain, with_cap}
use Rattle.search.specs.Turns.Turn.{begins}
use Rattle.search.specs.declared.replay.due.Due.{Due}
use Rattle.search.specs.declared.replay.due.Due.TheVariants as due
use Rattle.search.proofs.replay.turn.turn.Goals as goal

pub returns-in-Start-Begin-clause-turns : goal.returns-in-Start-Begin-clause-turns
returns-in-Start-Begin-clause-turns c =
    let arm = c.in-Start-Begin in let table = c.args.table.now in
    subst₂ (λ (d : Due) (i : Item). Turn d table i (due.Centre arm.n arm.finest) table) (sym arm.is-0) (sym arm.is-1) begins

pub returns-in-Rest-Round-clause-turns : goal.returns-in-Rest-Round-clause-turns
returns-in-Rest-Round-clause-turns c =
    let arm = c.in-Rest-Round in let opened = c.open_round in
    subst₂ (λ (d : Due) (i : Item). Turns c.args.place d c.args.table.now i opened.result opened.new.table) (sym arm.is-0) (sym arm.is-1) (opened.ensures.turns _ plain)

pub returns-in-Capped-Round-clause-turns : goal.returns-in-Capped-Round-clause-turns
returns-in-Capped-Round-clause-turns c =
    let arm = c.in-Capped-Round in let opened = c.open_round-in-Capped-Round in
    subst₂ (λ (d : Due) (i : Item). Turns c.args.place d c.args.table.now i opened.result opened.new.table) (sym arm.is-0) (sym arm.is-1) (opened.ensures.turns _ with_cap)
