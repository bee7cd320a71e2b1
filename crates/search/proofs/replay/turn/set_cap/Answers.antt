-- The number is one of a cap, or there is no such cap.
use Rattle.std.proofs.Common.{sym, refl, subst, inl, inr}
use Rattle.record.specs.declared.item.Item.TheVariants as item
use Rattle.search.specs.Turns.{Declines}
use Rattle.search.specs.Turns.Declines.{no_cap}
use Rattle.search.specs.Turns.Turn.{caps}
use Rattle.search.specs.declared.replay.due.Due.TheVariants as due
use Rattle.search.proofs.Turning.{check_err, check_ok}
use Rattle.search.proofs.replay.turn.set_cap.Goals as goal

pub returns-in-Ok : goal.returns-in-Ok
returns-in-Ok c = λ table own.
    (caps c.in-Ok.most (check_ok c.in-Ok.ensures).1, own)

pub returns-in-Err : goal.returns-in-Err
returns-in-Err c = λ table own.
    let no_such = check_err c.in-Err.ensures in
    ((refl, inr (inl refl, subst (λ why. Declines c.args.place (due.Rest c.args.rest) table (item.Cap c.args.number) why c.args.place) (sym no_such.1) (no_cap no_such.0))), tt)
