-- The policy that is named, once it is made.
use Rattle.std.proofs.Common.{ℕ, sym, subst, inr}
use Rattle.hull.specs.Decide.{hull_ranks}
use Rattle.record.specs.declared.item.Named.{Named}
use Rattle.search.specs.Tales.{under}
use Rattle.search.specs.Turns.{OpensNamed, OpensOr, cap_number}
use Rattle.search.proofs.Turning.{check_ok}
use Rattle.search.proofs.replay.rounds.open_named.Goals as goal

pub returns-in-Every : goal.returns-in-Every
returns-in-Every c =
    subst (λ (by : Named). OpensNamed (cap_number c.args.cap) by c.args.rest c.args.table.now c.open_under.result c.open_under.new.table) (sym c.in-Every.is)
    (inr (tt, c.open_under.ensures))

pub returns-in_ok-new-in-Hull : goal.returns-in_ok-new-in-Hull
returns-in_ok-new-in-Hull c =
    let made = check_ok c.in_ok-new-in-Hull.ensures in
    subst (λ (by : Named). OpensNamed (cap_number c.args.cap) by c.args.rest c.args.table.now c.open_under-in-Hull.result c.open_under-in-Hull.new.table) (sym c.in-Hull.is)
    (inr (made.0, subst (λ (e : ℕ). OpensOr (under (cap_number c.args.cap) (hull_ranks e)) c.args.rest c.args.table.now c.open_under-in-Hull.result c.open_under-in-Hull.new.table) made.1 c.open_under-in-Hull.ensures))
