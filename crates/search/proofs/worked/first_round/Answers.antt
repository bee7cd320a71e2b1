-- Each call is one more of the run.
use Rattle.search.proofs.FirstRounds.{ends, goes, goes_on}
use Rattle.search.proofs.worked.first_round.Goals as goal

pub loop-point-init : goal.loop-point-init
loop-point-init g c =
    let policy = c.args.policy.now in
    goes c.args.n c.args.finest c.args.table.now _ _ c.args.middle c.in_ok-rest.rest c.in_ok-round.round (g.P.Policy.chosen policy)
    c.in_ok-rest.ensures.outcome c.in_ok-rest.ensures.runs
    (λ front of. (g.met.P.Policy.sound policy front, g.met.P.Policy.reaches policy front)) c.in_ok-round.ensures.outcome c.in_ok-round.ensures.located

pub loop-point-preserved : goal.loop-point-preserved
loop-point-preserved g c = goes_on c.args.n c.args.finest c.in_ok-round.round _ _ _ _ c.loop-point.invariant c.in_ok-answer.ensures

pub returns : goal.returns
returns g c = ends c.args.n c.args.finest c.in_ok-round.round _ _ c.in_ok-close.field-0 c.loop-point.invariant c.in_ok-close.ensures
