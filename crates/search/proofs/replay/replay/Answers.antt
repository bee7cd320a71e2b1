-- Each turn reads one item more; the end is that of a run, or the record is refused.
use Rattle.std.proofs.Common.{◌<◌, [], length, Ok, refl, arith, true-eqb, false-eqb}
use Rattle.search.specs.Replays.{Replays}
use Rattle.search.specs.Replays.Starts.{nothing}
use Rattle.search.proofs.OneReplay.{replays_one}
use Rattle.search.proofs.Replaying.{cut_off, ends, refuses, so_far_more}
use Rattle.search.proofs.TaleRuns.{keeps_law}
use Rattle.search.proofs.replay.replay.Goals as goal

pub loop-rest-init : goal.loop-rest-init
loop-rest-init c = (([], refl, nothing), tt)

pub loop-rest-preserved : goal.loop-rest-preserved
loop-rest-preserved c =
    (so_far_more _ _ _ _ _ _ _ _ c.in-Ok.item c.loop-rest.invariant.0 c.in-Ok.ensures.reads.0 c.in_ok-due-in-Ok.ensures.turns, c.in_ok-due-in-Ok.ensures.own)

pub returns-in_err-due-in-Ok-clause-only : goal.returns-in_err-due-in-Ok-clause-only
returns-in_err-due-in-Ok-clause-only c = replays_one c.args.table.now c.args.bytes.now

pub returns-in-Err-clause-outcome : goal.returns-in-Err-clause-outcome
returns-in-Err-clause-outcome c =
    let some : 0 < length c.loop-rest.rest.now = omega (arith, false-eqb _ 0 c.loop-rest-test.ensures) in
    refuses _ _ _ _ _ _ c.loop-rest.invariant.0 (c.unread-why.ensures _ _ _ some c.in-Err.ensures.reads)

pub returns-in-Err-clause-only : goal.returns-in-Err-clause-only
returns-in-Err-clause-only c = replays_one c.args.table.now c.args.bytes.now

pub returns-in-Rest : goal.returns-in-Rest
returns-in-Rest c =
    let table = c.args.table.now in let bytes = c.args.bytes.now in
    let out : Replays table bytes (Ok c.in-Rest.search) c.loop-rest.table =
    ends _ _ _ _ _ _ c.loop-rest.invariant.0 (true-eqb _ 0 c.loop-rest-test.ensures) c.in-Rest.is in
    record { outcome = out; only = replays_one table bytes; law = keeps_law table bytes (Ok c.in-Rest.search) c.loop-rest.table out }

pub returns-in_default : goal.returns-in_default
returns-in_default c = record {
  outcome = cut_off _ _ _ _ _ c.loop-rest.invariant.0 (true-eqb _ 0 c.loop-rest-test.ensures) c.in_default.not-Rest;
  only = replays_one c.args.table.now c.args.bytes.now;
  law = tt;
}
