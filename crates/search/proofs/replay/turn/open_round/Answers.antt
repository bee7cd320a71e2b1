-- The round is opened, or the policy or the opening is refused.
use Rattle.std.proofs.Common.{inr}
use Rattle.search.specs.Turns.Turn.{opens}
use Rattle.search.specs.Turns.{cap_number}
use Rattle.search.proofs.Turning.{named_ok, named_refused, own_opened}
use Rattle.search.proofs.replay.turn.open_round.Goals as goal

pub returns-in-Ok : goal.returns-in-Ok
returns-in-Ok c =
    let o = named_ok (cap_number c.args.cap) c.args.by c.args.rest c.args.table.now c.in-Ok.round _ c.in-Ok.ensures in
    record {
      turns = λ d r. opens r o.0 (inr (c.requires, o.1));
      own = own_opened c.args.cap c.args.by c.args.rest c.args.table.now c.in-Ok.round _ c.requires o.1;
    }

pub returns-in-Err-clause-turns : goal.returns-in-Err-clause-turns
returns-in-Err-clause-turns c = λ d r. named_refused c.args.place c.args.cap c.args.by c.args.rest c.args.table.now c.in-Err.why _ c.requires c.in-Err.ensures r
