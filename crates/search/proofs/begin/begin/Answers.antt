-- From what begin writes, each run keeps what the law says.
use Rattle.std.proofs.Common.{rules}
use Rattle.search.proofs.Law.{every_run}
use Rattle.search.proofs.begin.begin.Goals as goal

pub returns-clause-runs : goal.returns-clause-runs
returns-clause-runs c = every_run c.args.n c.args.finest c.args.table.now c.start.new.table c.args.answer c.start.result (search rules)
