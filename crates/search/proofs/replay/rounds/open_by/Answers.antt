-- What the inner opening refuses, without the search.
use Rattle.std.proofs.lemmas.Result.{err_from_is_err_and}
use Rattle.search.proofs.replay.rounds.open_by.Goals as goal

pub returns-in_err-open_in : goal.returns-in_err-open_in
returns-in_err-open_in g c =
    let why = err_from_is_err_and c.from_residual.result c.from_residual.ensures.1 in
    rw why.1 (c.in_err-open_in.field-0.0, why.2, c.in_err-open_in.ensures)
