-- The record at the place that `least` gives.
use Rattle.std.proofs.Common.{sym}
use Rattle.std.proofs.lemmas.List.{get_or_read}
use Rattle.order.proofs.least.first_of.Goals as goal

pub returns : goal.returns
returns g c =
    let first = c.in_ok-i.ensures.first in
    (c.in_ok-i.i, first, λ d. sym (get_or_read _ _ _ first.within c.index-records-i.is d))
