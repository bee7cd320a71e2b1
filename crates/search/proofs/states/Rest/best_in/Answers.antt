-- The first box has a reading, or none has.
use Rattle.std.proofs.Common.{sym, ◌∙◌, w32, SFits, rules}
use Rattle.std.proofs.lemmas.Int.{to_z-of_z}
use Rattle.search.proofs.Bests.{at, best_is, fits, none_reads}
use Rattle.search.proofs.states.Rest.best_in.Goals as goal

pub returns-in-Reading : goal.returns-in-Reading
returns-in-Reading c =
    let inside : SFits w32 c.in-Reading.x = search rules in
    let s = c.args.self.now in
    let t = c.args.table.now in
    let i = c.in_ok-first.first in
    let first = c.in_ok-first.ensures.first in
    rw (to_z-of_z w32 c.in-Reading.x inside) (best_is s t i c.requires first c.in-Reading.x (sym (at s t i c.requires first i (fits s t i c.requires first)) ∙ sym c.answer.ensures ∙ c.in-Reading.is))

pub returns-in-NotFeasible : goal.returns-in-NotFeasible
returns-in-NotFeasible c =
    let s = c.args.self.now in
    let t = c.args.table.now in
    let i = c.in_ok-first.first in
    let first = c.in_ok-first.ensures.first in
    none_reads s t i c.requires first (sym (at s t i c.requires first i (fits s t i c.requires first)) ∙ sym c.answer.ensures ∙ c.in-NotFeasible.is)
