-- The first boxes of the slice of the boxes are those of the table.
use Rattle.std.proofs.Common.{ℕ, ◌<◌, ◌≤◌, List, length, take, get_or, None, sym, refl, ◌∙◌, arith}
use Rattle.std.proofs.lemmas.Bool.{true≢false}
use Rattle.order.specs.declared.records.Candidate.{Candidate}
use Rattle.std.proofs.Common.{Option}
use Rattle.table.specs.Boxes.{FirstOfRank}
use Rattle.table.specs.declared.rows.Row.{Row}
use Rattle.search.specs.declared.states.Round.{Round}
use Rattle.search.proofs.Owning.{owned, present}
use Rattle.search.proofs.Slices.{first_in_table}
use Rattle.search.proofs.states.Round.look.Goals as goal

-- what is found in the slice of the boxes stands in the table
found : (round : Round) (table : List Row) (firsts : List (Option Candidate)) → round.boxes ≤ length table
    → ((r : ℕ) → r < 114 → FirstOfRank round.shape.n round.shape.finest (length (take round.boxes table)) (take round.boxes table) r (get_or firsts r None))
    → (r : ℕ) → r < 114 → FirstOfRank round.shape.n round.shape.finest round.boxes table r (get_or firsts r None)
found round table firsts long each r h = first_in_table round.shape.n round.shape.finest round.boxes table long r _ (each r h)

pub returns-then-not-all_present : goal.returns-then-not-all_present
returns-then-not-all_present c =
    let round = c.args.self.now in let table = c.args.table.now in let firsts = c.firsts-firsts.result in
    let all = found round table firsts (omega arith) c.firsts-firsts.ensures in
    (refl, λ own. true≢false (sym (c.all_present.ensures.1 (present round table firsts all own)) ∙ c.if-not-all_present.true))

pub invariant_of-result : goal.invariant_of-result
invariant_of-result c =
    let round = c.args.self.now in let table = c.args.table.now in
    record {
      own = c.owns.ensures.0 c.if-not-owns.false;
      rows = c.if-table-self.false;
      found = found round table c.firsts-firsts.result (omega arith) c.firsts-firsts.ensures;
      present = c.all_present.ensures.0 c.if-not-all_present.false;
    }

pub returns : goal.returns
returns c =
    let round = c.args.self.now in let table = c.args.table.now in let firsts = c.firsts-firsts.result in
    let all = found round table firsts (omega arith) c.firsts-firsts.ensures in
    (refl, refl, owned round table firsts all (c.owns.ensures.0 c.if-not-owns.false) c.if-table-self.false (c.all_present.ensures.0 c.if-not-all_present.false))
