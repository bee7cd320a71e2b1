-- A cap's meaning is that of the policy that it holds, cut short.
use Rattle.std.proofs.Common.{Option, sym, subst, subst₂}
use Rattle.policy.specs.declared.cap.Most.{Most}
use Rattle.ranks.specs.Ranks.{lowest_of}
use Rattle.search.specs.Tales.{under}
use Rattle.search.specs.Turns.{OpensOr, cap_number}
use Rattle.search.proofs.replay.rounds.open_under.Goals as goal

pub returns-in-Some : goal.returns-in-Some
returns-in-Some g c =
    let made = c.of.ensures in
    subst (λ (cap : Option Most). OpensOr (under (cap_number cap) (g.P.Policy.chosen c.args.policy)) c.args.rest c.args.table.now c.open_by.result c.open_by.new.table) (sym c.in-Some.is)
    (subst₂ (λ (most : Most) policy. OpensOr (λ f. lowest_of most.number (g.P.Policy.chosen policy f)) c.args.rest c.args.table.now c.open_by.result c.open_by.new.table)
    made.0 made.1 c.open_by.ensures)
