-- The first entry is the first rank.
use Rattle.std.proofs.Common.{rules, ◌≡◌, ◌+◌, ◌-◌, get_or, take, drop, None, refl}
use Rattle.std.specs.Option.{option_map}
use Rattle.order.specs.declared.answer.Answer.{Answer}
use Rattle.policy.proofs.Levels.{rank_first}
use Rattle.policy.proofs.front.levels.first_between.Goals as goal

pub returns : goal.returns
returns c =
    let low = c.args.low in
    let i = c.in_ok-i.i in
    let xs = take (c.args.high - low) (drop low c.args.entries.now) in
    let mapped : c.map.result ≡ option_map (λ (a : Answer). record { answer = a; rank = low + i }) (get_or xs i None) = search rules in
    rw mapped (rank_first c.args.entries.now low c.args.high i c.requires.0 c.requires.1 c.in_ok-i.ensures.first (get_or xs i None) refl)
