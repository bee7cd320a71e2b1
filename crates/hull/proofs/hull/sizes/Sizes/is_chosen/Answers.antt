-- All larger sizes.
use Rattle.std.proofs.Common.{◌≡◌, rules, true, None, Some, get_or, take, sym, ◌∙◌, arith, Decides, refl}
use borrow.Author.Tests.{tests}
use Rattle.std.specs.List.{list_all, flat_map}
use Rattle.std.specs.Option.{option_to_list}
use Rattle.std.proofs.lemmas.Iterator.{YieldsList-from_slice, YieldsList-from_take}
use Rattle.std.proofs.lemmas.Iterator.Search.{all_from_yields_List}
use Rattle.order.specs.declared.records.RankEntry.{RankEntry}
use Rattle.policy.specs.Levels.{level}
use Rattle.hull.specs.Decide.{does, yields?}
use Rattle.hull.specs.Optimal.{Yields}
use Rattle.hull.proofs.Tables.{YieldsList-filled, all_pass, below_level, decided, decides, each_passes, here_level, here_taken, none_below, taken_here}
use Rattle.hull.proofs.hull.sizes.Sizes.is_chosen.Goals as goal

pub returns : goal.returns
returns c =
    let f = c.args.self.now.front.now in
    let e = c.args.self.now.hull.share in
    let table = c.args.self.now.taken in
    let is = c.args.self.now.of_front in
    let j = c.args.j in
    let l = level f j in
    let test = λ (i : RankEntry). does (yields? e f j i.rank) in
    let all : c.all.result ≡ list_all test (flat_map option_to_list (take l table)) =
    all_from_yields_List test _ _ c.all.result c.all.ensures.ran
    (YieldsList-filled _ (λ x j b. b.0) (YieldsList-from_take l (YieldsList-from_slice table (cc)) (cc)) (cc) (cc) (cc))
    (λ i b q k. let d : Decides b (Yields e f j i.rank) = search (rules, tests) in (search (rules, tests), decided b (yields? e f j i.rank) d))
    in (
      λ h i u g.
          let w = taken_here f table is i u in
          let there : get_or (take l table) (level f i) None ≡ Some w.0 = below_level table l (level f i) g ∙ w.1 in
          rw w.2 at (decides (yields? e f j w.0.rank) (each_passes test _ (sym all ∙ h) (level f i) w.0 there)),
      λ a. all ∙ all_pass test _ (λ t i here.
          let less = none_below table l t i here in
          let there = sym (below_level table l t less) ∙ here in
          let at = here_level f table is _ i there in
          sym (decided true (yields? e f j i.rank) (λ _. a i.rank (here_taken f table is _ i there) (omega (arith, at, less)), λ _. refl))),
    )
