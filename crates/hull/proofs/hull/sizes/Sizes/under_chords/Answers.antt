-- All smaller sizes.
use Rattle.std.proofs.Common.{◌≡◌, rules, ◌-◌, ◌+◌, true, None, Some, get_or, pos, ◌-ℤ◌, ◌*ℤ◌, ◌≤ℤ◌, ℤ, ℕ, drop, sym, ap, ◌∙◌, arith, subst}
use borrow.Author.Tests.{tests}
use Rattle.std.specs.Prelude.{int_le}
use Rattle.std.specs.List.{list_all, flat_map}
use Rattle.std.specs.Option.{option_to_list}
use Rattle.std.proofs.lemmas.Int.{ints}
use Rattle.std.proofs.lemmas.Iterator.{YieldsList-from_slice}
use Rattle.std.proofs.lemmas.Iterator.Adapters.{YieldsList-from_skip}
use Rattle.std.proofs.lemmas.Iterator.Search.{all_from_yields_List}
use Rattle.order.specs.declared.records.RankEntry.{RankEntry}
use Rattle.policy.specs.Levels.{level}
use Rattle.hull.specs.Values.{size, value}
use Rattle.hull.proofs.Tables.{YieldsList-filled, all_pass, each_passes, here_level, here_taken, past_level, taken_here}
use Rattle.hull.proofs.hull.sizes.Sizes.under_chords.Goals as goal

at_most : (x y : ℤ) → int_le x y ≡ true → x ≤ℤ y
at_most x y h = omega (arith, ints)

at_most_true : (x y : ℤ) → x ≤ℤ y → int_le x y ≡ true
at_most_true x y h = search (rules, ints)

pub returns : goal.returns
returns c =
    let f = c.args.self.now.front.now in
    let table = c.args.self.now.taken in
    let is = c.args.self.now.of_front in
    let j = c.args.j in
    let i = c.args.i in
    let l = level f j in
    let drop_in = λ (s : ℕ). (value f j -ℤ value f s) *ℤ pos (size f i - size f j) in
    let rise_in = λ (s : ℕ). (value f i -ℤ value f j) *ℤ pos (size f j - size f s) in
    let test = λ (s : RankEntry). int_le (drop_in s.rank) (rise_in s.rank) in
    let all : c.all.result ≡ list_all test (flat_map option_to_list (drop 1 (drop l table))) =
    all_from_yields_List test _ _ c.all.result c.all.ensures.ran
    (YieldsList-filled _ (λ x j b. b.0) (YieldsList-from_skip 1 (YieldsList-from_skip l (YieldsList-from_slice table (cc)) (cc)) (cc)) (cc) (cc) (cc))
    (λ x b q k. search (rules, tests))
    in (
      λ h s u g.
          let w = taken_here f table is s u in
          let t : ℕ = level f s - l - 1 in
          let at : l + (1 + t) ≡ level f s = omega arith in
          let there : get_or (drop 1 (drop l table)) t None ≡ Some w.0 = past_level table l t ∙ ap (λ (k : ℕ). get_or table k None) at ∙ w.1 in
          subst (λ (r : ℕ). drop_in r ≤ℤ rise_in r) w.2 (at_most (drop_in w.0.rank) (rise_in w.0.rank) (each_passes test _ (sym all ∙ h) t w.0 there)),
      λ a. all ∙ all_pass test _ (λ t e here.
          let there = sym (past_level table l t) ∙ here in
          let at = here_level f table is _ e there in
          at_most_true (drop_in e.rank) (rise_in e.rank) (a e.rank (here_taken f table is _ e there) (omega (arith, at)))),
    )
