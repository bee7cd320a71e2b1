-- A power of three with an exponent of at most 19.
use Rattle.std.proofs.Common.{◌≡◌, ℕ, ◌-◌, ◌^◌, pos, ap, ◌∙◌, arith}
use Rattle.std.proofs.lemmas.Int.{ints}
use Rattle.grid.proofs.Lengths.{cells_at_le}
use Rattle.policy.specs.Levels.{level}
use Rattle.hull.specs.Values.{size}
use Rattle.hull.proofs.hull.sizes.Sizes.size.Goals as goal

pub pow-requires : goal.pow-requires
pow-requires c = let h = cells_at_le c.min.result in rw c.from-deepest.ensures (omega (arith, ints))

pub returns : goal.returns
unfolding size
returns c =
    let f = c.args.self.now.front.now in
    let finer : c.from-deepest.result - c.min.result ≡ 19 - level f c.args.rank = omega (arith, c.min.ensures, c.level.ensures, c.from-deepest.ensures) in
    let is : c.pow.result ≡ pos (3 ^ (19 - level f c.args.rank)) = c.pow.ensures ∙ ap (λ (k : ℕ). pos (3 ^ k)) finer in
    let most = cells_at_le (level f c.args.rank) in
    record {
      is = omega (arith, ints, c.pow.type_inv) ∙ is;
      high = omega (arith, ints, is, most, c.pow.type_inv);
    }
