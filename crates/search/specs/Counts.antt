-- The points that chosen ranks ask for.
use Rattle.std.specs.Prelude.{ℕ, ◌-◌, ◌*◌, ◌%◌, cond}
use Rattle.ranks.specs.Ranks.{Ranks}
use Rattle.table.specs.Sums.{sum}

-- the points of the chosen ranks below r: two for each long side of a box of the rank
abbrev pub points_below : ℕ → Ranks → ℕ → ℕ
points_below n chosen r = sum r (λ q. cond (chosen q) (2 * (n - q % n)) 0)

-- the points of a round
unfoldable pub points_of : ℕ → Ranks → ℕ
points_of n chosen = points_below n chosen 114
