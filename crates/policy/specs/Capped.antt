-- The m lowest of some ranks keep the two rules where those ranks do.
use Rattle.std.specs.Prelude.{ℕ, ◌/◌, ◌≤◌}
use Rattle.std.proofs.Common.{arith}
use Rattle.std.proofs.lemmas.Bool.{and_parts}
use Rattle.ranks.specs.Ranks.{Ranks, lowest_of}
use Rattle.ranks.proofs.Lowest.{least_of, lowest_kept, not_below}
use Rattle.policy.specs.Levels.{filled}
use Rattle.policy.specs.Rules.{OnlyFilled, ReachesLargest}
use Rattle.policy.specs.declared.front.Front.{Front}
use Rattle.policy.specs.Filled.{div_mono}

-- the lowest of the ranks is kept, and its level is that of the lowest filled rank
pub capped_reaches : (f : Front) (p : Ranks) (m : ℕ) → 1 ≤ m → OnlyFilled f p → ReachesLargest f p → ReachesLargest f (lowest_of m p)
capped_reaches f p m one sound reaches r w =
    let n = f.directions in
    let inner = reaches r w in
    let low = least_of p inner.0 inner.1 in
    let k = low.0 in
    let up : r / n ≤ k / n = div_mono r k n f.some (not_below (filled f) r k w (sound k low.1.has)) in
    let down : k / n ≤ inner.0 / n = div_mono k inner.0 n f.some low.2 in
    (k, lowest_kept p m k one low.1, omega (arith, up, down, inner.2))

-- they are among those ranks
pub capped_sound : (f : Front) (p : Ranks) (m : ℕ) → OnlyFilled f p → OnlyFilled f (lowest_of m p)
capped_sound f p m sound r h = sound r (and_parts (p r) _ h).0
