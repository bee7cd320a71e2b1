-- Where the entries of a front are empty, and the level of a rank.
use Rattle.std.specs.Prelude.{◌≡◌, ℕ, ◌/◌, ◌<◌, ◌≤◌, false, is_some}
use Rattle.std.proofs.Common.{ap, le-div_iff_mul-le, div-mul-le_self, arith}
use Rattle.policy.specs.Levels.{filled}
use Rattle.policy.specs.declared.front.Front.{Front}

-- no entry is filled from 114 on
pub filled_end : (f : Front) (k : ℕ) → 114 ≤ k → filled f k ≡ false
unfolding filled
filled_end f k h = ap is_some (f.empty k (omega (arith, f.few)))

-- a higher rank has no lower level
pub div_mono : (a b n : ℕ) → 0 < n → a ≤ b → a / n ≤ b / n
div_mono a b n h l = (le-div_iff_mul-le h).1 (omega (arith, div-mul-le_self a n))
