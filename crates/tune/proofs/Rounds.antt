-- The rounds that the levels of two directions ask for, one level after the other.
use Rattle.std.proofs.Common.{◌≡◌, ℕ, suc, ◌+◌, ◌*◌, ◌^◌, ◌≤◌, ap, ◌∙◌, pow-suc, mul-add, arith, lit<}
use native.Mathlib.Nat.{pow-le-pow_right}
use Rattle.search.specs.Runs.{rounds_for}
use Rattle.table.specs.Sums.{sum}

-- what the level after k asks for besides
abbrev pub step : ℕ → ℕ
step k = 3 * 3 ^ (k * 2)

pub rounds_step : (k : ℕ) → rounds_for 2 (k + 1) ≡ rounds_for 2 k + step k
rounds_step k =
    let e : k + 1 ≡ suc k = omega arith in
    ap (λ (m : ℕ). rounds_for 2 m) e ∙ mul-add 3 (sum k (λ i. 3 ^ (i * 2))) (3 ^ (k * 2))

pub step_nine : (k : ℕ) → step (k + 1) ≡ step k * 9
step_nine k =
    let e : (k + 1) * 2 ≡ suc (suc (k * 2)) = omega arith in
    omega (arith, ap (λ (m : ℕ). 3 ^ m) e, pow-suc 3 (suc (k * 2)), pow-suc 3 (k * 2))

pub step_le : (k : ℕ) → k ≤ 6 → step k ≤ 1594323
step_le k l = omega (arith, pow-le-pow_right {n = 3} (lit< tt) {i = k * 2} {j = 12} (omega arith))
