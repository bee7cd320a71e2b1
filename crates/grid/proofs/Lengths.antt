-- The laws of the count of cells of an interval, and that a third of an interval is one.
use Rattle.std.proofs.Common.{◌≡◌, ℕ, suc, ◌+◌, ◌-◌, ◌*◌, ◌/◌, ◌%◌, ◌^◌, ◌<◌, ◌≤◌, sym, ap, ◌∙◌, subst, mul_assoc, mul_comm, add-mul, arith, lit<}
use native.Mathlib.Nat.{pow-le-pow_right, one-le-pow, pow-succ', mul-mod_left, div-add-mod}
use Rattle.std.proofs.lemmas.Nat.{mul-le}
use Rattle.grid.specs.Grid.{cells_at, IsInterval}

pub cells_at_pos : (t : ℕ) → 1 ≤ cells_at t
cells_at_pos t = one-le-pow (19 - t) 3 (lit< tt)

pub cells_at_le : (t : ℕ) → cells_at t ≤ 1162261467
cells_at_le t = pow-le-pow_right {n = 3} (lit< tt) {i = 19 - t} {j = 19} (omega arith)

-- a third of an interval has the next level
pub cells_at_third : (t : ℕ) → t < 19 → cells_at t ≡ 3 * cells_at (t + 1)
cells_at_third t h =
    let e : 19 - t ≡ suc (19 - (t + 1)) = omega arith in
    ap (λ (k : ℕ). 3 ^ k) e ∙ pow-succ' 3 (19 - (t + 1))

-- a multiple of three times s, moved by a multiple of s, is a multiple of s
aligned_third : (f s k : ℕ) → f % (3 * s) ≡ 0 → (f + k * s) % s ≡ 0
aligned_third f s k h =
    let q : ℕ = f / (3 * s) in
    let e : f ≡ 3 * s * q = omega (arith, div-add-mod f (3 * s)) in
    let m : 3 * s * q ≡ (q * 3) * s = mul_comm (3 * s) q ∙ sym (mul_assoc q 3 s) in
    let g : f + k * s ≡ (q * 3 + k) * s = ap (λ (n : ℕ). n + k * s) (e ∙ m) ∙ sym (add-mul (q * 3) k s) in
    ap (λ (n : ℕ). n % s) g ∙ mul-mod_left (q * 3 + k) s

-- each third of an interval, of which x is the first cell, is an interval of the next level
pub third : (f t k : ℕ) {x : ℕ} → IsInterval f t → t < 19 → k ≤ 2 → x ≡ f + k * cells_at (t + 1) → IsInterval x (t + 1)
third f t k {x} i h l at =
    let s : ℕ = cells_at (t + 1) in
    let e = cells_at_third t h in
    let a : f % (3 * s) ≡ 0 = subst (λ (n : ℕ). f % n ≡ 0) e i.1 in
    (omega arith, ap (λ (n : ℕ). n % s) at ∙ aligned_third f s k a, omega (arith, e, at, i.2, mul-le k s 2 s l (omega arith)))
