-- How many rounds a box can still take until each of its parts has level k.
use Rattle.std.proofs.Common.{◌≡◌, ℕ, zero, suc, ◌+◌, ◌-◌, ◌*◌, ◌/◌, ◌%◌, ◌^◌, ◌<◌, ◌≤◌, false, eqb, sym, ap, ◌∙◌, inl, inr, add-zero, add-suc, mul-le-mul_right, mod-lt, mul_assoc, suc-mul, mul_comm, add-mul, one-mul, div-add-mod', zero-mul, arith, eqb→eq, pow-add}
use native.Mathlib.Nat.{mul-mod_left, pow-succ', sub-zero, zero-mod}
use lib.Arith.{digits_mod}
use Rattle.std.proofs.lemmas.Bool.{cases_lt}
use Rattle.table.specs.Sums.{bit, sum}
use Rattle.table.proofs.Sums.{no_is, sum_cong, sum_first, sum_times}
use Rattle.search.specs.Runs.{rounds_for}

-- the rounds that a box of n directions can take until its rank is s higher: a cut makes three boxes of one,
-- and the cut that completes a level ends a round
abbrev pub v : ℕ → ℕ → ℕ
v n zero = 0
v n (suc s) = 3 * v n s + bit (eqb (s % n) 0)

module _ (n q : ℕ) where
  completes : v n (suc (q * n)) ≡ 3 * v n (q * n) + 1
  completes = ap (λ x. 3 * v n (q * n) + bit (eqb x 0)) (mul-mod_left q n)

  goes_on : (m : ℕ) → 1 ≤ m → m < n → v n (suc (q * n + m)) ≡ 3 * v n (q * n + m)
  goes_on m a b =
      let e : (q * n + m) % n ≡ m = digits_mod q b in
      let z : eqb m 0 ≡ false = no_is (eqb m 0) (λ t. absurd (omega (arith, eqb→eq m 0 t))) in
      omega (arith, ap (λ x. bit (eqb x 0)) e ∙ ap bit z)

  -- the parts of a box that is cut along m + 1 long sides
  parts : (m : ℕ) → m < n → v n (suc (q * n + m)) ≡ 1 + v n (q * n) + 2 * sum (suc m) (λ i. v n (q * n + (m - i)))
  parts zero h = ap (λ x. v n (suc x)) (add-zero (q * n)) ∙ completes ∙ omega (arith, ap (v n) (add-zero (q * n)))
  parts (suc m) h =
      omega (
        arith,
        goes_on (suc m) (omega arith) h,
        ap (v n) (add-suc (q * n) m),
        parts m (omega arith),
        sum_first (suc m) (λ i. v n (q * n + (suc m - i))),
        ap (λ x. v n (q * n + x)) (sub-zero (suc m)),
        sum_cong (suc m) (λ i. v n (q * n + (suc m - suc i))) (λ i. v n (q * n + (m - i)))
            (λ i l. ap (v n) (omega arith)),
      )

  grows : (m : ℕ) → m < n → v n (suc (q * n + m)) ≡ 3 ^ m * (3 * v n (q * n) + 1)
  grows zero h = ap (λ x. v n (suc x)) (add-zero (q * n)) ∙ completes ∙ sym (one-mul (3 * v n (q * n) + 1))
  grows (suc m) h =
      goes_on (suc m) (omega arith) h ∙ ap (λ x. 3 * v n x) (add-suc (q * n) m) ∙ ap (λ x. 3 * x) (grows m (omega arith))
      ∙ sym (mul_assoc 3 (3 ^ m) (3 * v n (q * n) + 1)) ∙ ap (λ x. x * (3 * v n (q * n) + 1)) (sym (pow-succ' 3 m))

-- the parts of a box of rank r
pub spread : (n k r : ℕ) → 1 ≤ n → r < k * n
    → v n (k * n - r) ≡ 1 + v n (k * n - (r / n + 1) * n) + 2 * sum (n - r % n) (λ i. v n (k * n - (r + 1 + i)))
spread n k r a h =
    let t : ℕ = r / n in
    let e : t * n + r % n ≡ r = div-add-mod' r n in
    let l : r % n < n = mod-lt r a in
    let below : t < k = elim (cases_lt t k) [ inl x ↦ x | inr x ↦ absurd (omega (arith, mul-le-mul_right n x)) ] in
    let u : ℕ = k - suc t in
    let m : ℕ = n - suc (r % n) in
    let whole : k * n ≡ u * n + (t * n + n) =
    ap (λ x. x * n) (omega arith) ∙ add-mul u (suc t) n ∙ ap (λ x. u * n + x) (suc-mul t n) in
    let up : (t + 1) * n ≡ t * n + n = add-mul t 1 n ∙ ap (λ x. t * n + x) (one-mul n) in
    let left : k * n - r ≡ suc (u * n + m) = omega arith in
    let top : k * n - (t + 1) * n ≡ u * n = omega arith in
    let count : n - r % n ≡ suc m = omega arith in
    omega (
      arith,
      ap (v n) left,
      ap (v n) top,
      parts n u m (omega arith),
      ap (λ x. sum x (λ i. v n (k * n - (r + 1 + i)))) count,
      sum_cong (suc m) (λ i. v n (k * n - (r + 1 + i))) (λ i. v n (u * n + (m - i))) (λ i l. ap (v n) (omega arith)),
    )

pub done : (n k r : ℕ) → k * n ≤ r → v n (k * n - r) ≡ 0
done n k r h = let e : k * n - r ≡ 0 = omega arith in ap (v n) e

-- a box that still counts has a rank below k * n
pub counts : (n s : ℕ) → 1 ≤ s → 1 ≤ v n s
counts n zero h = absurd (omega arith)
counts n (suc zero) h = omega (arith, ap (λ x. bit (eqb x 0)) (zero-mod n))
counts n (suc (suc s)) h = omega (arith, counts n (suc s) (omega arith))

geometric : (n k : ℕ) → sum k (λ i. 3 ^ (i * n)) + 3 ^ (k * n) ≡ 1 + 3 ^ n * sum k (λ i. 3 ^ (i * n))
geometric n k =
    omega (
      arith,
      sum_first k (λ i. 3 ^ (i * n)),
      ap (λ x. 3 ^ x) (zero-mul n),
      sum_cong k (λ i. 3 ^ (suc i * n)) (λ i. 3 ^ n * 3 ^ (i * n))
          (λ i l. ap (λ x. 3 ^ x) (suc-mul i n) ∙ pow-add 3 (i * n) n ∙ mul_comm (3 ^ (i * n)) (3 ^ n)),
      sum_times k (3 ^ n) (λ i. 3 ^ (i * n)),
    )

-- what the whole grid can take
pub at_start : (n k : ℕ) → 1 ≤ n → v n (k * n) ≡ rounds_for n k
at_start n zero a = ap (v n) (zero-mul n) ∙ sym (native.Mathlib.Nat.mul-zero (3 ^ (n - 1)))
at_start n (suc k) a =
    let g : ℕ = sum k (λ i. 3 ^ (i * n)) in
    let p : ℕ = 3 ^ (n - 1) in
    let n_is : suc (n - 1) ≡ n = omega arith in
    let cube : 3 * p ≡ 3 ^ n = sym (pow-succ' 3 (n - 1)) ∙ ap (λ x. 3 ^ x) n_is in
    let size : suc k * n ≡ suc (k * n + (n - 1)) = suc-mul k n ∙ omega arith in
    ap (v n) size
    ∙ grows n k (n - 1) (omega arith)
    ∙ ap (λ x. p * (3 * x + 1)) (at_start n k a)
    ∙ ap (λ x. p * (x + 1)) (sym (mul_assoc 3 p g) ∙ ap (λ x. x * g) cube)
    ∙ ap (λ x. p * x) (let e : 3 ^ n * g + 1 ≡ g + 3 ^ (k * n) = omega (arith, geometric n k) in e)
