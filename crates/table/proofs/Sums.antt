-- Sums over the numbers below n, and tests.
use Rattle.std.proofs.Common.{◌≡◌, ℕ, zero, suc, ◌+◌, ◌-◌, ◌*◌, ◌<◌, ◌≤◌, Bool, true, false, T, ◌≢◌, ◌⊎◌, sym, refl, ap, ◌∙◌, inl, inr, mul-add, arith}
use Rattle.std.proofs.lemmas.Bool.{cases_eq}
pub use lib.Ieee.Bits.{is_true as yes_is}
pub use lib.Ieee.Fits.{and_i as both, and_l as both_left, and_r as both_right}
use Rattle.table.specs.Sums.{sum, bit}

pub test : (b : Bool) → T b ⊎ (T b → ⊥)
test true = inl tt
test false = inr (λ h. h)

pub no_is : (b : Bool) → (T b → ⊥) → b ≡ false
no_is true h = absurd (h tt)
no_is false h = refl

pub bit_yes : (b : Bool) → T b → bit b ≡ 1
bit_yes b h = ap bit (yes_is b h)

pub bit_no : (b : Bool) → (T b → ⊥) → bit b ≡ 0
bit_no b h = ap bit (no_is b h)

pub sum_cong : (n : ℕ) (f g : ℕ → ℕ) → ((i : ℕ) → i < n → f i ≡ g i) → sum n f ≡ sum n g
sum_cong zero f g h = refl
sum_cong (suc n) f g h = omega (arith, sum_cong n f g (λ i k. h i (omega arith)), h n (omega arith))

pub sum_mono : (n : ℕ) (f g : ℕ → ℕ) → ((i : ℕ) → i < n → f i ≤ g i) → sum n f ≤ sum n g
sum_mono zero f g h = omega arith
sum_mono (suc n) f g h = omega (arith, sum_mono n f g (λ i k. h i (omega arith)), h n (omega arith))

pub sum_add : (n : ℕ) (f g : ℕ → ℕ) → sum n (λ i. f i + g i) ≡ sum n f + sum n g
sum_add zero f g = refl
sum_add (suc n) f g = omega (arith, sum_add n f g)

pub sum_const : (n k : ℕ) → sum n (λ _. k) ≡ n * k
sum_const zero k = sym (native.Mathlib.Nat.zero-mul k)
sum_const (suc n) k = ap (λ x. x + k) (sum_const n k) ∙ sym (native.Mathlib.Nat.suc-mul n k)

pub sum_first : (n : ℕ) (f : ℕ → ℕ) → sum (suc n) f ≡ f 0 + sum n (λ i. f (suc i))
sum_first zero f = omega arith
sum_first (suc n) f = omega (arith, sum_first n f)

pub sum_split : (a b : ℕ) (f : ℕ → ℕ) → sum (a + b) f ≡ sum a f + sum b (λ i. f (a + i))
sum_split a zero f = simp native.Mathlib.Nat.add-zero
sum_split a (suc b) f = simp native.Mathlib.Nat.add-suc (omega (arith, sum_split a b f))

pub sum_times : (n k : ℕ) (f : ℕ → ℕ) → sum n (λ i. k * f i) ≡ k * sum n f
sum_times zero k f = sym (native.Mathlib.Nat.mul-zero k)
sum_times (suc n) k f = ap (λ x. x + k * f n) (sum_times n k f) ∙ sym (mul-add k (sum n f) (f n))

-- two functions that differ at j alone
pub sum_at : (n : ℕ) (f g : ℕ → ℕ) (j : ℕ) → j < n → ((i : ℕ) → i < n → i ≢ j → f i ≡ g i) → sum n f + g j ≡ sum n g + f j
sum_at zero f g j l h = omega arith
sum_at (suc n) f g j l h =
    elim (cases_eq j n) [
      | inl e ↦ let s : sum n f ≡ sum n g = sum_cong n f g (λ i k. h i (omega arith) (omega arith)) in
          let p : f j ≡ f n = ap f e in let q : g j ≡ g n = ap g e in omega arith
      | inr d ↦ omega (arith, sum_at n f g j (omega arith) (λ i k. h i (omega arith)), h n (omega arith) (omega arith))
    ]

pub sum_zero : (n : ℕ) (f : ℕ → ℕ) → ((i : ℕ) → i < n → f i ≡ 0) → sum n f ≡ 0
sum_zero n f h = omega (arith, sum_cong n f (λ _. 0) h, sum_const n 0)

pub sum_grows : (a b : ℕ) (f : ℕ → ℕ) → a ≤ b → sum a f ≤ sum b f
sum_grows a b f h = let e : a + (b - a) ≡ b = omega arith in omega (arith, ap (λ x. sum x f) e, sum_split a (b - a) f)

-- a term in its place
pub sum_fits : (n : ℕ) (f : ℕ → ℕ) (i : ℕ) → i < n → sum i f + f i ≤ sum n f
sum_fits n f i l = omega (arith, sum_grows (suc i) n f l)

pub sum_term : (n : ℕ) (f : ℕ → ℕ) (i : ℕ) → i < n → f i ≤ sum n f
sum_term n f i l = omega (arith, sum_fits n f i l)

pub sum_none : (n : ℕ) (f : ℕ → ℕ) → sum n f ≡ 0 → (i : ℕ) → i < n → f i ≡ 0
sum_none n f e i l = omega (arith, sum_term n f i l)

pub sum_under : (n k : ℕ) (f : ℕ → ℕ) → ((i : ℕ) → i < n → f i ≤ k) → sum n f ≤ n * k
sum_under n k f h = omega (arith, sum_mono n f (λ _. k) h, sum_const n k)

pub sum_over : (n k : ℕ) (f : ℕ → ℕ) → ((i : ℕ) → i < n → k ≤ f i) → n * k ≤ sum n f
sum_over n k f h = omega (arith, sum_mono n (λ _. k) f h, sum_const n k)

pub sum_short : (n k : ℕ) (f : ℕ → ℕ) (d : ℕ) → d < n → f d < k → ((i : ℕ) → i < n → f i ≤ k) → sum n f < n * k
sum_short zero k f d l a h = absurd (omega arith)
sum_short (suc n) k f d l a h =
    elim (cases_eq d n) [
      | inl e ↦ omega (arith, native.Mathlib.Nat.suc-mul n k, ap f e, sum_under n k f (λ i j. h i (omega arith)))
      | inr x ↦ omega (arith, native.Mathlib.Nat.suc-mul n k, h n (omega arith), sum_short n k f d (omega arith) a (λ i j. h i (omega arith)))
    ]
