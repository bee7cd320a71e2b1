-- The binary digits of a number as a set.
use Rattle.std.proofs.Common.{⊎_elim, max, ◌≡◌, ℕ, zero, suc, ◌+◌, ◌-◌, ◌*◌, ◌/◌, ◌%◌, ◌^◌, ◌<◌, ◌≤◌, Bool, false, cond, not, ◌||◌, eqb, ◌⊎◌, sym, refl, ap, ◌∙◌, subst, ap₂, inl, inr, pow-suc, add-one, arith, pow_pos, shr_lt}
use native.Mathlib.Nat.{mul-add-div_right, div-eq_of_lt, mul-mod_left}
use lib.Bits.{bit_and, bit_or, or_shr, or_mod, and_block, and_shifted}
use lib.Count.{ones, ones_step, count_trailing_zeros}
use Rattle.std.specs.Int.{bit_at}
use Rattle.std.proofs.lemmas.Nat.Bits.{bit_at_lowest, bit_at-suc, bit_at_above, bit_at_cat_low, bit_at_cat_high, bit_at-pow_same, bit_at-pow_other, bit_at_or, bit_at-lt, same_from_bits_below}
use Rattle.std.proofs.lemmas.Bool.Decides.{nat_tests}
use Rattle.std.proofs.lemmas.Bool.{cases_eq, cases_order, and_left, eq-eqb, ne_eqb}
use Rattle.ranks.specs.Ranks.{bit, without, count_below, Lowest}
use Rattle.ranks.proofs.Changes.{without_here, without_other}
use Rattle.ranks.proofs.Counts.{count_first, count_same}

-- the lowest digit, and the others
pub bit_zero : (n : ℕ) → bit n 0 ≡ eqb (n % 2) 1
unfolding bit
bit_zero n = ap (λ (x : ℕ). eqb x 1) (bit_at_lowest n)

pub bit_suc : (n k : ℕ) → bit n (suc k) ≡ bit (n / 2) k
unfolding bit
bit_suc n k = ap (λ (x : ℕ). eqb x 1) (bit_at-suc n k)

-- a number below 2 ^ j has no digit from j on
pub bit_past : (j n k : ℕ) → n < 2 ^ j → j ≤ k → bit n k ≡ false
unfolding bit
bit_past j n k h l = ap (λ (x : ℕ). eqb x 1) (bit_at_above n j k h l)

-- two parts of a number, apart at the digit j
pub bit_cat_high : (j hi lo k : ℕ) → lo < 2 ^ j → j ≤ k → bit (hi * 2 ^ j + lo) k ≡ bit hi (k - j)
unfolding bit
bit_cat_high j hi lo k h l = ap (λ (x : ℕ). eqb x 1) (bit_at_cat_high hi j lo k h l)

pub bit_cat_low : (j hi lo k : ℕ) → k < j → bit (hi * 2 ^ j + lo) k ≡ bit lo k
unfolding bit
bit_cat_low j hi lo k h = ap (λ (x : ℕ). eqb x 1) (bit_at_cat_low hi j lo k h)

-- a power of two has one digit
pub bit_pow : (r k : ℕ) → bit (2 ^ r) k ≡ eqb k r
unfolding bit
bit_pow r k = ⊎_elim
    (λ e. ap (λ (x : ℕ). bit (2 ^ r) x) e ∙ ap (λ (x : ℕ). eqb x 1) (bit_at-pow_same r) ∙ sym (eq-eqb k r e))
    (λ ne. ap (λ (x : ℕ). eqb x 1) (bit_at-pow_other r k ne) ∙ sym (ne_eqb k r ne))
    (cases_eq k r)

pub bit_of_or : (a b k : ℕ) → bit (bit_or a b) k ≡ (bit a k || bit b k)
unfolding bit
bit_of_or a b k = ap (λ (x : ℕ). eqb x 1) (bit_at_or a b k) ∙ either (bit_at a k) (bit_at b k) (bit_at-lt a k) (bit_at-lt b k)
  where
    either : (x y : ℕ) → x < 2 → y < 2 → eqb (max x y) 1 ≡ (eqb x 1 || eqb y 1)
    either x y h l = grind (arith, nat_tests)

half_below : (k n : ℕ) → n < 2 ^ suc k → n / 2 < 2 ^ k
half_below k n h = shr_lt k 1 (subst (λ (x : ℕ). n < 2 ^ x) (sym (add-one k)) h)

-- the count of the ones
digit_of : (n : ℕ) → cond (eqb (n % 2) 1) 1 0 ≡ n % 2
digit_of n = go (n % 2) (omega arith)
  where
    go : (x : ℕ) → x < 2 → cond (eqb x 1) 1 0 ≡ x
    go zero h = refl
    go (suc zero) h = refl
    go (suc (suc x)) h = absurd (omega arith)

pub count_bits : (k n : ℕ) → n < 2 ^ k → ones n ≡ count_below (bit n) k
unfolding ones count_below
count_bits zero n h = ap ones (lib.Arith.lt-one h)
count_bits (suc k) n h =
    ones_step n
    ∙ ap₂ (λ (x y : ℕ). x + y) (sym (digit_of n) ∙ ap (λ (b : Bool). cond b 1 0) (sym (bit_zero n)))
    (count_bits k (n / 2) (half_below k n h) ∙ count_same (bit (n / 2)) (λ i. bit n (suc i)) k (λ i l. sym (bit_suc n i)))
    ∙ sym (count_first (bit n) k)

-- numbers of j digits that agree in each are the same
pub same_digits : (j a b : ℕ) → a < 2 ^ j → b < 2 ^ j → ((k : ℕ) → k < j → bit a k ≡ bit b k) → a ≡ b
unfolding bit
same_digits j a b h l same = same_from_bits_below j a b h l (λ k m. one (bit_at a k) (bit_at b k) (bit_at-lt a k) (bit_at-lt b k) (same k m))
  where
    one : (x y : ℕ) → x < 2 → y < 2 → eqb x 1 ≡ eqb y 1 → x ≡ y
    one x y h l e = grind (arith, nat_tests)

-- the lowest digit of n that is set is the digit t, which is below k
abbrev pub Form : ℕ → ℕ → ℕ → Type 0
Form n k t = (a : ℕ) × (n ≡ a * 2 ^ suc t + 2 ^ t) × (t < k)

pub trailing_form : (k n : ℕ) → 0 < n → n < 2 ^ k → Form n k (count_trailing_zeros k n)
unfolding count_trailing_zeros
trailing_form zero n p h = absurd (omega arith)
trailing_form (suc k) n p h = go (n % 2) refl (λ q. trailing_form k (n / 2) q (half_below k n h))
  where
    doubled : (a t : ℕ) → n % 2 ≡ 0 → n / 2 ≡ a * 2 ^ suc t + 2 ^ t → n ≡ a * 2 ^ suc (suc t) + 2 ^ suc t
    doubled a t e f = omega (arith, pow-suc 2 t, ap (λ (x : ℕ). a * x) (pow-suc 2 (suc t)))

    go : (d : ℕ) → n % 2 ≡ d → (0 < n / 2 → Form (n / 2) k (count_trailing_zeros k (n / 2))) → Form n (suc k) (count_trailing_zeros (suc k) n)
    go zero e rest =
        let r = rest (omega arith) in
        let t : ℕ = count_trailing_zeros k (n / 2) in
        subst (λ (x : ℕ). Form n (suc k) (lib.Count.under x t)) (sym e) (r.0, doubled r.0 t e r.1, omega (arith, r.2))
    go (suc zero) e rest =
        subst (λ (x : ℕ). Form n (suc k) (lib.Count.under x (count_trailing_zeros k (n / 2)))) (sym e) (n / 2, omega arith, omega arith)
    go (suc (suc d)) e rest = absurd (omega arith)

-- what a number of this form has for digits
pub form_lowest : (n a t : ℕ) → n ≡ a * 2 ^ suc t + 2 ^ t → Lowest (bit n) t
form_lowest n a t e = subst (λ (x : ℕ). Lowest (bit x) t) (sym e) (record {
  has = bit_cat_low (suc t) a (2 ^ t) t (omega arith) ∙ bit_pow t t ∙ eq-eqb t t refl;
  least = λ k h. bit_cat_low (suc t) a (2 ^ t) k (omega arith) ∙ bit_pow t k ∙ ne_eqb k t (omega arith);
})

-- n & (n - 1) has all digits of n but the lowest
pub form_rest : (n a t : ℕ) → n ≡ a * 2 ^ suc t + 2 ^ t → bit_and n (n - 1) ≡ a * 2 ^ suc t
form_rest n a t e =
    let one_less : n - 1 ≡ a * 2 ^ suc t + (2 ^ t - 1) = omega (arith, e, pow_pos t) in
    let small : 2 ^ t < 2 ^ suc t = omega (arith, pow-suc 2 t, pow_pos t) in
    ap₂ bit_and e one_less ∙ and_block (suc t) a a (2 ^ t) (2 ^ t - 1) small (omega (arith, small))
    ∙ ap₂ (λ (x y : ℕ). x * 2 ^ suc t + y) (lib.Bits.and_self a)
    (ap (λ (x : ℕ). bit_and x (2 ^ t - 1)) (sym (native.Mathlib.Nat.one-mul (2 ^ t))) ∙ and_shifted 1 t (2 ^ t - 1) (omega (arith, pow_pos t)))
    ∙ native.Mathlib.Nat.add-zero (a * 2 ^ suc t)

bit_shifted : (a t k : ℕ) → k < t → bit (a * 2 ^ t) k ≡ false
bit_shifted a t k h =
    ap (λ (x : ℕ). bit x k) (sym (native.Mathlib.Nat.add-zero (a * 2 ^ t))) ∙ bit_cat_low t a 0 k h ∙ bit_past 0 0 k (omega arith) (omega arith)

pub bit_rest : (n a t k : ℕ) → n ≡ a * 2 ^ suc t + 2 ^ t → bit (a * 2 ^ suc t) k ≡ without (bit n) t k
bit_rest n a t k e = go (cases_order k t)
  where
    go : (k ≡ t) ⊎ ((k < t) ⊎ (t < k)) → bit (a * 2 ^ suc t) k ≡ without (bit n) t k
    go (inl same) = bit_shifted a (suc t) k (omega arith) ∙ sym (ap (without (bit n) t) same ∙ without_here (bit n) t)
    go (inr (inl less)) =
        bit_shifted a (suc t) k (omega arith)
        ∙ sym (and_left (bit n k) (not (eqb k t)) ((form_lowest n a t e).least k less))
    go (inr (inr more)) =
        ap (λ (x : ℕ). bit x k) (sym (native.Mathlib.Nat.add-zero (a * 2 ^ suc t))) ∙ bit_cat_high (suc t) a 0 k (pow_pos (suc t)) more
        ∙ sym (ap (λ (x : ℕ). bit x k) e ∙ bit_cat_high (suc t) a (2 ^ t) k (omega (arith, pow-suc 2 t, pow_pos t)) more)
        ∙ sym (without_other (bit n) t k (omega arith))
