-- Two words of 64 digits as one set of ranks.
use Rattle.std.proofs.Common.{◌≡◌, ℕ, ◌+◌, ◌-◌, ◌*◌, ◌/◌, ◌%◌, ◌^◌, ◌<◌, ◌≤◌, Bool, false, not, ◌&&◌, ◌||◌, eqb, ◌⊎◌, sym, ap, ◌∙◌, subst, ap₂, inl, inr, arith, pow_mono}
use mathlib.Core.Path.{fun_ext}
use lib.Bits.{bit_and, bit_or, or_lt, and_mask}
use lib.Count.{ones, ones_cat, count_trailing_zeros}
use Rattle.std.proofs.lemmas.Nat.{one_shl, and_le_l}
use Rattle.std.proofs.lemmas.Bool.Decides.{nat_tests}
use Rattle.std.proofs.lemmas.Bool.{cases_lt}
use Rattle.ranks.specs.Ranks.{bit, none, with, without, size, Lowest}
use Rattle.ranks.proofs.Changes.{with_other, without_other}
use Rattle.ranks.proofs.Digits.{Form, bit_past, bit_cat_low, bit_cat_high, bit_pow, bit_of_or, count_bits, trailing_form, form_lowest, form_rest, bit_rest}
use Rattle.ranks.proofs.Lowest.{lowest_one}

-- words of no digit are the empty set
pub no_words : (hi lo : ℕ) → hi ≡ 0 → lo ≡ 0 → bit (hi * 2 ^ 64 + lo) ≡ none
no_words hi lo e f = fun_ext (λ k. bit_past 0 (hi * 2 ^ 64 + lo) k (omega arith) (omega arith))

module _ (hi lo : ℕ) (fits : lo < 2 ^ 64) where
  pub test_low : (r : ℕ) → r < 64 → eqb (bit_and (lo / 2 ^ r) 1) 1 ≡ bit (hi * 2 ^ 64 + lo) r
  unfolding bit
  test_low r h = ap (λ (x : ℕ). eqb x 1) (and_mask (lo / 2 ^ r) 1) ∙ sym (bit_cat_low 64 hi lo r h)

  pub test_high : (r : ℕ) → 64 ≤ r → eqb (bit_and (hi / 2 ^ (r - 64)) 1) 1 ≡ bit (hi * 2 ^ 64 + lo) r
  unfolding bit
  test_high r h = ap (λ (x : ℕ). eqb x 1) (and_mask (hi / 2 ^ (r - 64)) 1) ∙ sym (bit_cat_high 64 hi lo r fits h)

  pub put_low : (r : ℕ) → r < 64 → (k : ℕ) → bit (hi * 2 ^ 64 + bit_or lo ((1 * 2 ^ r) % 2 ^ 64)) k ≡ with (bit (hi * 2 ^ 64 + lo)) r k
  put_low r h k = go (cases_lt k 64)
    where
      new : ℕ
      new = (1 * 2 ^ r) % 2 ^ 64

      go : (k < 64) ⊎ (64 ≤ k) → bit (hi * 2 ^ 64 + bit_or lo new) k ≡ with (bit (hi * 2 ^ 64 + lo)) r k
      go (inl l) =
          bit_cat_low 64 hi (bit_or lo new) k l ∙ bit_of_or lo new k
          ∙ ap₂ (λ (x y : Bool). x || y) (sym (bit_cat_low 64 hi lo k l)) (ap (λ (x : ℕ). bit x k) (one_shl r 64 h) ∙ bit_pow r k)
      go (inr g) =
          bit_cat_high 64 hi (bit_or lo new) k (or_lt 64 lo new fits (omega arith)) g ∙ sym (bit_cat_high 64 hi lo k fits g)
          ∙ sym (with_other (bit (hi * 2 ^ 64 + lo)) r k (omega arith))

  pub put_high : (r : ℕ) → 64 ≤ r → r < 114 → (k : ℕ) → bit (bit_or hi ((1 * 2 ^ (r - 64)) % 2 ^ 64) * 2 ^ 64 + lo) k ≡ with (bit (hi * 2 ^ 64 + lo)) r k
  put_high r h l k = go (cases_lt k 64)
    where
      new : ℕ
      new = (1 * 2 ^ (r - 64)) % 2 ^ 64

      shifted : 64 ≤ k → eqb (k - 64) (r - 64) ≡ eqb k r
      shifted g = grind (arith, nat_tests)

      go : (k < 64) ⊎ (64 ≤ k) → bit (bit_or hi new * 2 ^ 64 + lo) k ≡ with (bit (hi * 2 ^ 64 + lo)) r k
      go (inl g) =
          bit_cat_low 64 (bit_or hi new) lo k g ∙ sym (bit_cat_low 64 hi lo k g)
          ∙ sym (with_other (bit (hi * 2 ^ 64 + lo)) r k (omega arith))
      go (inr g) =
          bit_cat_high 64 (bit_or hi new) lo k fits g ∙ bit_of_or hi new (k - 64)
          ∙ ap₂ (λ (x y : Bool). x || y) (sym (bit_cat_high 64 hi lo k fits g))
          (ap (λ (x : ℕ). bit x (k - 64)) (one_shl (r - 64) 64 (omega arith)) ∙ bit_pow (r - 64) (k - 64) ∙ shifted g)

  pub count_words : hi < 2 ^ 50 → ones lo + ones hi ≡ size (bit (hi * 2 ^ 64 + lo))
  unfolding size
  count_words h =
      native.Mathlib.Nat.add_comm (ones lo) (ones hi) ∙ sym (ones_cat 64 hi lo fits) ∙ count_bits 114 (hi * 2 ^ 64 + lo) (omega arith)

  pub first_low : (lo ≡ 0 → ⊥) → Lowest (bit (hi * 2 ^ 64 + lo)) (count_trailing_zeros 64 lo) × (count_trailing_zeros 64 lo < 64)
  first_low h =
      let t : ℕ = count_trailing_zeros 64 lo in
      let f = trailing_form 64 lo (omega arith) fits in
      let w = form_lowest lo f.0 t f.1 in (
        record {
          has = bit_cat_low 64 hi lo t f.2 ∙ w.has;
          least = λ k l. bit_cat_low 64 hi lo k (omega (arith, l, f.2)) ∙ w.least k l;
        },
        f.2,
      )

  pub rest_low : (lo ≡ 0 → ⊥) → (r : ℕ) → Lowest (bit (hi * 2 ^ 64 + lo)) r → (k : ℕ) → bit (hi * 2 ^ 64 + bit_and lo (lo - 1)) k ≡ without (bit (hi * 2 ^ 64 + lo)) r k
  rest_low h r w k = subst (λ (x : ℕ). bit (hi * 2 ^ 64 + bit_and lo (lo - 1)) k ≡ without (bit (hi * 2 ^ 64 + lo)) x k) (sym same) (go (cases_lt k 64))
    where
      t : ℕ
      t = count_trailing_zeros 64 lo

      same : r ≡ t
      same = lowest_one (bit (hi * 2 ^ 64 + lo)) r t w (first_low h).0

      f : Form lo 64 t
      f = trailing_form 64 lo (omega arith) fits

      go : (k < 64) ⊎ (64 ≤ k) → bit (hi * 2 ^ 64 + bit_and lo (lo - 1)) k ≡ without (bit (hi * 2 ^ 64 + lo)) t k
      go (inl l) =
          bit_cat_low 64 hi (bit_and lo (lo - 1)) k l ∙ ap (λ (x : ℕ). bit x k) (form_rest lo f.0 t f.1) ∙ bit_rest lo f.0 t k f.1
          ∙ ap (λ (b : Bool). b && not (eqb k t)) (sym (bit_cat_low 64 hi lo k l))
      go (inr g) =
          bit_cat_high 64 hi (bit_and lo (lo - 1)) k (omega (arith, and_le_l lo (lo - 1))) g ∙ sym (bit_cat_high 64 hi lo k fits g)
          ∙ sym (without_other (bit (hi * 2 ^ 64 + lo)) t k (omega (arith, g, f.2)))

  module _ (bound : hi < 2 ^ 50) (empty : lo ≡ 0) (some : hi ≡ 0 → ⊥) where
    top : ℕ
    top = count_trailing_zeros 64 hi

    form : Form hi 64 top
    unfolding top
    form = trailing_form 64 hi (omega arith) (omega arith)

    top_bound : top < 50
    top_bound = go (cases_lt top 50)
      where
        go : (top < 50) ⊎ (50 ≤ top) → top < 50
        go (inl l) = l
        go (inr g) =
            let past : 2 ^ 50 ≤ 2 ^ top = pow_mono g in
            let whole = form.1 in
            absurd (omega (arith, past, whole, bound))

    low_none : (k : ℕ) → k < 64 → bit (hi * 2 ^ 64 + lo) k ≡ false
    low_none k h = bit_cat_low 64 hi lo k h ∙ ap (λ (x : ℕ). bit x k) empty ∙ bit_past 0 0 k (omega arith) (omega arith)

    pub first_high : Lowest (bit (hi * 2 ^ 64 + lo)) (64 + count_trailing_zeros 64 hi) × (64 + count_trailing_zeros 64 hi < 114)
    unfolding top
    first_high =
        let w = form_lowest hi form.0 top form.1 in
        let back : 64 + top - 64 ≡ top = omega arith in (
          record {
            has = bit_cat_high 64 hi lo (64 + top) fits (omega arith) ∙ ap (bit hi) back ∙ w.has;
            least = λ k l. lower k l (cases_lt k 64);
          },
          omega (arith, top_bound),
        )
      where
        lower : (k : ℕ) → k < 64 + top → (k < 64) ⊎ (64 ≤ k) → bit (hi * 2 ^ 64 + lo) k ≡ false
        lower k l (inl h) = low_none k h
        lower k l (inr g) = bit_cat_high 64 hi lo k fits g ∙ (form_lowest hi form.0 top form.1).least (k - 64) (omega arith)

    pub rest_high : (r : ℕ) → Lowest (bit (hi * 2 ^ 64 + lo)) r → (k : ℕ) → bit (bit_and hi (hi - 1) * 2 ^ 64 + lo) k ≡ without (bit (hi * 2 ^ 64 + lo)) r k
    unfolding top
    rest_high r w k = subst (λ (x : ℕ). bit (bit_and hi (hi - 1) * 2 ^ 64 + lo) k ≡ without (bit (hi * 2 ^ 64 + lo)) x k) (sym same) (go (cases_lt k 64))
      where
        same : r ≡ 64 + top
        same = lowest_one (bit (hi * 2 ^ 64 + lo)) r (64 + top) w first_high.0

        shifted : 64 ≤ k → eqb (k - 64) top ≡ eqb k (64 + top)
        shifted g = grind (arith, nat_tests)

        go : (k < 64) ⊎ (64 ≤ k) → bit (bit_and hi (hi - 1) * 2 ^ 64 + lo) k ≡ without (bit (hi * 2 ^ 64 + lo)) (64 + top) k
        go (inl l) =
            bit_cat_low 64 (bit_and hi (hi - 1)) lo k l ∙ sym (bit_cat_low 64 hi lo k l)
            ∙ sym (without_other (bit (hi * 2 ^ 64 + lo)) (64 + top) k (omega arith))
        go (inr g) =
            bit_cat_high 64 (bit_and hi (hi - 1)) lo k fits g ∙ ap (λ (x : ℕ). bit x (k - 64)) (form_rest hi form.0 top form.1) ∙ bit_rest hi form.0 top (k - 64) form.1
            ∙ ap₂ (λ (x y : Bool). x && not y) (sym (bit_cat_high 64 hi lo k fits g)) (shifted g)
