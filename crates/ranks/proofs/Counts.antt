-- Laws of the count of the ranks below a number.
use Rattle.std.proofs.Common.{◌≡◌, ℕ, zero, suc, ◌+◌, ◌<◌, ◌≤◌, min, Bool, true, false, cond, ltb, ◌⊎◌, refl, ap, ◌∙◌, ap₂, inl, inr, arith}
use Rattle.std.proofs.lemmas.Bool.{cases_Bool, cases_eq, and_right, and_left, and_from, cases_lt, lt-ltb, le-ltb}
use Rattle.ranks.specs.Ranks.{Ranks, without, count_below, size, lowest_of}
use Rattle.ranks.proofs.Changes.{without_here, without_other}

abbrev one : Bool → ℕ
one b = cond b 1 0

module _ (p : Ranks) where
  pub count_in : (k : ℕ) → p k ≡ true → count_below p (suc k) ≡ count_below p k + 1
  unfolding count_below
  count_in k h = omega (arith, ap one h)

  pub count_out : (k : ℕ) → p k ≡ false → count_below p (suc k) ≡ count_below p k
  unfolding count_below
  count_out k h = omega (arith, ap one h)

  -- the lowest rank apart from the others
  pub count_first : (n : ℕ) → count_below p (suc n) ≡ cond (p 0) 1 0 + count_below (λ k. p (suc k)) n
  unfolding count_below
  count_first zero = omega arith
  count_first (suc n) = omega (arith, count_first n)

  pub count_mono : (i j : ℕ) → i ≤ j → count_below p i ≤ count_below p j
  unfolding count_below
  count_mono i zero h = omega (arith, ap (count_below p) (lib.Arith.le-zero h))
  count_mono i (suc j) h = go (count_mono i j) ((native.Mathlib.Nat.le-suc_iff).0 h)
    where
      go : (i ≤ j → count_below p i ≤ count_below p j) → (i ≤ j) ⊎ (i ≡ suc j) → count_below p i ≤ count_below p (suc j)
      go rest (inl l) = omega (arith, rest l)
      go rest (inr e) = omega (arith, ap (count_below p) e)

  -- a rank in the set is counted below every higher one
  pub count_strict : (k n : ℕ) → p k ≡ true → k < n → count_below p k < count_below p n
  count_strict k n h l = omega (arith, count_in k h, count_mono (suc k) n l)

pub count_same : (p q : Ranks) (n : ℕ) → ((k : ℕ) → k < n → p k ≡ q k) → count_below p n ≡ count_below q n
unfolding count_below
count_same p q zero h = refl
count_same p q (suc n) h =
    ap₂ (λ (x : ℕ) (b : Bool). x + cond b 1 0) (count_same p q n (λ k l. h k (omega arith))) (h n (omega arith))

-- the m lowest ranks are counted up to m
pub count_lowest : (p : Ranks) (m n : ℕ) → count_below (lowest_of m p) n ≡ min m (count_below p n)
unfolding count_below
count_lowest p m zero = omega arith
count_lowest p m (suc n) = go (count_lowest p m n) (cases_Bool (p n)) (cases_lt (count_below p n) m)
  where
    go : count_below (lowest_of m p) n ≡ min m (count_below p n) → (p n ≡ true) ⊎ (p n ≡ false) → (count_below p n < m) ⊎ (m ≤ count_below p n)
        → count_below (lowest_of m p) (suc n) ≡ min m (count_below p (suc n))
    go rest (inl t) (inl l) =
        omega (arith, rest, count_in p n t, count_in (lowest_of m p) n (and_from (p n) (ltb (count_below p n) m) t (lt-ltb (count_below p n) m l)))
    go rest (inl t) (inr g) =
        omega (arith, rest, count_in p n t, count_out (lowest_of m p) n (and_right (p n) (ltb (count_below p n) m) (le-ltb (count_below p n) m g)))
    go rest (inr f) _ =
        omega (arith, rest, count_out p n f, count_out (lowest_of m p) n (and_left (p n) (ltb (count_below p n) m) f))

pub size_lowest : (p : Ranks) (m : ℕ) → size (lowest_of m p) ≡ min m (size p)
unfolding size
size_lowest p m = count_lowest p m 114

-- a set with no rank below n
pub count_empty : (p : Ranks) (n : ℕ) → ((k : ℕ) → k < n → p k ≡ false) → count_below p n ≡ 0
unfolding count_below
count_empty p zero h = refl
count_empty p (suc n) h = count_out p n (h n (omega arith)) ∙ count_empty p n (λ k l. h k (omega arith))

-- q has the rank r, and p has not
count_apart : (p q : Ranks) (r n : ℕ) → p r ≡ false → q r ≡ true → ((k : ℕ) → (k ≡ r → ⊥) → p k ≡ q k) → r < n → count_below q n ≡ count_below p n + 1
unfolding count_below
count_apart p q r zero f t same h = absurd (omega arith)
count_apart p q r (suc n) f t same h = go (cases_eq n r) (count_apart p q r n f t same)
  where
    go : (n ≡ r) ⊎ (n ≡ r → ⊥) → (r < n → count_below q n ≡ count_below p n + 1) → count_below q (suc n) ≡ count_below p (suc n) + 1
    go (inl e) rest =
        omega (arith, count_in q n (ap q e ∙ t), count_out p n (ap p e ∙ f), count_same p q n (λ k l. same k (omega arith)))
    go (inr ne) rest = omega (arith, rest (omega arith), ap one (same n ne))

pub size_without : (p : Ranks) (r : ℕ) → r < 114 → p r ≡ true → size p ≡ size (without p r) + 1
unfolding size
size_without p r below t = count_apart (without p r) p r 114 (without_here p r) t (without_other p r) below
