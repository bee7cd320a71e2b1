-- The least of the numbers below n that something holds of, by an order that compares any two of them.
use Rattle.std.specs.Prelude.{◌≡◌, ℕ, zero, suc, ◌+◌, ◌<◌, ◌≤◌, ◌⊎◌}
use Rattle.std.proofs.Common.{ap, subst, inl, inr, ⊎_elim, arith}
use Rattle.std.proofs.Math.Nat.{le-suc_iff}

module _ (P : ℕ → Type 0) (p? : (k : ℕ) → Dec (P k)) (R : (i k : ℕ) → Type 0)
    (total : (i k : ℕ) → P i → P k → R i k ⊎ R k i)
    (chain : (i k m : ℕ) → P i → P k → P m → R i k → R k m → R i m) where
  -- i is a least one
  abbrev pub Least : ℕ → ℕ → Type 0
  Least n i = P i × ((k : ℕ) → k < n → P k → R i k)

  abbrev pub NoneBelow : ℕ → Type 0
  NoneBelow n = (k : ℕ) → k < n → P k → ⊥

  below : (n : ℕ) (Q : ℕ → Type 0) → ((k : ℕ) → k < n → Q k) → Q n → (k : ℕ) → k < suc n → Q k
  below n Q old new k h = ⊎_elim (λ l. old k l) (λ e. let same : n ≡ k = omega arith in subst Q same new) (le-suc_iff.0 h)

  pub minimum : (n : ℕ) → NoneBelow n ⊎ ((i : ℕ) × Least n i)
  minimum zero = inl (λ k h p. absurd (omega arith))
  minimum (suc n) = go (minimum n) (p? n)
    where
      Out : Type 0
      Out = NoneBelow (suc n) ⊎ ((i : ℕ) × Least (suc n) i)

      same : P n → R n n
      same p = ⊎_elim (λ r. r) (λ r. r) (total n n p p)

      go : NoneBelow n ⊎ ((i : ℕ) × Least n i) → Dec (P n) → Out
      go (inl none) (no m) = inl (below n (λ k. P k → ⊥) none m)
      go (inl none) (yes p) = inr (n, (p, below n (λ k. P k → R n k) (λ k l q. absurd (none k l q)) (λ q. same p)))
      go (inr w) (no m) = inr (w.0, (w.1.0, below n (λ k. P k → R w.0 k) w.1.1 (λ q. absurd (m q))))
      go (inr w) (yes p) =
          ⊎_elim
          (λ r. inr (w.0, (w.1.0, below n (λ k. P k → R w.0 k) w.1.1 (λ q. r))))
          (λ r. inr (n, (p, below n (λ k. P k → R n k) (λ k l q. chain n w.0 k p w.1.0 q r (w.1.1 k l q)) (λ q. same p))))
          (total w.0 n w.1.0 p)

-- a bound of the first n numbers
pub bound_of : (a : ℕ → ℕ) (n : ℕ) → (p : ℕ) × ((k : ℕ) → k < n → a k ≤ p)
bound_of a zero = (0, λ k h. absurd (omega arith))
bound_of a (suc n) =
    let r = bound_of a n in
    (r.0 + a n, λ k h. ⊎_elim (λ l. omega (arith, r.1 k l)) (λ e. let same : k ≡ n = omega arith in omega (arith, ap a same)) (le-suc_iff.0 h))
