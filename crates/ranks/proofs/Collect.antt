-- A loop that collects the ranks that pass a test.
use Rattle.std.proofs.Common.{◌≡◌, ℕ, ◌+◌, ◌<◌, ◌≤◌, Bool, true, false, ◌&&◌, ◌||◌, eqb, ltb, ◌⊎◌, sym, refl, ap, ◌∙◌, inl, inr, arith}
use mathlib.Core.Path.{fun_ext}
use mathlib.Core.Bool.{and-true}
use Rattle.std.proofs.lemmas.Bool.Decides.{nat_tests}
use Rattle.std.proofs.lemmas.Bool.{cases_lt, and_right, le-ltb, lt-ltb, ne_eqb}
use Rattle.ranks.specs.Ranks.{Ranks, with}

-- the ranks of q below i
abbrev pub up_to : Ranks → ℕ → Ranks
up_to q i k = q k && ltb k i

module _ (q : Ranks) where
  pub up_to_in : (i : ℕ) → q i ≡ true → with (up_to q i) i ≡ up_to q (i + 1)
  up_to_in i h = fun_ext (λ k. go k (q k) (λ e. ap q e ∙ h))
    where
      go : (k : ℕ) (b : Bool) → (k ≡ i → b ≡ true) → ((b && ltb k i) || eqb k i) ≡ (b && ltb k (i + 1))
      go k true t = grind (arith, nat_tests)
      go k false t = ne_eqb k i (λ e. Rattle.std.proofs.lemmas.Bool.false≢true (t e))

  pub up_to_out : (i : ℕ) → q i ≡ false → up_to q i ≡ up_to q (i + 1)
  up_to_out i h = fun_ext (λ k. go k (q k) (λ e. ap q e ∙ h))
    where
      go : (k : ℕ) (b : Bool) → (k ≡ i → b ≡ false) → (b && ltb k i) ≡ (b && ltb k (i + 1))
      go k true t = let ne : k ≡ i → ⊥ = λ e. Rattle.std.proofs.lemmas.Bool.true≢false (t e) in grind (arith, nat_tests)
      go k false t = refl

  pub up_to_all : (i : ℕ) → ((k : ℕ) → i ≤ k → q k ≡ false) → up_to q i ≡ q
  up_to_all i h = fun_ext (λ k. go k (cases_lt k i))
    where
      go : (k : ℕ) → (k < i) ⊎ (i ≤ k) → (q k && ltb k i) ≡ q k
      go k (inl l) = ap (λ (b : Bool). q k && b) (lt-ltb k i l) ∙ and-true (q k)
      go k (inr g) = and_right (q k) (ltb k i) (le-ltb k i g) ∙ sym (h k g)
