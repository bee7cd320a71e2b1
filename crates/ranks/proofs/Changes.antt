-- One rank more in a set, or one less.
use Rattle.std.proofs.Common.{◌≡◌, ℕ, Bool, false, not, ◌&&◌, ◌||◌, eqb, refl, ap, ◌∙◌}
use mathlib.Core.Bool.{and-true, or-false}
use Rattle.std.proofs.lemmas.Bool.{and_right, not_from_true, eq-eqb, ne_eqb}
use Rattle.ranks.specs.Ranks.{Ranks, with, without}

module _ (p : Ranks) (r : ℕ) where
  pub with_other : (k : ℕ) → (k ≡ r → ⊥) → with p r k ≡ p k
  with_other k ne = ap (λ (b : Bool). p k || b) (ne_eqb k r ne) ∙ or-false (p k)

  pub without_here : without p r r ≡ false
  without_here = and_right (p r) (not (eqb r r)) (not_from_true (eqb r r) (eq-eqb r r refl))

  pub without_other : (k : ℕ) → (k ≡ r → ⊥) → without p r k ≡ p k
  without_other k ne = ap (λ (b : Bool). p k && not b) (ne_eqb k r ne) ∙ and-true (p k)
