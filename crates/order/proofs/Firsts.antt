-- The first of several stands at one place.
use Rattle.std.proofs.Common.{◌≡◌, ℕ, ◌<◌, Bool, List, [], ◌∷◌, sym, ◌∙◌, ⊎_elim, arith}
use Rattle.std.proofs.lemmas.Bool.{true≢false, cases_lt, cases_eq}
use Rattle.order.specs.First.{IsFirst}

module _ {X : Type 0} (before : X → X → Bool) where
  not_earlier : (xs : List X) (i j : ℕ) (d : X) → IsFirst before xs i → IsFirst before xs j → i < j → ⊥
  not_earlier xs i j d f g h = true≢false (sym (g.earliest i d h) ∙ f.none_before j d g.within)

  pub one_first : (xs : List X) (i j : ℕ) → IsFirst before xs i → IsFirst before xs j → j ≡ i
  one_first [] i j f g = let h = f.within in absurd (omega arith)
  one_first (x ∷ xs) i j f g =
      ⊎_elim (λ e. e)
      (λ ne. absurd (⊎_elim (λ h. not_earlier (x ∷ xs) j i x g f h) (λ h. not_earlier (x ∷ xs) i j x f g (omega arith)) (cases_lt j i)))
      (cases_eq j i)
