-- The first among those that something holds of: one more, and the first of two.
use Rattle.std.proofs.Common.{◌≡◌, ℕ, zero, suc, Bool, false, ◌⊎◌, [], ◌∷◌, get_or, Some, None, Option, sym, refl, ap, subst, inl, inr, ⊎_elim, arith, lit<}
use Rattle.std.specs.Cmp.{IsStrictWeakOrder}
use Rattle.order.specs.First.{IsFirst, FirstAmong, HeldOr}

module _ {X : Type 0} (before : X → X → Bool) where
  pub first_of_two : (old new d : X) (i : ℕ) → IsFirst before (old ∷ (new ∷ [])) i → FirstAmong before (HeldOr (Some old) new) (Some (get_or (old ∷ (new ∷ [])) i d))
  first_of_two old new d zero f =
      (inl refl, λ x. ⊎_elim (λ e. let h = f.none_before 0 d (lit< tt) in cc) (λ e. let h = f.none_before 1 d (lit< tt) in cc))
  first_of_two old new d (suc zero) f =
      (inr refl, λ x. ⊎_elim (λ e. let h = f.none_before 0 d (lit< tt) in cc) (λ e. let h = f.none_before 1 d (lit< tt) in cc))
  first_of_two old new d (suc (suc i)) f = let h = f.within in absurd (omega arith)

  -- the same records
  pub first_among_same : (P Q : X → Type 0) → ((x : X) → P x → Q x) → ((x : X) → Q x → P x) → (o : Option X) → FirstAmong before P o → FirstAmong before Q o
  first_among_same P Q to from None f = λ x q. f x (from x q)
  first_among_same P Q to from (Some y) f = (to y f.0, λ x q. f.1 x (from x q))

  -- one record more
  pub first_among_more : IsStrictWeakOrder before → (P Q : X → Type 0) (new r : X) → ((x : X) → P x → Q x) → Q new → ((x : X) → Q x → P x ⊎ (x ≡ new)) → (o : Option X) → FirstAmong before P o → FirstAmong before (HeldOr o new) (Some r) → FirstAmong before Q (Some r)
  first_among_more rank P Q new r to here from None f g =
      (⊎_elim (λ e. let z : ◌≡◌ {A = ℕ} 0 1 = cc in absurd (omega arith)) (λ e. subst Q (sym e) here) g.0, λ x q. ⊎_elim (λ p. absurd (f x p)) (λ e. g.1 x (inr e)) (from x q))
  first_among_more rank P Q new r to here from (Some h) f g =
      (⊎_elim (λ e. let z : h ≡ r = cc in subst Q z (to h f.0)) (λ e. subst Q (sym e) here) g.0, λ x q. ⊎_elim (λ p. rank.chain x h r (f.1 x p) (g.1 h (inl refl))) (λ e. g.1 x (inr e)) (from x q))

  -- there is one first
  pub first_among_one : ((a b : X) → before a b ≡ false → before b a ≡ false → a ≡ b) → (P : X → Type 0) (o p : Option X) → FirstAmong before P o → FirstAmong before P p → o ≡ p
  first_among_one total P None None f g = refl
  first_among_one total P None (Some b) f g = absurd (f b g.0)
  first_among_one total P (Some a) None f g = absurd (g a f.0)
  first_among_one total P (Some a) (Some b) f g = ap Some (total a b (g.1 a f.0) (f.1 b g.0))
