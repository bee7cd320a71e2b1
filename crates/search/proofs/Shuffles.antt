-- Different keys stay different when a list is shuffled.
use Rattle.std.proofs.Common.{◌≡◌, ℕ, ◌<◌, ◌≢◌, List, [], ◌∷◌, length, get_or, set, sym, refl, ap, ◌∙◌, inl, inr, arith}
use Rattle.std.specs.List.Sorted.{IsPermutation}
use Rattle.std.specs.List.{swap}
use Rattle.std.proofs.lemmas.List.{length-set, get_or-set_same, get_or-set_other, get_or_default}
use Rattle.std.proofs.lemmas.List.Sorted.{IsPermutation-keeps}
use Rattle.std.proofs.lemmas.Bool.{cases_eq}

module _ {X : Type 0} (key : X → ℕ) where
  abbrev pub Different : List X → Type 0
  Different xs = (a b : ℕ) (x : X) → a ≢ b → a < length xs → b < length xs → key (get_or xs a x) ≢ key (get_or xs b x)

  -- where the element at a was before i and j were exchanged
  data Was (i j a b : ℕ) : Type 0 where
    at_j : a ≡ j → b ≡ i → Was i j a b
    at_i : a ≢ j → a ≡ i → b ≡ j → Was i j a b
    away : a ≢ j → a ≢ i → b ≡ a → Was i j a b

  was : (xs : List X) (i j a : ℕ) (x : X) → i < length xs → j < length xs → a < length xs
      → (b : ℕ) × Was i j a b × (b < length xs) × (get_or (swap xs i j) a x ≡ get_or xs b x)
  was [] i j a x hi hj ha = absurd (omega arith)
  was (d ∷ ys) i j a x hi hj ha = elim (cases_eq a j) [
    | inl e ↦ (
      i,
      at_j e refl,
      hi,
      ap (λ (k : ℕ). get_or (set (set (d ∷ ys) i (get_or (d ∷ ys) j d)) j (get_or (d ∷ ys) i d)) k x) e
          ∙ get_or-set_same (set (d ∷ ys) i (get_or (d ∷ ys) j d)) j (get_or (d ∷ ys) i d) x (omega (arith, length-set (d ∷ ys) i (get_or (d ∷ ys) j d)))
          ∙ get_or_default (d ∷ ys) i d x hi,
    )
    | inr p ↦ elim (cases_eq a i) [
      | inl e ↦ (
        j,
        at_i p e refl,
        hj,
        get_or-set_other (set (d ∷ ys) i (get_or (d ∷ ys) j d)) j a (get_or (d ∷ ys) i d) x p
            ∙ ap (λ (k : ℕ). get_or (set (d ∷ ys) i (get_or (d ∷ ys) j d)) k x) e
            ∙ get_or-set_same (d ∷ ys) i (get_or (d ∷ ys) j d) x hi ∙ get_or_default (d ∷ ys) j d x hj,
      )
      | inr q ↦ (
        a,
        away p q refl,
        ha,
        get_or-set_other (set (d ∷ ys) i (get_or (d ∷ ys) j d)) j a (get_or (d ∷ ys) i d) x p ∙ get_or-set_other (d ∷ ys) i a (get_or (d ∷ ys) j d) x q,
      )
    ]
  ]

  apart : (i j a b c d : ℕ) → Was i j a c → Was i j b d → a ≢ b → c ≢ d
  apart i j a b c d (at_j p q) (at_j s t) ne = omega arith
  apart i j a b c d (at_j p q) (at_i s t u) ne = omega arith
  apart i j a b c d (at_j p q) (away s t u) ne = omega arith
  apart i j a b c d (at_i p q r) (at_j s t) ne = omega arith
  apart i j a b c d (at_i p q r) (at_i s t u) ne = omega arith
  apart i j a b c d (at_i p q r) (away s t u) ne = omega arith
  apart i j a b c d (away p q r) (at_j s t) ne = omega arith
  apart i j a b c d (away p q r) (at_i s t u) ne = omega arith
  apart i j a b c d (away p q r) (away s t u) ne = omega arith

  long : (xs : List X) (i j : ℕ) → length (swap xs i j) ≡ length xs
  long [] i j = refl
  long (d ∷ ys) i j = length-set (set (d ∷ ys) i (get_or (d ∷ ys) j d)) j (get_or (d ∷ ys) i d) ∙ length-set (d ∷ ys) i (get_or (d ∷ ys) j d)

  step : (xs : List X) (i j : ℕ) → i < length xs → j < length xs → Different xs → Different (swap xs i j)
  step xs i j hi hj h a b x ne ha hb e =
      let p = was xs i j a x hi hj (omega (arith, long xs i j)) in
      let q = was xs i j b x hi hj (omega (arith, long xs i j)) in
      h p.0 q.0 x (apart i j a b p.0 q.0 p.1 q.1 ne) p.2 q.2 (ap key (sym p.3) ∙ e ∙ ap key q.3)

  pub different_shuffled : (xs ys : List X) → IsPermutation xs ys → Different xs → Different ys
  different_shuffled xs ys s h = IsPermutation-keeps xs Different h step ys s
