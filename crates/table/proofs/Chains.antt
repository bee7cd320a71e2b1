-- A strict total order given by a test: the first of a set, and sums over the places in a set.
use Rattle.std.proofs.lemmas.Grind.{common_steps}
use Rattle.std.proofs.Common.{◌≡◌, ℕ, zero, suc, ◌<◌, Bool, false, cond, ◌&&◌, T, eqb, ◌≢◌, ◌⊎◌, sym, refl, ap, ◌∙◌, subst, inl, inr, arith}
use Rattle.std.proofs.lemmas.Bool.{cases_eq, eq-eqb, ne_eqb}
use Rattle.table.specs.Sums.{sum, bit}
use Rattle.table.proofs.Sums.{test, yes_is, no_is, bit_yes, bit_no, both, both_left, both_right, sum_at, sum_none, sum_zero}

pub record Strict (b : ℕ → ℕ → Bool) : Type 0 where
  pub irrefl : (d : ℕ) → T (b d d) → ⊥
  pub trans : (d e f : ℕ) → T (b d e) → T (b e f) → T (b d f)
  pub total : (d e : ℕ) → d ≢ e → T (b d e) ⊎ T (b e d)

pub flip : (b : ℕ → ℕ → Bool) → Strict b → Strict (λ d e. b e d)
flip b s = record { irrefl = s.irrefl; trans = λ d e f p q. s.trans f e d q p; total = λ d e h. elim (s.total d e h) [ inl p ↦ inr p | inr q ↦ inl q ] }

pub record Leader (b : ℕ → ℕ → Bool) (n : ℕ) (L : ℕ → Bool) (d : ℕ) : Type 0 where
  pub within : d < n
  pub holds : T (L d)
  pub leads : (e : ℕ) → e < n → T (L e) → e ≢ d → T (b d e)

-- the first of the numbers below n that pass L
pub leader : (b : ℕ → ℕ → Bool) → Strict b → (n : ℕ) (L : ℕ → Bool)
    → ((d : ℕ) → d < n → T (L d) → ⊥) ⊎ ((d : ℕ) × Leader b n L d)
leader b s zero L = inl (λ d h. absurd (omega arith))
leader b s (suc n) L = next (leader b s n L) (test (L n))
  where
    next : ((d : ℕ) → d < n → T (L d) → ⊥) ⊎ ((d : ℕ) × Leader b n L d) → T (L n) ⊎ (T (L n) → ⊥)
        → ((d : ℕ) → d < suc n → T (L d) → ⊥) ⊎ ((d : ℕ) × Leader b (suc n) L d)
    next (inl none) (inl here) = inr (
      n,
      record {
        within = omega arith;
        holds = here;
        leads = λ e l t d. absurd (none e (omega arith) t);
      },
    )
    next (inl none) (inr not-here) = inl (λ d l t. elim (cases_eq d n)
        [ inl e ↦ not-here (subst (λ x. T (L x)) e t) | inr h ↦ none d (omega arith) t ])
    next (inr first) (inr not-here) = inr (
      first.0,
      record {
        within = omega (arith, first.1.within);
        holds = first.1.holds;
        leads = λ e l t d. elim (cases_eq e n)
            [ inl h ↦ absurd (not-here (subst (λ x. T (L x)) h t)) | inr h ↦ first.1.leads e (omega arith) t d ];
      },
    )
    next (inr first) (inl here) = elim (s.total first.0 n (omega (arith, first.1.within))) [
      | inl p ↦ inr (
        first.0,
        record {
          within = omega (arith, first.1.within);
          holds = first.1.holds;
          leads = λ e l t d. elim (cases_eq e n)
              [ inl h ↦ subst (λ x. T (b first.0 x)) (sym h) p | inr h ↦ first.1.leads e (omega arith) t d ];
        },
      )
      | inr q ↦ inr (
        n,
        record {
          within = omega arith;
          holds = here;
          leads = λ e l t d. elim (cases_eq e first.0) [
            | inl h ↦ subst (λ x. T (b n x)) (sym h) q
            | inr h ↦ s.trans n first.0 e q (first.1.leads e (omega arith) t h)
          ];
        },
      )
    ]

-- how many numbers below n pass L
abbrev pub size : ℕ → (ℕ → Bool) → ℕ
size n L = sum n (λ d. bit (L d))

-- how many of them come before d
abbrev pub place : (ℕ → ℕ → Bool) → ℕ → (ℕ → Bool) → ℕ → ℕ
place b n L d = sum n (λ e. bit (L e && b e d))

-- L without z
abbrev pub less_one : (ℕ → Bool) → ℕ → ℕ → Bool
less_one L z d = cond (eqb d z) false (L d)

less_one_other : (L : ℕ → Bool) (z d : ℕ) → d ≢ z → less_one L z d ≡ L d
less_one_other L z d h = ap (λ x. cond x false (L d)) (ne_eqb d z h)

less_one_self : (L : ℕ → Bool) (z : ℕ) → less_one L z z ≡ false
less_one_self L z = ap (λ x. cond x false (L z)) (eq-eqb z z refl)

-- with the last member z taken out
module _ (b : ℕ → ℕ → Bool) (s : Strict b) (n m : ℕ) (L : ℕ → Bool) (f : ℕ → ℕ) (e : size n L ≡ suc m)
    (z : ℕ) (last : Leader (λ d e. b e d) n L z) where
  other : (d : ℕ) → d < n → d ≢ z → bit (L d) ≡ bit (less_one L z d)
  other d l h = sym (ap bit (less_one_other L z d h))

  smaller : size n (less_one L z) ≡ m
  smaller =
      omega (arith, sum_at n (λ d. bit (L d)) (λ d. bit (less_one L z d)) z last.within other, e, bit_yes (L z) last.holds, ap bit (less_one_self L z))

  place_last : place b n L z ≡ m
  place_last =
      omega (
        arith,
        smaller,
        sum_at n (λ d. bit (L d && b d z)) (λ d. bit (less_one L z d)) z last.within
            (λ d l h. elim (test (L d)) [
              | inl t ↦ bit_yes (L d && b d z) (both (L d) (b d z) t (last.leads d l t h)) ∙ sym (sym (other d l h) ∙ bit_yes (L d) t)
              | inr t ↦ bit_no (L d && b d z) (λ x. t (both_left (L d) (b d z) x)) ∙ sym (sym (other d l h) ∙ bit_no (L d) t)
            ]),
        ap bit (less_one_self L z),
        bit_no (L z && b z z) (λ x. s.irrefl z (both_right (L z) (b z z) x)),
      )

  place_other : (d : ℕ) → d < n → d ≢ z → T (L d) → place b n L d ≡ place b n (less_one L z) d
  place_other d l h t = grind (arith, common_steps)

  places_step : sum n (λ d. cond (less_one L z d) (f (place b n (less_one L z) d)) 0) ≡ sum m f
      → sum n (λ d. cond (L d) (f (place b n L d)) 0) ≡ sum (suc m) f
  places_step ih =
      omega (
        arith,
        ih,
        sum_at n (λ d. cond (L d) (f (place b n L d)) 0) (λ d. cond (less_one L z d) (f (place b n (less_one L z) d)) 0) z last.within
            (λ d l h. elim (test (L d)) [
              | inl t ↦ ap (λ y. cond y (f (place b n L d)) 0) (yes_is (L d) t) ∙ ap f (place_other d l h t)
                  ∙ sym (ap (λ y. cond y (f (place b n (less_one L z) d)) 0) (less_one_other L z d h ∙ yes_is (L d) t))
              | inr t ↦ ap (λ y. cond y (f (place b n L d)) 0) (no_is (L d) t)
                  ∙ sym (ap (λ y. cond y (f (place b n (less_one L z) d)) 0) (less_one_other L z d h ∙ no_is (L d) t))
            ]),
        ap (λ y. cond y (f (place b n (less_one L z) z)) 0) (less_one_self L z),
        ap (λ y. cond y (f (place b n L z)) 0) (yes_is (L z) last.holds) ∙ ap f place_last,
      )

-- the places of the members of a set are the numbers below its size
pub places : (b : ℕ → ℕ → Bool) → Strict b → (n m : ℕ) (L : ℕ → Bool) (f : ℕ → ℕ) → size n L ≡ m
    → sum n (λ d. cond (L d) (f (place b n L d)) 0) ≡ sum m f
places b s n zero L f e =
    sum_zero n (λ d. cond (L d) (f (place b n L d)) 0)
    (λ d l. ap (λ x. cond x (f (place b n L d)) 0) (no_is (L d) (λ t. absurd (omega (arith, bit_yes (L d) t, sum_none n (λ d. bit (L d)) e d l)))))
places b s n (suc m) L f e =
    elim (leader (λ d e. b e d) (flip b s) n L) [
      | inl none ↦ absurd (omega (arith, e, sum_zero n (λ d. bit (L d)) (λ d l. bit_no (L d) (none d l))))
      | inr last ↦ places_step b s n m L f e last.0 last.1
          (places b s n m (less_one L last.0) f (smaller b s n m L f e last.0 last.1))
    ]
