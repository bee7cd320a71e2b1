-- The lowest ranks of a set.
use Rattle.std.proofs.Common.{◌≡◌, ℕ, zero, suc, ◌+◌, ◌<◌, ◌≤◌, Bool, true, false, not, ◌&&◌, ◌||◌, eqb, ltb, leb, ◌⊎◌, refl, ap, ◌∙◌, subst, inl, inr, sym, arith}
use mathlib.Core.Path.{fun_ext}
use native.Mathlib.Nat.{le-suc_iff}
use Rattle.std.proofs.lemmas.Bool.Decides.{nat_tests}
use Rattle.std.proofs.lemmas.Bool.{cases_order, cases_Bool, cases_lt, both_ways, and_parts, and_cases, and_from, and_left, leb-true, leb-false, lt-ltb, ne_eqb}
use Rattle.ranks.specs.Ranks.{Ranks, none, with, without, count_below, size, Lowest, lowest_of}
use Rattle.ranks.proofs.Counts.{count_in, count_out, count_empty, count_strict}

module _ (p : Ranks) where
  -- a set has one lowest rank
  pub lowest_one : (r t : ℕ) → Lowest p r → Lowest p t → r ≡ t
  lowest_one r t h l = go (cases_order r t)
    where
      go : (r ≡ t) ⊎ ((r < t) ⊎ (t < r)) → r ≡ t
      go (inl e) = e
      go (inr (inl less)) = absurd (both_ways (p r) (l.least r less) h.has)
      go (inr (inr more)) = absurd (both_ways (p t) (h.least t more) l.has)

  -- a rank in p is not below the lowest
  pub not_below : (r k : ℕ) → Lowest p r → p k ≡ true → r ≤ k
  not_below r k w h = go (cases_lt k r)
    where
      go : (k < r) ⊎ (r ≤ k) → r ≤ k
      go (inl l) = absurd (both_ways (p k) (w.least k l) h)
      go (inr g) = g

  -- no rank below n is in p, or the lowest is below n
  pub none_or_lowest : (n : ℕ) → ((k : ℕ) → k < n → p k ≡ false) ⊎ ((k : ℕ) × Lowest p k × (k < n))
  none_or_lowest zero = inl (λ k h. absurd (omega arith))
  none_or_lowest (suc n) = go (none_or_lowest n) (cases_Bool (p n))
    where
      go : ((k : ℕ) → k < n → p k ≡ false) ⊎ ((k : ℕ) × Lowest p k × (k < n)) → (p n ≡ true) ⊎ (p n ≡ false)
          → ((k : ℕ) → k < suc n → p k ≡ false) ⊎ ((k : ℕ) × Lowest p k × (k < suc n))
      go (inr w) b = inr (w.0, w.1, omega (arith, w.2))
      go (inl out) (inl t) = inr (n, record { has = t; least = out }, omega arith)
      go (inl out) (inr f) = inl (λ k h. at k (le-suc_iff.0 h))
        where
          at : (k : ℕ) → (suc k ≤ n) ⊎ (suc k ≡ suc n) → p k ≡ false
          at k (inl l) = out k l
          at k (inr s) = let same : k ≡ n = omega arith in ap p same ∙ f

  -- a set with a rank has a lowest one
  pub least_of : (j : ℕ) → p j ≡ true → (k : ℕ) × Lowest p k × (k ≤ j)
  least_of j h = go (none_or_lowest j)
    where
      go : ((k : ℕ) → k < j → p k ≡ false) ⊎ ((k : ℕ) × Lowest p k × (k < j)) → (k : ℕ) × Lowest p k × (k ≤ j)
      go (inl out) = (j, record { has = h; least = out }, omega arith)
      go (inr w) = (w.0, w.1, omega (arith, w.2))

  -- the lowest rank is among the m lowest
  pub lowest_kept : (m k : ℕ) → 1 ≤ m → Lowest p k → lowest_of m p k ≡ true
  lowest_kept m k h w = and_from (p k) (ltb (count_below p k) m) w.has (lt-ltb (count_below p k) m (omega (arith, count_empty p k w.least)))

  -- no more than m ranks are their own m lowest
  pub kept_whole : (m : ℕ) → ((k : ℕ) → p k ≡ true → k < 114) → size p ≤ m → p ≡ lowest_of m p
  unfolding size
  kept_whole m below few = fun_ext (λ k. go k (cases_Bool (p k)))
    where
      go : (k : ℕ) → (p k ≡ true) ⊎ (p k ≡ false) → p k ≡ lowest_of m p k
      go k (inl t) = t ∙ sym (and_from (p k) (ltb (count_below p k) m) t (lt-ltb (count_below p k) m (omega (arith, count_strict p k 114 t (below k t)))))
      go k (inr f) = f ∙ sym (and_left (p k) (ltb (count_below p k) m) f)

  reach : (i r : ℕ) → ((k : ℕ) → k < r → p k ≡ true → count_below p k < i) → count_below p r ≤ i
  unfolding count_below
  reach i zero h = omega arith
  reach i (suc r) h = go (reach i r (λ k l. h k (omega arith))) (cases_Bool (p r))
    where
      go : count_below p r ≤ i → (p r ≡ true) ⊎ (p r ≡ false) → count_below p (suc r) ≤ i
      go rest (inl e) = omega (arith, count_in p r e, h r (omega arith) e)
      go rest (inr e) = omega (arith, count_out p r e, rest)

  -- the ranks of p after the i lowest
  abbrev pub after : ℕ → Ranks
  after i k = p k && leb i (count_below p k)

  place : (i r : ℕ) → Lowest (after i) r → (p r ≡ true) × (count_below p r ≡ i)
  place i r w =
      let h = and_parts (p r) (leb i (count_below p r)) w.has in
      let low : count_below p r ≤ i = reach i r (λ k l e. small k e (and_cases (p k) (leb i (count_below p k)) (w.least k l))) in
      (h.0, omega (arith, low, leb-true i (count_below p r) h.1))
    where
      small : (k : ℕ) → p k ≡ true → (p k ≡ false) ⊎ (leb i (count_below p k) ≡ false) → count_below p k < i
      small k e (inl f) = absurd (both_ways (p k) f e)
      small k e (inr f) = leb-false i (count_below p k) f

  module _ (i r : ℕ) (w : Lowest (after i) r) where
    -- how the place of k goes with its count c
    abbrev Place : ℕ → ℕ → Type 0
    Place k c = ((k ≡ r) × (c ≡ i)) ⊎ (((k ≡ r → ⊥) × (c < i)) ⊎ ((k ≡ r → ⊥) × (i < c)))

    place_of : (k : ℕ) → p k ≡ true → Place k (count_below p k)
    place_of k h = go (cases_order k r)
      where
        at : count_below p r ≡ i
        at = (place i r w).1

        go : (k ≡ r) ⊎ ((k < r) ⊎ (r < k)) → Place k (count_below p k)
        go (inl e) = inl (e, ap (count_below p) e ∙ at)
        go (inr (inl l)) = inr (inl (omega arith, omega (arith, count_strict p k r h l, at)))
        go (inr (inr g)) = inr (inr (omega arith, omega (arith, count_strict p r k (place i r w).0 g, at)))

    pub kept_more : with (lowest_of i p) r ≡ lowest_of (i + 1) p
    kept_more = fun_ext (λ k. go k (p k) (place_of k) (λ e. ap p e ∙ (place i r w).0))
      where
        counted : (k c : ℕ) → Place k c → (ltb c i || eqb k r) ≡ ltb c (i + 1)
        counted k c h = grind (arith, nat_tests)

        go : (k : ℕ) (b : Bool) → (b ≡ true → Place k (count_below p k)) → (k ≡ r → b ≡ true)
            → ((b && ltb (count_below p k) i) || eqb k r) ≡ (b && ltb (count_below p k) (i + 1))
        go k true at _ = counted k (count_below p k) (at refl)
        go k false _ here = ne_eqb k r (λ e. both_ways false refl (here e))

    pub rest_less : without (after i) r ≡ after (i + 1)
    rest_less = fun_ext (λ k. go k (p k) (place_of k))
      where
        counted : (k c : ℕ) → Place k c → (leb i c && not (eqb k r)) ≡ leb (i + 1) c
        counted k c h = grind (arith, nat_tests)

        go : (k : ℕ) (b : Bool) → (b ≡ true → Place k (count_below p k))
            → ((b && leb i (count_below p k)) && not (eqb k r)) ≡ (b && leb (i + 1) (count_below p k))
        go k true at = counted k (count_below p k) (at refl)
        go k false _ = refl

  -- the lowest rank moves from the set u of those that are left to the set c of those that are taken
  pub take_one : (i r : ℕ) (c u c' u' : Ranks) → c ≡ lowest_of i p → u ≡ after i → Lowest u r → c' ≡ with c r → u' ≡ without u r
      → (c' ≡ lowest_of (i + 1) p) × (u' ≡ after (i + 1))
  take_one i r c u c' u' taken left w put rest =
      let v : Lowest (after i) r = subst (λ q. Lowest q r) left w in
      (put ∙ ap (λ q. with q r) taken ∙ kept_more i r v, rest ∙ ap (λ q. without q r) left ∙ rest_less i r v)

  -- with nothing after the i lowest, more of them are the same
  pub kept_all : (i m : ℕ) → i ≤ m → after i ≡ none → lowest_of i p ≡ lowest_of m p
  kept_all i m h e = fun_ext (λ k. go (p k) (count_below p k) (ap (λ q. q k) e))
    where
      go : (b : Bool) (c : ℕ) → (b && leb i c) ≡ false → (b && ltb c i) ≡ (b && ltb c m)
      go true c f = grind (arith, nat_tests)
      go false c f = refl
