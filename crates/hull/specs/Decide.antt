-- The ranks that the hull chooses, as a computed set: its conditions, each decided.
use Rattle.std.specs.Prelude.{◌≡◌, ℕ, zero, suc, ◌-◌, ◌*◌, ◌<◌, ◌≤◌, Bool, true, false, ◌⊎◌, ℤ, pos, ◌+ℤ◌, ◌-ℤ◌, ◌*ℤ◌, ◌≤ℤ◌, ◌<ℤ◌, Some, None, Option, int_le, int_lt, refl}
use Rattle.std.proofs.Common.{subst, inl, inr, ⊎_elim, arith}
use Rattle.std.proofs.Math.Decide.{dec_lt, ℕ_discrete}
use Rattle.std.proofs.Math.Nat.{le-suc_iff}
use Rattle.std.proofs.lemmas.Int.{ints}
use Rattle.std.proofs.lemmas.Bool.{cases_lt, true≢false, false≢true}
use Rattle.order.specs.Records.{rank_before}
use Rattle.order.specs.declared.answer.Answer.{Answer}
use Rattle.order.specs.declared.records.RankEntry.{RankEntry}
use Rattle.ranks.specs.Ranks.{Ranks}
use Rattle.policy.specs.Levels.{entry, level, FilledAt}
use Rattle.policy.specs.declared.front.Front.{Front}
use Rattle.hull.specs.Optimal.{Taken, Chord, Yields, Chosen}
use Rattle.hull.specs.Values.{least, margin, size, value}

-- whether a decided statement holds
abbrev pub does : {A : Type 0} → Dec A → Bool
does (yes a) = true
does (no n) = false

-- a statement decided by that of another one
abbrev pub same? : {A B : Type 0} → (A → B) → (B → A) → Dec A → Dec B
same? to from (yes a) = yes (to a)
same? to from (no n) = no (λ b. n (from b))

abbrev pub is? : (b c : Bool) → Dec (b ≡ c)
is? true true = yes refl
is? true false = no true≢false
is? false true = no false≢true
is? false false = yes refl

abbrev pub both? : {A B : Type 0} → Dec A → Dec B → Dec (A × B)
both? (no n) b = no (λ p. n p.0)
both? (yes a) (no n) = no (λ p. n p.1)
both? (yes a) (yes b) = yes (a, b)

abbrev pub if? : {A B : Type 0} → Dec A → Dec B → Dec (A → B)
if? (no n) b = yes (λ a. absurd (n a))
if? (yes a) (no n) = no (λ f. n (f a))
if? (yes a) (yes b) = yes (λ _. b)

-- a statement of every number below n
abbrev pub all? : (P : ℕ → Type 0) → ((k : ℕ) → Dec (P k)) → (n : ℕ) → Dec ((k : ℕ) → k < n → P k)
all? P d zero = yes (λ k h. absurd (omega arith))
all? P d (suc n) = go (all? P d n) (d n)
  where
    go : Dec ((k : ℕ) → k < n → P k) → Dec (P n) → Dec ((k : ℕ) → k < suc n → P k)
    go (no m) p = no (λ f. m (λ k h. f k (omega arith)))
    go (yes f) (no m) = no (λ g. m (g n (omega arith)))
    go (yes f) (yes p) = yes (λ k h. at k (le-suc_iff.0 h))
      where
        at : (k : ℕ) → (suc k ≤ n) ⊎ (suc k ≡ suc n) → P k
        at k (inl l) = f k l
        at k (inr e) = let same : n ≡ k = omega arith in subst P same p

abbrev pub less? : (a b : ℤ) → Dec (a <ℤ b)
less? a b = go (int_lt a b) refl
  where
    go : (r : Bool) → int_lt a b ≡ r → Dec (a <ℤ b)
    go true e = yes (omega (arith, ints))
    go false e = no (λ h. omega (arith, ints))

abbrev pub at_most? : (a b : ℤ) → Dec (a ≤ℤ b)
at_most? a b = go (int_le a b) refl
  where
    go : (r : Bool) → int_le a b ≡ r → Dec (a ≤ℤ b)
    go true e = yes (omega (arith, ints))
    go false e = no (λ h. omega (arith, ints))

-- a filled rank is below 19 times the directions
pub filled_below : (f : Front) (r : ℕ) (a : Answer) → entry f r ≡ Some a → r < 19 * f.directions
filled_below f r a h = ⊎_elim (λ l. l) (λ g. let e = f.empty r g in let z : ◌≡◌ {A = ℕ} 0 1 = cc in absurd (omega arith)) (cases_lt r (19 * f.directions))

-- the answer at rank s, if s is of level t, is not before e
abbrev pub NotBefore : Front → ℕ → RankEntry → ℕ → Type 0
NotBefore f t e s = (b : Answer) → FilledAt f t (record { answer = b; rank = s }) → rank_before (record { answer = b; rank = s }) e ≡ false

unfoldable pub not_before? : (f : Front) (t : ℕ) (e : RankEntry) (s : ℕ) → Dec (NotBefore f t e s)
not_before? f t e s = go (entry f s) refl (ℕ_discrete (level f s) t)
  where
    go : (o : Option Answer) → entry f s ≡ o → Dec (level f s ≡ t) → Dec (NotBefore f t e s)
    go None h l = yes (λ b w. let held = w.holds in let z : ◌≡◌ {A = ℕ} 0 1 = cc in absurd (omega arith))
    go (Some a) h (no n) = yes (λ b w. absurd (n w.of_level))
    go (Some a) h (yes l) =
        same?
        (λ p b w. let held = w.holds in let same : a ≡ b = cc in subst (λ (x : Answer). rank_before (record { answer = x; rank = s }) e ≡ false) same p)
        (λ g. g a (record { of_level = l; holds = h }))
        (is? (rank_before (record { answer = a; rank = s }) e) false)

unfoldable pub taken? : (f : Front) (r : ℕ) → Dec (Taken f r)
taken? f r = go (entry f r) refl
  where
    go : (o : Option Answer) → entry f r ≡ o → Dec (Taken f r)
    go None h = no (λ t. let held = t.1.0.holds in let z : ◌≡◌ {A = ℕ} 0 1 = cc in absurd (omega arith))
    go (Some a) h =
        same?
        (λ g. (
          a,
          (record { of_level = refl; holds = h }, λ x w. g x.rank (filled_below f x.rank x.answer w.holds) x.answer w),
        ))
        (λ t s l b w.
        let held = t.1.0.holds in let same : t.0 ≡ a = cc in
        subst (λ (x : Answer). rank_before (record { answer = b; rank = s }) (record { answer = x; rank = r }) ≡ false) same (t.1.1 (record { answer = b; rank = s }) w))
        (all? (NotBefore f (level f r) (record { answer = a; rank = r })) (not_before? f (level f r) (record { answer = a; rank = r })) (19 * f.directions))

-- a statement of every taken rank
abbrev pub each_taken? : (f : Front) (P : ℕ → Type 0) → ((k : ℕ) → Dec (P k)) → Dec ((k : ℕ) → Taken f k → P k)
each_taken? f P d =
    same? (λ g k t. g k (filled_below f k t.0 t.1.0.holds) t) (λ g k l. g k)
    (all? (λ k. Taken f k → P k) (λ k. if? (taken? f k) (d k)) (19 * f.directions))

abbrev pub chord? : (f : Front) (j i s : ℕ) → Dec (Chord f j i s)
chord? f j i s =
    if? (dec_lt (level f j) (level f s))
    (at_most? ((value f j -ℤ value f s) *ℤ pos (size f i - size f j)) ((value f i -ℤ value f j) *ℤ pos (size f j - size f s)))

unfoldable pub yields? : (e : ℕ) (f : Front) (j i : ℕ) → Dec (Yields e f j i)
yields? e f j i =
    same?
    (λ y. record { less = y.0; smaller = y.1.0; enough = y.1.1 })
    (λ y. (y.less, (y.smaller, y.enough)))
    (both? (less? (value f j) (value f i))
    (both? (each_taken? f (Chord f j i) (chord? f j i))
    (at_most? ((value f j -ℤ least f +ℤ margin e f) *ℤ pos (size f i - size f j)) (pos (size f j) *ℤ (value f i -ℤ value f j)))))

unfoldable pub chosen? : (e : ℕ) (f : Front) (j : ℕ) → Dec (Chosen e f j)
chosen? e f j =
    same?
    (λ c. record { taken = c.0; yields = c.1 })
    (λ c. (c.taken, c.yields))
    (both? (taken? f j)
    (each_taken? f (λ i. level f i < level f j → Yields e f j i) (λ i. if? (dec_lt (level f i) (level f j)) (yields? e f j i))))

-- the ranks that the hull of share e chooses
unfoldable pub hull_ranks : ℕ → Front → Ranks
hull_ranks e f j = does (chosen? e f j)
