-- The rank that is taken for a level: it is one, and there is one where any rank of the level is filled.
use Rattle.std.specs.Prelude.{◌≡◌, ℕ, suc, ◌-◌, ◌*◌, ◌^◌, ◌<◌, ◌≤◌, true, false, ◌⊎◌, is_some, Some, None, Option, refl}
use Rattle.std.proofs.Common.{sym, ap, ap₂, ◌∙◌, inl, inr, ⊎_elim, div-lt_iff_lt-mul, pow-suc, arith}
use Rattle.std.proofs.Math.Decide.{ℕ_discrete}
use Rattle.std.proofs.Math.Nat.{pow-le-pow_right, one-le-pow}
use Rattle.std.proofs.lemmas.Bool.{cases_Bool, false≢true}
use Rattle.std.specs.Cmp.{IsStrictWeakOrder}
use Rattle.grid.proofs.Lengths.{cells_at_pos}
use Rattle.order.proofs.Numbers.{numbered_total, ranks_by_answer}
use Rattle.order.specs.Answers.{Numbered}
use Rattle.order.specs.Records.{rank_before, rank_key}
use Rattle.order.specs.declared.answer.Answer.{Answer}
use Rattle.order.specs.declared.records.RankEntry.{RankEntry}
use Rattle.policy.specs.Levels.{entry, filled, level, FilledAt}
use Rattle.policy.specs.declared.front.Front.{Front}
use Rattle.hull.specs.Decide.{filled_below}
use Rattle.hull.specs.Optimal.{Taken}
use Rattle.hull.specs.Values.{size}
use Rattle.hull.specs.Minimum.{minimum, Least, NoneBelow}

-- ranks go by answer and number, one way
ranked : IsStrictWeakOrder rank_before
ranked = ranks_by_answer rank_key

-- a level has one rank taken
pub taken_one : (f : Front) (r s : ℕ) → Taken f r → Taken f s → level f s ≡ level f r → s ≡ r
taken_one f r s t u e =
    let a : RankEntry = record { answer = t.0; rank = r } in
    let b : RankEntry = record { answer = u.0; rank = s } in
    ap (λ (k : Numbered). k.number) (numbered_total (rank_key b) (rank_key a)
    (t.1.1 b (record { of_level = e; holds = u.1.0.holds }))
    (u.1.1 a (record { of_level = sym e; holds = t.1.0.holds })))

pub taken_below : (f : Front) (r : ℕ) → Taken f r → r < 19 * f.directions
taken_below f r t = filled_below f r t.0 t.1.0.holds

pub taken_rank : (f : Front) (r : ℕ) → Taken f r → r < 114
taken_rank f r t = let few = f.few in omega (arith, taken_below f r t)

pub taken_level : (f : Front) (r : ℕ) → Taken f r → level f r < 19
taken_level f r t = (div-lt_iff_lt-mul f.some).1 (taken_below f r t)

pub taken_filled : (f : Front) (r : ℕ) → Taken f r → filled f r ≡ true
unfolding filled
taken_filled f r t = ap is_some t.1.0.holds

pub size_some : (f : Front) (r : ℕ) → 0 < size f r
unfolding size
size_some f r = cells_at_pos (level f r)

-- a lower level is a larger size
pub size_more : (f : Front) (r s : ℕ) → Taken f s → level f r < level f s → size f s < size f r
unfolding size
size_more f r s t h =
    let a : ℕ = 19 - level f s in
    let b : ℕ = 19 - level f r in
    let next : suc a ≤ b = omega (arith, taken_level f s t) in
    let more : 3 ^ suc a ≤ 3 ^ b = pow-le-pow_right (omega arith) next in
    omega (arith, more, pow-suc 3 a, one-le-pow a 3 (omega arith))

module _ (f : Front) (t : ℕ) where
  -- rank k is a filled rank of level t
  abbrev Filled : ℕ → Type 0
  Filled k = (a : Answer) × FilledAt f t (record { answer = a; rank = k })

  filled? : (k : ℕ) → Dec (Filled k)
  filled? k = go (entry f k) refl (ℕ_discrete (level f k) t)
    where
      go : (o : Option Answer) → entry f k ≡ o → Dec (level f k ≡ t) → Dec (Filled k)
      go None h l = no (λ w. let held = w.1.holds in let z : ◌≡◌ {A = ℕ} 0 1 = cc in absurd (omega arith))
      go (Some a) h (no n) = no (λ w. n w.1.of_level)
      go (Some a) h (yes l) = yes (a, record { of_level = l; holds = h })

  -- rank k is not before rank i
  abbrev NotAfter : ℕ → ℕ → Type 0
  NotAfter i k =
      (a b : Answer) → entry f i ≡ Some a → entry f k ≡ Some b
      → rank_before (record { answer = b; rank = k }) (record { answer = a; rank = i }) ≡ false

  -- by the answers that they have
  not_after : (i k : ℕ) (p : Filled i) (q : Filled k)
      → rank_before (record { answer = q.0; rank = k }) (record { answer = p.0; rank = i }) ≡ false → NotAfter i k
  not_after i k p q h a b ha hb =
      let at_i = p.1.holds in
      let at_k = q.1.holds in
      let one : a ≡ p.0 = cc in
      let two : b ≡ q.0 = cc in
      ap₂ (λ (x y : Answer). rank_before (record { answer = y; rank = k }) (record { answer = x; rank = i })) one two ∙ h

  either_way : (i k : ℕ) → Filled i → Filled k → NotAfter i k ⊎ NotAfter k i
  either_way i k p q =
      let x : RankEntry = record { answer = p.0; rank = i } in
      let y : RankEntry = record { answer = q.0; rank = k } in
      ⊎_elim (λ h. inr (not_after k i q p (ranked.one_way y x h))) (λ h. inl (not_after i k p q h)) (cases_Bool (rank_before y x))

  chain : (i k m : ℕ) → Filled i → Filled k → Filled m → NotAfter i k → NotAfter k m → NotAfter i m
  chain i k m p q r h l a c ha hc =
      ranked.chain (record { answer = c; rank = m }) (record { answer = q.0; rank = k }) (record { answer = a; rank = i })
      (l q.0 c q.1.holds hc) (h a q.0 ha q.1.holds)

-- a level with a filled rank has one taken
pub take_of : (f : Front) (r : ℕ) → filled f r ≡ true → (k : ℕ) × Taken f k × (level f k ≡ level f r)
unfolding filled
take_of f r h = go (entry f r) refl h
  where
    t : ℕ
    t = level f r

    first : (a : Answer) → entry f r ≡ Some a
        → NoneBelow (Filled f t) (filled? f t) (NotAfter f t) (either_way f t) (chain f t) (19 * f.directions)
        ⊎ ((i : ℕ) × Least (Filled f t) (filled? f t) (NotAfter f t) (either_way f t) (chain f t) (19 * f.directions) i)
        → (k : ℕ) × Taken f k × (level f k ≡ level f r)
    first a held (inl none) = absurd (none r (filled_below f r a held) (a, record { of_level = refl; holds = held }))
    first a held (inr w) =
        let here = w.1.0.1 in (
          w.0,
          (
            w.1.0.0,
            (
              record { of_level = refl; holds = here.holds },
              λ x v. w.1.1 x.rank (filled_below f x.rank x.answer v.holds) (x.answer, record { of_level = v.of_level ∙ here.of_level; holds = v.holds })
                  w.1.0.0 x.answer here.holds v.holds,
            ),
          ),
          here.of_level,
        )

    go : (o : Option Answer) → entry f r ≡ o → is_some o ≡ true → (k : ℕ) × Taken f k × (level f k ≡ level f r)
    go None e h = absurd (false≢true h)
    go (Some a) e h = first a e (minimum (Filled f t) (filled? f t) (NotAfter f t) (either_way f t) (chain f t) (19 * f.directions))
