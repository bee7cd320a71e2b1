-- The chosen ranks of the levels below one, level by level.
use Rattle.std.specs.Prelude.{◌≡◌, ℕ, ◌+◌, ◌<◌, Bool, true, false, ◌&&◌, ◌||◌, ◌==◌, ◌≢◌, nat_lt, refl}
use Rattle.std.proofs.Common.{sym, ap, ◌∙◌, subst, arith}
use Rattle.std.proofs.Math.Path.{fun_ext}
use Rattle.std.proofs.lemmas.Bool.{and_right, false≢true, le-ltb, lt-ltb, ne_eqb}
use Rattle.std.proofs.lemmas.Bool.Decides.{nat_tests}
use Rattle.ranks.specs.Ranks.{Ranks, none, with}
use Rattle.policy.specs.Levels.{level}
use Rattle.policy.specs.declared.front.Front.{Front}
use Rattle.hull.specs.Decide.{hull_ranks}
use Rattle.hull.specs.Optimal.{Chosen, Taken}
use Rattle.hull.specs.Takes.{taken_level, taken_one}
use Rattle.hull.specs.Chosen.{hull_conditions}

-- the ranks of q of the levels below t
abbrev pub up_to_level : Ranks → Front → ℕ → Ranks
up_to_level q f t k = q k && nat_lt (level f k) t

module _ (q : Ranks) (f : Front) where
  pub level_none : none ≡ up_to_level q f 0
  level_none = fun_ext (λ k. sym (and_right (q k) (nat_lt (level f k) 0) (le-ltb (level f k) 0 (omega arith))))

  pub level_in : (t r : ℕ) → level f r ≡ t → q r ≡ true → ((k : ℕ) → q k ≡ true → level f k ≡ t → k ≡ r) → with (up_to_level q f t) r ≡ up_to_level q f (t + 1)
  level_in t r at here one = fun_ext (λ k. go k (q k) (one k) (λ e. ap q e ∙ here) (λ e. ap (level f) e ∙ at))
    where
      go : (k : ℕ) (b : Bool) → (b ≡ true → level f k ≡ t → k ≡ r) → (k ≡ r → b ≡ true) → (k ≡ r → level f k ≡ t)
          → ((b && nat_lt (level f k) t) || k == r) ≡ (b && nat_lt (level f k) (t + 1))
      go k true h l m = let h' = h refl in grind (arith, nat_tests)
      go k false h l m = ne_eqb k r (λ e. false≢true (l e))

  pub level_out : (t : ℕ) → ((k : ℕ) → q k ≡ true → level f k ≢ t) → up_to_level q f t ≡ up_to_level q f (t + 1)
  level_out t out = fun_ext (λ k. go k (q k) (out k))
    where
      go : (k : ℕ) (b : Bool) → (b ≡ true → level f k ≢ t) → (b && nat_lt (level f k) t) ≡ (b && nat_lt (level f k) (t + 1))
      go k true h = let h' = h refl in grind (arith, nat_tests)
      go k false h = refl

  pub level_all : ((k : ℕ) → q k ≡ true → level f k < 19) → up_to_level q f 19 ≡ q
  level_all short = fun_ext (λ k. go k (q k) (short k))
    where
      go : (k : ℕ) (b : Bool) → (b ≡ true → level f k < 19) → (b && nat_lt (level f k) 19) ≡ b
      go k true h = lt-ltb (level f k) 19 (h refl)
      go k false h = refl

-- one level more, with the rank that is taken for it
module _ (e : ℕ) (f : Front) (t j : ℕ) (taken : Taken f j) (at : level f j ≡ t) where
  one : (k : ℕ) → hull_ranks e f k ≡ true → level f k ≡ t → k ≡ j
  one k h l = taken_one f j k taken ((hull_conditions e f k).0 h).taken (l ∙ sym at)

  pub hull_in : Chosen e f j → with (up_to_level (hull_ranks e f) f t) j ≡ up_to_level (hull_ranks e f) f (t + 1)
  hull_in chosen = level_in (hull_ranks e f) f t j at ((hull_conditions e f j).1 chosen) one

  pub hull_out : (Chosen e f j → ⊥) → up_to_level (hull_ranks e f) f t ≡ up_to_level (hull_ranks e f) f (t + 1)
  hull_out not_chosen = level_out (hull_ranks e f) f t (λ k h l. not_chosen (subst (Chosen e f) (one k h l) ((hull_conditions e f k).0 h)))

-- the levels below 19 are all
pub hull_all : (e : ℕ) (f : Front) → up_to_level (hull_ranks e f) f 19 ≡ hull_ranks e f
hull_all e f = level_all (hull_ranks e f) f (λ k h. taken_level f k ((hull_conditions e f k).0 h).taken)
