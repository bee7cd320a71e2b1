-- A test of all numbers below n.
use Rattle.std.proofs.Common.{◌≡◌, ℕ, ◌<◌, Bool, true, false, length, get_or, sym, refl, subst, arith, ◌∙◌}
use Rattle.std.specs.Bool.{Decides, MatchBool}
use Rattle.std.specs.List.{AllWithin, HoldsAt, range_with_len}
use Rattle.std.proofs.lemmas.Bool.{true≢false}
use Rattle.std.proofs.lemmas.List.FromFn.{get_or-range_with_len, length-range_with_len}

-- what `all` says over the numbers below n
at_place : (n k d : ℕ) → k < n → get_or (range_with_len 0 n) k d ≡ k
at_place n k d h = get_or-range_with_len 0 n k d h ∙ omega arith

pub every_below : (r : Bool) (n : ℕ) (P : ℕ → Type 0)
    → MatchBool r (AllWithin P (range_with_len 0 n) 0 (length (range_with_len 0 n))) ((k : ℕ) × (k < length (range_with_len 0 n)) × HoldsAt (λ d. P d → ⊥) (range_with_len 0 n) k)
    → Decides r ((d : ℕ) → d < n → P d)
every_below true n P all = (λ _ d h. subst P (at_place n d 0 h) (all d 0 (omega arith) (omega (arith, length-range_with_len 0 n))), λ _. refl)
every_below false n P some = (
  λ e. absurd (true≢false (sym e)),
  λ f. let h : some.0 < n = omega (arith, some.1, length-range_with_len 0 n) in
      absurd (some.2 0 (subst P (sym (at_place n some.0 0 h)) (f some.0 h))),
)
