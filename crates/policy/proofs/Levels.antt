-- The first entry of a level is its first rank by answer and number.
use Rattle.std.proofs.Common.{◌≡◌, ℕ, ◌+◌, ◌-◌, ◌*◌, ◌/◌, ◌<◌, ◌≤◌, true, false, List, length, get_or, take, drop, Some, None, Option, sym, ap, ◌∙◌, ap₂, ⊎_elim, add-zero, mul_comm, arith}
use native.Mathlib.Nat.{mul-div-le, lt-div-mul-add, mul-add-div, div-eq_of_lt}
use Rattle.std.specs.Option.{option_map}
use Rattle.std.proofs.lemmas.Nat.{mul-le}
use Rattle.std.proofs.lemmas.List.Edits.{length-between, get_or-between}
use Rattle.std.proofs.lemmas.Bool.{true≢false, cases_lt, le-ltb, or_from, and_left, and_right, not_from_true}
use Rattle.order.specs.Answers.{entry_before}
use Rattle.order.specs.First.{FirstAmong, IsFirst}
use Rattle.order.specs.Records.{rank_before}
use Rattle.order.specs.declared.answer.Answer.{Answer}
use Rattle.order.specs.declared.records.RankEntry.{RankEntry}
use Rattle.policy.specs.Levels.{FilledAt, FilledBetween}
use Rattle.policy.specs.declared.front.Front.{Front}

-- a rank of level t is one from n t up to n t + n
level_from : (r t n : ℕ) → r / n ≡ t → n * t ≤ r
level_from r t n e = rw (sym e) (mul-div-le r n)

level_below : (r t n : ℕ) → 0 < n → r / n ≡ t → r < n * t + n
level_below r t n some e = rw (sym e) (rw (mul_comm n (r / n)) (lt-div-mul-add some))

level_at : (t n i : ℕ) → i < n → (n * t + i) / n ≡ t
level_at t n i h = mul-add-div (omega arith) t i ∙ ap (λ (k : ℕ). t + k) (div-eq_of_lt h) ∙ add-zero t

module _ (entries : List (Option Answer)) (low high i : ℕ) (order : low ≤ high) (short : high ≤ length entries)
    (first : IsFirst entry_before (take (high - low) (drop low entries)) i) where
  fits : low + i < high
  fits = omega (arith, first.within, length-between entries low high short)

  at : (m : ℕ) → low ≤ m → m < high → get_or (take (high - low) (drop low entries)) (m - low) None ≡ get_or entries m None
  at m from below = get_or-between entries low high (m - low) None (omega arith) ∙ ap (λ (k : ℕ). get_or entries k None) (omega arith)

  here : get_or (take (high - low) (drop low entries)) i None ≡ get_or entries (low + i) None
  here = get_or-between entries low high i None fits

  not_before : (e : RankEntry) → FilledBetween entries low high e → entry_before (Some e.answer) (get_or entries (low + i) None) ≡ false
  not_before e f =
      ap₂ entry_before (sym (at e.rank f.from f.below ∙ f.holds)) (sym here)
      ∙ first.none_before (e.rank - low) None (omega (arith, f.from, f.below, length-between entries low high short))

  after : (e : RankEntry) → FilledBetween entries low high e → e.rank < low + i → entry_before (get_or entries (low + i) None) (Some e.answer) ≡ true
  after e f h =
      ap₂ entry_before (sym here) (sym (at e.rank f.from f.below ∙ f.holds))
      ∙ first.earliest (e.rank - low) None (omega (arith, f.from))

  -- the rank of the first entry, if that is filled, is the first rank
  pub rank_first : (o : Option Answer) → get_or (take (high - low) (drop low entries)) i None ≡ o
      → FirstAmong rank_before (FilledBetween entries low high) (option_map (λ a. record { answer = a; rank = low + i }) o)
  rank_first None is = λ e f. true≢false (ap (entry_before (Some e.answer)) (sym (sym here ∙ is)) ∙ not_before e f)
  rank_first (Some a) is =
      let held : get_or entries (low + i) None ≡ Some a = sym here ∙ is in (
        record { from = omega arith; below = fits; holds = held },
        λ e f. or_from _ _ (ap (entry_before (Some e.answer)) (sym held) ∙ not_before e f) (⊎_elim
            (λ h. and_left _ _ (not_from_true _ (ap (λ (x : Option Answer). entry_before x (Some e.answer)) (sym held) ∙ after e f h)))
            (λ h. and_right _ _ (le-ltb e.rank (low + i) h))
            (cases_lt e.rank (low + i))),
      )

-- the ranks of level t are those from n t up to n t + n
pub of_level : (f : Front) (t : ℕ) (e : RankEntry) → FilledBetween f.entries (f.directions * t) (f.directions * t + f.directions) e → FilledAt f t e
of_level f t e b =
    let n = f.directions in
    let i : ℕ = e.rank - n * t in
    let at : e.rank ≡ n * t + i = omega (arith, b.from) in
    record { of_level = ap (λ (k : ℕ). k / n) at ∙ level_at t n i (omega (arith, b.from, b.below)); holds = b.holds }

pub between : (f : Front) (t : ℕ) (e : RankEntry) → FilledAt f t e → FilledBetween f.entries (f.directions * t) (f.directions * t + f.directions) e
between f t e h = record { from = level_from _ _ _ h.of_level; below = level_below _ _ _ f.some h.of_level; holds = h.holds }

-- from level 19 on no rank is filled
pub none_past : (f : Front) (t : ℕ) → 19 ≤ t → (e : RankEntry) → FilledAt f t e → ⊥
none_past f t h e filled =
    let n = f.directions in
    let far : 19 * n ≤ e.rank = omega (arith, mul-le 19 n t n h (omega arith), mul_comm t n, level_from e.rank t n filled.of_level) in
    let empty = f.empty e.rank far in
    let held = filled.holds in
    let z : ◌≡◌ {A = ℕ} 0 1 = cc in omega arith
