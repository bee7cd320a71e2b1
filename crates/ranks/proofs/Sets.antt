-- Rank sets and the ranks in them.
use Rattle.std.proofs.Common.{Decides, nat_eq, ◌≡◌, ℕ, ◌^◌, ◌<◌, ◌≤◌, true, false, ◌⊎◌, ap, inl, inr, arith}
use mathlib.Core.HLevel.{is_prop→PathP}
use native.Mathlib.Bridge.{le_prop}
use Rattle.std.proofs.lemmas.Bool.{cases_lt, both_ways, and_parts, eqb-true, eq-eqb}
use Rattle.std.specs.Cmp.Derive.{both_true}
use Rattle.ranks.specs.declared.rank_set.RankSet.{RankSet}
use Rattle.ranks.specs.Ranks.{ranks, word, words_equal}
use Rattle.ranks.proofs.Digits.{bit_past, same_digits}

word_bound : (s : RankSet) → word s < 2 ^ 114
word_bound s = let low = s.whole in let high = s.short in omega arith

-- no number from 114 on is in a set
pub past : (s : RankSet) (k : ℕ) → 114 ≤ k → ranks s k ≡ false
unfolding ranks
past s k h = bit_past 114 (word s) k (word_bound s) h

pub member_bound : (s : RankSet) (k : ℕ) → ranks s k ≡ true → k < 114
member_bound s k t = go (cases_lt k 114)
  where
    go : (k < 114) ⊎ (114 ≤ k) → k < 114
    go (inl l) = l
    go (inr g) = absurd (both_ways (ranks s k) (past s k g) t)

pub same_fields : (a b : RankSet) → a.low ≡ b.low → a.high ≡ b.high → a ≡ b
same_fields a b low high = λ i. record {
  low = low i;
  high = high i;
  whole = is_prop→PathP (λ j. low j < 2 ^ 64) (λ _. le_prop) a.whole b.whole i;
  short = is_prop→PathP (λ j. high j < 2 ^ 50) (λ _. le_prop) a.short b.short i;
}

-- sets with the same ranks below 114 are the same words
pub same_members : (a b : RankSet) → ((k : ℕ) → k < 114 → ranks a k ≡ ranks b k) → a ≡ b
unfolding ranks
same_members a b h =
    let words : word a ≡ word b = same_digits 114 (word a) (word b) (word_bound a) (word_bound b) h in
    let low_a = a.whole in
    let low_b = b.whole in
    same_fields a b (omega arith) (omega arith)

pub same_words : (a b : RankSet) → ranks a ≡ ranks b → a ≡ b
same_words a b e = same_members a b (λ k _. ap (λ p. p k) e)

-- `==` of two sets is true exactly where they have the same ranks
pub words_equal-Decides : (s t : RankSet) → Decides (words_equal s t) (ranks s ≡ ranks t)
words_equal-Decides s t = (
  λ e. let both = and_parts (nat_eq s.low t.low) (nat_eq s.high t.high) e in ap ranks (same_fields s t (eqb-true s.low t.low both.0) (eqb-true s.high t.high both.1)),
  λ e. let one = same_words s t e in both_true (eq-eqb s.low t.low (ap (λ x. x.low) one)) (eq-eqb s.high t.high (ap (λ x. x.high) one)),
)
