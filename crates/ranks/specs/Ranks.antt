-- Sets of ranks, and what the bits of a rank set say.
use Rattle.std.specs.Prelude.{◌≡◌, ℕ, zero, suc, ◌+◌, ◌*◌, ◌/◌, ◌%◌, ◌^◌, ◌<◌, Bool, true, false, cond, not, ◌&&◌, ◌||◌, ◌==◌, nat_eq, nat_lt}
use Rattle.std.specs.Ordering.{on, eq_of_both}
use Rattle.ranks.specs.declared.rank_set.RankSet.{RankSet}

-- a set of ranks
abbrev pub Ranks : Type 0
Ranks = ℕ → Bool

-- the digit k of n in base two
unfoldable pub bit : ℕ → ℕ → Bool
bit n k = n / 2 ^ k % 2 == 1

-- the two words as one number
abbrev pub word : RankSet → ℕ
word s = s.high * 2 ^ 64 + s.low

-- the set that the bits stand for
unfoldable pub ranks : RankSet → Ranks
ranks s = bit (word s)

-- whether two sets have the same words
abbrev pub words_equal : RankSet → RankSet → Bool
words_equal = eq_of_both (on (λ s. s.low) nat_eq) (on (λ s. s.high) nat_eq)

-- the empty set
abbrev pub none : Ranks
none k = false

-- p and the rank r
abbrev pub with : Ranks → ℕ → Ranks
with p r k = p k || k == r

-- p without the rank r
abbrev pub without : Ranks → ℕ → Ranks
without p r k = p k && not (k == r)

-- how many ranks below n are in p
unfoldable pub count_below : Ranks → ℕ → ℕ
count_below p zero = 0
count_below p (suc n) = count_below p n + cond (p n) 1 0

-- how many ranks are in p
unfoldable pub size : Ranks → ℕ
size p = count_below p 114

-- r is the lowest rank in p
pub record Lowest (p : Ranks) (r : ℕ) : Type 0 where
  pub has : p r ≡ true
  pub least : (k : ℕ) → k < r → p k ≡ false

-- the m lowest ranks of p, or all if there are fewer
abbrev pub lowest_of : ℕ → Ranks → Ranks
lowest_of m p k = p k && nat_lt (count_below p k) m
