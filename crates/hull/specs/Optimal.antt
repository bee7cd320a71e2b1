-- Which ranks the hull chooses: by slopes, and by whole numbers.
use Rattle.std.specs.Prelude.{ℕ, ◌-◌, ◌*◌, ◌<◌, ◌≤◌, pos, ◌+ℤ◌, ◌-ℤ◌, ◌*ℤ◌, ◌≤ℤ◌, ◌<ℤ◌, Some, unsigned_abs}
use Rattle.order.specs.declared.answer.Answer.{Answer}
use Rattle.policy.specs.Levels.{level, FirstOfLevel}
use Rattle.policy.specs.declared.front.Front.{Front}
use Rattle.hull.specs.Values.{least, margin, size, value}

-- rank r is the one taken for its level: of the filled ranks of the level its answer goes first, the lower rank on a tie
abbrev pub Taken : Front → ℕ → Type 0
Taken f r = (a : Answer) × FirstOfLevel f (level f r) (Some (record { answer = a; rank = r }))

-- a slope p / q makes rank j potentially optimal; both sides are multiplied by q
pub record Optimal (e : ℕ) (f : Front) (j p q : ℕ) : Type 0 where
  pub rising : 0 < p
  pub whole : 0 < q
  pub under : (pos q *ℤ value f j -ℤ pos (p * size f j)) ≤ℤ (pos q *ℤ (least f -ℤ margin e f))
  pub best : (s : ℕ) → Taken f s → (pos q *ℤ value f j -ℤ pos (p * size f j)) ≤ℤ (pos q *ℤ value f s -ℤ pos (p * size f s))

-- rank j is taken, and some slope makes it potentially optimal
abbrev pub BySlope : ℕ → Front → ℕ → Type 0
BySlope e f j = Taken f j × ((p : ℕ) × (q : ℕ) × Optimal e f j p q)

-- the drop from j to the smaller size s is no steeper than the rise to i
abbrev pub Chord : Front → ℕ → ℕ → ℕ → Type 0
Chord f j i s =
    level f j < level f s → ((value f j -ℤ value f s) *ℤ pos (size f i - size f j)) ≤ℤ ((value f i -ℤ value f j) *ℤ pos (size f j - size f s))

-- what the larger size i asks of j
pub record Yields (e : ℕ) (f : Front) (j i : ℕ) : Type 0 where
  pub less : value f j <ℤ value f i
  pub smaller : (s : ℕ) → Taken f s → Chord f j i s
  pub enough : ((value f j -ℤ least f +ℤ margin e f) *ℤ pos (size f i - size f j)) ≤ℤ (pos (size f j) *ℤ (value f i -ℤ value f j))

-- the rank j is taken, and every larger size agrees
pub record Chosen (e : ℕ) (f : Front) (j : ℕ) : Type 0 where
  pub taken : Taken f j
  pub yields : (i : ℕ) → Taken f i → level f i < level f j → Yields e f j i

-- no product that is compared passes 3.5 · 10^18
pub record ProductsFit (e : ℕ) (f : Front) : Type 0 where
  pub chords : (a b c d : ℕ) → unsigned_abs ((value f a -ℤ value f b) *ℤ pos (size f c - size f d)) ≤ 3500000000000000000
  pub margins : (j i k : ℕ) → unsigned_abs ((value f j -ℤ least f +ℤ margin e f) *ℤ pos (size f i - size f k)) ≤ 3500000000000000000
  pub sizes : (j i k : ℕ) → unsigned_abs (pos (size f j) *ℤ (value f i -ℤ value f k)) ≤ 3500000000000000000
