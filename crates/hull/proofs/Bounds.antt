-- The ranges of the values, the sizes and the margin, and of their products.
use Rattle.std.proofs.Common.{◌≡◌, ℕ, ◌-◌, ◌*◌, ◌≤◌, true, ◌&&◌, ℤ, pos, ◌+ℤ◌, ◌-ℤ◌, ◌*ℤ◌, neg_ℤ, nat_abs, ◌≤ℤ◌, Some, None, Option, subst, arith}
use lib.IntN.{*ℤ_comm}
use lib.Signed.{le_z}
use Rattle.std.proofs.lemmas.Nat.{mul-le}
use Rattle.std.proofs.lemmas.Int.{ints}
use Rattle.std.proofs.lemmas.Bool.{and_parts, false≢true}
use Rattle.grid.proofs.Lengths.{cells_at_le}
use Rattle.order.specs.Answers.{in_range}
use Rattle.order.specs.declared.answer.Answer.{Answer}
use Rattle.order.specs.declared.answer.Answer.TheVariants.{Reading, NotFeasible}
use Rattle.policy.specs.Fronts.{ends_fit, entry_fits}
use Rattle.policy.specs.Levels.{entry, level}
use Rattle.policy.specs.declared.front.Front.{Front}
use Rattle.hull.specs.Optimal.{ProductsFit}
use Rattle.hull.specs.Values.{least, least_in, margin, size, value, value_in}
use Rattle.hull.proofs.Products.{product_le}

abbrev Between : ℤ → ℤ → ℤ → Type 0
Between a b x = (a ≤ℤ x) × (x ≤ℤ b)

reading_range : (x : ℤ) → in_range x ≡ true → Between (neg_ℤ (pos 1000000000)) (pos 1000000000) x
reading_range x h =
    let both = and_parts (le_z (neg_ℤ (pos 1000000000)) x) (le_z x (pos 1000000000)) h in
    (omega (arith, ints, both.0), omega (arith, ints, both.1))

ends_parts : (a b : ℤ) → ends_fit (Some (a, b)) ≡ true → (in_range a ≡ true) × (in_range b ≡ true)
ends_parts a b h =
    let both = and_parts (in_range a) (in_range b && le_z a b) h in
    (both.0, (and_parts (in_range b) (le_z a b) both.1).0)

value_range_in : (ends : Option (ℤ × ℤ)) (o : Option Answer) → ends_fit ends ≡ true → entry_fits ends o ≡ true → Between (neg_ℤ (pos 1000000000)) (pos 1000000001) (value_in ends o)
value_range_in ends None h l = (omega (arith, ints), omega (arith, ints))
value_range_in None (Some NotFeasible) h l = (omega (arith, ints), omega (arith, ints))
value_range_in None (Some (Reading x)) h l = absurd (false≢true l)
value_range_in (Some ends) (Some NotFeasible) h l =
    let top = reading_range ends.1 (ends_parts ends.0 ends.1 h).1 in
    (omega (arith, ints, top.0), omega (arith, ints, top.1))
value_range_in (Some ends) (Some (Reading x)) h l =
    let both = ends_parts ends.0 ends.1 h in
    let here = and_parts (le_z ends.0 x) (le_z x ends.1) l in
    let low = reading_range ends.0 both.0 in
    let top = reading_range ends.1 both.1 in
    (omega (arith, ints, low.0, here.0), omega (arith, ints, top.1, here.1))

pub value_range : (f : Front) (r : ℕ) → (neg_ℤ (pos 1000000000) ≤ℤ value f r) × (value f r ≤ℤ pos 1000000001)
unfolding value
value_range f r = value_range_in f.readings (entry f r) f.ends (f.fits r)

least_range_in : (ends : Option (ℤ × ℤ)) → ends_fit ends ≡ true → Between (neg_ℤ (pos 1000000000)) (pos 1000000000) (least_in ends)
least_range_in None h = (omega (arith, ints), omega (arith, ints))
least_range_in (Some ends) h = reading_range ends.0 (ends_parts ends.0 ends.1 h).0

pub least_range : (f : Front) → (neg_ℤ (pos 1000000000) ≤ℤ least f) × (least f ≤ℤ pos 1000000000)
least_range f = least_range_in f.readings f.ends

pub size_most : (f : Front) (r : ℕ) → size f r ≤ 1162261467
unfolding size
size_most f r = cells_at_le (level f r)

pub margin_most : (e : ℕ) (f : Front) → e ≤ 10000 → margin e f ≤ℤ pos 1000000000
unfolding margin
margin_most e f h =
    let a : ℕ = nat_abs (least f) in
    let range = least_range f in
    let m = mul-le a e 1000000000 10000 (omega (arith, ints, range.0, range.1)) h in
    omega (arith, ints, m)

margin_least : (e : ℕ) (f : Front) → pos 0 ≤ℤ margin e f
unfolding margin
margin_least e f = omega (arith, ints)

-- no product that is compared passes 3.5 · 10^18
pub products_fit : (e : ℕ) (f : Front) → e ≤ 10000 → ProductsFit e f
products_fit e f h = record {
  chords = λ a b c d. rise a b (size f c - size f d) (run c d);
  margins = λ j i k.
      let v = value_range f j in let m = least_range f in
      le (product_le 3000000001 1162261467 (value f j -ℤ least f +ℤ margin e f) (size f i - size f k)
      (omega (arith, ints, v.0, v.1, m.0, m.1, margin_least e f, margin_most e f h)) (run i k));
  sizes = λ j i k. subst (λ (z : ℤ). nat_abs z ≤ 3500000000000000000) (*ℤ_comm (value f i -ℤ value f k) (pos (size f j))) (rise i k (size f j) (size_most f j));
}
  where
    le : {n : ℕ} → n ≤ 3000000001 * 1162261467 → n ≤ 3500000000000000000
    le {n} l = omega arith

    run : (a b : ℕ) → size f a - size f b ≤ 1162261467
    run a b = omega (arith, size_most f a)

    rise : (a b k : ℕ) → k ≤ 1162261467 → nat_abs ((value f a -ℤ value f b) *ℤ pos k) ≤ 3500000000000000000
    rise a b k l =
        let v = value_range f a in let w = value_range f b in
        le (product_le 3000000001 1162261467 (value f a -ℤ value f b) k (omega (arith, ints, v.0, v.1, w.0, w.1)) l)
