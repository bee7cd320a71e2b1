-- The gathered long sides, arranged.
use Rattle.std.proofs.Common.{◌≡◌, ℕ, ◌-◌, ◌%◌, ◌<◌, ◌≤◌, List, ◌++◌, length, get_or, take, sym, ap, ◌∙◌, subst, arith}
use Rattle.std.specs.List.Sorted.{IsPermutation}
use Rattle.std.specs.List.{ContainsAt as Has}
use Rattle.std.proofs.lemmas.List.{get_or_default, get_or-take, take_at, length-take-le}
use Rattle.std.proofs.lemmas.List.Sorted.{length_permutation, IsPermutation-sym}
use Rattle.std.proofs.ByRecursion.{has_shuffled}
use Rattle.order.specs.First.{InOrder}
use Rattle.table.specs.declared.rows.Row.{Row}
use Rattle.table.specs.Rows.{row_at}
use Rattle.table.specs.Boxes.{Long}
use Rattle.search.specs.declared.sides.LongSide.{LongSide}
use Rattle.search.specs.Points.{longs_below}
use Rattle.search.specs.Cutting.{side_before, Taking, side_at, side_for, Gathered, InCutOrder}
use Rattle.search.proofs.Longs.{many, at_place, place_below}
use Rattle.search.proofs.Shuffles.{Different, different_shuffled}

module _ (n r : ℕ) (table : List Row) (j base : ℕ) (t : Taking n r table j base) (sides : List LongSide) (g : Gathered n table j base sides) where
  short : n - r % n ≤ length sides
  short = let z = t.six in omega (arith, g.size)

  size : length (take (n - r % n) sides) ≡ n - r % n
  size = length-take-le (n - r % n) sides short ∙ omega arith

  at : (d : ℕ) → Long n (row_at table j) d → (x : LongSide) → get_or (take (n - r % n) sides) (longs_below n (row_at table j) d) x ≡ side_for n table j base d
  at d l x =
      let b : longs_below n (row_at table j) d < n - r % n = omega (arith, many n r table j base t, place_below n (row_at table j) t.some n d l.direction l) in
      get_or-take (n - r % n) sides (longs_below n (row_at table j) d) x (omega arith)
      ∙ get_or_default sides (longs_below n (row_at table j) d) x _ (omega (arith, short)) ∙ g.placed d l

  place : (k : ℕ) → k < length (take (n - r % n) sides) → (d : ℕ) × Long n (row_at table j) d × (longs_below n (row_at table j) d ≡ k)
  place k l = at_place n (row_at table j) t.some n k (omega arith) (omega (arith, many n r table j base t, size))

  here : (k : ℕ) → k < length (take (n - r % n) sides) → (x : LongSide) → (d : ℕ) × Long n (row_at table j) d × (longs_below n (row_at table j) d ≡ k) × (get_or (take (n - r % n) sides) k x ≡ side_for n table j base d)
  here k l x =
      let p = place k l in
      (p.0, p.1, p.2, ap (λ (i : ℕ). get_or (take (n - r % n) sides) i x) (sym p.2) ∙ at p.0 p.1 x)

  different : Different (λ (s : LongSide). s.direction.number) (take (n - r % n) sides)
  different a b x ne ha hb e =
      let p = here a ha x in let q = here b hb x in
      let same_direction : p.0 ≡ q.0 = ap (λ (s : LongSide). s.direction.number) (sym p.3) ∙ e ∙ ap (λ (s : LongSide). s.direction.number) q.3 in
      ne (sym p.2 ∙ ap (longs_below n (row_at table j)) same_direction ∙ q.2)

  has_all : (d : ℕ) → Long n (row_at table j) d → Has (take (n - r % n) sides) (side_for n table j base d)
  has_all d l = (
    longs_below n (row_at table j) d,
    omega (arith, size, many n r table j base t, place_below n (row_at table j) t.some n d l.direction l),
    at d l,
  )

  module _ (xs : List LongSide) (s : IsPermutation (take (n - r % n) sides) xs) (up : InOrder side_before xs) where
    in_order : InCutOrder n table j base xs
    in_order = record {
      each = λ k l.
          let h = has_shuffled xs (take (n - r % n) sides) (side_at xs k) (IsPermutation-sym _ _ s) (k, l, λ x. get_or_default xs k x _ l) in
          let p = here h.0 h.1 (side_at xs k) in
          (p.0, p.1, sym (h.2 (side_at xs k)) ∙ p.3);
      all = λ d l. let h = has_shuffled (take (n - r % n) sides) xs (side_for n table j base d) s (has_all d l) in (h.0, h.1, h.2 _);
      distinct = λ i k ne hi hk. different_shuffled (λ (z : LongSide). z.direction.number) _ _ s different i k _ ne hi hk;
      rising = λ i k h l. up i k _ h l;
    }

    pub taken_order : (rest : List LongSide) → InCutOrder n table j base (take (n - r % n) (xs ++ rest))
    taken_order rest = subst (InCutOrder n table j base) (sym (take_at xs rest (n - r % n) (length_permutation _ _ s ∙ size))) in_order
