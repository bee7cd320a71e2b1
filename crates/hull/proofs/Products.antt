-- Products of a whole number and a natural one, and what a slope p / q compares.
use Rattle.std.specs.Prelude.{◌≡◌, ℕ, suc, ◌+◌, ◌-◌, ◌*◌, ◌<◌, ◌≤◌, Bool, true, false, ◌⊎◌, ℤ, pos, negsuc, ◌+ℤ◌, ◌-ℤ◌, ◌*ℤ◌, neg_ℤ, ◌≤ℤ◌, ◌<ℤ◌, Decides, FitsSigned, int_le, unsigned_abs, refl}
use Rattle.std.proofs.Common.{sym, ap, ap₂, ◌∙◌, subst, inl, inr, mul-add, add-mul, mul_assoc, mul_comm, mul-pos, mul_right_comm, mul-le-mul_left, mul-le-mul_right, le-mul_of_pos_right, arith}
use Rattle.std.proofs.Math.Nat.{le_of_mul-le-mul_left}
use borrow.Author.Differences.{up, down}
use Rattle.std.specs.Int.{w64}
use Rattle.std.proofs.lemmas.Nat.{mul-le}
use Rattle.std.proofs.lemmas.Int.{ints}
use Rattle.std.proofs.lemmas.Bool.{cases_lt, false≢true}

cross_ℕ : (p q e h a b c d : ℕ) → 0 < q → q * a ≤ q * b + p * h → p * e + q * d ≤ q * c → a * e + d * h ≤ c * h + b * e
cross_ℕ p q e h a b c d some pass bound =
    let l : q * a * e ≤ (q * b + p * h) * e = mul-le-mul_right e pass in
    let l' : (q * b + p * h) * e ≡ q * b * e + p * h * e = add-mul (q * b) (p * h) e in
    let r : (p * e + q * d) * h ≤ q * c * h = mul-le-mul_right h bound in
    let r' : (p * e + q * d) * h ≡ p * e * h + q * d * h = add-mul (p * e) (q * d) h in
    let m : p * h * e ≡ p * e * h = mul_right_comm p h e in
    let sum : q * a * e + q * d * h ≤ q * c * h + q * b * e = omega arith in
    let lhs : q * (a * e + d * h) ≡ q * a * e + q * d * h = mul-add q (a * e) (d * h) ∙ ap₂ (λ (x y : ℕ). x + y) (sym (mul_assoc q a e)) (sym (mul_assoc q d h)) in
    let rhs : q * (c * h + b * e) ≡ q * c * h + q * b * e = mul-add q (c * h) (b * e) ∙ ap₂ (λ (x y : ℕ). x + y) (sym (mul_assoc q c h)) (sym (mul_assoc q b e)) in
    let le : q * (a * e + d * h) ≤ q * (c * h + b * e) = omega arith in
    le_of_mul-le-mul_left le some

-- where y rises over e at least as fast as the slope, and x drops over h at most as fast, x over h is no steeper than y over e
pub cross : (p q e h : ℕ) (x y : ℤ) → 0 < q → (pos q *ℤ x) ≤ℤ pos (p * h) → pos (p * e) ≤ℤ (pos q *ℤ y) → (x *ℤ pos e) ≤ℤ (y *ℤ pos h)
cross p q e h x y some pass bound =
    let a : q * up x ≤ q * down x + p * h = omega (arith, ints) in
    let b : p * e + q * down y ≤ q * up y = omega (arith, ints) in
    let k = cross_ℕ p q e h (up x) (down x) (up y) (down y) some a b in
    omega (arith, ints, k)

scale_sub : (q : ℕ) (a b : ℤ) → pos q *ℤ (a -ℤ b) ≡ pos q *ℤ a -ℤ pos q *ℤ b
scale_sub q a b =
    let e : up (a -ℤ b) + (down a + up b) ≡ down (a -ℤ b) + (up a + down b) = omega (arith, ints) in
    let m = ap (λ (n : ℕ). q * n) e in
    omega (arith, ints, m, mul-add q (up (a -ℤ b)) (down a + up b), mul-add q (down a) (up b), mul-add q (down (a -ℤ b)) (up a + down b), mul-add q (up a) (down b))

split : (p m n : ℕ) → n ≤ m → p * m ≡ p * (m - n) + p * n
split p m n l = let e : m ≡ (m - n) + n = omega arith in ap (λ (k : ℕ). p * k) e ∙ mul-add p (m - n) n

-- the two sides of a slope, over a fall in size and over a rise
module _ (p q dj : ℕ) (a : ℤ) where
  pub fall_in : (ds : ℕ) (b : ℤ) → ds ≤ dj → (pos q *ℤ (a -ℤ b)) ≤ℤ pos (p * (dj - ds)) → (pos q *ℤ a -ℤ pos (p * dj)) ≤ℤ (pos q *ℤ b -ℤ pos (p * ds))
  fall_in ds b l h = let m = split p dj ds l in let k = scale_sub q a b in omega (arith, ints)

  pub fall_out : (ds : ℕ) (b : ℤ) → ds ≤ dj → (pos q *ℤ a -ℤ pos (p * dj)) ≤ℤ (pos q *ℤ b -ℤ pos (p * ds)) → (pos q *ℤ (a -ℤ b)) ≤ℤ pos (p * (dj - ds))
  fall_out ds b l h = let m = split p dj ds l in let k = scale_sub q a b in omega (arith, ints)

  pub rise_in : (di : ℕ) (b : ℤ) → dj ≤ di → pos (p * (di - dj)) ≤ℤ (pos q *ℤ (b -ℤ a)) → (pos q *ℤ a -ℤ pos (p * dj)) ≤ℤ (pos q *ℤ b -ℤ pos (p * di))
  rise_in di b l h = let m = split p di dj l in let k = scale_sub q b a in omega (arith, ints)

  pub rise_out : (di : ℕ) (b : ℤ) → dj ≤ di → (pos q *ℤ a -ℤ pos (p * dj)) ≤ℤ (pos q *ℤ b -ℤ pos (p * di)) → pos (p * (di - dj)) ≤ℤ (pos q *ℤ (b -ℤ a))
  rise_out di b l h = let m = split p di dj l in let k = scale_sub q b a in omega (arith, ints)

  -- the same against the least reading less the margin
  pub under_in : (f g : ℤ) → (pos q *ℤ (a -ℤ f +ℤ g)) ≤ℤ pos (p * dj) → (pos q *ℤ a -ℤ pos (p * dj)) ≤ℤ (pos q *ℤ (f -ℤ g))
  under_in f g h =
      let same : a -ℤ f +ℤ g ≡ a -ℤ (f -ℤ g) = omega (arith, ints) in
      let k = scale_sub q a (f -ℤ g) in
      let h' = rw same at h in
      omega (arith, ints, h')

  pub under_out : (f g : ℤ) → (pos q *ℤ a -ℤ pos (p * dj)) ≤ℤ (pos q *ℤ (f -ℤ g)) → (pos q *ℤ (a -ℤ f +ℤ g)) ≤ℤ pos (p * dj)
  under_out f g h =
      let same : a -ℤ f +ℤ g ≡ a -ℤ (f -ℤ g) = omega (arith, ints) in
      let k = scale_sub q a (f -ℤ g) in
      rw same (omega (arith, ints))

-- a rise of a positive slope over a positive length is a rise
pub rise_less : (p q e : ℕ) (a b : ℤ) → 0 < p → 0 < e → pos (p * e) ≤ℤ (pos q *ℤ (b -ℤ a)) → a <ℤ b
rise_less p q e a b hp he h = go (cases_lt (up a + down b) (up b + down a))
  where
    go : ((up a + down b) < (up b + down a)) ⊎ ((up b + down a) ≤ (up a + down b)) → a <ℤ b
    go (inl l) = omega (arith, ints)
    go (inr g) =
        let some : 0 < p * e = mul-pos hp he in
        let m : q * up (b -ℤ a) ≤ q * down (b -ℤ a) = mul-le-mul_left q (omega (arith, ints)) in
        absurd (omega (arith, ints))

-- a drop is no more than its absolute value over any length
pub steep : (p h : ℕ) (x : ℤ) → 0 < h → unsigned_abs x ≤ p → (pos 1 *ℤ x) ≤ℤ pos (p * h)
steep p h x some l = let k : p ≤ p * h = le-mul_of_pos_right p some in omega (arith, ints)

pub gap : (a b : ℤ) → a <ℤ b → pos (unsigned_abs (b -ℤ a)) ≡ b -ℤ a
gap a b h = omega (arith, ints)

pub gap_some : (a b : ℤ) → a <ℤ b → 0 < unsigned_abs (b -ℤ a)
gap_some a b h = omega (arith, ints)

-- the same products in another order
pub turn : (q h p : ℕ) (x y : ℤ) → pos p ≡ y → (x *ℤ pos q) ≤ℤ (y *ℤ pos h) → (pos q *ℤ x) ≤ℤ pos (p * h)
turn q h p x y e l = let k = subst (λ (z : ℤ). (x *ℤ pos q) ≤ℤ (z *ℤ pos h)) (sym e) l in omega (arith, ints, k)

pub turn_left : (q h p : ℕ) (x y : ℤ) → pos p ≡ y → (x *ℤ pos q) ≤ℤ (pos h *ℤ y) → (pos q *ℤ x) ≤ℤ pos (p * h)
turn_left q h p x y e l = let k = subst (λ (z : ℤ). (x *ℤ pos q) ≤ℤ (pos h *ℤ z)) (sym e) l in omega (arith, ints, k)

pub turn_up : (p q e r : ℕ) (y : ℤ) → pos r ≡ y → p * e ≤ r * q → pos (p * e) ≤ℤ (pos q *ℤ y)
turn_up p q e r y s l = let k : pos (p * e) ≤ℤ (pos q *ℤ pos r) = omega (arith, ints, mul_comm r q) in subst (λ (z : ℤ). pos (p * e) ≤ℤ (pos q *ℤ z)) s k

pub flip : (h : ℕ) (x y : ℤ) (e : ℕ) → (x *ℤ pos e) ≤ℤ (y *ℤ pos h) → (x *ℤ pos e) ≤ℤ (pos h *ℤ y)
flip h x y e l = omega (arith, ints)

flip_back : (h : ℕ) (x y : ℤ) (e : ℕ) → (x *ℤ pos e) ≤ℤ (pos h *ℤ y) → (x *ℤ pos e) ≤ℤ (y *ℤ pos h)
flip_back h x y e l = omega (arith, ints)

-- a comparison of products decides the order of what they are of
pub decides_at_most : (b : Bool) (x y z w x' y' z' w' : ℤ) → b ≡ int_le (x' *ℤ w') (z' *ℤ y') → x' ≡ x → y' ≡ y → z' ≡ z → w' ≡ w → Decides b ((x *ℤ w) ≤ℤ (z *ℤ y))
decides_at_most b x y z w x' y' z' w' e p q r s =
    let same : int_le (x' *ℤ w') (z' *ℤ y') ≡ int_le (x *ℤ w) (z *ℤ y) = cc in
    test b (x *ℤ w) (z *ℤ y) (e ∙ same)
  where
    test : (b : Bool) (u v : ℤ) → b ≡ int_le u v → Decides b (u ≤ℤ v)
    test true u v e = (λ _. omega (arith, ints), λ _. refl)
    test false u v e = (λ h. absurd (false≢true h), λ h. absurd (omega (arith, ints)))

pub decides_enough : (b : Bool) (x z : ℤ) (h w : ℕ) (x' y' z' w' : ℤ) → b ≡ int_le (x' *ℤ w') (z' *ℤ y') → x' ≡ x → y' ≡ pos h → z' ≡ z → w' ≡ pos w → Decides b ((x *ℤ pos w) ≤ℤ (pos h *ℤ z))
decides_enough b x z h w x' y' z' w' e p q r s =
    let d = decides_at_most b x (pos h) z (pos w) x' y' z' w' e p q r s in
    (λ t. flip h x z w (d.0 t), λ l. d.1 (flip_back h x z w l))

-- a product of two bounded numbers is bounded
pub product_le : (a b : ℕ) (x : ℤ) (k : ℕ) → unsigned_abs x ≤ a → k ≤ b → unsigned_abs (x *ℤ pos k) ≤ a * b
product_le a b (pos n) k h l = let m : n * k ≤ a * b = mul-le n k a b h l in omega (arith, ints)
product_le a b (negsuc n) k h l = let m : suc n * k ≤ a * b = mul-le (suc n) k a b h l in omega (arith, ints)

as_pos : (y : ℤ) → pos 0 ≤ℤ y → pos (unsigned_abs y) ≡ y
as_pos y h = omega (arith, ints)

-- a product that is compared fits 64 bits
pub compared_fits : (x y : ℤ) → neg_ℤ (pos 3000000001) ≤ℤ x → x ≤ℤ pos 3000000001 → pos 0 ≤ℤ y → y ≤ℤ pos 1162261467 → FitsSigned w64 (x *ℤ y)
compared_fits x y low high some most =
    let m = product_le 3000000001 1162261467 x (unsigned_abs y) (omega (arith, ints)) (omega (arith, ints)) in
    let f : FitsSigned w64 (x *ℤ pos (unsigned_abs y)) = omega (arith, ints) in
    subst (λ (z : ℤ). FitsSigned w64 (x *ℤ z)) (as_pos y some) f

-- a number of such a slope fits 64 bits
pub compared_number : (x : ℤ) → neg_ℤ (pos 3000000001) ≤ℤ x → x ≤ℤ pos 3000000001 → FitsSigned w64 x
compared_number x low high = omega (arith, ints)
