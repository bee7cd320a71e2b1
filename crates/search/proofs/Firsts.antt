-- The boxes of a table: the first of a rank, and tables that have the same boxes.
use Rattle.std.proofs.lemmas.Grind.{common_steps}
use Rattle.std.proofs.Common.{◌≡◌, ℕ, ◌/◌, ◌<◌, ◌≤◌, Bool, false, T, eqb, List, length, Some, None, Option, sym, refl, ap, ◌∙◌, subst, inl, inr, mul_comm, div-lt_iff_lt-mul, arith, eqb→eq}
use lib.Dec.{eqb_refl}
use Rattle.std.proofs.lemmas.Bool.{true≢false}
use Rattle.order.specs.Records.{candidate_before}
use Rattle.order.specs.declared.answer.Answer.{Answer}
use Rattle.order.specs.declared.records.Candidate.{Candidate}
use Rattle.order.proofs.Among.{first_among_same}
use Rattle.table.specs.Boxes.{First, FirstOfRank, IsBox, OfRank, Offered, Own}
use Rattle.table.specs.Entries.{answer_of, before, none_shown, or_last, shown_by}
use Rattle.table.specs.Rows.{rank, row_at}
use Rattle.table.specs.declared.rows.Row.{Row}
use Rattle.table.proofs.Chains.{Leader, Strict, leader}
use Rattle.table.proofs.OneFront.{first_one}
use Rattle.table.proofs.Orders.{by_answer}

-- a box that can be cut has a level below the finest
pub box_level : (n finest boxes : ℕ) (table : List Row) (r j : ℕ) → 1 ≤ n → OfRank n finest boxes table r j → rank n (row_at table j) / n < finest
box_level n finest boxes table r j a h =
    (div-lt_iff_lt-mul {k = n} {x = rank n (row_at table j)} {y = finest} a).1 (omega (arith, h.ranked, h.unfinished, mul_comm n finest))

one_row : (a b : Candidate) → Some a ≡ Some b → a.row ≡ b.row
one_row a b h = let e : a ≡ b = cc in ap (λ (c : Candidate). c.row) e

pub one_answer : (o : Option Answer) (a b : Answer) → o ≡ Some a → o ≡ Some b → a ≡ b
one_answer o a b p q = cc

pub shown_is : (o : Option Answer) → none_shown o ≡ false → o ≡ Some (or_last o)
shown_is (Some a) h = refl
shown_is None h = absurd (true≢false h)

module _ (n finest boxes : ℕ) (table : List Row) (r : ℕ) where
  pub first_unique : (i j : ℕ) → First n finest boxes table r i → First n finest boxes table r j → i ≡ j
  first_unique i j f g = one_row _ _ (first_one n finest boxes table r _ _ f.1 g.1)

  module _ (own : Own n finest boxes table) where
    abbrev w : ℕ → Answer
    w j = answer_of (row_at table j).entry

    shows : (j : ℕ) → j < boxes → shown_by (row_at table j).entry ≡ Some (w j)
    shows j l = shown_is _ (own.each j l).answered

    order : Strict (λ i j. before (w i) i (w j) j)
    order = by_answer w

    -- row j is of the rank
    abbrev of_rank : ℕ → Bool
    of_rank j = eqb (rank n (row_at table j)) r

    is_ranked : (j : ℕ) → T (of_rank j) → rank n (row_at table j) ≡ r
    is_ranked j = eqb→eq (rank n (row_at table j)) r

    ranked_is : (j : ℕ) → rank n (row_at table j) ≡ r → T (of_rank j)
    ranked_is j e = subst (λ x. T (eqb (rank n (row_at table j)) x)) e (eqb_refl (rank n (row_at table j)))

    none_before : (j : ℕ) → Leader (λ i j. before (w i) i (w j) j) boxes of_rank j
        → (x : Candidate) → Offered n finest boxes table r x → candidate_before x (record { answer = w j; row = j }) ≡ false
    none_before j f x h = grind (arith, common_steps)

    -- where a box of the rank can be cut, one of them is the first
    pub some_first : (i : ℕ) → OfRank n finest boxes table r i → (j : ℕ) × First n finest boxes table r j
    some_first i o =
        elim (leader _ order boxes of_rank) [
          | inl none ↦ absurd (none i o.within (ranked_is i o.ranked))
          | inr f ↦ let j : ℕ = f.0 in
              (j, (w j, (record { box = record { within = f.1.within; ranked = is_ranked j f.1.holds; unfinished = o.unfinished }; answered = shows j f.1.within }, none_before j f.1)))
        ]

-- a table with the same rows below boxes
module _ (n finest boxes : ℕ) (table after : List Row) (rows : (j : ℕ) → j < boxes → row_at after j ≡ row_at table j) where
  pub own_same : boxes ≤ length after → Own n finest boxes table → Own n finest boxes after
  own_same room own = record { rows = room; each = λ j l. subst (IsBox n finest) (sym (rows j l)) (own.each j l) }

  pub box_same : (r j : ℕ) → OfRank n finest boxes table r j → OfRank n finest boxes after r j
  box_same r j o = record { within = o.within; ranked = ap (rank n) (rows j o.within) ∙ o.ranked; unfinished = o.unfinished }

  offered_same : (r : ℕ) (c : Candidate) → Offered n finest boxes table r c → Offered n finest boxes after r c
  offered_same r c o =
      record { box = box_same r c.row o.box; answered = ap (λ (x : Row). shown_by x.entry) (rows c.row o.box.within) ∙ o.answered }

module _ (n finest boxes : ℕ) (table after : List Row) (rows : (j : ℕ) → j < boxes → row_at after j ≡ row_at table j) where
  pub first_of_rank_same : (r : ℕ) (o : Option Candidate) → FirstOfRank n finest boxes table r o → FirstOfRank n finest boxes after r o
  first_of_rank_same r o =
      first_among_same candidate_before _ _ (offered_same n finest boxes table after rows r) (offered_same n finest boxes after table (λ i l. sym (rows i l)) r) o
