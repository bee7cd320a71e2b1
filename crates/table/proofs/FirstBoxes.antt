-- The first box of each rank, one box more.
use Rattle.std.proofs.lemmas.Grind.{common_steps}
use Rattle.std.proofs.Common.{◌≡◌, ℕ, ◌+◌, ◌*◌, ◌<◌, ◌≤◌, ◌⊎◌, List, length, get_or, set, Some, None, Option, sym, ap, ◌∙◌, subst, inl, inr, ⊎_elim, mul-le-mul, arith}
use Rattle.std.proofs.lemmas.Bool.{cases_eq}
use Rattle.std.proofs.lemmas.List.{get_or-set_same, get_or-set_other}
use Rattle.order.specs.First.{FirstAmong, HeldOr}
use Rattle.order.specs.Records.{candidate_before, candidate_key}
use Rattle.order.specs.declared.records.Candidate.{Candidate}
use Rattle.order.specs.declared.answer.Answer.{Answer}
use Rattle.order.proofs.Among.{first_among_same, first_among_more}
use Rattle.order.proofs.Numbers.{ranks_by_answer}
use Rattle.table.specs.declared.rows.Row.{Row}
use Rattle.table.specs.Entries.{shown_by}
use Rattle.table.specs.Rows.{rank, row_at}
use Rattle.table.specs.Boxes.{Offered, FirstOfRank}

pub rank_bound : (n finest r : ℕ) → n ≤ 6 → finest ≤ 19 → r < n * finest → r < 114
rank_bound n finest r a b h = omega (arith, mul-le-mul a b)

pub firsts_none : (n finest : ℕ) (table : List Row) (r : ℕ) (o : Option Candidate) → o ≡ None → FirstOfRank n finest 0 table r o
firsts_none n finest table r o e = rw e (λ x s. let h = s.box.within in omega arith)

same : (a b : Candidate) → a.row ≡ b.row → a.answer ≡ b.answer → a ≡ b
same a b p q = λ i. record { answer = q i; row = p i }

one_answer : (o : Option Answer) (a b : Answer) → Some a ≡ o → o ≡ Some b → a ≡ b
one_answer o a b p q = cc

module _ (n finest : ℕ) (table : List Row) (i : ℕ) where
  wider : (r : ℕ) (x : Candidate) → Offered n finest i table r x → Offered n finest (i + 1) table r x
  wider r x s = record { box = record { within = omega (arith, s.box.within); ranked = s.box.ranked; unfinished = s.box.unfinished }; answered = s.answered }

  more : (r : ℕ) (x : Candidate) → Offered n finest (i + 1) table r x → Offered n finest i table r x ⊎ (x.row ≡ i)
  more r x s = grind (arith, common_steps)

  -- row i is of another rank, or is finished, or has no answer
  pub firsts_other : (r : ℕ) (o : Option Candidate) → (rank n (row_at table i) ≡ r → r < n * finest → (a : Answer) → shown_by (row_at table i).entry ≡ Some a → ⊥) → FirstOfRank n finest i table r o → FirstOfRank n finest (i + 1) table r o
  firsts_other r o ne = first_among_same candidate_before (Offered n finest i table r) (Offered n finest (i + 1) table r)
      (wider r)
      (λ x s. ⊎_elim (λ p. p) (λ e. absurd (ne (ap (λ (k : ℕ). rank n (row_at table k)) (sym e) ∙ s.box.ranked) s.box.unfinished x.answer (ap (λ (k : ℕ). shown_by (row_at table k).entry) (sym e) ∙ s.answered))) (more r x s)) o

  -- row i is the box that new stands for
  firsts_more : (r : ℕ) (held : Option Candidate) (new c : Candidate) → rank n (row_at table i) ≡ r → r < n * finest → new.row ≡ i → shown_by (row_at table i).entry ≡ Some new.answer
      → FirstOfRank n finest i table r held → FirstAmong candidate_before (HeldOr held new) (Some c) → FirstOfRank n finest (i + 1) table r (Some c)
  firsts_more r held new c ranked cut at_i answer f g =
      first_among_more candidate_before (ranks_by_answer candidate_key) (Offered n finest i table r) (Offered n finest (i + 1) table r) new c
      (wider r)
      (record {
        box = record { within = omega arith; ranked = ap (λ (k : ℕ). rank n (row_at table k)) at_i ∙ ranked; unfinished = cut };
        answered = ap (λ (k : ℕ). shown_by (row_at table k).entry) at_i ∙ answer;
      })
      (λ x s. ⊎_elim inl (λ e. inr (same x new (e ∙ sym at_i) (one_answer _ _ _ (sym s.answered ∙ ap (λ (k : ℕ). shown_by (row_at table k).entry) e) answer))) (more r x s)) held f g

  -- the entry of the row's rank is written
  pub firsts_put : (firsts : List (Option Candidate)) (k : ℕ) (new c : Candidate) → k ≡ rank n (row_at table i) → k < n * finest → new.row ≡ i → shown_by (row_at table i).entry ≡ Some new.answer
      → k < length firsts → FirstAmong candidate_before (HeldOr (get_or firsts k None) new) (Some c)
      → (r : ℕ) → FirstOfRank n finest i table r (get_or firsts r None) → FirstOfRank n finest (i + 1) table r (get_or (set firsts k (Some c)) r None)
  firsts_put firsts k new c is cut at_i answer fits g r f = ⊎_elim
      (λ e. subst (λ (q : ℕ). FirstOfRank n finest i table q (get_or firsts q None) → FirstOfRank n finest (i + 1) table q (get_or (set firsts k (Some c)) q None)) e
      (λ held. rw (get_or-set_same firsts k (Some c) None fits) (firsts_more k (get_or firsts k None) new c (sym is) cut at_i answer held g)) f)
      (λ ne. rw (get_or-set_other firsts k r (Some c) None (λ p. ne (sym p))) (firsts_other r (get_or firsts r None) (λ e _ _ _. ne (is ∙ e)) f))
      (cases_eq k r)
