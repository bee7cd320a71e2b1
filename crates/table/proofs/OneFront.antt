-- The first box of a rank, the readings and the front of a table are each one.
use Rattle.std.proofs.lemmas.Grind.{common_steps}
use Rattle.std.proofs.Common.{◌≡◌, ℕ, ◌<◌, false, List, ℤ, ◌≤ℤ◌, Some, None, Option, sym, refl, ap, ◌∙◌, arith}
use borrow.Author.Differences.{ints}
use Rattle.std.proofs.lemmas.List.{ext_get_or}
use Rattle.order.specs.Records.{candidate_before}
use Rattle.order.specs.declared.answer.Answer.{Answer}
use Rattle.order.specs.declared.records.Candidate.{Candidate}
use Rattle.order.proofs.Among.{first_among_one}
use Rattle.policy.proofs.Same.{front_same}
use Rattle.policy.specs.declared.front.Front.{Front}
use Rattle.table.specs.Boxes.{FirstOfRank}
use Rattle.table.specs.Fronts.{EntryOf, FrontOf, ReadingsOf, answer_in}
use Rattle.table.specs.declared.rows.Row.{Row}

pub candidate_total : (a b : Candidate) → candidate_before a b ≡ false → candidate_before b a ≡ false → a ≡ b
candidate_total a b p q = grind (arith, common_steps)

pub first_one : (n finest boxes : ℕ) (table : List Row) (r : ℕ) (o p : Option Candidate) → FirstOfRank n finest boxes table r o → FirstOfRank n finest boxes table r p → o ≡ p
first_one n finest boxes table r o p f g = first_among_one candidate_before candidate_total _ o p f g

entry_one : (n finest boxes : ℕ) (table : List Row) (r : ℕ) (a b : Option Answer) → EntryOf n finest boxes table r a → EntryOf n finest boxes table r b → a ≡ b
entry_one n finest boxes table r a b x y = x.2 ∙ ap answer_in (first_one n finest boxes table r x.0 y.0 x.1 y.1) ∙ sym y.2

meet : (x y : ℤ) → x ≤ℤ y → y ≤ℤ x → x ≡ y
meet x y p q = omega (arith, ints)

readings_one : (boxes : ℕ) (table : List Row) (o p : Option (ℤ × ℤ)) → ReadingsOf boxes table o → ReadingsOf boxes table p → o ≡ p
readings_one boxes table None None x y = refl
readings_one boxes table None (Some e) x y = absurd (x y.0.0 e.0 y.0.1)
readings_one boxes table (Some d) None x y = absurd (y x.0.0 d.0 x.0.1)
readings_one boxes table (Some d) (Some e) x y =
    let low : d.0 ≡ e.0 = meet d.0 e.0 (x.2 y.0.0 e.0 y.0.1).0 (y.2 x.0.0 d.0 x.0.1).0 in
    let high : d.1 ≡ e.1 = meet d.1 e.1 (y.2 x.1.0 d.1 x.1.1).1 (x.2 y.1.0 e.1 y.1.1).1 in
    λ i. Some (low i, high i)

pub front_one : (n finest boxes : ℕ) (table : List Row) (f g : Front) → FrontOf n finest boxes table f → FrontOf n finest boxes table g → f ≡ g
front_one n finest boxes table f g x y =
    front_same f g (x.directions ∙ sym y.directions)
    (ext_get_or None f.entries g.entries (f.long ∙ sym g.long)
    (λ r h. let l : r < 114 = omega (arith, f.long) in entry_one n finest boxes table r _ _ (x.entries r l) (y.entries r l)))
    (readings_one boxes table _ _ x.readings y.readings)
