-- An answer with a number goes by a total order.
use Rattle.std.proofs.Common.{◌≡◌, true, false, rules}
use Rattle.std.specs.Cmp.{IsStrictWeakOrder}
use Rattle.order.specs.Answers.{Numbered, numbered_before}

pub numbered_irreflexive : (a : Numbered) → numbered_before a a ≡ false
numbered_irreflexive a = search rules

pub numbered_transitive : (a b c : Numbered) → numbered_before a b ≡ true → numbered_before b c ≡ true → numbered_before a c ≡ true
numbered_transitive a b c p q = search rules

pub numbered_total : (a b : Numbered) → numbered_before a b ≡ false → numbered_before b a ≡ false → a ≡ b
numbered_total a b p q = search rules

pub ranks_by_answer : {X : Type 0} (key : X → Numbered) → IsStrictWeakOrder (λ (a b : X). numbered_before (key a) (key b))
ranks_by_answer key = record { one_way = λ x y h. search rules; chain = λ x y z p q. search rules }
