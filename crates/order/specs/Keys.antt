-- The laws of an order by a key.
use Rattle.std.specs.Prelude.{◌≡◌, Bool, true, false}

-- no record is before itself, before carries over from a to b to c, and two records with neither before have the same key
pub record KeyLaws {X K : Type 0} (key : X → K) (before : X → X → Bool) : Type 0 where
  pub irreflexive : (a : X) → before a a ≡ false
  pub transitive : (a b c : X) → before a b ≡ true → before b c ≡ true → before a c ≡ true
  pub total : (a b : X) → before a b ≡ false → before b a ≡ false → key a ≡ key b
