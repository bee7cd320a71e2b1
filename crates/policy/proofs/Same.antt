-- Fronts with the same parts are the same front.
use Rattle.std.proofs.Common.{◌≡◌, ◌*◌, ◌≤◌, true, length}
use Rattle.std.proofs.Props.{props}
use mathlib.Core.HLevel.{is_prop→PathP}
use Rattle.policy.specs.Fronts.{AllFit, EmptyFrom, ends_fit}
use Rattle.policy.specs.declared.front.Front.{Front}

pub front_same : (f g : Front) → f.directions ≡ g.directions → f.entries ≡ g.entries → f.readings ≡ g.readings → f ≡ g
front_same f g p q r = λ i. record {
  directions = p i;
  entries = q i;
  readings = r i;
  some = is_prop→PathP (λ j. 1 ≤ p j) (λ j. hlevel props) f.some g.some i;
  few = is_prop→PathP (λ j. p j ≤ 6) (λ j. hlevel props) f.few g.few i;
  long = is_prop→PathP (λ j. length (q j) ≡ 114) (λ j. hlevel props) f.long g.long i;
  empty = is_prop→PathP (λ j. EmptyFrom (19 * p j) (q j)) (λ j. hlevel props) f.empty g.empty i;
  ends = is_prop→PathP (λ j. ends_fit (r j) ≡ true) (λ j. hlevel props) f.ends g.ends i;
  fits = is_prop→PathP (λ j. AllFit (r j) (q j)) (λ j. hlevel props) f.fits g.fits i;
}
