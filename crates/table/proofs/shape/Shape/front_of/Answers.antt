-- What the boxes show makes a front.
use Rattle.std.proofs.Common.{◌≡◌, length, get_or, None, sym, ap, ◌∙◌, subst, rules}
use Rattle.table.specs.Fronts.{FrontOf, ReadingsOf}
use Rattle.table.proofs.Formed.{all_fit, empty_from, ends_of}
use Rattle.table.proofs.OneFront.{front_one}
use Rattle.table.proofs.shape.Shape.front_of.Goals as goal

pub unreachable-requires : goal.unreachable-requires
unreachable-requires c =
    let s = c.args.self.now in let table = c.args.boxes.now in
    let entries = c.entries_of-entries.result in
    let long : length entries ≡ 114 = search rules in
    let readings = c.readings_of.ensures in
    c.in-None.ensures (
      s.some,
      s.few,
      long,
      empty_from s.n s.finest (length table) table entries c.firsts.result long c.entries_of-entries.ensures c.firsts.ensures s.fine,
      ends_of s.n s.finest (length table) table _ readings,
      all_fit s.n s.finest (length table) table entries c.firsts.result long c.entries_of-entries.ensures c.firsts.ensures c.readings_of.result readings,
    )

pub returns : goal.returns
returns c =
    let s = c.args.self.now in let table = c.args.boxes.now in
    let made = c.in-Some.ensures in
    let front : FrontOf s.n s.finest (length table) table c.in-Some.front =
    record {
      directions = made.0;
      readings = subst (ReadingsOf (length table) table) (sym made.2) c.readings_of.ensures;
      entries = λ r h. (get_or c.firsts.result r None, c.firsts.ensures r h, ap (λ xs. get_or xs r None) made.1 ∙ c.entries_of-entries.ensures r h);
    } in
    record { front = front; only = λ g other. front_one s.n s.finest (length table) table g c.in-Some.front other front }
