-- The first of two.
use Rattle.std.proofs.Common.{Some, subst}
use Rattle.order.specs.First.{FirstAmong, HeldOr}
use Rattle.order.specs.Records.{candidate_before}
use Rattle.order.specs.declared.records.Candidate.{Candidate}
use Rattle.order.proofs.Among.{first_of_two}
use Rattle.table.proofs.firsts.earlier.Goals as goal

pub returns-in-Some-first_of : goal.returns-in-Some-first_of
returns-in-Some-first_of c =
    let f = c.in-Some-first_of.ensures in
    let old = c.in-Some.old in let new = c.args.new in
    rw c.in-Some.is (subst (λ (x : Candidate). FirstAmong candidate_before (HeldOr (Some old) new) (Some x)) (f.2 new) (first_of_two candidate_before old new new f.0 f.1))
