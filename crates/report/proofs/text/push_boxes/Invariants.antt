-- The lines so far are added.
use Rattle.std.proofs.Common.{◌≡◌, ◌++◌, string_bytes}
use Rattle.report.specs.Text.{boxes_text}
use Rattle.report.proofs.text.push_boxes.Given as goal

abbrev pub invariant-loop-j : goal.invariant-loop-j
invariant-loop-j l = string_bytes l.out ≡ string_bytes l.initial.out ++ boxes_text l.shape.n l.table l.j
