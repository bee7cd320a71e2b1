-- The sides so far are written.
use Rattle.std.specs.Fmt.{IsPlainFormatter, HasWritten}
use Rattle.report.specs.Text.{sides_text}
use Rattle.report.proofs.text.SidesDisplay.fmt.Given as goal

abbrev pub invariant-loop-span : goal.invariant-loop-span
invariant-loop-span g l = IsPlainFormatter l.initial.f → HasWritten g.W.Write.write_str_gives l.initial.f (sides_text l.self.row l.span-index) l.f
