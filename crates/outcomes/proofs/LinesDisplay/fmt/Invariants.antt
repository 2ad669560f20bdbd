use Rattle.std.proofs.Common.{take}
use Rattle.std.specs.Fmt.{HasWritten, IsPlainFormatter}
use Rattle.cells.specs.Held.{tuples}
use Rattle.outcomes.specs.Printed.{rows_text}
use Rattle.outcomes.proofs.LinesDisplay.fmt.Given as goal

abbrev pub invariant-loop-row : goal.invariant-loop-row
invariant-loop-row g l = IsPlainFormatter l.initial.f → HasWritten g.W.Write.write_str_gives l.initial.f (rows_text (tuples (take l.row-index l.row-items))) l.f
