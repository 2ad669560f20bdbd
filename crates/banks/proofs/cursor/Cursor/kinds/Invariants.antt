use Rattle.std.proofs.Common.{◌≡◌}
use Rattle.model.specs.Banks.{read_header}
use Rattle.banks.proofs.Loops.{kinds_from}
use Rattle.banks.proofs.cursor.Cursor.kinds.Given as goal

abbrev pub invariant-loop-c : goal.invariant-loop-c
invariant-loop-c l = (l.self.size ≡ l.initial.self.size) × (l.self.kind ≡ l.initial.self.kind) × (read_header l.initial.self.size (kinds_from l.columns 0) l.initial.self.rest.now ≡ read_header l.initial.self.size (kinds_from l.columns l.c-index) l.self.rest.now)
