use Rattle.std.proofs.Common.{◌≡◌, ◌-◌, None}
use Rattle.model.specs.Banks.{read_rows}
use Rattle.banks.specs.Fields.{held}
use Rattle.sorts.specs.Sealed.{sort_of}
use Rattle.banks.proofs.Judged.{last_of, rows_after}
use Rattle.banks.proofs.cursor.Cursor.rows.Given as goal

abbrev pub invariant-loop-i : goal.invariant-loop-i
invariant-loop-i l = (l.self.size ≡ l.initial.self.size) × (l.self.kind ≡ l.initial.self.kind) × (read_rows l.initial.self.size (sort_of l.sort) None 0 l.count l.initial.self.rest.now ≡ rows_after (held l.rows) (read_rows l.initial.self.size (sort_of l.sort) (last_of None (held l.rows)) l.i (l.count - l.i) l.self.rest.now))
