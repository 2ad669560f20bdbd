use Rattle.std.proofs.Common.{◌≡◌, map, drop, vec_items}
use Rattle.model.specs.Banks.{read_cells}
use Rattle.cells.specs.Held.{value}
use Rattle.columns.specs.Named.{named_column}
use Rattle.banks.proofs.Loops.{cells_after}
use Rattle.banks.proofs.cursor.Cursor.row.Given as goal

abbrev pub invariant-loop-c : goal.invariant-loop-c
invariant-loop-c l = (l.self.size ≡ l.initial.self.size) × (l.self.kind ≡ l.initial.self.kind) × (read_cells l.initial.self.size (map named_column l.columns) l.initial.self.rest.now ≡ cells_after (map value (vec_items l.cells)) (read_cells l.initial.self.size (map named_column (drop l.c-index l.columns)) l.self.rest.now))
