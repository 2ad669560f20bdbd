use Rattle.cells.proofs.Ordered.{rows_compare}
use Rattle.cells.proofs.rows.Row.compare.Goals as goal

pub returns : goal.returns
returns c = rows_compare c.args.self.now c.args.other.now c.cmp.result c.cmp.ensures
