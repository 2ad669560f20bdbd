use Rattle.cells.proofs.Ordered.{cells_compare}
use Rattle.cells.proofs.values.Cell.compare.Goals as goal

pub returns : goal.returns
returns c = cells_compare c.args.self.now c.args.other.now c.cmp.result c.cmp.ensures
