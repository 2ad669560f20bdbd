use Rattle.cells.proofs.Sames.{cells_same}
use Rattle.cells.proofs.values.Cell.is_same.Goals as goal

pub returns : goal.returns
returns c = cells_same c.args.self.now c.args.other.now c.eq.result c.eq.ensures
