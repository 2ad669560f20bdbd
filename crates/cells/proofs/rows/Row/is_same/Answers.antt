use Rattle.cells.proofs.Sames.{rows_same}
use Rattle.cells.proofs.rows.Row.is_same.Goals as goal

pub returns : goal.returns
returns c = rows_same c.args.self.now c.args.other.now c.eq.result c.eq.ensures
