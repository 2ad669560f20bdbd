use Rattle.cells.proofs.Copies.{clone_tuple}
use Rattle.cells.proofs.rows.clones_stand.Goals as goal

pub returns-clause-rows : goal.returns-clause-rows
returns-clause-rows c = clone_tuple
