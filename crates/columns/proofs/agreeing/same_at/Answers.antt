use Rattle.std.proofs.Common.{rules}
use Rattle.columns.proofs.Alike.{cell_or}
use Rattle.columns.proofs.agreeing.same_at.Goals as goal

pub returns : goal.returns
returns c = search (rules, cell_or)
