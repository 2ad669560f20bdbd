use Rattle.std.proofs.Common.{arith}
use Rattle.columns.proofs.Places.{equal_same}
use Rattle.columns.proofs.dependencies.Dependency.is_same.Goals as goal

pub returns : goal.returns
returns c = grind (arith, equal_same)
