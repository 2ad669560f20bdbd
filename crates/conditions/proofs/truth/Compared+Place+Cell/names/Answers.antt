use Rattle.std.proofs.Common.{refl}
use Rattle.conditions.proofs.Columns.{same_union}
use Rattle.conditions.proofs.truth.Compared+Place+Cell.names.Goals as goal

pub returns : goal.returns
returns c = same_union _ _ _ _ _ _ c.union.ensures refl c.only.ensures c.names.ensures
