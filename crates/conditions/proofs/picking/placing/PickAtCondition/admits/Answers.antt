use Rattle.std.proofs.Common.{rules}
use Rattle.conditions.proofs.Values.{value_at}
use Rattle.conditions.proofs.picking.placing.PickAtCondition.admits.Goals as goal

pub returns : goal.returns
returns c = search (rules, value_at)
