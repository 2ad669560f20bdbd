use Rattle.conditions.proofs.Choices.{picks_right}
use Rattle.conditions.proofs.picking.choosing.picks_stand.Goals as goal

pub returns : goal.returns
returns c = picks_right
