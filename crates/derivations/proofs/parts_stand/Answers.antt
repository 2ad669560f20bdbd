use Rattle.derivations.proofs.Parting.{parts_rule}
use Rattle.derivations.proofs.parts_stand.Goals as goal

pub returns : goal.returns
returns c = parts_rule
