use Rattle.laws.proofs.Alike.{admitted_below}
use Rattle.laws.proofs.layer_parts_stand.Goals as goal

pub returns : goal.returns
returns c = admitted_below
