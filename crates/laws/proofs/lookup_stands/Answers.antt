use Rattle.laws.proofs.Looking.{lookup_right}
use Rattle.laws.proofs.lookup_stands.Goals as goal

pub returns : goal.returns
returns c = lookup_right
