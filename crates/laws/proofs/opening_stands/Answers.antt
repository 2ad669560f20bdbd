use Rattle.laws.proofs.Opened.{opening_exact}
use Rattle.laws.proofs.opening_stands.Goals as goal

pub returns : goal.returns
returns c = opening_exact
