use Rattle.derivations.proofs.Shown.{examples}
use Rattle.derivations.proofs.examples_stand.Goals as goal

pub returns : goal.returns
returns c = examples
