use Rattle.derivations.proofs.Stepping.{steps_so_far}
use Rattle.derivations.proofs.steps_so_far.Goals as goal

pub returns : goal.returns
returns c = steps_so_far
