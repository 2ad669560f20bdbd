use Rattle.derivations.proofs.Accepting.{condition_accepted}
use Rattle.derivations.proofs.conditions_derive.Goals as goal

pub returns : goal.returns
returns c = condition_accepted
