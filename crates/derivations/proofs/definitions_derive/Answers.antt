use Rattle.derivations.proofs.Accepting.{definition_accepted}
use Rattle.derivations.proofs.definitions_derive.Goals as goal

pub returns : goal.returns
returns c = definition_accepted
