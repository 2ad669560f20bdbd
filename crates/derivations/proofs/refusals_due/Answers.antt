use Rattle.derivations.proofs.Refusing.{refused_exactly}
use Rattle.derivations.proofs.refusals_due.Goals as goal

pub returns : goal.returns
returns c = refused_exactly
