use Rattle.derivations.proofs.Accepting.{one_reading}
use Rattle.derivations.proofs.one_reading.Goals as goal

pub returns : goal.returns
returns c = one_reading
