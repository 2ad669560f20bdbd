use Rattle.laws.proofs.Piling.{stored_lawful}
use Rattle.laws.proofs.stored_stands.Goals as goal

pub returns : goal.returns
returns c = λ o s F. stored_lawful o s F
