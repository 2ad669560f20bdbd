use Rattle.laws.proofs.Dropped.{drop_lawful}
use Rattle.laws.proofs.Exactly.{drop_exact}
use Rattle.laws.proofs.drop_stands.Goals as goal

pub returns : goal.returns
returns c = ((λ o O. drop_lawful o O), λ o O. drop_exact o O)
