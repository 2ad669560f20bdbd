use Rattle.laws.proofs.Selecting.{select_lawful}
use Rattle.laws.proofs.Exactly.{select_exact}
use Rattle.laws.proofs.select_stands.Goals as goal

pub returns : goal.returns
returns c = ((λ o O. select_lawful o O), λ o O. select_exact o O)
