use Rattle.laws.proofs.Joined.{join_lawful}
use Rattle.laws.proofs.Exactly.{join_exact}
use Rattle.laws.proofs.Short.{pairs_ascending}
use Rattle.laws.proofs.join_stands.Goals as goal

pub returns : goal.returns
returns c = ((λ o O. join_lawful o O), (λ o O. join_exact o O), λ o O. pairs_ascending o O)
