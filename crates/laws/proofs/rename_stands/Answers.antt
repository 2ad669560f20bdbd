use Rattle.laws.proofs.Renamed.{rename_lawful}
use Rattle.laws.proofs.rename_stands.Goals as goal

pub returns : goal.returns
returns c = λ o. rename_lawful o
