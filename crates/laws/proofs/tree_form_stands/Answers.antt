use Rattle.laws.proofs.Testing.{tree_test}
use Rattle.laws.proofs.tree_form_stands.Goals as goal

pub returns : goal.returns
returns c = tree_test
