use Rattle.commands.proofs.Grammars.{exact}
use Rattle.commands.proofs.tokens.finds_the_tokens.Goals as goal

pub returns : goal.returns
returns c = exact
