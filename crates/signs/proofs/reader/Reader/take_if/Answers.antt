use Rattle.signs.proofs.Taking.{found}
use Rattle.signs.proofs.reader.Reader.take_if.Goals as goal

pub returns-clause-taken : goal.returns-clause-taken
returns-clause-taken g c = λ kind tells. found kind _ c.args.self.now.text.now c.args.self.now.at c.peek.result c.filter.result c.in_ok-token.token tells c.peek.ensures c.filter.ensures (c.in_ok-token.was {u = tt})
