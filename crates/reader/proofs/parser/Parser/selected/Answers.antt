use Rattle.grammar.specs.Reading.{a_condition}
use Rattle.reader.specs.Saying.{from}
use Rattle.reader.proofs.Steps.{select_said}
use Rattle.reader.proofs.parser.Parser.selected.Goals as goal

pub returns-clause-said : goal.returns-clause-said
returns-clause-said c =
    select_said (λ K. from c.args.self.now.reader.text.now c.args.self.now.reader.at (a_condition c.args.depth K)) c.args.self.now.reader.text.now c.in_ok-phrase.phrase c.condition.new.self.reader.at c.in_ok-phrase.ensures.said
