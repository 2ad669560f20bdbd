use Rattle.std.proofs.Common.{◌≡◌, ◌+◌, ◌-◌, ◌*◌, ◌≤◌, ◌∷◌, length, vec_items}
use Rattle.grammar.specs.Reading.{a_definition, more_steps}
use Rattle.phrases.specs.Written.{all_placed}
use Rattle.reader.specs.Saying.{from}
use Rattle.reader.specs.Stepping.{AddsBefore}
use Rattle.reader.proofs.parser.Parser.+definition_nested_source_step.Given as goal

abbrev pub decreases-source : goal.decreases-source
decreases-source l = 8 * (length l.self.now.reader.text.now - l.self.now.reader.at) + 1

abbrev pub decreases-step : goal.decreases-step
decreases-step l = 8 * (length l.self.now.reader.text.now - l.self.now.reader.at) + 2

abbrev pub decreases-definition : goal.decreases-definition
decreases-definition l = 8 * (length l.self.now.reader.text.now - l.self.now.reader.at) + 3

abbrev pub decreases-nested : goal.decreases-nested
decreases-nested l = 8 * (length l.self.now.reader.text.now - l.self.now.reader.at) + 4

abbrev pub invariant-definition-loop-placed : goal.invariant-definition-loop-placed
invariant-definition-loop-placed l = record {
  same : l.self.reader.text ≡ l.fn.self.reader.text;
  after : l.fn.self.reader.at ≤ l.self.reader.at;
  adds : AddsBefore (λ K. from l.fn.self.reader.text.now l.fn.self.reader.at (a_definition l.depth K)) l.fn.self.reader.text.now (λ K. more_steps l.depth ∷ K) (all_placed (vec_items l.fn.steps)) (all_placed (vec_items l.steps)) l.self.reader.at;
}

abbrev pub decreases-definition-loop-placed : goal.decreases-definition-loop-placed
decreases-definition-loop-placed l = length l.self.reader.text.now - l.self.reader.at
