use Rattle.std.proofs.Common.{◌≡◌, ◌+◌, ◌-◌, ◌*◌, ◌≤◌, ◌∷◌, length}
use Rattle.grammar.specs.Reading.{a_condition, a_neg, more_and, more_or}
use Rattle.phrases.specs.Written.{phrase}
use Rattle.reader.specs.Saying.{from}
use Rattle.reader.proofs.Phrasing.{Before}
use Rattle.reader.proofs.parser.Parser.+bracketed_condition_conjunction_negated_negation.Given as goal

abbrev pub decreases-negation : goal.decreases-negation
decreases-negation l = 8 * (length l.self.now.reader.text.now - l.self.now.reader.at)

abbrev pub decreases-negated : goal.decreases-negated
decreases-negated l = 8 * (length l.self.now.reader.text.now - l.self.now.reader.at) + 1

abbrev pub decreases-conjunction : goal.decreases-conjunction
decreases-conjunction l = 8 * (length l.self.now.reader.text.now - l.self.now.reader.at) + 2

abbrev pub decreases-condition : goal.decreases-condition
decreases-condition l = 8 * (length l.self.now.reader.text.now - l.self.now.reader.at) + 4

abbrev pub decreases-bracketed : goal.decreases-bracketed
decreases-bracketed l = 8 * (length l.self.now.reader.text.now - l.self.now.reader.at) + 5

abbrev pub invariant-conjunction-loop-self : goal.invariant-conjunction-loop-self
invariant-conjunction-loop-self l = record {
  same : l.self.reader.text ≡ l.fn.self.reader.text;
  after : l.fn.self.reader.at ≤ l.self.reader.at;
  before : Before (λ K. from l.fn.self.reader.text.now l.fn.self.reader.at (a_neg l.depth ∷ more_and l.depth ∷ K)) l.fn.self.reader.text.now (phrase l.left) (more_and l.depth) l.self.reader.at;
}

abbrev pub decreases-conjunction-loop-self : goal.decreases-conjunction-loop-self
decreases-conjunction-loop-self l = length l.self.reader.text.now - l.self.reader.at

abbrev pub invariant-condition-loop-self : goal.invariant-condition-loop-self
invariant-condition-loop-self l = record {
  same : l.self.reader.text ≡ l.fn.self.reader.text;
  after : l.fn.self.reader.at ≤ l.self.reader.at;
  before : Before (λ K. from l.fn.self.reader.text.now l.fn.self.reader.at (a_condition l.depth K)) l.fn.self.reader.text.now (phrase l.left) (more_or l.depth) l.self.reader.at;
}

abbrev pub decreases-condition-loop-self : goal.decreases-condition-loop-self
decreases-condition-loop-self l = length l.self.reader.text.now - l.self.reader.at
