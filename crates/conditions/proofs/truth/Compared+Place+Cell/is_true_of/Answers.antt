use Rattle.std.proofs.Common.{rules}
use Rattle.conditions.proofs.Values.{value_at}
use Rattle.conditions.proofs.truth.Compared+Place+Cell.is_true_of.Goals.{in-Column, in-Value}
use Rattle.conditions.proofs.truth.Compared+Place+Cell.is_true_of.Goals as goal

pub returns : goal.returns
returns c = elim c.match-self.branch [ in-Column w ↦ search (rules, value_at) | in-Value w ↦ search (rules, value_at) ]
