use Rattle.std.proofs.Common.{◌≡◌, map, length, vec_items}
use Rattle.commands.specs.Lines.{lexeme, tokens_of}
use Rattle.commands.proofs.Readings.{before}
use Rattle.commands.proofs.tokens.tokens.Given as goal

abbrev pub invariant-loop-first : goal.invariant-loop-first
invariant-loop-first l = tokens_of l.text ≡ before (map lexeme (vec_items l.all)) (tokens_of l.rest)

abbrev pub decreases-loop-first : goal.decreases-loop-first
decreases-loop-first l = length l.rest
