use Rattle.std.proofs.Common.{◌≡◌, ◌++◌, vec_items, vec_len}
use Rattle.model.specs.TreeForm.{arrange, in_order}
use Rattle.columns.specs.Members.{dependencies}
use Rattle.columns.proofs.dependencies.in_order.Given as goal

abbrev pub invariant-loop-rest : goal.invariant-loop-rest
invariant-loop-rest l = dependencies (vec_items l.ordered) ++ arrange (vec_len l.rest) (dependencies (vec_items l.rest)) ≡ in_order (dependencies l.deps)

abbrev pub decreases-loop-rest : goal.decreases-loop-rest
decreases-loop-rest l = vec_len l.rest
