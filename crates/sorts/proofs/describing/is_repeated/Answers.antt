use Rattle.std.proofs.Common.{rules, tests}
use Rattle.columns.specs.Members.{dependency}
use Rattle.sorts.specs.Describing.{same_dependency}
use Rattle.std.proofs.lemmas.Iterator.{YieldsList-from_slice}
use Rattle.sorts.proofs.Mapped.{any_of}
use Rattle.sorts.proofs.describing.is_repeated.Goals as goal

pub returns : goal.returns
returns c = any_of (same_dependency (dependency c.args.d.now)) dependency _ _ _ c.any.ensures.ran (YieldsList-from_slice c.args.deps.now cc) (λ x b q k. search (rules, tests))
