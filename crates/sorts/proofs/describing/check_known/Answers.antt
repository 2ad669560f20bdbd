use Rattle.std.proofs.Common.{is_some, rules, tests}
use Rattle.model.specs.Sorts.{lookup}
use Rattle.columns.specs.Named.{named_columns}
use Rattle.std.proofs.lemmas.Iterator.{YieldsList-from_slice}
use Rattle.sorts.proofs.Mapped.{all_of}
use Rattle.sorts.proofs.describing.check_known.Goals as goal

pub returns : goal.returns
returns c =
    let known = all_of (λ w. is_some (lookup (named_columns c.args.columns.now) w)) (λ r. r.now) _ _ _ c.all-known.ensures.ran (YieldsList-from_slice c.args.names.now cc) (λ x b q k. search (rules, tests)) in
    rw known at c.ensure.ensures
