use Rattle.std.proofs.Common.{rules, tests}
use Rattle.model.specs.Values.{same_bytes}
use Rattle.std.proofs.lemmas.List.{length-map}
use Rattle.std.proofs.lemmas.Iterator.{YieldsList-from_slice}
use Rattle.sorts.proofs.Mapped.{any_of}
use Rattle.sorts.proofs.tables.check_name.Goals as goal

pub returns : goal.returns
returns g c =
    let used = any_of (λ t. same_bytes t c.args.word.now) g.T.Named.name _ _ _ c.any-used.ensures.ran (YieldsList-from_slice c.args.tables.now cc) (λ x b q k. search (rules, tests)) in
    let few = c.in_ok-ensure.ensures in
    search (rules, used, length-map)
