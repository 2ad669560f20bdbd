use Rattle.std.proofs.Common.{map, rules, tests}
use Rattle.std.proofs.lemmas.Iterator.{YieldsList-from_slice}
use Rattle.std.proofs.lemmas.Iterator.Search.{position_from_yields_List}
use Rattle.std.proofs.lemmas.Iterator.Consumers.{YieldsList-from_enumerate}
use Rattle.columns.specs.Members.{dependencies}
use Rattle.sorts.specs.Sealed.{narrowed}
use Rattle.banks.proofs.Agreeing.{breaks_at, first_told}
use Rattle.banks.proofs.breaking.first_break_of.Goals as goal

pub returns : goal.returns
returns c =
    let D = map (narrowed c.args.width) (dependencies c.args.deps.now) in
    let rows = c.args.rows.now in
    first_told D rows c.position.result
    (position_from_yields_List (breaks_at D rows) _ _ _ c.position.ensures.ran (YieldsList-from_enumerate (YieldsList-from_slice rows cc) cc) (λ x b q k. search (rules, tests)))
