use Rattle.std.proofs.Common.{sym, ◌∙◌, rules, tests}
use Rattle.std.proofs.lemmas.Iterator.{YieldsList-from_slice}
use Rattle.std.proofs.lemmas.Iterator.Search.{any_from_yields_List}
use Rattle.cells.specs.Held.{tuple, tuples}
use Rattle.banks.proofs.Agreeing.{breaks_by, breaks_each}
use Rattle.banks.proofs.breaking.breaks_some.Goals as goal

pub returns : goal.returns
returns c =
    let E = tuples c.args.earlier.now in
    let t = tuple c.args.row.now in
    let D = c.args.deps.now in
    any_from_yields_List (breaks_by c.args.width E t) _ _ _ c.any.ensures.ran (YieldsList-from_slice D cc) (λ x b q k. search (rules, tests))
    ∙ sym (breaks_each c.args.width E t D)
