use Rattle.std.proofs.Common.{rules, sym, ◌∙◌}
use Rattle.std.proofs.lemmas.Iterator.{YieldsList-from_slice}
use Rattle.std.proofs.lemmas.Iterator.Search.{all_from_yields_List}
use Rattle.cells.specs.Held.{tuple}
use Rattle.conditions.proofs.Parts.{admitted_every}
use Rattle.conditions.proofs.interface.admits_all.Goals as goal

pub returns : goal.returns
returns g c =
    let t = tuple c.args.row.now in
    all_from_yields_List (λ x. (g.C.Condition.part x).admits t) _ _ c.all.result c.all.ensures.ran (YieldsList-from_slice c.args.parts.now c.iter.ensures.rest) (λ x b q k. search rules)
    ∙ sym (admitted_every g.C.Condition.part t c.args.parts.now)
