use Rattle.std.proofs.Common.{rules, ◌∙◌}
use Rattle.std.proofs.lemmas.Iterator.{YieldsList-from_slice}
use Rattle.std.proofs.lemmas.Iterator.Search.{any_from_yields_List}
use Rattle.model.specs.Values.{same_value}
use Rattle.cells.specs.Held.{value}
use Rattle.conditions.proofs.Mapped.{any_map}
use Rattle.conditions.proofs.picking.placing.is_among.Goals as goal

pub returns : goal.returns
returns c =
    any_from_yields_List (λ x. same_value (value c.args.cell.now) (value x)) _ _ c.any.result c.any.ensures.ran (YieldsList-from_slice c.args.cells.now c.iter.ensures.rest) (λ x b q k. search rules)
    ∙ any_map (same_value (value c.args.cell.now)) value c.args.cells.now
