use Rattle.std.proofs.Common.{rules, sym, ◌∙◌}
use Rattle.std.proofs.lemmas.Iterator.{YieldsList-from_slice}
use Rattle.std.proofs.lemmas.Iterator.Search.{all_from_yields_List}
use Rattle.std.proofs.lemmas.List.Folds.{list_all-map}
use Rattle.cells.specs.Held.{kind_of, value}
use Rattle.model.specs.Sorts.{of_kind}
use Rattle.conditions.proofs.picking.choosing.are_of.Goals as goal

pub returns : goal.returns
returns c =
    all_from_yields_List (λ x. of_kind (kind_of c.args.kind) (value x)) _ _ c.all.result c.all.ensures.ran (YieldsList-from_slice c.args.cells.now c.iter.ensures.rest) (λ x b q k. search rules)
    ∙ sym (list_all-map (of_kind (kind_of c.args.kind)) value c.args.cells.now)
