use Rattle.std.proofs.Common.{rules, sym, ◌∙◌}
use Rattle.std.proofs.lemmas.Iterator.{YieldsList-from_slice}
use Rattle.std.proofs.lemmas.Iterator.Search.{all_from_yields_List}
use Rattle.std.proofs.lemmas.List.Folds.{list_all-map}
use Rattle.cells.specs.Held.{value}
use Rattle.conditions.specs.Picks.{is_cell}
use Rattle.conditions.proofs.picking.choosing.are_cells.Goals as goal

pub returns : goal.returns
returns c =
    all_from_yields_List (λ x. is_cell (value x)) _ _ c.all.result c.all.ensures.ran (YieldsList-from_slice c.args.cells.now c.iter.ensures.rest) (λ x b q k. search rules)
    ∙ sym (list_all-map is_cell value c.args.cells.now)
