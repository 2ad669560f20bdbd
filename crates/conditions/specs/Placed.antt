-- The part that a pick at its place stands for.
use Rattle.std.specs.Prelude.{List}
use Rattle.model.specs.Conditions.{pick}
use Rattle.model.specs.Sorts.{Part}
use Rattle.model.specs.Values.{Value}
use Rattle.conditions.specs.Picked.{chosen}
use Rattle.conditions.specs.declared.picking.placing.PickAt.{PickAt}

abbrev pub placed_cells : PickAt → List Value
placed_cells p = chosen p.pick

abbrev pub pick_part : PickAt → Part
pick_part p = pick p.place.at (placed_cells p)
