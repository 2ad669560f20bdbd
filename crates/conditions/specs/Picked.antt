-- What picks of the program hold.
use Rattle.std.specs.Prelude.{ℕ, List, map, vec_items}
use Rattle.model.specs.Values.{Value}
use Rattle.cells.specs.Held.{value}
use Rattle.conditions.specs.declared.picking.Pick.{Pick}

-- the word of its column
abbrev pub sought : Pick → List ℕ
sought p = vec_items p.word

-- its cells
abbrev pub chosen : Pick → List Value
chosen p = map value (vec_items p.cells)
