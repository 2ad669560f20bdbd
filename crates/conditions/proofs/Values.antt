-- The value at a place of a row.
use Rattle.std.proofs.Common.{◌≡◌, ℕ, zero, suc, List, [], ◌∷◌, map, get_or, refl}
use Rattle.model.specs.Values.{cell, num}
use Rattle.cells.specs.Held.{value}
use Rattle.cells.specs.declared.values.Cell.{Cell}

pub value_at : (l : List Cell) (i : ℕ) (d : Cell) → value d ≡ num 0 → value (get_or l i d) ≡ cell (map value l) i
value_at [] i d e = e
value_at (x ∷ l) zero d e = refl
value_at (x ∷ l) (suc i) d e = value_at l i d e
