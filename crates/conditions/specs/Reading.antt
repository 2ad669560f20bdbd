-- The columns that parts of a condition read together.
use Rattle.std.specs.Prelude.{◌≡◌, ℕ, List}
use Rattle.model.specs.Values.{any}
use Rattle.model.specs.ColumnSets.{ColumnSet, has}
use Rattle.model.specs.Sorts.{Part}

-- a column is in the set when some part reads it
abbrev pub Reads : List Part → ColumnSet → Type 0
Reads P X = (i : ℕ) → has X i ≡ any (λ p. has p.reads i) P
