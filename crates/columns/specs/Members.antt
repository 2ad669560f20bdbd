-- The column sets, dependencies and columns that those of the program stand for.
use Rattle.std.specs.Prelude.{◌≡◌, ℕ, Bool, ◌||◌, List, ◌∷◌, map, slice_index_or}
use Rattle.std.specs.List.{remove}
use Rattle.model.specs.ColumnSets as sets
use Rattle.model.specs.Sorts as sorts
use Rattle.model.specs.TreeForm.{lead_first}
use Rattle.columns.specs.declared.set.ColumnSet.{ColumnSet}
use Rattle.columns.specs.declared.dependencies.Dependency.{Dependency}

abbrev pub members : ColumnSet → sets.ColumnSet
members s = s.places

abbrev pub dependency : Dependency → sorts.Dependency
dependency d = record { left = members d.left; right = members d.right }

abbrev pub dependencies : List Dependency → List sorts.Dependency
dependencies = map dependency

-- two sets are equal or disjoint
abbrev pub near : sets.ColumnSet → sets.ColumnSet → Bool
near X Y = sets.same X Y || sets.apart X Y

-- the dependency at the place comes first, before the others in their order
abbrev pub Leader : List Dependency → ℕ → Type 0
Leader D i = (d : Dependency) → lead_first (dependencies D) (dependencies D) ≡ dependency (slice_index_or D i d) ∷ dependencies (remove D i)
