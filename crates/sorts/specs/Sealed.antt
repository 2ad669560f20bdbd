-- What a sealed sort stands for: the description, with sets of columns as wide as the columns.
use Rattle.std.specs.Prelude.{ℕ, map, length, take}
use Rattle.model.specs.Sorts as sorts
use Rattle.sorts.specs.declared.sort.Sort.{Sort}
use Rattle.sorts.specs.Described.{described}

-- a dependency of the first w columns
abbrev pub narrowed : ℕ → sorts.Dependency → sorts.Dependency
narrowed w d = record { left = take w d.left; right = take w d.right }

abbrev pub sealed : sorts.Sort → sorts.Sort
sealed S = record { columns = S.columns; deps = map (narrowed (length S.columns)) S.deps; parts = S.parts }

abbrev pub sort_of : Sort → sorts.Sort
sort_of s = sealed (described s.description)
