-- Rename: a table with another word for a column of the table below.
use Rattle.std.specs.Prelude.{ℕ, zero, suc, List, [], ◌∷◌, ◌≢◌}
use Rattle.model.specs.Values.{◌∈◌}
use Rattle.model.specs.Sorts.{Column, Sort}
use Rattle.model.specs.Tables.{Rules}

abbrev pub rename_at : ℕ → List ℕ → List Column → List Column
rename_at k w [] = []
rename_at zero w (c ∷ C) = record { word = w; kind = c.kind } ∷ C
rename_at (suc k) w (c ∷ C) = c ∷ rename_at k w C

abbrev pub rename_sort : ℕ → List ℕ → Sort → Sort
rename_sort k w S = record { columns = rename_at k w S.columns; deps = S.deps; parts = S.parts }

abbrev pub rename : ℕ → List ℕ → Rules → Rules
rename k w K = record { kind = 5; sort = rename_sort k w K.sort; stores = K.stores; shows = K.shows; puts = K.puts }

-- What rename asks of the table below, for its laws: no column has the new word.
abbrev pub Unused : List ℕ → Sort → Type 0
Unused w S = (c : Column) → c ∈ S.columns → c.word ≢ w
