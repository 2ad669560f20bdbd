-- Words and columns as they are offered.
use Rattle.std.specs.Prelude.{ℕ, List, map}
use Rattle.std.specs.Borrow.{Bor}
use Rattle.model.specs.Sorts as sorts
use Rattle.cells.specs.Held.{kind_of}
use Rattle.sorts.specs.declared.offered.NewColumn.{NewColumn}

abbrev pub words : List (Bor (List ℕ)) → List (List ℕ)
words l = map (λ r. r.now) l

abbrev pub offered_column : NewColumn → sorts.Column
offered_column c = record { word = c.word.now; kind = kind_of c.kind }

abbrev pub offered_columns : List NewColumn → List sorts.Column
offered_columns = map offered_column
