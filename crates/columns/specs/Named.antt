-- The columns that those of the program stand for.
use Rattle.std.specs.Prelude.{List, map}
use Rattle.model.specs.Sorts as sorts
use Rattle.cells.specs.Held.{kind_of}
use Rattle.cells.specs.Worded.{letters}
use Rattle.columns.specs.declared.column.Column.{Column}

abbrev pub named_column : Column → sorts.Column
named_column c = record { word = letters c.word; kind = kind_of c.kind }

abbrev pub named_columns : List Column → List sorts.Column
named_columns = map named_column
