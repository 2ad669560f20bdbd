-- What a description stands for: the sort that is described so far. A set of columns has eight places.
use Rattle.std.specs.Prelude.{map, vec_items}
use Rattle.model.specs.Sorts as sorts
use Rattle.columns.specs.Members.{dependencies}
use Rattle.columns.specs.Named.{named_columns}
use Rattle.conditions.specs.Meaning.{written_part}
use Rattle.sorts.specs.declared.description.Description.{Description}

abbrev pub described : Description → sorts.Sort
described d = record { columns = named_columns (vec_items d.columns); deps = dependencies (vec_items d.deps); parts = map written_part (vec_items d.parts) }
