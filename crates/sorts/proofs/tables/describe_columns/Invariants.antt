use Rattle.std.proofs.Common.{◌≡◌, [], take, drop, None}
use Rattle.sorts.specs.Describing.{columns_fault, of_columns, words_fault, column_words}
use Rattle.sorts.specs.Described.{described}
use Rattle.sorts.specs.Offered.{offered_columns}
use Rattle.sorts.proofs.tables.describe_columns.Given as goal

abbrev pub invariant-loop-column : goal.invariant-loop-column
invariant-loop-column l = record {
  so_far : described l.sort ≡ of_columns (offered_columns (take l.column-index l.columns));
  due : columns_fault (offered_columns (take l.column-index l.columns)) (offered_columns (drop l.column-index l.columns)) ≡ columns_fault [] (offered_columns l.columns);
  named : words_fault (column_words (offered_columns (drop l.column-index l.columns))) ≡ None;
}
