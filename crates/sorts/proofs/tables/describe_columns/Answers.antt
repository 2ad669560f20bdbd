use Rattle.std.proofs.Common.{[], ◌∙◌}
use Rattle.std.proofs.lemmas.Result.{err_from_is_err_and}
use Rattle.sorts.specs.Described.{described}
use Rattle.sorts.specs.Describing.{columns_fault}
use Rattle.sorts.specs.Offered.{offered_columns}
use Rattle.sorts.proofs.Refusing.{passes}
use Rattle.sorts.proofs.Tabling.{next_refused, next_described, next_due, next_named, some_offered}
use Rattle.sorts.proofs.tables.describe_columns.Goals as goal

pub returns-in_err-add_column : goal.returns-in_err-add_column
returns-in_err-add_column c =
    let xs = c.args.columns.now in
    let p = err_from_is_err_and c.from_residual-in_err-add_column.result c.from_residual-in_err-add_column.ensures.1 in
    rw (p.1, p.2)
    (passes _ _ _
    (λ f h. some_offered xs _ c.is_empty.ensures c.in_ok-ensure.ensures.0 ∙ next_refused xs c.loop-column.column-index _ c.loop-column-test.true (described c.loop-column.sort) (columns_fault [] (offered_columns xs)) c.loop-column.invariant.so_far c.loop-column.invariant.due c.loop-column.invariant.named f h)
    c.in_err-add_column.ensures.answers)

pub loop-column-preserved : goal.loop-column-preserved
loop-column-preserved c =
    let xs = c.args.columns.now in
    let i = c.loop-column.column-index in
    let S = described c.loop-column.sort in
    let T = columns_fault [] (offered_columns xs) in
    let v = c.loop-column.invariant in
    let a = c.in_ok-add_column.ensures.answers in record {
      so_far = next_described xs i _ c.loop-column-test.true S T v.so_far v.due v.named a.0 (described c.add_column.new.self) a.1;
      due = next_due xs i _ c.loop-column-test.true S T v.so_far v.due v.named a.0;
      named = next_named xs i _ c.loop-column-test.true S T v.so_far v.due v.named a.0;
    }
