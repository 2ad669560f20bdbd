use Rattle.std.proofs.lemmas.Result.{err_from_is_err_and}
use Rattle.sorts.specs.Offered.{offered_columns}
use Rattle.session.proofs.Steps.{table_refused, table_begun}
use Rattle.session.proofs.tables.Session.table.Goals as goal

pub returns-in_err-table : goal.returns-in_err-table
returns-in_err-table c =
    let p = err_from_is_err_and c.from_residual-in_err-table.result c.from_residual-in_err-table.ensures.1 in
    rw (p.1, p.2)
    (table_refused c.args.self.now c.args.name.now c.args.storage c.args.room (offered_columns c.args.columns.now) c.deref.result.now c.in_ok-idle.ensures c.deref.ensures.value _ c.in_err-table.ensures)

pub returns : goal.returns
returns c = table_begun c.args.self.now c.args.name.now c.args.storage c.args.room (offered_columns c.args.columns.now) c.deref.result.now c.in_ok-idle.ensures c.deref.ensures.value c.in_ok-table.table c.in_ok-table.ensures
