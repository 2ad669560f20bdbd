use Rattle.std.proofs.Common.{◌≡◌, ◌+◌, ◌-◌, [], ◌∷◌, ◌++◌, None, Err, vec_items, sym, refl, ap, ◌∙◌, ap₂}
use Rattle.std.proofs.lemmas.List.{map_push}
use Rattle.std.proofs.lemmas.Result.{err_from_is_err_and}
use Rattle.model.specs.Banks.{read_row, read_rows}
use Rattle.cells.specs.Held.{tuple, tuples}
use Rattle.banks.specs.Fields.{held, row_before}
use Rattle.sorts.specs.Sealed.{sort_of}
use Rattle.banks.proofs.Texts.{passed_on}
use Rattle.banks.proofs.Judged.{last_of, last_push, before_is, rows_after, rows_begin, rows_step, rows_stop, rows_end}
use Rattle.banks.proofs.cursor.Cursor.rows.Goals as goal

pub loop-i-init : goal.loop-i-init
loop-i-init c =
    let size = c.args.self.now.size in
    let S = sort_of c.args.sort.now in
    let b = c.args.self.now.rest.now in
    (refl, refl, rows_begin size S c.args.count b ∙ ap (λ xs. rows_after (tuples xs) (read_rows size S (last_of None (tuples xs)) 0 (c.args.count - 0) b)) (sym c.new-rows.ensures.items))

pub returns-in_err-row : goal.returns-in_err-row
returns-in_err-row c =
    let p = err_from_is_err_and c.from_residual.result c.from_residual.ensures.1 in
    let size = c.args.self.now.size in
    let S = sort_of c.args.sort.now in
    let Q = held c.loop-i.rows in
    let b = c.loop-i.self.rest.now in
    let i = c.loop-i.i in
    let was = before_is c.deref.result.now c.last.result c.last.ensures.item ∙ ap (λ xs. last_of None (tuples xs)) c.deref.ensures.value in
    passed_on held c.loop-i.self.kind size c.args.self.now.kind c.judged_row.new.self (read_row c.loop-i.self.size S (row_before c.last.result) i b) (read_rows size S None 0 c.args.count c.args.self.now.rest.now) c.in_err-row.field-0.0 c.from_residual.result
    c.in_err-row.ensures
    (λ n q e. c.loop-i.invariant.2 ∙ rows_stop size S c.args.count i c.loop-i-test.true (last_of None Q) Q b n q (ap₂ (λ m o. read_row m S o i b) (sym c.loop-i.invariant.0) (sym was) ∙ e))
    c.loop-i.invariant.1 (p.1 ∙ ap Err p.2)

pub loop-i-preserved : goal.loop-i-preserved
loop-i-preserved c =
    let size = c.args.self.now.size in
    let S = sort_of c.args.sort.now in
    let Q = held c.loop-i.rows in
    let b = c.loop-i.self.rest.now in
    let i = c.loop-i.i in
    let e = c.in_ok-row.ensures in
    let t = tuple c.in_ok-row.row in
    let b' = c.judged_row.new.self.rest.now in
    let was = before_is c.deref.result.now c.last.result c.last.ensures.item ∙ ap (λ xs. last_of None (tuples xs)) c.deref.ensures.value in
    let more : Q ++ t ∷ [] ≡ held c.push.new.self = sym (map_push tuple (vec_items c.loop-i.rows) c.in_ok-row.row) ∙ ap tuples (sym c.in_ok-push.ensures.items) in (
      e.1 ∙ c.loop-i.invariant.0,
      e.2 ∙ c.loop-i.invariant.1,
      c.loop-i.invariant.2
          ∙ rows_step size S c.args.count i c.loop-i-test.true (last_of None Q) Q b t b' (ap₂ (λ m o. read_row m S o i b) (sym c.loop-i.invariant.0) (sym was) ∙ e.0)
          ∙ ap (λ o. rows_after (Q ++ t ∷ []) (read_rows size S o (i + 1) (c.args.count - (i + 1)) b')) (sym (last_push None Q t))
          ∙ ap (λ P. rows_after P (read_rows size S (last_of None P) (i + 1) (c.args.count - (i + 1)) b')) more,
    )

pub returns : goal.returns
returns c = (
  c.loop-i.invariant.2 ∙ rows_end c.args.self.now.size (sort_of c.args.sort.now) c.args.count c.loop-i.i (last_of None (held c.loop-i.rows)) (held c.loop-i.rows) c.loop-i.self.rest.now c.loop-i-test.false,
  c.loop-i.invariant.0,
  c.loop-i.invariant.1,
)
