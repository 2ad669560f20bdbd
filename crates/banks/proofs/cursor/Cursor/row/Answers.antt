use Rattle.std.proofs.Common.{◌≡◌, ◌+◌, [], ◌∷◌, ◌++◌, map, drop, Err, vec_items, sym, ap, ◌∙◌}
use Rattle.std.proofs.lemmas.List.{map_push}
use Rattle.std.proofs.lemmas.Result.{err_from_is_err_and}
use Rattle.model.specs.Banks.{found, read_cell, read_cells}
use Rattle.cells.specs.Held.{kind_of, value, tuple}
use Rattle.columns.specs.Named.{named_column}
use Rattle.banks.proofs.Texts.{passed_on}
use Rattle.banks.proofs.Loops.{cells_after, cells_step, cells_stop, cells_end}
use Rattle.banks.proofs.cursor.Cursor.row.Goals as goal

pub returns-in_err-cell : goal.returns-in_err-cell
returns-in_err-cell c =
    let p = err_from_is_err_and c.from_residual.result c.from_residual.ensures.1 in
    let size = c.args.self.now.size in
    let C = c.args.columns.now in
    let s = map value (vec_items c.loop-c.cells) in
    let b = c.loop-c.self.rest.now in
    let k = kind_of c.c-item.result.kind in
    passed_on tuple c.loop-c.self.kind size c.args.self.now.kind c.cell.new.self (read_cell c.loop-c.self.size k b) (read_cells size (map named_column C) c.args.self.now.rest.now) c.in_err-cell.field-0.0 c.from_residual.result
    c.in_err-cell.ensures
    (λ n q e. c.loop-c.invariant.2 ∙ cells_stop size C c.loop-c.c-index c.loop-c-test.true c.c-item.result c.c-item.is s b n q (ap (λ m. read_cell m k b) (sym c.loop-c.invariant.0) ∙ e))
    c.loop-c.invariant.1 (p.1 ∙ ap Err p.2)

pub loop-c-preserved : goal.loop-c-preserved
loop-c-preserved c =
    let size = c.args.self.now.size in
    let C = c.args.columns.now in
    let i = c.loop-c.c-index in
    let s = map value (vec_items c.loop-c.cells) in
    let e = c.in_ok-cell.ensures in
    let v = value c.in_ok-cell.cell in
    let read : read_cell size (kind_of c.c-item.result.kind) c.loop-c.self.rest.now ≡ found v c.cell.new.self.rest.now = ap (λ n. read_cell n (kind_of c.c-item.result.kind) c.loop-c.self.rest.now) (sym c.loop-c.invariant.0) ∙ e.0 in
    let more : s ++ v ∷ [] ≡ map value (vec_items c.push.new.self) = sym (map_push value (vec_items c.loop-c.cells) c.in_ok-cell.cell) ∙ ap (map value) (sym c.in_ok-push.ensures.items) in (
      e.1 ∙ c.loop-c.invariant.0,
      e.2 ∙ c.loop-c.invariant.1,
      c.loop-c.invariant.2
          ∙ cells_step size C i c.loop-c-test.true c.c-item.result c.c-item.is s c.loop-c.self.rest.now v c.cell.new.self.rest.now read
          ∙ ap (λ t. cells_after t (read_cells size (map named_column (drop (i + 1) C)) c.cell.new.self.rest.now)) more,
    )

pub returns : goal.returns
returns c = (
  c.loop-c.invariant.2 ∙ cells_end c.args.self.now.size c.args.columns.now c.loop-c.c-index (map value (vec_items c.loop-c.cells)) c.loop-c.self.rest.now c.loop-c-test.false,
  c.loop-c.invariant.0,
  c.loop-c.invariant.1,
)
