use Rattle.std.proofs.Common.{[], ◌∷◌, Err, sym, ap, ◌∙◌}
use Rattle.std.proofs.lemmas.Result.{err_from_is_err_and}
use Rattle.model.specs.Banks.{read_header}
use Rattle.banks.proofs.Texts.{passed_on}
use Rattle.banks.proofs.Loops.{kinds_from, kinds_step, kinds_stop, kinds_end}
use Rattle.banks.proofs.cursor.Cursor.kinds.Goals as goal

pub returns-in_err-byte : goal.returns-in_err-byte
returns-in_err-byte c =
    let p = err_from_is_err_and c.from_residual.result c.from_residual.ensures.1 in
    let size = c.args.self.now.size in
    let C = c.args.columns.now in
    let x = c.from.result in
    let b = c.loop-c.self.rest.now in
    let is = c.from.ensures ∙ c.kind_byte.ensures in
    passed_on (λ (u : Unit {0}). u) c.loop-c.self.kind size c.args.self.now.kind c.byte.new.self (read_header c.loop-c.self.size (x ∷ []) b) (read_header size (kinds_from C 0) c.args.self.now.rest.now) c.in_err-byte.field-0.0 c.from_residual.result
    c.in_err-byte.ensures
    (λ n q e. c.loop-c.invariant.2 ∙ kinds_stop size C c.loop-c.c-index c.loop-c-test.true c.c-item.result c.c-item.is x is b n q (ap (λ m. read_header m (x ∷ []) b) (sym c.loop-c.invariant.0) ∙ e))
    c.loop-c.invariant.1 (p.1 ∙ ap Err p.2)

pub loop-c-preserved : goal.loop-c-preserved
loop-c-preserved c =
    let size = c.args.self.now.size in
    let x = c.from.result in
    let b = c.loop-c.self.rest.now in
    let is = c.from.ensures ∙ c.kind_byte.ensures in
    let e = c.in_ok-byte.ensures in (
      e.1 ∙ c.loop-c.invariant.0,
      e.2 ∙ c.loop-c.invariant.1,
      c.loop-c.invariant.2 ∙ kinds_step size c.args.columns.now c.loop-c.c-index c.loop-c-test.true c.c-item.result c.c-item.is x is b c.byte.new.self.rest.now (ap (λ m. read_header m (x ∷ []) b) (sym c.loop-c.invariant.0) ∙ e.0),
    )

pub returns : goal.returns
returns c = (
  c.loop-c.invariant.2 ∙ kinds_end c.args.self.now.size c.args.columns.now c.loop-c.c-index c.loop-c.self.rest.now c.loop-c-test.false,
  c.loop-c.invariant.0,
  c.loop-c.invariant.1,
)
