use Rattle.std.proofs.Common.{◌≡◌, vec_items, Some, None, Ok, Err, sym, ap, ◌∙◌, arith}
use Rattle.std.specs.Option.{option_map}
use Rattle.std.proofs.lemmas.Result.{err_from_is_err_and}
use Rattle.outcomes.specs.declared.Outcome.TheVariants.{NoFile}
use Rattle.session.proofs.Loads.{read_none, read_into}
use Rattle.session.proofs.tables.Session.load.Goals as goal

pub returns-in_err-bytes : goal.returns-in_err-bytes
returns-in_err-bytes c =
    let p = err_from_is_err_and c.from_residual-in_err-bytes.result c.from_residual-in_err-bytes.ensures.1 in
    let none : c.args.bytes ≡ None = grind arith in
    let told : c.in_err-bytes.field-0.0 ≡ NoFile = grind arith in
    rw (p.1, p.2, told) (read_none c.args.self.now c.args.name.now c.in_ok-i.i c.in_ok-i.ensures.0 c.in_ok-i.ensures.1 (option_map vec_items c.args.bytes) (ap (option_map vec_items) none))

pub returns-in_err-read_bank : goal.returns-in_err-read_bank
returns-in_err-read_bank c =
    let p = err_from_is_err_and c.from_residual-in_err-read_bank.result c.from_residual-in_err-read_bank.ensures.1 in
    let some : c.args.bytes ≡ Some c.in_ok-bytes.bytes = grind arith in
    rw (p.1, p.2)
    (read_into c.args.self.now c.args.name.now c.in_ok-i.i c.in_ok-i.ensures.0 c.in_ok-i.ensures.1 c.index_mut.result.now c.index_mut.ensures.value c.deref.result.now (option_map vec_items c.args.bytes) (ap (option_map vec_items) some ∙ ap Some (sym c.deref.ensures.value)) c.read_bank.new.self (Err c.in_err-read_bank.field-0.0) c.in_err-read_bank.ensures)

pub returns : goal.returns
returns c =
    let some : c.args.bytes ≡ Some c.in_ok-bytes.bytes = grind arith in
    read_into c.args.self.now c.args.name.now c.in_ok-i.i c.in_ok-i.ensures.0 c.in_ok-i.ensures.1 c.index_mut.result.now c.index_mut.ensures.value c.deref.result.now (option_map vec_items c.args.bytes) (ap (option_map vec_items) some ∙ ap Some (sym c.deref.ensures.value)) c.read_bank.new.self (Ok c.in_ok-read_bank.field-0) c.in_ok-read_bank.ensures
