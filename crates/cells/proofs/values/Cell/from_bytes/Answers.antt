use Rattle.std.proofs.Common.{sym, ap, ◌∙◌}
use Rattle.model.specs.Sorts.{of_kind}
use Rattle.model.specs.Values.{text}
use Rattle.cells.proofs.Texts.{offered_utf8, offered_other, offered_kind}
use Rattle.cells.proofs.values.Cell.from_bytes.Goals as goal

pub returns-in_ok-from_str-in-Ok-clause-value : goal.returns-in_ok-from_str-in-Ok-clause-value
returns-in_ok-from_str-in-Ok-clause-value c =
    let is = c.in-Ok.ensures.cases in
    ap text (c.in_ok-from_str-in-Ok.ensures.ok ∙ is.0) ∙ sym (offered_utf8 c.args.bytes.now is.1)

pub returns-in_ok-from_str-in-Ok-clause-kinds : goal.returns-in_ok-from_str-in-Ok-clause-kinds
returns-in_ok-from_str-in-Ok-clause-kinds c = λ k.
    let is = c.in-Ok.ensures.cases in
    let b = c.args.bytes.now in
    ap (of_kind k) (ap text (c.in_ok-from_str-in-Ok.ensures.ok ∙ is.0) ∙ sym (offered_utf8 b is.1)) ∙ offered_kind k b

pub returns-in-Err : goal.returns-in-Err
returns-in-Err c =
    let b = c.args.bytes.now in
    let e = ap text c.new.ensures.bytes ∙ sym (offered_other b c.in-Err.ensures.cases.0) in
    record { value = e; kinds = λ k. ap (of_kind k) e ∙ offered_kind k b }
