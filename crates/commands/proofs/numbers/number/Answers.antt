use Rattle.std.proofs.Common.{sym, ◌∙◌, subst, arith}
use Rattle.std.specs.Str.Parse.{ParsesUnsigned}
use Rattle.commands.proofs.Numerals.{digits_text, numeral_unread}
use Rattle.commands.proofs.Results.{ok_says, err_says}
use Rattle.commands.proofs.numbers.number.Goals as goal

pub returns-in_err-ok : goal.returns-in_err-ok
returns-in_err-ok c =
    let failed = err_says c.from_utf8.result _ _ c.from_utf8.ensures.cases (sym c.ok.ensures.value ∙ c.in_err-ok.was) in
    absurd (failed.1.0 (digits_text c.args.word.now (sym c.if-not-is_digits.ensures)))

pub returns-in_err-n : goal.returns-in_err-n
returns-in_err-n c =
    let text = (ok_says c.from_utf8.result _ _ c.in_ok-ok.field-0 c.from_utf8.ensures.cases (sym c.ok.ensures.value ∙ c.in_ok-ok.was)).0 in
    let parsed = subst (λ bs. ParsesUnsigned 32 10 bs c.parse.result) text c.parse.ensures.value.0 in
    c.from_residual-in_err-n.ensures ∙ numeral_unread c.args.limit c.args.word.now c.parse.result parsed (sym c.if-not-is_digits.ensures) (omega arith) (sym c.ok-2.ensures.value ∙ c.in_err-n.was)
