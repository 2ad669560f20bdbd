use Rattle.std.proofs.Common.{◌∙◌, rules}
use Rattle.grammar.specs.Phrases.{named, given}
use Rattle.grammar.specs.Reading.{on_word, on_cell, on_operand}
use Rattle.phrases.specs.Written.{constant, term}
use Rattle.signs.specs.Spoken.{said}
use Rattle.reader.specs.Judging.{spelt}
use Rattle.reader.proofs.Judges.{judged_err, operand_word, operand_cell}
use Rattle.reader.proofs.terminals.operand.Goals as goal

pub returns-in_err-word-in-Word : goal.returns-in_err-word-in-Word
returns-in_err-word-in-Word c =
    let p = c.args.token.place in
    let s = c.args.token.sign in
    let faulty = judged_err (on_word p (said s)) (on_operand p (said s)) spelt term named (operand_word p s c.in-Word.field-0 c.in-Word.is) c.in_err-word-in-Word.field-0.0 c.in_err-word-in-Word.ensures in
    search rules

pub returns-in_err-constant-in_default : goal.returns-in_err-constant-in_default
returns-in_err-constant-in_default c =
    let p = c.args.token.place in
    let s = c.args.token.sign in
    let faulty = judged_err (on_cell p (said s)) (on_operand p (said s)) constant term given (operand_cell p s c.in_default.not-Word) c.in_err-constant-in_default.field-0.0 c.in_err-constant-in_default.ensures in
    search rules

pub returns-in_ok-word-in-Word : goal.returns-in_ok-word-in-Word
returns-in_ok-word-in-Word c = λ k. operand_word c.args.token.place c.args.token.sign c.in-Word.field-0 c.in-Word.is k ∙ c.in_ok-word-in-Word.ensures (λ w. k (named w))

pub returns-in_ok-constant-in_default : goal.returns-in_ok-constant-in_default
returns-in_ok-constant-in_default c = λ k. operand_cell c.args.token.place c.args.token.sign c.in_default.not-Word k ∙ c.in_ok-constant-in_default.ensures (λ v. k (given v))
