use Rattle.std.proofs.Common.{◌≡◌, Some, sym, ap, ◌∙◌, subst}
use Rattle.std.specs.Result.{result_ok}
use Rattle.std.proofs.lemmas.Result.{err_from_is_err_and}
use Rattle.commands.specs.Lines.{texts, command_word, words_of}
use Rattle.commands.specs.Forms.{verb_of, says, asked, command_of}
use Rattle.commands.specs.Readings.{ReadsAs}
use Rattle.commands.proofs.Meanings.{command_steps, command_malformed}
use Rattle.commands.proofs.Results.{reads_on}
use Rattle.commands.proofs.parsing.command_in.Goals as goal

pub returns-in_err-words : goal.returns-in_err-words
returns-in_err-words c =
    let l = c.args.line.now in
    let v = c.in_ok-verb.verb in
    let verb : verb_of (command_word l) ≡ Some v = sym (ap verb_of c.split_command.ensures.0) ∙ sym c.verb_of.ensures ∙ c.ok_or.ensures.ok_part ∙ ap result_ok c.in_ok-verb.was in
    let p = err_from_is_err_and c.from_residual-in_err-words.result c.from_residual-in_err-words.ensures.1 in
    rw (p.1, p.2) (reads_on c.in_err-words.field-0.0 _ asked _ (command_of l) c.in_err-words.ensures (λ none. sym (command_malformed l v verb (sym (ap words_of c.split_command.ensures.1) ∙ sym none))))

pub returns : goal.returns
returns c =
    let l = c.args.line.now in
    let v = c.in_ok-verb.verb in
    let verb : verb_of (command_word l) ≡ Some v = sym (ap verb_of c.split_command.ensures.0) ∙ sym c.verb_of.ensures ∙ c.ok_or.ensures.ok_part ∙ ap result_ok c.in_ok-verb.was in
    let words = sym (ap words_of c.split_command.ensures.1) ∙ sym c.in_ok-words.ensures in
    subst (ReadsAs c.arguments.result asked) (ap (λ ws. says v (texts ws)) c.deref.ensures.value ∙ sym (command_steps l v _ verb words)) c.arguments.ensures
