use Rattle.std.proofs.Common.{sym, subst, rules}
use Rattle.commands.specs.Lines.{lexeme, plain_word}
use Rattle.commands.specs.Readings.{ReadsAs}
use Rattle.commands.proofs.Eaches.{each-map, reads_each}
use Rattle.commands.proofs.tokens.plain_words.Goals as goal

pub returns : goal.returns
returns c =
    let ts = c.args.tokens.now in
    subst (ReadsAs c.each.result _) (sym (each-map plain_word lexeme ts)) (reads_each _ _ (λ t. plain_word (lexeme t)) (λ w. w.now) (λ x r k. search rules) ts c.each.result c.each.ensures.all c.each.ensures.malformed)
