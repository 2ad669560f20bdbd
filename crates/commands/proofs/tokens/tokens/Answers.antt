use Rattle.std.proofs.Common.{map, vec_items, sym, ap, ◌∙◌, subst}
use Rattle.std.specs.Result.{result_ok}
use Rattle.std.proofs.lemmas.List.{map_push}
use Rattle.commands.specs.Lines.{lexeme, tokens_of, Leads}
use Rattle.commands.proofs.Readings.{before, before_lead}
use Rattle.commands.proofs.tokens.tokens.Goals as goal

pub loop-first-preserved : goal.loop-first-preserved
loop-first-preserved c =
    let done = vec_items c.loop-first.all in
    let left = c.loop-first.rest.now in
    let others = tokens_of c.in_ok-token.after.now in
    let led = subst (Leads (tokens_of left) left) (c.ok_or.ensures.ok_part ∙ ap result_ok c.in_ok-token.was) c.first_token.ensures in
    c.loop-first.invariant ∙ ap (before (map lexeme done)) led.0 ∙ before_lead (map lexeme done) (lexeme c.in_ok-token.token) others ∙ ap (λ l. before l others) (sym (ap (map lexeme) c.in_ok-push.ensures.items ∙ map_push lexeme done c.in_ok-token.token))
