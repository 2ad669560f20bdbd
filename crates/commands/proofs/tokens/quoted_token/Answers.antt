use Rattle.std.proofs.Common.{◌≡◌, length, sym, ap, ◌∙◌, arith, rules, tests}
use Rattle.std.proofs.lemmas.List.{length-append}
use Rattle.commands.specs.declared.tokens.Token.TheVariants.{Quoted}
use Rattle.commands.specs.Lists.{behind}
use Rattle.commands.proofs.Readings.{is_held, quoted_none, quoted_some, quoted_unbounded, leads_if}
use Rattle.commands.proofs.tokens.quoted_token.Goals as goal

pub returns-in_err-rest : goal.returns-in_err-rest
returns-in_err-rest c =
    rw c.from_residual.ensures (quoted_none c.args.inner.now c.split_run.result.1.now (c.split_run.ensures.behind is_held (λ a b k. search (rules, tests))) c.in_err-rest.ensures.cases)

pub returns : goal.returns
returns c =
    let inner = c.args.inner.now in
    let held = c.split_run.result.0 in
    let after = c.split_run.result.1.now in
    let next = c.in_ok-rest.ensures.cases in
    let d = c.split_run.ensures.front is_held (λ a b k. search (rules, tests)) in
    let e : after ≡ behind is_held inner = c.split_run.ensures.behind is_held (λ a b k. search (rules, tests)) in
    rw c.then_some.ensures (leads_if inner _ c.ends_token.result (Quoted held) c.in_ok-rest.rest
    (λ b. (quoted_some inner after e held.now d _ c.in_ok-rest.rest.now next.0 (sym c.ends_token.ensures ∙ b), omega (arith, ap length c.split_run.ensures.whole, length-append held.now after, next.1)))
    (λ b. quoted_unbounded inner after e _ c.in_ok-rest.rest.now next.0 (sym c.ends_token.ensures ∙ b)))
