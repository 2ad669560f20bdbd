use Rattle.std.proofs.Common.{◌≡◌, length, sym, ap, ◌∙◌, true-eqb, false-eqb, arith, rules, tests}
use Rattle.std.proofs.lemmas.List.{length-append}
use Rattle.commands.specs.declared.tokens.Token.TheVariants.{Plain}
use Rattle.commands.specs.Lines.{is_sign}
use Rattle.commands.specs.Lists.{front, behind}
use Rattle.commands.proofs.Readings.{plain_some, plain_unbounded, plain_empty, leads_if}
use Rattle.commands.proofs.tokens.plain_token.Goals as goal
use Rattle.commands.proofs.tokens.plain_token.Goals.{then-not-is_empty, else-not-is_empty}

pub returns : goal.returns
returns c =
    let text = c.args.text.now in
    let word = c.split_run.result.0 in
    let after = c.split_run.result.1 in
    let d : word.now ≡ front is_sign text = c.split_run.ensures.front is_sign (λ a b k. search (rules, tests)) in
    let e : after.now ≡ behind is_sign text = c.split_run.ensures.behind is_sign (λ a b k. search (rules, tests)) in
    elim c.if-not-is_empty.branch [
      | then-not-is_empty w ↦
          rw (c.then_some.ensures, w.then_some-is) (leads_if text _ w.ends_token.result (Plain word) after
          (λ b. (plain_some text c.requires.1 c.requires.0 word.now after.now d e (false-eqb _ 0 w.if-not-is_empty.ensures) (sym w.ends_token.ensures ∙ b), omega (arith, false-eqb _ 0 w.if-not-is_empty.ensures, ap length c.split_run.ensures.whole, length-append word.now after.now)))
          (λ b. plain_unbounded text c.requires.1 c.requires.0 after.now e (sym w.ends_token.ensures ∙ b)))
      | else-not-is_empty w ↦ rw (c.then_some.ensures, w.then_some-is, w.if-not-is_empty.false) (plain_empty text c.requires.1 c.requires.0 word.now d (true-eqb _ 0 w.if-not-is_empty.ensures))
    ]
