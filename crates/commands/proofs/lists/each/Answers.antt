use Rattle.std.proofs.Common.{◌≡◌, Some, None, sym, ap, ◌∙◌}
use Rattle.std.specs.Result.{result_ok}
use Rattle.std.proofs.lemmas.Fn.{says_at}
use Rattle.commands.proofs.Eaches.{all_more}
use Rattle.commands.proofs.lists.each.Goals as goal

pub returns-in_err-ok_or-clause-malformed : goal.returns-in_err-ok_or-clause-malformed
returns-in_err-ok_or-clause-malformed g c e =
    let none : c.give.result ≡ None = c.ok_or.ensures.ok_part ∙ ap result_ok c.in_err-ok_or.was in
    (c.loop-item.item-index, c.item-item.result, c.loop-item-test.true, sym c.item-item.is, says_at g.F.Fn c.give.ensures none)

pub loop-item-preserved : goal.loop-item-preserved
loop-item-preserved g c =
    let some : c.give.result ≡ Some c.in_ok-ok_or.field-0 = c.ok_or.ensures.ok_part ∙ ap result_ok c.in_ok-ok_or.was in
    all_more _ c.args.items.now c.loop-item.item-index c.item-item.result _ _ c.in_ok-ok_or.field-0 c.loop-item-test.true c.item-item.is c.loop-item.invariant (says_at g.F.Fn c.give.ensures some) c.in_ok-push.ensures.items
