use Rattle.std.proofs.Common.{take, vec_items, Some}
use Rattle.std.specs.Fn.{FnReturnsAt}
use Rattle.std.specs.List.{AllZip}
use Rattle.commands.proofs.lists.each.Given as goal

abbrev pub invariant-loop-item : goal.invariant-loop-item
invariant-loop-item g l = AllZip (λ x u. FnReturnsAt g.F.Fn l.give x (Some u)) (take l.item-index l.items) (vec_items l.all)
