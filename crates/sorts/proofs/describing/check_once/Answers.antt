use Rattle.std.proofs.Common.{sym, ◌∙◌, rules, tests}
use Rattle.std.proofs.lemmas.Iterator.{YieldsList-from_slice}
use Rattle.std.proofs.lemmas.Iterator.Search.{all_from_yields_List}
use Rattle.std.proofs.lemmas.Iterator.Consumers.{YieldsList-from_enumerate}
use Rattle.std.proofs.lemmas.List.{take_rest}
use Rattle.sorts.proofs.Wording.{last_so, once_each}
use Rattle.sorts.proofs.describing.check_once.Goals as goal

pub returns : goal.returns
returns c =
    let xs = c.args.names.now in
    let once = all_from_yields_List (last_so xs) _ _ _ c.all-once.ensures.ran (YieldsList-from_enumerate (YieldsList-from_slice xs cc) cc) (λ x b q k. search (rules, tests, take_rest)) in
    rw (sym (once ∙ once_each xs)) c.ensure.ensures
