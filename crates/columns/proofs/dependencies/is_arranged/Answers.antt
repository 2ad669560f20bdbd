use Rattle.std.proofs.Common.{◌∙◌, rules}
use borrow.Author.Tests.{tests}
use Rattle.std.proofs.lemmas.Iterator.{YieldsList-from_slice}
use Rattle.std.proofs.lemmas.Iterator.Consumers.{YieldsList-from_enumerate}
use Rattle.std.proofs.lemmas.Iterator.Search.{all_from_yields_List}
use Rattle.columns.proofs.Trees.{leads_rest, all_arranged}
use Rattle.columns.proofs.dependencies.is_arranged.Goals as goal

pub returns : goal.returns
returns c =
    let D = c.args.deps.now in
    all_from_yields_List (λ p. leads_rest D p.0 p.1) c.all.new.self _ _ c.all.ensures.ran (YieldsList-from_enumerate (YieldsList-from_slice D cc) cc) (λ x b q k. search (rules, tests))
    ∙ all_arranged D
