use Rattle.std.proofs.Common.{◌&&◌, ◌∙◌, rules}
use borrow.Author.Tests.{tests}
use Rattle.std.proofs.lemmas.Iterator.{YieldsList-from_slice}
use Rattle.std.proofs.lemmas.Iterator.Search.{all_from_yields_List}
use Rattle.columns.specs.Members.{members, near}
use Rattle.columns.proofs.Trees.{all_sets}
use Rattle.columns.proofs.dependencies.are_all_near.Goals as goal

pub returns : goal.returns
returns c =
    let D = c.args.deps.now in
    let X = members c.args.x.now in
    all_from_yields_List (λ d. near X (members d.left) && near X (members d.right)) _ _ _ c.all.ensures.ran (YieldsList-from_slice D cc) (λ x b q k. search (rules, tests))
    ∙ all_sets (near X) D
