use Rattle.std.proofs.Common.{Bool, ◌&&◌, ◌∙◌, rules}
use borrow.Author.Tests.{tests}
use Rattle.std.proofs.lemmas.Iterator.{YieldsList-from_slice}
use Rattle.std.proofs.lemmas.Iterator.Search.{all_from_yields_List}
use Rattle.model.specs.Values.{every}
use Rattle.model.specs.ColumnSets.{ColumnSet}
use Rattle.model.specs.TreeForm.{sets}
use Rattle.columns.specs.Members.{members, dependencies, near}
use Rattle.columns.proofs.Trees.{all_sets}
use Rattle.columns.proofs.dependencies.are_near.Goals as goal

pub returns : goal.returns
returns c =
    let D = c.args.deps.now in
    let t : ColumnSet → Bool = λ X. every (near X) (sets (dependencies D)) in
    all_from_yields_List (λ d. t (members d.left) && t (members d.right)) _ _ _ c.all.ensures.ran (YieldsList-from_slice D cc) (λ x b q k. search (rules, tests))
    ∙ all_sets t D
