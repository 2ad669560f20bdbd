use Rattle.std.proofs.Common.{◌∙◌, rules}
use borrow.Author.Tests.{tests}
use Rattle.std.proofs.lemmas.Iterator.{YieldsList-from_slice}
use Rattle.std.proofs.lemmas.Iterator.Search.{any_from_yields_List}
use Rattle.model.specs.ColumnSets.{same}
use Rattle.columns.specs.Members.{members}
use Rattle.columns.proofs.Trees.{some_right}
use Rattle.columns.proofs.dependencies.has_right.Goals as goal

pub returns : goal.returns
returns c =
    let D = c.args.deps.now in
    let X = members c.args.x.now in
    any_from_yields_List (λ e. same X (members e.right)) _ _ _ c.any.ensures.ran (YieldsList-from_slice D cc) (λ x b q k. search (rules, tests))
    ∙ some_right X D
