use Rattle.std.proofs.Common.{◌∙◌, rules}
use borrow.Author.Tests.{tests}
use Rattle.std.proofs.lemmas.Iterator.{YieldsList-from_slice}
use Rattle.std.proofs.lemmas.Iterator.Search.{any_from_yields_List}
use Rattle.columns.proofs.Places.{any_member}
use Rattle.columns.proofs.set.ColumnSet.has_some.Goals as goal

pub returns : goal.returns
returns c =
    let X = c.args.self.now.places in
    any_from_yields_List (λ b. b) _ _ _ c.any.ensures.ran (YieldsList-from_slice X cc) (λ x b q k. search (rules, tests)) ∙ any_member X
