use Rattle.std.proofs.Common.{◌||◌, not, ◌∙◌, rules}
use borrow.Author.Tests.{tests}
use Rattle.std.proofs.lemmas.Iterator.{YieldsList-from_slice, YieldsList-from_zip}
use Rattle.std.proofs.lemmas.Iterator.Search.{all_from_yields_List}
use Rattle.columns.proofs.Places.{all_within}
use Rattle.columns.proofs.set.ColumnSet.is_within.Goals as goal

pub returns : goal.returns
returns c =
    let X = c.args.self.now.places in
    let Y = c.args.other.now.places in
    all_from_yields_List (λ p. not p.0 || p.1) c.all.new.self _ _ c.all.ensures.ran (YieldsList-from_zip (YieldsList-from_slice X cc) (YieldsList-from_slice Y cc)) (λ x b q k. search (rules, tests))
    ∙ all_within X Y (search rules)
