use Rattle.std.proofs.Common.{◌∙◌, rules}
use borrow.Author.Tests.{tests}
use Rattle.std.proofs.lemmas.Iterator.{YieldsList-from_slice}
use Rattle.std.proofs.lemmas.Iterator.Search.{position_from_yields_List}
use Rattle.model.specs.Values.{same_bytes}
use Rattle.cells.specs.Worded.{letters}
use Rattle.columns.proofs.Lookups.{position_lookup}
use Rattle.columns.proofs.column.place_of.Goals as goal

pub returns : goal.returns
returns c =
    let w = c.args.word.now in
    position_from_yields_List (λ x. same_bytes (letters x.word) w) _ _ _ c.position.ensures.ran (YieldsList-from_slice c.args.columns.now cc) (λ x b q k. search (rules, tests))
    ∙ position_lookup c.args.columns.now w
