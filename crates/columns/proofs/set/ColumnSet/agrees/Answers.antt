use Rattle.std.proofs.Common.{◌||◌, not, take, ◌∙◌, rules}
use borrow.Author.Tests.{tests}
use Rattle.std.proofs.lemmas.Iterator.{YieldsList-from_slice, YieldsList-from_take}
use Rattle.std.proofs.lemmas.Iterator.Consumers.{YieldsList-from_enumerate}
use Rattle.std.proofs.lemmas.Iterator.Search.{all_from_yields_List}
use Rattle.model.specs.Values.{cell, same_value}
use Rattle.cells.specs.Held.{tuple}
use Rattle.columns.proofs.Alike.{all_agree}
use Rattle.columns.proofs.set.ColumnSet.agrees.Goals as goal

pub returns : goal.returns
returns c =
    let X = c.args.self.now.places in
    let w = c.args.width in
    let s = tuple c.args.s.now in
    let t = tuple c.args.t.now in
    all_from_yields_List (λ p. not p.1 || same_value (cell s p.0) (cell t p.0)) c.all.new.self _ _ c.all.ensures.ran (YieldsList-from_enumerate (YieldsList-from_take w (YieldsList-from_slice X cc) cc) cc) (λ x b q k. search (rules, tests))
    ∙ all_agree (take w X) s t
