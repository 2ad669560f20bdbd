use Rattle.std.proofs.Common.{not, ◌&&◌, take, rules, tests}
use Rattle.std.proofs.lemmas.Iterator.{YieldsList-from_slice}
use Rattle.model.specs.Sorts.{agrees}
use Rattle.cells.specs.Held.{tuple}
use Rattle.columns.specs.Members.{members}
use Rattle.sorts.proofs.Mapped.{any_of}
use Rattle.banks.proofs.breaking.breaks_one.Goals as goal

pub returns : goal.returns
returns c =
    let t = tuple c.args.row.now in
    any_of (λ s. agrees (take c.args.width (members c.args.d.now.left)) s t && not (agrees (take c.args.width (members c.args.d.now.right)) s t)) tuple _ _ _ c.any.ensures.ran (YieldsList-from_slice c.args.earlier.now cc) (λ x b q k. search (rules, tests))
