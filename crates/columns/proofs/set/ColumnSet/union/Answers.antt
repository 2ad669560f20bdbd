use Rattle.std.proofs.Common.{◌||◌, false, get_or, rules}
use borrow.Author.Tests.{tests}
use Rattle.columns.proofs.Places.{made_at, union_places}
use Rattle.columns.proofs.set.ColumnSet.union.Goals as goal

pub returns : goal.returns
returns c =
    let X = c.args.self.now.places in
    let Y = c.args.other.now.places in
    let h = c.from_fn-places.ensures.items in
    union_places X Y c.from_fn-places.result (search rules) (search rules)
    (λ k l. made_at _ (λ i. get_or X i false || get_or Y i false) _ _ 0 8 (λ i y q e. search (rules, tests)) h.each k false (search rules) (search rules))
