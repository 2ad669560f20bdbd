use Rattle.std.proofs.Common.{rules}
use borrow.Author.Tests.{tests}
use Rattle.columns.proofs.Places.{has_found}
use Rattle.columns.proofs.set.ColumnSet.has.Goals as goal

pub returns : goal.returns
returns c = has_found c.args.self.now.places c.args.place c.get.result c.is_some_and.result c.get.ensures.lookup.3 (search (rules, tests))
