use Rattle.std.proofs.Common.{rules}
use Rattle.std.proofs.lemmas.Fn.{always_returns_same}
use Rattle.model.specs.Decisions.{is_below}
use Rattle.model.specs.Orders.{by_bytes}
use Rattle.cells.specs.Held.{value}
use Rattle.conditions.proofs.Choosing.{below_lt, rising_answer}
use Rattle.conditions.proofs.picking.choosing.are_ascending.Goals as goal

pub returns : goal.returns
returns c =
    rising_answer by_bytes value c.args.cells.now _
    (c.is_sorted_by.ensures.cases (λ x y. is_below (by_bytes (value x) (value y))) (always_returns_same _ _ _ (λ a r f' k. (search (rules, below_lt), search rules))))
