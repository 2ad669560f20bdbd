use Rattle.laws.proofs.Orders.{value_order, tuple_order}
use Rattle.laws.proofs.orders_stand.Goals as goal

pub returns : goal.returns
returns c = (value_order, λ o O. tuple_order o O)
