use Rattle.laws.proofs.Orders.{relation_exact, relation_unique}
use Rattle.laws.proofs.Short.{relation_same}
use Rattle.laws.proofs.relations_stand.Goals as goal

pub returns : goal.returns
returns c = (relation_exact, relation_unique, λ o O. relation_same o O)
