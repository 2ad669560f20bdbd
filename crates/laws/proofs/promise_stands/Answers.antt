use Rattle.laws.proofs.Promising.{promise_kept, every_point, recording}
use Rattle.laws.proofs.Keeping.{empty_begins}
use Rattle.laws.proofs.promise_stands.Goals as goal

pub returns : goal.returns
returns c = ((λ o O. promise_kept o O), (λ o. every_point o), (λ o. empty_begins o), (λ o. recording o))
