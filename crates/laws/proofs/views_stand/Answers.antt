use Rattle.laws.proofs.Piling.{views_stand}
use Rattle.laws.proofs.Alike.{one_view_equivalence, one_view_alike}
use Rattle.laws.proofs.views_stand.Goals as goal

pub returns : goal.returns
returns c = ((λ o O. views_stand o O), one_view_equivalence, one_view_alike)
