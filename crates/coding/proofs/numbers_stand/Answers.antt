use Rattle.coding.proofs.Groups.{groups_once, numbers_exact, none_exact}
use Rattle.coding.proofs.numbers_stand.Goals as goal

pub returns : goal.returns
returns c = (groups_once, numbers_exact, none_exact)
