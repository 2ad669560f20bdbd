use Rattle.laws.proofs.Shown.{examples, views_shown, one_view_shown}
use Rattle.laws.proofs.examples_stand.Goals as goal

pub returns : goal.returns
returns c = (examples, views_shown, one_view_shown)
