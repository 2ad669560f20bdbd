use Rattle.laws.proofs.Cells.{equality_test, sets_test}
use Rattle.laws.proofs.Meeting.{meets_test}
use Rattle.laws.proofs.tests_stand.Goals as goal

pub returns : goal.returns
returns c = (equality_test, sets_test, meets_test)
