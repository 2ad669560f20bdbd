use Rattle.coding.proofs.Whole.{judged_as_offered}
use Rattle.coding.proofs.Dues.{accepted_exactly, refused_exactly}
use Rattle.coding.proofs.reading_stands.Goals as goal

pub returns : goal.returns
returns c = (accepted_exactly, refused_exactly, judged_as_offered)
