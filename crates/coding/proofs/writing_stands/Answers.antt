use Rattle.coding.proofs.Dues.{written_reads, banks_once}
use Rattle.coding.proofs.Sized.{bank_length}
use Rattle.coding.proofs.writing_stands.Goals as goal

pub returns : goal.returns
returns c = (written_reads, banks_once, bank_length)
