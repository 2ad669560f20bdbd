use Rattle.std.proofs.Common.{vec_items}
use Rattle.cells.specs.Held.{value}
use Rattle.banks.specs.Codable.{Codable}
use Rattle.banks.proofs.Coded.{all_mapped, row_joined}
use Rattle.banks.proofs.writing.RowCoded.put.Goals as goal

pub put_all-requires : goal.put_all-requires
put_all-requires c = rw c.deref.ensures.value (all_mapped Codable value (vec_items c.args.self.now.cells) c.requires)

pub returns : goal.returns
returns c = rw (← row_joined (vec_items c.args.self.now.cells), ← c.deref.ensures.value) c.put_all.ensures
