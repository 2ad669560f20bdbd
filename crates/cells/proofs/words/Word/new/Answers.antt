use Rattle.std.proofs.Common.{rules}
use Rattle.cells.proofs.Texts.{no_name}
use Rattle.cells.proofs.words.Word.new.Goals as goal

pub returns-in_default : goal.returns-in_default
returns-in_default c = search (rules, no_name)
