use Rattle.std.proofs.Common.{sym}
use Rattle.reader.proofs.Judges.{text_cell}
use Rattle.reader.proofs.terminals.constant.Goals as goal

pub returns-in-Quoted : goal.returns-in-Quoted
returns-in-Quoted c = text_cell c.args.token.place c.args.token.sign c.in-Quoted.bytes c.in-Quoted.is (sym c.if-is_text.ensures)
