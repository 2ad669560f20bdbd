use Rattle.std.proofs.Common.{Ok, ◌∙◌}
use Rattle.reader.proofs.Running.{same_text}
use Rattle.reader.proofs.Wholes.{condition_read, ends_moved, said_begins}
use Rattle.reader.proofs.reading.read_condition.Goals as goal

pub returns : goal.returns
returns c =
    let b = c.args.text.now in
    let p = c.in_ok-parser.parser in
    let q = c.condition.new.self in
    let k = c.in_ok-phrase.phrase in
    let begins = c.in_ok-parser.ensures in
    let h = said_begins b p.reader.text.now p.reader.at (Ok k) q.reader.at begins.0 begins.1 c.in_ok-phrase.ensures.said in
    let g = ends_moved b q.reader.text.now q.reader.at (Ok tt) (same_text c.condition.ensures.onward.same ∙ begins.0) c.in_ok-end.ensures in
    condition_read b k q.reader.at begins.2 h g
