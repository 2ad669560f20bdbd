use Rattle.std.proofs.Common.{Ok, Err, vec_items, ◌∙◌}
use Rattle.std.proofs.lemmas.Result.{err_from_is_err_and}
use Rattle.phrases.specs.Written.{all_placed}
use Rattle.reader.proofs.Running.{same_text}
use Rattle.reader.proofs.Wholes.{built_begins, definition_ends, definition_stops, ends_moved}
use Rattle.reader.proofs.reading.read_steps.Goals as goal

pub returns-in_err-definition : goal.returns-in_err-definition
returns-in_err-definition c =
    let r = err_from_is_err_and c.from_residual-in_err-definition.result c.from_residual-in_err-definition.ensures.1 in
    let b = c.args.text.now in
    let p = c.in_ok-parser.parser in
    let z = c.definition.new.self.reader.at in
    let S = all_placed (vec_items c.args.steps.now) in
    let T = all_placed (vec_items c.definition.new.steps) in
    let f = c.in_err-definition.field-0.0 in
    let begins = c.in_ok-parser.ensures in
    rw (r.1, r.2) (definition_stops b S T z f begins.2 (built_begins b p.reader.text.now p.reader.at S T (Err f) z begins.0 begins.1 c.in_err-definition.ensures.built))

pub returns : goal.returns
returns c =
    let b = c.args.text.now in
    let p = c.in_ok-parser.parser in
    let q = c.definition.new.self in
    let S = all_placed (vec_items c.args.steps.now) in
    let T = all_placed (vec_items c.definition.new.steps) in
    let begins = c.in_ok-parser.ensures in
    let h = built_begins b p.reader.text.now p.reader.at S T (Ok tt) q.reader.at begins.0 begins.1 c.in_ok-definition.ensures.built in
    let g = ends_moved b q.reader.text.now q.reader.at c.end.result (same_text c.definition.ensures.onward.same ∙ begins.0) c.end.ensures in
    definition_ends b S T q.reader.at c.end.result begins.2 h g
