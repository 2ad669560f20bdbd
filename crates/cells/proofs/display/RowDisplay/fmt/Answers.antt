use Rattle.std.proofs.Common.{map, refl, ap, ◌∙◌, rules}
use Rattle.std.proofs.Output.{writes_in_calls_nil, has_written_append, has_written_of_eq}
use Rattle.cells.specs.Held.{value}
use Rattle.cells.specs.Printed.{printed, printed_row}
use Rattle.cells.proofs.Prints.{row_none, row_some}
use Rattle.cells.proofs.display.RowDisplay.fmt.Goals as goal

pub returns-in_default-clause-writes : goal.returns-in_default-clause-writes
returns-in_default-clause-writes g c =
    λ plain e.
    let cells = c.as_slice.result.now in
    has_written_of_eq g.W.Write.write_str_gives c.args.f.now _ _ c.args.f.now (row_none cells (search rules) ∙ ap (λ l. printed_row (map value l)) c.as_slice.ensures.value)
    (record { wrote = writes_in_calls_nil g.W.Write.write_str_gives c.args.f.now.writer; plain = plain })

pub returns-in_ok-print_rest-clause-writes : goal.returns-in_ok-print_rest-clause-writes
returns-in_ok-print_rest-clause-writes g c =
    λ plain e.
    let cells = c.as_slice.result.now in
    let x = c.first-item.result in
    let first = c.in_ok-write.ensures.writes plain refl in
    has_written_of_eq g.W.Write.write_str_gives c.args.f.now _ _ c.print_rest.new.f (row_some cells x (search rules) c.first-item.is ∙ ap (λ l. printed_row (map value l)) c.as_slice.ensures.value)
    (has_written_append g.W.Write.write_str_gives c.args.f.now (printed (value x)) c.write.new.self _ c.print_rest.new.f first (c.in_ok-print_rest.ensures first.plain refl))
