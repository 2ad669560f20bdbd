use Rattle.std.proofs.Common.{map, take, refl, ap}
use Rattle.std.proofs.Output.{writes_in_calls_nil, has_written_append, has_written_of_eq}
use Rattle.std.proofs.lemmas.List.{take_all}
use Rattle.std.specs.List.{flat_map}
use Rattle.cells.specs.Held.{value}
use Rattle.cells.specs.Printed.{spaced}
use Rattle.cells.proofs.Prints.{spaced_more}
use Rattle.cells.proofs.display.print_rest.Goals as goal

pub loop-cell-init : goal.loop-cell-init
loop-cell-init g c = λ plain. record { wrote = writes_in_calls_nil g.W.Write.write_str_gives c.args.f.now.writer; plain = plain }

pub loop-cell-preserved : goal.loop-cell-preserved
loop-cell-preserved g c =
    λ plain.
    let i = c.loop-cell.cell-index in
    let x = c.cell-item.result in
    let before = c.loop-cell.invariant plain in
    has_written_of_eq g.W.Write.write_str_gives c.args.f.now _ _ c.write.new.self (spaced_more c.args.cells.now i x c.loop-cell-test.true c.cell-item.is)
    (has_written_append g.W.Write.write_str_gives c.args.f.now (flat_map spaced (map value (take i c.args.cells.now))) c.loop-cell.f (spaced (value x)) c.write.new.self before (c.in_ok-write.ensures.writes before.plain refl))

pub returns : goal.returns
returns g c =
    λ plain e.
    has_written_of_eq g.W.Write.write_str_gives c.args.f.now _ _ c.loop-cell.f (ap (λ l. flat_map spaced (map value l)) (take_all c.loop-cell.cell-index c.args.cells.now c.loop-cell-test.false))
    (c.loop-cell.invariant plain)
