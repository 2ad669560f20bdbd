use Rattle.std.proofs.Common.{vec_items, arith}
use lib.ListN.{length-map}
use Rattle.cells.specs.Held.{tuple}
use Rattle.sorts.specs.Sealed.{sort_of}
use Rattle.banks.specs.Fields.{held}
use Rattle.banks.proofs.Sound.{accepted_meets}
use Rattle.banks.proofs.sheet.Sheet.read_bank.Goals as goal

pub invariant_of-self-2 : goal.invariant_of-self-2
invariant_of-self-2 c =
    let s = c.args.self.now in
    let rows = c.in_ok-rows.rows in
    let w = accepted_meets _ s.room (sort_of s.sort) c.args.bytes.now (held rows) s.small c.in_ok-rows.ensures in
    record { sound = w.0; fits = omega (arith, w.1, length-map (vec_items rows) tuple, rows.ok.0); small = s.small }
