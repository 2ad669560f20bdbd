use Rattle.std.proofs.Common.{arith}
use Rattle.conditions.proofs.Lookups.{found_within, some_kind}
use Rattle.conditions.proofs.settling.find_column.Goals as goal

pub bounds-columns-at : goal.bounds-columns-at
bounds-columns-at c = found_within c.args.columns.now c.args.word.now c.in_ok-at.at c.in_ok-at.ensures

pub bounds-columns-at-in_ok-place : goal.bounds-columns-at-in_ok-place
bounds-columns-at-in_ok-place c = found_within c.args.columns.now c.args.word.now c.in_ok-at.at c.in_ok-at.ensures

pub returns-clause-kind : goal.returns-clause-kind
returns-clause-kind c =
    some_kind c.args.columns.now c.args.word.now c.in_ok-at.at c.index-columns-at.result c.in_ok-at.ensures (omega (arith, c.in_ok-place.ensures, c.in_ok-place.place.below))
