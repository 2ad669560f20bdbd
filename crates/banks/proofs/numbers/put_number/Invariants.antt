use Rattle.std.proofs.Common.{◌≡◌, ◌++◌, take, vec_items}
use Rattle.std.specs.List.{flat_map}
use Rattle.banks.proofs.Coded.{high_group, units}
use Rattle.banks.proofs.numbers.put_number.Given as goal

abbrev pub invariant-loop-unit : goal.invariant-loop-unit
invariant-loop-unit l = record {
  all : l.unit-items ≡ units;
  so_far : vec_items l.out ≡ vec_items l.initial.out ++ flat_map (high_group l.n) (take l.unit-index units);
}
