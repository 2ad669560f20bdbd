use Rattle.std.proofs.Common.{◌≡◌, ◌-◌, ◌*◌, ◌<◌, ◌≤◌}
use Rattle.model.specs.Banks.{read_groups}
use Rattle.banks.proofs.numbers.number.Given as goal

abbrev pub invariant-loop : goal.invariant-loop
invariant-loop l = record {
  none : l.counter ≤ 0 → l.n < 1;
  one : l.counter ≤ 1 → l.n < 128;
  two : l.counter ≤ 2 → l.n < 128 * 128;
  three : l.counter ≤ 3 → l.n < 128 * 128 * 128;
  left : read_groups (4 - l.counter) l.n l.rest ≡ read_groups 4 0 l.bytes;
}
