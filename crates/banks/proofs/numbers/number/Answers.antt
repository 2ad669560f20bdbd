use Rattle.std.proofs.Common.{◌≡◌, suc, ◌+◌, ◌-◌, ◌*◌, ◌∷◌, sym, ap, ◌∙◌, arith, rules}
use Rattle.model.specs.Banks.{read_groups}
use Rattle.banks.proofs.Fronts.{next_group}
use Rattle.banks.proofs.numbers.number.Goals as goal

pub loop-preserved : goal.loop-preserved
loop-preserved c =
    let k = c.loop.counter in
    let n = c.loop.n in
    let g = c.in_ok-group.group.now in
    let after = c.in_ok-group.after.now in
    let front : c.loop.rest.now ≡ g ∷ after = search rules in
    let left : suc (4 - (k + 1)) ≡ 4 - k = omega arith in
    record {
      none = λ h. omega arith;
      one = λ h. omega arith;
      two = λ h. omega arith;
      three = λ h. omega arith;
      left =
          ap (λ x. read_groups (4 - (k + 1)) (n * 128 + x) after) c.from.ensures
          ∙ sym (next_group (4 - (k + 1)) n g after (omega arith) (omega arith))
          ∙ ap (λ m. read_groups m n (g ∷ after)) left
          ∙ ap (read_groups (4 - k) n) (sym front)
          ∙ c.loop.invariant.left;
    }
