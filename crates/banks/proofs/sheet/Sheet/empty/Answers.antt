use Rattle.sorts.specs.Sealed.{sort_of}
use Rattle.banks.proofs.Sound.{none_meets}
use Rattle.banks.proofs.sheet.Sheet.empty.Goals as goal

pub invariant_of-result-clause-sound : goal.invariant_of-result-clause-sound
invariant_of-result-clause-sound c = rw c.new.ensures.items (none_meets (sort_of c.args.sort))
