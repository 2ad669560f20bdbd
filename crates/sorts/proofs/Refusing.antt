-- A refusal that is passed on, and the fault of two that is due.
use Rattle.std.proofs.Common.{◌≡◌, Some, None, Err, Option, ap, ◌∙◌}
use Rattle.model.specs.Faults as faults
use Rattle.cells.specs.Answering.{Answers}
use Rattle.cells.specs.Numbered.{told}
use Rattle.cells.specs.declared.faults.Refusal.{Refusal}
use Rattle.cells.specs.declared.faults.Refusal.TheVariants as refusal

-- What was due to the check is due to the call.
pub passes : (due due' : Option faults.Fault) (e : Refusal) → ((f : faults.Fault) → due ≡ Some f → due' ≡ Some f) → Answers {A = Unit {0}} due (λ _. Unit {0}) (Err e) → Answers {A = Unit {0}} due' (λ _. Unit {0}) (Err e)
passes due due' (refusal.Fault f) h a = h (told f) a
passes due due' refusal.Memory h a = tt

-- the second, where there is no first
pub due_second : (g h k : Option faults.Fault) → g ≡ None → h ≡ k → faults.or_then g h ≡ k
due_second g h k e d = ap (λ x. faults.or_then x h) e ∙ d
