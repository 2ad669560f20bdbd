-- How a call answers in place of which a fault may be due.
use Rattle.std.specs.Prelude.{◌≡◌, Some, None, Ok, Err, Option, Result}
use Rattle.model.specs.Faults.{Fault as ModelFault}
use Rattle.cells.specs.Numbered.{told}
use Rattle.cells.specs.declared.faults.Refusal.{Refusal}
use Rattle.cells.specs.declared.faults.Refusal.TheVariants as refusal

-- The call succeeds exactly when no fault is due, with a result of which P holds, and else is refused with the fault that
-- is due. Want of memory may take the place of either.
abbrev pub Answers : {A : Type 0} → Option ModelFault → (A → Type 0) → Result A Refusal → Type 0
Answers due P (Ok x) = (due ≡ None) × P x
Answers due P (Err (refusal.Fault f)) = due ≡ Some (told f)
Answers due P (Err refusal.Memory) = Unit {0}
