-- What a call answers that ends before it is done.
use Rattle.std.specs.Prelude.{Ok, Err, Result, alloc_error}
use Rattle.std.specs.declared.alloc.AllocError.{AllocError}
use Rattle.cells.specs.declared.faults.Refusal.{Refusal}
use Rattle.cells.specs.declared.faults.Refusal.TheVariants as refusal
use Rattle.outcomes.specs.declared.Outcome.{Outcome}
use Rattle.outcomes.specs.declared.Outcome.TheVariants as outcome
use Rattle.session.specs.declared.stops.Stop.{Stop}
use Rattle.session.specs.declared.stops.Stop.TheVariants as stop

-- a fault is answered
abbrev pub stopped : Refusal → Stop
stopped (refusal.Fault f) = stop.Answer (outcome.Refused f)
stopped refusal.Memory = stop.Memory

-- another answer takes the place of the call's own, and want of memory that of any
abbrev pub ended : Result Outcome Stop → Result Outcome AllocError
ended (Ok o) = Ok o
ended (Err (stop.Answer o)) = Ok o
ended (Err stop.Memory) = Err alloc_error
