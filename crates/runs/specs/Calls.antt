-- What a closure computes.
use Rattle.std.specs.Prelude.{◌≡◌}
use Rattle.std.specs.Borrow.{Bor}
use Rattle.std.specs.Fn.{Shared}

-- each call of f at a reference gives what g gives of the value
abbrev pub Computes : {F A B : Type 0} → Shared F (Bor A × Unit {0}) B → F → (A → B) → Type 0
Computes {F} {A} {B} calls f g = (a : Bor A) (b : B) → calls.post f (a, tt) b → b ≡ g a.now
