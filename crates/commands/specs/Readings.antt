-- What a reading gives.
use Rattle.std.specs.Prelude.{◌≡◌, Some, None, Ok, Err, Option, Result}
use Rattle.commands.specs.declared.unread.Unread.{Unread}
use Rattle.commands.specs.declared.unread.Unread.TheVariants.{Malformed, Memory}

-- A reading gives what there is, seen by a function, and is malformed where there is nothing, unless memory runs out.
abbrev pub ReadsAs : {A B : Type 0} → Result A Unread → (A → B) → Option B → Type 0
ReadsAs (Ok a) f o = Some (f a) ≡ o
ReadsAs (Err Malformed) f o = None ≡ o
ReadsAs (Err (Memory e)) f o = Unit {0}
