-- What a cursor's methods answer.
use Rattle.std.specs.Prelude.{◌≡◌, ℕ, List, map, Ok, Err, vec_items, Option, Result, Vec}
use Rattle.std.specs.Borrow.{Bor}
use Rattle.std.specs.Option.{option_map}
use Rattle.std.specs.declared.alloc.Global.{Global}
use Rattle.model.specs.Sorts.{Column}
use Rattle.model.specs.Banks.{Read, found, bad, kind_byte, Reading, accepted, refused}
use Rattle.model.specs.Values.{Tuple, Relation}
use Rattle.cells.specs.Held.{tuple, tuples}
use Rattle.cells.specs.declared.rows.Row.{Row}
use Rattle.cells.specs.Numbered.{number, told}
use Rattle.cells.specs.declared.faults.Refusal.{Refusal}
use Rattle.cells.specs.declared.faults.Refusal.TheVariants as refusal
use Rattle.banks.specs.declared.cursor.Cursor.{Cursor}

-- the bytes that are left
abbrev pub left : Cursor → List ℕ
left c = c.rest.now

-- the bytes of the columns' kinds, in a header
abbrev pub kind_bytes : List Column → List ℕ
kind_bytes C = map (λ c. kind_byte c.kind) C

-- the tuple of the row before, if there is one
abbrev pub row_before : Option (Bor Row) → Option Tuple
row_before o = option_map (λ r. tuple r.now) o

-- the relation that rows hold
abbrev pub held : Vec Row Global → Relation
held v = tuples (vec_items v)

-- A method reads what `o` says: its answer stands for the value that was found, and the bytes after it are left; or it is
-- refused with the fault. Want of memory may take the place of either.
abbrev pub Refuses : {B : Type 0} → (kind : ℕ) → Read B → Refusal → Type 0
Refuses kind o (refusal.Fault e) = (o ≡ bad (number e.cause) e.place) × (e.kind ≡ kind)
Refuses kind o refusal.Memory = Unit {0}

abbrev pub Reads : {A B : Type 0} → (A → B) → (size kind : ℕ) → Cursor → Read B → Result A Refusal → Type 0
Reads f size kind after o (Ok a) = (o ≡ found (f a) (left after)) × (after.size ≡ size) × (after.kind ≡ kind)
Reads f size kind after o (Err e) = Refuses kind o e

-- A bank is read as `o` says.
abbrev pub AnswersBank : Reading → Result (Vec Row Global) Refusal → Type 0
AnswersBank o (Ok rows) = o ≡ accepted (held rows)
AnswersBank o (Err (refusal.Fault e)) = o ≡ refused (told e)
AnswersBank o (Err refusal.Memory) = Unit {0}
