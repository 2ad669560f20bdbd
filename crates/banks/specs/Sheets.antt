-- What stored rows stand for, and how banks are read into them and written from them.
use Rattle.std.specs.Prelude.{◌≡◌, ℕ, ◌<◌, ◌≤◌, List, ◌++◌, length, drop, Ok, Err, vec_items, Result}
use Rattle.model.specs.Values.{Relation}
use Rattle.model.specs.Tables.{Store}
use Rattle.model.specs.Banks.{accepted, refused, read_bank}
use Rattle.cells.specs.Held.{tuples}
use Rattle.cells.specs.Numbered.{told}
use Rattle.cells.specs.declared.faults.Refusal.{Refusal}
use Rattle.cells.specs.declared.faults.Refusal.TheVariants as refusal
use Rattle.sorts.specs.Sealed.{sort_of}
use Rattle.banks.specs.declared.sheet.Sheet.{Sheet}

abbrev pub relation : Sheet → Relation
relation s = tuples (vec_items s.rows)

abbrev pub store : Sheet → Store
store s = record { kind = s.kind; sort = sort_of s.sort; room = s.room }

-- The rows are those of the bank; or the bank is refused, and they stay. The store is the same.
abbrev pub RefusedBank : Sheet → List ℕ → Refusal → Type 0
RefusedBank s b (refusal.Fault f) = read_bank (store s).kind (store s).sort (store s).room b ≡ refused (told f)
RefusedBank s b refusal.Memory = Unit {0}

abbrev pub ReadInto : Sheet → Sheet → List ℕ → Result (Unit {0}) Refusal → Type 0
ReadInto old new b (Ok _) = (read_bank (store old).kind (store old).sort (store old).room b ≡ accepted (relation new)) × (store new ≡ store old)
ReadInto old new b (Err e) = RefusedBank old b e × (relation new ≡ relation old) × (store new ≡ store old)

-- The bytes of the bank stand at the front, and the others are as they were; or they are too few, 26, and none changed.
abbrev pub FewBytes : List ℕ → List ℕ → Refusal → Type 0
FewBytes b old (refusal.Fault f) = (told f ≡ record { number = 26; kind = 0; place = 0 }) × (length old < length b)
FewBytes b old refusal.Memory = Unit {0}

abbrev pub WrittenTo : List ℕ → List ℕ → List ℕ → Result ℕ Refusal → Type 0
WrittenTo b old new (Ok n) = (n ≡ length b) × (n ≤ length old) × (new ≡ b ++ drop n old)
WrittenTo b old new (Err e) = FewBytes b old e × (new ≡ old)
