-- What a caller holds, and what comes of each call.
use Rattle.std.specs.Prelude.{◌≡◌, ℕ, ◌-◌, ◌/◌, ◌<◌, min, Bool, cond, List, [], ◌∷◌, ◌++◌, map, length, Some, None, Ok, Err, vec_items, Option, Result, nat_le, slice_index_or, slice_set}
use Rattle.std.specs.List.{sum_by}
use Rattle.std.specs.Option.{option_map}
use Rattle.model.specs.Values.{Relation, find, same_bytes}
use Rattle.model.specs.Sorts.{Kind, numbers, texts, Column, Sort}
use Rattle.model.specs.Faults.{Fault}
use Rattle.model.specs.Tables.{Store}
use Rattle.model.specs.Banks.{Reading}
use Rattle.model.specs.Banks as banks
use Rattle.banks.specs.Sheets.{store, relation}
use Rattle.cells.specs.Held.{tuples}
use Rattle.cells.specs.Numbered.{told}
use Rattle.cells.specs.Worded.{letters}
use Rattle.commands.specs.declared.parsing.Storage.{Storage}
use Rattle.commands.specs.declared.parsing.Storage.TheVariants.{Slots, Image}
use Rattle.commands.specs.Forms.{Asked}
use Rattle.commands.specs.Forms as asked
use Rattle.sorts.specs.Describing.{table_fault, later_column_fault, dependency_fault, with_column, with_dependency, named_dependency}
use Rattle.sorts.specs.Described.{described}
use Rattle.sorts.specs.Sealed as sealing
use Rattle.std.specs.declared.alloc.AllocError.{AllocError}
use Rattle.outcomes.specs.declared.Outcome.{Outcome}
use Rattle.outcomes.specs.declared.Outcome.TheVariants as outcome
use Rattle.session.specs.declared.tables.Table.{Table}
use Rattle.session.specs.declared.tables.Draft.{Draft}
use Rattle.session.specs.declared.tables.Session.{Session}

-- A table is stored in slots, a row each, or in an image, where its rows stand coded after 12 bytes. The largest number
-- takes 4 bytes, the largest text 17.
abbrev pub cell_width : Kind → ℕ
cell_width numbers = 4
cell_width texts = 17

abbrev pub row_width : List Column → ℕ
row_width C = sum_by (λ c. cell_width c.kind) C

-- The room is the lesser of the one described and what fits.
abbrev pub room_in : Storage → ℕ → List Column → ℕ
room_in (Slots n) room C = min room n
room_in (Image n) room C = min room ((n - 12) / row_width C)

-- slot tables are of kind 1, image tables of kind 2
abbrev pub kind_number : Storage → ℕ
kind_number (Slots n) = 1
kind_number (Image n) = 2

-- a stored table
pub record Kept : Type 0 where
  pub name : List ℕ
  pub kind : ℕ
  pub sort : Sort
  pub room : ℕ
  pub rows : Relation

-- a table under description
pub record Drafted : Type 0 where
  pub name : List ℕ
  pub storage : Storage
  pub room : ℕ
  pub sort : Sort

-- A caller is idle unless a table is under description.
pub record Caller : Type 0 where
  pub tables : List Kept
  pub draft : Option Drafted

-- what a store holds under a name
abbrev pub keeping : List ℕ → Store → Relation → Kept
keeping n s R = record { name = n; kind = s.kind; sort = s.sort; room = s.room; rows = R }

abbrev pub names : List Kept → List (List ℕ)
names T = map (λ t. t.name) T

-- the table of a name
abbrev pub is_named : List ℕ → Kept → Bool
is_named n t = same_bytes t.name n

-- what is held in the program
abbrev pub stored : Table → Kept
stored t = keeping (letters t.name) (store t.sheet) (relation t.sheet)

abbrev pub drafted : Draft → Drafted
drafted d = record { name = letters d.table.name; storage = d.storage; room = d.table.room; sort = described d.table.sort }

abbrev pub caller : Session → Caller
caller s = record { tables = map stored (vec_items s.tables); draft = option_map drafted s.draft }

-- What a call answers.
pub data Answer : Type 0 where
  help ok fresh : Answer
  sealed : (room : ℕ) → Answer
  bank : List ℕ → Answer
  rows : Relation → Answer
  wrote : (size : ℕ) → Answer
  refused : Fault → Answer
  bad_line out_of_turn no_table no_file no_memory : Answer

-- an answer, and the caller then
abbrev pub Reply : Type 0
Reply = Answer × Caller

-- Some calls are in turn only while the caller is idle, others only while it describes a table.
abbrev pub unless_drafting : Option Drafted → Caller → Reply → Reply
unless_drafting None c r = r
unless_drafting (Some d) c r = (out_of_turn, c)

abbrev pub when_idle : Caller → Reply → Reply
when_idle c r = unless_drafting c.draft c r

abbrev pub on_draft : Option Drafted → Caller → (Drafted → Reply) → Reply
on_draft None c f = (out_of_turn, c)
on_draft (Some d) c f = f d

abbrev pub when_describing : Caller → (Drafted → Reply) → Reply
when_describing c f = on_draft c.draft c f

-- A call is accepted where no fault is due, and else changes nothing.
abbrev pub unless_fault : Option Fault → Caller → Caller → Reply
unless_fault None c c' = (ok, c')
unless_fault (Some f) c c' = (refused f, c)

abbrev pub drafting : Caller → Drafted → Caller
drafting c d = record { tables = c.tables; draft = Some d }

abbrev pub describes : Drafted → Sort → Drafted
describes d S = record { name = d.name; storage = d.storage; room = d.room; sort = S }

abbrev pub fresh_caller : Caller
fresh_caller = record { tables = []; draft = None }

abbrev pub table_reply : Caller → List ℕ → Storage → ℕ → List Column → Reply
table_reply c name storage room C =
    when_idle c (unless_fault (table_fault (names c.tables) name C room) c (drafting c (record { name = name; storage = storage; room = room; sort = record { columns = C; deps = []; parts = [] } })))

abbrev pub column_reply : Caller → Column → Reply
column_reply c e = when_describing c (λ d. unless_fault (later_column_fault d.sort.columns e) c (drafting c (describes d (with_column d.sort e))))

abbrev pub dependency_reply : Caller → List (List ℕ) → List (List ℕ) → Reply
dependency_reply c L R =
    when_describing c (λ d. unless_fault (dependency_fault d.sort L R) c (drafting c (describes d (with_dependency d.sort (named_dependency d.sort.columns L R)))))

-- a sealed table begins empty, and has room for no more than 128 rows
abbrev pub begun : Drafted → Kept
begun d = record { name = d.name; kind = kind_number d.storage; sort = sealing.sealed d.sort; room = min (room_in d.storage d.room d.sort.columns) 128; rows = [] }

abbrev pub seal_reply : Caller → Reply
seal_reply c = when_describing c (λ d. (sealed (begun d).room, record { tables = c.tables ++ (begun d ∷ []); draft = None }))

-- the caller's table of a name
abbrev pub on_found : Option Kept → Caller → (Kept → Reply) → Reply
on_found None c f = (no_table, c)
on_found (Some t) c f = f t

abbrev pub on_table : Caller → List ℕ → (Kept → Reply) → Reply
on_table c name f = when_idle c (on_found (find (is_named name) c.tables) c f)

abbrev pub rows_reply : Caller → List ℕ → Reply
rows_reply c name = on_table c name (λ t. (rows t.rows, c))

-- A bank takes the place of the rows, or is refused.
abbrev pub holding : Kept → Relation → Kept
holding t R = record { name = t.name; kind = t.kind; sort = t.sort; room = t.room; rows = R }

abbrev pub with_rows : List ℕ → Relation → List Kept → List Kept
with_rows n R [] = []
with_rows n R (t ∷ T) = cond (is_named n t) (holding t R ∷ T) (t ∷ with_rows n R T)

abbrev pub loaded : Caller → List ℕ → Reading → Reply
loaded c n (banks.accepted R) = (ok, record { tables = with_rows n R c.tables; draft = c.draft })
loaded c n (banks.refused f) = (refused f, c)

abbrev pub load_reply : Caller → List ℕ → List ℕ → Reply
load_reply c name b = on_table c name (λ t. loaded c name (banks.read_bank t.kind t.sort t.room b))

-- the bank of a table, where its bytes are not too few
abbrev pub bank_answer : ℕ → List ℕ → Answer
bank_answer n b = cond (nat_le (length b) n) (bank b) (refused (record { number = 26; kind = 0; place = 0 }))

abbrev pub bank_reply : Caller → List ℕ → ℕ → Reply
bank_reply c name n = on_table c name (λ t. (bank_answer n (banks.bank t.sort.columns t.rows), c))

-- a bank from a file, if there is one
abbrev pub from_file : Caller → (List ℕ → Reply) → Option (List ℕ) → Reply
from_file c f None = (no_file, c)
from_file c f (Some b) = f b

abbrev pub read_reply : Caller → List ℕ → Option (List ℕ) → Reply
read_reply c name file = on_table c name (λ t. from_file c (λ b. loaded c name (banks.read_bank t.kind t.sort t.room b)) file)

-- what the program's outcome tells
abbrev pub answer : Outcome → Answer
answer outcome.Help = help
answer outcome.Accepted = ok
answer outcome.Fresh = fresh
answer (outcome.Sealed room) = sealed room
answer (outcome.Bank b) = bank (vec_items b)
answer (outcome.Rows r) = rows (tuples (vec_items r))
answer (outcome.Wrote n) = wrote n
answer (outcome.Refused f) = refused (told f)
answer outcome.BadLine = bad_line
answer outcome.OutOfTurn = out_of_turn
answer outcome.NoTable = no_table
answer outcome.NoFile = no_file
answer outcome.NoMemory = no_memory

-- A call replies as it should, or changes nothing for want of memory.
abbrev pub Replies : Caller → Reply → Result Outcome AllocError → Caller → Type 0
Replies c r (Ok o) c' = (answer o ≡ r.0) × (c' ≡ r.1)
Replies c r (Err e) c' = c' ≡ c

-- the table of a name among those of the program, and its place
abbrev pub named : List ℕ → List Table → Option Kept
named n ts = find (is_named n) (map stored ts)

abbrev pub Placed : List Table → List ℕ → Option ℕ → Type 0
Placed ts n None = named n ts ≡ None
Placed ts n (Some i) =
    (i < length ts)
    × ((d : Table) → named n ts ≡ Some (stored (slice_index_or ts i d)))
    × ((d : Table) (R : Relation) → with_rows n R (map stored ts) ≡ slice_set (map stored ts) i (holding (stored (slice_index_or ts i d)) R))

-- the session is idle, or what is answered in place of a call that is then out of turn
abbrev pub Idle : Caller → Result (Unit {0}) Outcome → Type 0
Idle c (Ok u) = c.draft ≡ None
Idle c (Err o) = (r : Reply) → when_idle c r ≡ (answer o, c)

-- the place of the table that a call is on, or what is answered in place of the call
abbrev pub Reached : Session → List ℕ → Result ℕ Outcome → Type 0
Reached s n (Ok i) = ((caller s).draft ≡ None) × Placed (vec_items s.tables) n (Some i)
Reached s n (Err o) = (f : Kept → Reply) → on_table (caller s) n f ≡ (answer o, caller s)

-- What comes of each command. Banks in files are read and written by calls of their own, and commands that are not there
-- yet are bad lines.
abbrev pub reply : Caller → Asked → Reply
reply c asked.help = (help, c)
reply c asked.fresh = (fresh, fresh_caller)
reply c asked.seal = seal_reply c
reply c (asked.table name storage room C) = table_reply c name storage room C
reply c (asked.column e) = column_reply c e
reply c (asked.dep L R) = dependency_reply c L R
reply c (asked.load name b) = load_reply c name b
reply c (asked.bank name n) = bank_reply c name n
reply c (asked.rows name) = rows_reply c name
reply c (asked.read name path) = (bad_line, c)
reply c (asked.write name path) = (bad_line, c)
reply c (asked.try n) = (bad_line, c)
reply c (asked.put n) = (bad_line, c)
