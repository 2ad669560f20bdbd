-- What may be said when a table is described, and the fault of what may not. A fault of describing has kind 0 and place 0.
use Rattle.std.specs.Prelude.{ℕ, Bool, true, false, cond, not, ◌&&◌, List, [], ◌∷◌, ◌++◌, map, length, replicate, is_some, Some, None, Option, nat_le, nat_lt, slice_set}
use Rattle.model.specs.Values.{any, every, same_bytes}
use Rattle.model.specs.ColumnSets.{ColumnSet, same}
use Rattle.model.specs.Sorts.{Column, lookup, Dependency, Part, Sort}
use Rattle.model.specs.TreeForm.{tree_form}
use Rattle.model.specs.Faults.{Fault, fault, or_then}
use Rattle.cells.specs.Worded.{name_fault}

-- 3 for the first word that is no name
abbrev pub words_fault : List (List ℕ) → Option Fault
words_fault [] = None
words_fault (w ∷ l) = or_then (name_fault w) (words_fault l)

-- A column more, of a sort that has C: 4 for a ninth, 5 for a repeat.
abbrev pub column_fault : List Column → Column → Option Fault
column_fault C c = cond (nat_lt (length C) 8) (cond (is_some (lookup C c.word)) (fault 5 0 0) None) (fault 4 0 0)

-- columns one after the other
abbrev pub columns_fault : List Column → List Column → Option Fault
columns_fault C [] = None
columns_fault C (c ∷ more) = or_then (column_fault C c) (columns_fault (C ++ c ∷ []) more)

-- the columns of a table: 4 for none
abbrev pub no_columns_fault : List Column → Option Fault
no_columns_fault [] = fault 4 0 0
no_columns_fault (c ∷ C) = None

abbrev pub all_columns_fault : List Column → Option Fault
all_columns_fault C = or_then (no_columns_fault C) (columns_fault [] C)

-- Of a caller with tables of these names: 4 for a ninth table, 5 for a name in use.
abbrev pub name_used_fault : List (List ℕ) → List ℕ → Option Fault
name_used_fault T w = cond (nat_lt (length T) 8) (cond (any (λ t. same_bytes t w) T) (fault 5 0 0) None) (fault 4 0 0)

-- 9 unless the room is 1 to 128
abbrev pub room_fault : ℕ → Option Fault
room_fault room = cond (nat_le 1 room && nat_le room 128) None (fault 9 0 0)

abbrev pub column_words : List Column → List (List ℕ)
column_words C = map (λ c. c.word) C

-- A table: its words, its name among the caller's, its columns, its room.
abbrev pub table_fault : List (List ℕ) → List ℕ → List Column → ℕ → Option Fault
table_fault T name C room =
    or_then (words_fault (name ∷ column_words C))
    (or_then (name_used_fault T name) (or_then (all_columns_fault C) (room_fault room)))

-- A column that is added later: its word first.
abbrev pub later_column_fault : List Column → Column → Option Fault
later_column_fault C c = or_then (name_fault c.word) (column_fault C c)

-- The set of the columns that words name, as one of eight places.
abbrev pub with_place : Option ℕ → ColumnSet → ColumnSet
with_place None X = X
with_place (Some p) X = slice_set X p true

abbrev pub named_set : List Column → List (List ℕ) → ColumnSet
named_set C [] = replicate 8 false
named_set C (w ∷ l) = with_place (lookup C w) (named_set C l)

abbrev pub named_dependency : List Column → List (List ℕ) → List (List ℕ) → Dependency
named_dependency C L R = record { left = named_set C L; right = named_set C R }

-- no word stands twice
abbrev pub once : List (List ℕ) → Bool
once [] = true
once (w ∷ l) = not (any (same_bytes w) l) && once l

abbrev pub some_word : List (List ℕ) → Bool
some_word [] = false
some_word (w ∷ l) = true

abbrev pub same_dependency : Dependency → Dependency → Bool
same_dependency d e = same d.left e.left && same d.right e.right

-- 6 for an unknown column
abbrev pub unknown_fault : List Column → List (List ℕ) → Option Fault
unknown_fault C L = cond (every (λ w. is_some (lookup C w)) L) None (fault 6 0 0)

-- 5 for a column that is named twice
abbrev pub twice_fault : List (List ℕ) → Option Fault
twice_fault L = cond (once L) None (fault 5 0 0)

-- 4 for an empty set or a ninth dependency
abbrev pub sizes_fault : List Dependency → List (List ℕ) → List (List ℕ) → Option Fault
sizes_fault D L R = cond (some_word L && (some_word R && nat_lt (length D) 8)) None (fault 4 0 0)

-- 8 for a dependency that is repeated, or that leaves the list without tree form
abbrev pub form_fault : List Dependency → Dependency → Option Fault
form_fault D d = cond (not (any (same_dependency d) D) && tree_form (D ++ d ∷ [])) None (fault 8 0 0)

-- A dependency L -> R.
abbrev pub dependency_fault : Sort → List (List ℕ) → List (List ℕ) → Option Fault
dependency_fault S L R =
    or_then (unknown_fault S.columns (L ++ R))
    (or_then (twice_fault (L ++ R)) (or_then (sizes_fault S.deps L R) (form_fault S.deps (named_dependency S.columns L R))))

-- the parts of a condition: 4 for a ninth
abbrev pub parts_fault : Sort → List Part → Option Fault
parts_fault S P = cond (nat_le (length (S.parts ++ P)) 8) None (fault 4 0 0)

-- what the description then is
abbrev pub of_columns : List Column → Sort
of_columns C = record { columns = C; deps = []; parts = [] }

abbrev pub with_column : Sort → Column → Sort
with_column S c = record { columns = S.columns ++ c ∷ []; deps = S.deps; parts = S.parts }

abbrev pub with_dependency : Sort → Dependency → Sort
with_dependency S d = record { columns = S.columns; deps = S.deps ++ d ∷ []; parts = S.parts }

abbrev pub with_parts : Sort → List Part → Sort
with_parts S P = record { columns = S.columns; deps = S.deps; parts = S.parts ++ P }
