-- The fault that a layer is refused with when it is opened on tables of given sorts: what it asks of them, in the order in which it
-- asks. The place p is that of the step in the definition's text, or 0 by call.
use Rattle.std.specs.Prelude.{ℕ, Bool, true, false, cond, not, ◌&&◌, ◌||◌, List, ◌++◌, map, length, Some, None, Option, nat_le}
use Rattle.model.specs.Values.{Value, any, every, same_bytes}
use Rattle.model.specs.ColumnSets.{has, within, apart, non_empty, singleton}
use Rattle.model.specs.Sorts.{Kind, numbers, texts, of_kind, Column, lookup, all_columns, Dependency, Part, Sort}
use Rattle.model.specs.Closures.{closure}
use Rattle.model.specs.TreeForm.{tree_form}
use Rattle.model.specs.Words.{is_name}
use Rattle.model.specs.Faults.{Fault, fault, or_then}
use Rattle.model.specs.Selecting.{Predicate}
use Rattle.model.specs.Dropping.{column_at}
use Rattle.model.specs.Projecting.{has_column}
use Rattle.model.specs.Joining.{shared_set, join_deps, join_sort}

-- the fault, unless a test holds
abbrev pub unless : Bool → ℕ → ℕ → ℕ → Option Fault
unless b n k p = cond b None (fault n k p)

-- A sort has at most 8 columns, 8 dependencies and 8 parts.
abbrev pub few : {A : Type 0} → List A → Bool
few l = nat_le (length l) 8

-- a value that is a cell of some kind
abbrev pub is_cell : Value → Bool
is_cell v = of_kind numbers v || of_kind texts v

-- some part reads an output
abbrev pub reads_output : Sort → Bool
reads_output S = any (λ p. any (λ d. not (apart p.reads d.right)) S.deps) S.parts

-- Select: 11 a part below reads an output; 4 more than 8 parts.
abbrev pub select_fault : ℕ → Predicate → Sort → Option Fault
select_fault p P S = or_then (unless (not (reads_output S)) 11 3 p) (unless (few (P.parts ++ S.parts)) 4 3 p)

-- Drop the column w with default a: 17 the default is no cell; 6 unknown column; 12 the column is in no right set or in a left set;
-- 7 the default is of another kind; 13 a part that reads the column reads another too or does not admit the default.
abbrev pub in_some_right : ℕ → List Dependency → Bool
in_some_right k D = any (λ d. has d.right k) D

abbrev pub in_some_left : ℕ → List Dependency → Bool
in_some_left k D = any (λ d. has d.left k) D

abbrev pub kind_fits : Value → Option Column → Bool
kind_fits a None = false
kind_fits a (Some c) = of_kind c.kind a

-- a part that reads the column alone looks at no other cell of a tuple
abbrev pub reads_alone : ℕ → Value → List Column → Part → Bool
reads_alone k a C p = not (has p.reads k) || (within p.reads (singleton k) && p.admits (map (λ c. a) C))

abbrev pub drop_column_fault : ℕ → Value → Sort → Option ℕ → Option Fault
drop_column_fault p a S None = fault 6 4 p
drop_column_fault p a S (Some k) =
    or_then (unless (in_some_right k S.deps && not (in_some_left k S.deps)) 12 4 p)
    (or_then (unless (kind_fits a (column_at S.columns k)) 7 4 p) (unless (every (reads_alone k a S.columns) S.parts) 13 4 p))

abbrev pub drop_fault : ℕ → List ℕ → Value → Sort → Option Fault
drop_fault p w a S = or_then (unless (is_cell a) 17 4 p) (drop_column_fault p a S (lookup S.columns w))

-- Rename the column w as v: 3 the new word may not name a column; 6 unknown column; 5 the new word is used.
abbrev pub rename_column_fault : ℕ → List ℕ → Sort → Option ℕ → Option Fault
rename_column_fault p v S None = fault 6 5 p
rename_column_fault p v S (Some k) = unless (not (has_column S.columns v)) 5 5 p

abbrev pub rename_fault : ℕ → List ℕ → List ℕ → Sort → Option Fault
rename_fault p w v S = or_then (unless (is_name v) 3 5 p) (rename_column_fault p v S (lookup S.columns w))

-- Join: 14 no shared column, unlike kinds, or the shared columns do not determine the right side; 11 a side's part reads its own
-- output; 4 the limits; 15 the united dependencies have not tree form.
abbrev pub same_kind : Kind → Kind → Bool
same_kind numbers numbers = true
same_kind numbers texts = false
same_kind texts numbers = false
same_kind texts texts = true

abbrev pub like_kinds : List Column → List Column → Bool
like_kinds U V = every (λ c. every (λ e. not (same_bytes c.word e.word) || same_kind c.kind e.kind) V) U

abbrev pub joinable : Sort → Sort → Bool
joinable S T =
    non_empty (shared_set S.columns T.columns)
    && (like_kinds S.columns T.columns && within (all_columns T.columns) (closure T.deps (shared_set S.columns T.columns)))

abbrev pub join_fits : Sort → Bool
join_fits S = few S.columns && (few S.deps && few S.parts)

abbrev pub join_fault : ℕ → Sort → Sort → Option Fault
join_fault p S T =
    or_then (unless (joinable S T) 14 6 p)
    (or_then (unless (not (reads_output S) && not (reads_output T)) 11 6 p) (or_then (unless (join_fits (join_sort S T)) 4 6 p) (unless (tree_form (join_deps S T)) 15 6 p)))
