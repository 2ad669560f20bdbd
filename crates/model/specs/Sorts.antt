-- Columns, dependencies, condition parts and sorts, and what it is that a relation meets one.
use Rattle.std.specs.Prelude.{◌≡◌, ℕ, suc, Bool, true, false, cond, not, ◌&&◌, List, [], ◌∷◌, map, length, Some, None, Option, ◌==◌, ◌≢◌, nat_le}
use Rattle.std.specs.Option.{option_map}
use Rattle.model.specs.Values.{Value, num, text, Tuple, Relation, ◌∈◌, every, tail, cell, same_bytes, same_value}
use Rattle.model.specs.Orders.{Order, Ascending}
use Rattle.model.specs.ColumnSets.{ColumnSet, has}

-- The kinds of column: numbers, and texts.
pub data Kind : Type 0 where
  numbers texts : Kind

-- A text is 1 to 16 bytes, each from 20 to 7E hexadecimal and none of them the quote, 22.
abbrev pub is_text_byte : ℕ → Bool
is_text_byte x = nat_le 0x20 x && (nat_le x 0x7E && not (x == 0x22))

abbrev pub is_text : List ℕ → Bool
is_text b = nat_le 1 (length b) && (nat_le (length b) 16 && every is_text_byte b)

-- the largest number, 2 ^ 28 - 1
abbrev pub greatest : ℕ
greatest = 268435455

-- whether a value is a cell of a kind
abbrev pub of_kind : Kind → Value → Bool
of_kind numbers (num n) = nat_le n greatest
of_kind numbers (text b) = false
of_kind texts (num n) = false
of_kind texts (text b) = is_text b

pub record Column : Type 0 where
  pub word : List ℕ
  pub kind : Kind

-- a tuple with one cell for each column, of its kind, in column order
abbrev pub Shaped : List Column → Tuple → Type 0
Shaped [] [] = Unit {0}
Shaped [] (v ∷ t) = ⊥
Shaped (c ∷ C) [] = ⊥
Shaped (c ∷ C) (v ∷ t) = (of_kind c.kind v ≡ true) × Shaped C t

-- A column asked for by its word: its place, or none.
abbrev pub lookup : List Column → List ℕ → Option ℕ
lookup [] w = None
lookup (c ∷ C) w = cond (same_bytes c.word w) (Some 0) (option_map suc (lookup C w))

-- the words of the columns are distinct
abbrev pub Distinct : List Column → Type 0
Distinct [] = Unit {0}
Distinct (c ∷ C) = ((e : Column) → e ∈ C → c.word ≢ e.word) × Distinct C

-- the set of all columns
abbrev pub all_columns : List Column → ColumnSet
all_columns C = map (λ c. true) C

-- Two tuples agree on a column set when they hold equal values there.
abbrev pub Agree : ColumnSet → Tuple → Tuple → Type 0
Agree X s t = (i : ℕ) → has X i ≡ true → cell s i ≡ cell t i

abbrev pub agrees : ColumnSet → Tuple → Tuple → Bool
agrees [] s t = true
agrees (true ∷ X) s t = same_value (cell s 0) (cell t 0) && agrees X (tail s) (tail t)
agrees (false ∷ X) s t = agrees X (tail s) (tail t)

-- A functional dependency: any two tuples that agree on the left set agree on the right set.
pub record Dependency : Type 0 where
  pub left : ColumnSet
  pub right : ColumnSet

abbrev pub MeetsDep : Dependency → Relation → Type 0
MeetsDep d R = (s t : Tuple) → s ∈ R → t ∈ R → Agree d.left s t → Agree d.right s t

abbrev pub MeetsDeps : List Dependency → Relation → Type 0
MeetsDeps D R = (d : Dependency) → d ∈ D → MeetsDep d R

-- A part of a condition: the columns that it reads, the tuples that it admits, and that tuples (of one width) which agree
-- on those columns are admitted alike.
pub record Part : Type 0 where
  pub reads : ColumnSet
  pub admits : Tuple → Bool
  pub alike : (s t : Tuple) → length s ≡ length t → Agree reads s t → admits s ≡ admits t

abbrev pub admitted : List Part → Tuple → Bool
admitted [] t = true
admitted (p ∷ P) t = p.admits t && admitted P t

-- A sort is what a relation of a table has to meet.
pub record Sort : Type 0 where
  pub columns : List Column
  pub deps : List Dependency
  pub parts : List Part

pub record Meets (o : Order) (S : Sort) (R : Relation) : Type 0 where
  pub ascending : Ascending o R
  pub shaped : (t : Tuple) → t ∈ R → Shaped S.columns t
  pub admits : (p : Part) → p ∈ S.parts → (t : Tuple) → t ∈ R → p.admits t ≡ true
  pub deps : MeetsDeps S.deps R
