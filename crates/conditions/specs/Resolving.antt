-- Comparisons with columns by their words, and the faults of words that name no column and of unlike kinds.
use Rattle.std.specs.Prelude.{ℕ, Bool, true, false, cond, List, [], ◌∷◌, take, Some, None, Option}
use Rattle.std.specs.Option.{option_map}
use Rattle.model.specs.Values.{Value, same_bytes}
use Rattle.model.specs.Sorts.{Kind, numbers, texts, Column, lookup}
use Rattle.model.specs.Conditions.{Comparison, Operand, column, constant, Condition, compared}
use Rattle.model.specs.Faults.{Fault, fault}
use Rattle.columns.specs.Named.{named_columns}
use Rattle.columns.specs.declared.column.Column as program
use Rattle.conditions.specs.Picks.{kind_of_value}

-- The columns that words are looked for in: a table has at most eight.
abbrev pub first_eight : List program.Column → List Column
first_eight C = take 8 (named_columns C)

-- the kind of the column that a word names
abbrev pub kind_named : List Column → List ℕ → Option Kind
kind_named [] w = None
kind_named (c ∷ C) w = cond (same_bytes c.word w) (Some c.kind) (kind_named C w)

abbrev pub same_kind : Kind → Kind → Bool
same_kind numbers numbers = true
same_kind numbers texts = false
same_kind texts numbers = false
same_kind texts texts = true

-- 6 where a side names no column, then 7 for unlike kinds
abbrev pub kinds_fault : ℕ → ℕ → Option Kind → Option Kind → Option Fault
kinds_fault k p None y = fault 6 k p
kinds_fault k p (Some a) None = fault 6 k p
kinds_fault k p (Some a) (Some b) = cond (same_kind a b) None (fault 7 k p)

-- What a column is compared with, as it is written: a column by its word, or a constant.
pub data Term : Type 0 where
  named : List ℕ → Term
  given : Value → Term

abbrev pub term_kind : List Column → Term → Option Kind
term_kind C (named w) = kind_named C w
term_kind C (given v) = Some (kind_of_value v)

abbrev pub term_operand : List Column → Term → Option Operand
term_operand C (named w) = option_map column (lookup C w)
term_operand C (given v) = Some (constant v)

-- the comparison of two sides that are known
abbrev pub comparing : Comparison → Option ℕ → Option Operand → Option Condition
comparing c None x = None
comparing c (Some i) None = None
comparing c (Some i) (Some x) = Some (compared i c x)

-- the fault of a comparison, with the kind and the place that faults have here
abbrev pub comparison_fault : ℕ → ℕ → List Column → List ℕ → Term → Option Fault
comparison_fault k p C w x = kinds_fault k p (kind_named C w) (term_kind C x)

-- and what it means where no fault is due
abbrev pub comparison : List Column → List ℕ → Comparison → Term → Option Condition
comparison C w c x = comparing c (lookup C w) (term_operand C x)
