-- Conditions: written ones and picks, as parts. A comparison is made by the order `o`.
use Rattle.std.specs.Prelude.{◌≡◌, ℕ, Bool, true, false, not, ◌&&◌, ◌||◌, List, [], ◌∷◌, ◌++◌, refl}
use Rattle.std.proofs.Common.{ap, ap₂}
use Prim.Native.Nat.{Ordering}
use Rattle.model.specs.Values.{Value, Tuple, cell, any, same_value}
use Rattle.model.specs.Orders.{Order}
use Rattle.model.specs.ColumnSets.{ColumnSet, union, singleton}
use Rattle.model.specs.Sorts.{Agree, Part}
use Rattle.model.specs.Facts.{in_union_left, in_union_right, has_singleton}

-- the signs = != < <= > >=
pub data Comparison : Type 0 where
  equals differs less at_most greater at_least : Comparison

abbrev pub holds : Comparison → Ordering → Bool
holds equals Ordering.lt = false
holds equals Ordering.eq = true
holds equals Ordering.gt = false
holds differs Ordering.lt = true
holds differs Ordering.eq = false
holds differs Ordering.gt = true
holds less Ordering.lt = true
holds less Ordering.eq = false
holds less Ordering.gt = false
holds at_most Ordering.lt = true
holds at_most Ordering.eq = true
holds at_most Ordering.gt = false
holds greater Ordering.lt = false
holds greater Ordering.eq = false
holds greater Ordering.gt = true
holds at_least Ordering.lt = false
holds at_least Ordering.eq = true
holds at_least Ordering.gt = true

-- A column stands for its place.
pub data Operand : Type 0 where
  column : ℕ → Operand
  constant : Value → Operand

-- A condition as written. `bracket` keeps a bracketed condition apart from what stands around it.
pub data Condition : Type 0 where
  compared : ℕ → Comparison → Operand → Condition
  negated : Condition → Condition
  bracket : Condition → Condition
  both : Condition → Condition → Condition
  either : Condition → Condition → Condition

abbrev pub operand_value : Operand → Tuple → Value
operand_value (column i) t = cell t i
operand_value (constant v) t = v

abbrev pub operand_reads : Operand → ColumnSet
operand_reads (column i) = singleton i
operand_reads (constant v) = []

-- whether the condition is true of a tuple
abbrev pub admits_row : Order → Condition → Tuple → Bool
admits_row o (compared i c x) t = holds c (o (cell t i) (operand_value x t))
admits_row o (negated k) t = not (admits_row o k t)
admits_row o (bracket k) t = admits_row o k t
admits_row o (both k l) t = admits_row o k t && admits_row o l t
admits_row o (either k l) t = admits_row o k t || admits_row o l t

-- the columns that it names
abbrev pub reads_of : Condition → ColumnSet
reads_of (compared i c x) = union (singleton i) (operand_reads x)
reads_of (negated k) = reads_of k
reads_of (bracket k) = reads_of k
reads_of (both k l) = union (reads_of k) (reads_of l)
reads_of (either k l) = union (reads_of k) (reads_of l)

operand_alike : (x : Operand) (s t : Tuple) → Agree (operand_reads x) s t → operand_value x s ≡ operand_value x t
operand_alike (column i) s t a = a i (has_singleton i)
operand_alike (constant v) s t a = refl

pub condition_alike : (o : Order) (k : Condition) (s t : Tuple) → Agree (reads_of k) s t → admits_row o k s ≡ admits_row o k t
condition_alike o (compared i c x) s t a =
    ap₂ (λ v w. holds c (o v w)) (a i (in_union_left (singleton i) (operand_reads x) i (has_singleton i))) (operand_alike x s t (λ j h. a j (in_union_right (singleton i) (operand_reads x) j h)))
condition_alike o (negated k) s t a = ap not (condition_alike o k s t a)
condition_alike o (bracket k) s t a = condition_alike o k s t a
condition_alike o (both k l) s t a = ap₂ ◌&&◌ (condition_alike o k s t (λ j h. a j (in_union_left (reads_of k) (reads_of l) j h))) (condition_alike o l s t (λ j h. a j (in_union_right (reads_of k) (reads_of l) j h)))
condition_alike o (either k l) s t a = ap₂ ◌||◌ (condition_alike o k s t (λ j h. a j (in_union_left (reads_of k) (reads_of l) j h))) (condition_alike o l s t (λ j h. a j (in_union_right (reads_of k) (reads_of l) j h)))

abbrev pub part_of : Order → Condition → Part
part_of o k = record { reads = reads_of k; admits = admits_row o k; alike = λ s t e a. condition_alike o k s t a }

-- Without a top-level `or`, each member of the conjunction is a part; otherwise the whole is one.
abbrev pub parts_of : Order → Condition → List Part
parts_of o (compared i c x) = part_of o (compared i c x) ∷ []
parts_of o (negated k) = part_of o (negated k) ∷ []
parts_of o (bracket k) = part_of o (bracket k) ∷ []
parts_of o (both k l) = parts_of o k ++ parts_of o l
parts_of o (either k l) = part_of o (either k l) ∷ []

-- A pick admits a tuple whose cell in its column is among its cells. It is one part.
pub pick_alike : (i : ℕ) (cells : List Value) (s t : Tuple) → Agree (singleton i) s t → any (same_value (cell s i)) cells ≡ any (same_value (cell t i)) cells
pick_alike i cells s t a = ap (λ v. any (same_value v) cells) (a i (has_singleton i))

abbrev pub pick : ℕ → List Value → Part
pick i cells = record { reads = singleton i; admits = λ t. any (same_value (cell t i)) cells; alike = λ s t e a. pick_alike i cells s t a }
