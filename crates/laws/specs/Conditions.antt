-- What is claimed of written conditions.
use Rattle.std.specs.Prelude.{◌≡◌, ℕ, true, ◌⊎◌, ◌↔◌, List, ◌≢◌}
use Prim.Native.Nat.{Ordering}
use Rattle.model.specs.Values.{Value, Tuple, ◌∈◌, cell}
use Rattle.model.specs.Orders.{Order, Total}
use Rattle.model.specs.Sorts.{Part, admitted}
use Rattle.model.specs.ColumnSets.{has}
use Rattle.model.specs.Conditions.{equals, differs, less, at_most, greater, at_least, holds, Operand, column, constant, Condition, compared, negated, bracket, both, either, admits_row, reads_of, parts_of, pick}

-- the parts admit what the condition admits
abbrev pub PartsWhole : Type 0
PartsWhole = (o : Order) (k : Condition) (t : Tuple) → admitted (parts_of o k) t ≡ admits_row o k t

-- a part is known by what it reads and admits
abbrev pub PartEqual : Type 0
PartEqual = (p q : Part) → p.reads ≡ q.reads → ((t : Tuple) → p.admits t ≡ q.admits t) → p ≡ q

-- what each comparison of v with w comes to
pub record Compares (o : Order) (v w : Value) : Type 0 where
  pub equal : (holds equals (o v w) ≡ true) ↔ (v ≡ w)
  pub unequal : (holds differs (o v w) ≡ true) ↔ (v ≢ w)
  pub below : (holds less (o v w) ≡ true) ↔ (o v w ≡ Ordering.lt)
  pub not_above : (holds at_most (o v w) ≡ true) ↔ ((o v w ≡ Ordering.lt) ⊎ (v ≡ w))
  pub above : (holds greater (o v w) ≡ true) ↔ (o w v ≡ Ordering.lt)
  pub not_below : (holds at_least (o v w) ≡ true) ↔ ((o w v ≡ Ordering.lt) ⊎ (v ≡ w))

abbrev pub ComparisonsExact : Type 0
ComparisonsExact = (o : Order) → Total o → (v w : Value) → Compares o v w

-- a condition reads exactly the columns that it names
abbrev pub IsOperand : ℕ → Operand → Type 0
IsOperand i (column j) = i ≡ j
IsOperand i (constant v) = ⊥

abbrev pub Names : ℕ → Condition → Type 0
Names i (compared j c x) = (i ≡ j) ⊎ IsOperand i x
Names i (negated k) = Names i k
Names i (bracket k) = Names i k
Names i (both k l) = Names i k ⊎ Names i l
Names i (either k l) = Names i k ⊎ Names i l

abbrev pub ReadsExact : Type 0
ReadsExact = (k : Condition) (i : ℕ) → (has (reads_of k) i ≡ true) ↔ Names i k

-- a pick admits a tuple exactly when its cell there is among the picked ones
abbrev pub PickExact : Type 0
PickExact = (i : ℕ) (cells : List Value) (t : Tuple) → ((pick i cells).admits t ≡ true) ↔ (cell t i ∈ cells)
