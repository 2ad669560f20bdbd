-- Revision of a tuple by a relation.
use Rattle.std.specs.Prelude.{◌≡◌, ℕ, false, cond, List, [], ◌∷◌, Some, None, Option}
use Rattle.model.specs.Values.{Tuple, Relation, ◌∈◌, tail, cell, find}
use Rattle.model.specs.ColumnSets.{ColumnSet, has}
use Rattle.model.specs.Sorts.{agrees, Agree, Dependency}
use Rattle.model.specs.TreeForm.{in_order}

-- the tuple m with the Y cells of the tuple n
abbrev pub with_cells : ColumnSet → Tuple → Tuple → Tuple
with_cells [] n m = m
with_cells (b ∷ Y) n [] = []
with_cells (b ∷ Y) n (v ∷ m) = cond b (cell n 0) v ∷ with_cells Y (tail n) m

abbrev pub taken_from : ColumnSet → Tuple → Option Tuple → Tuple
taken_from Y m None = m
taken_from Y m (Some n) = with_cells Y n m

-- m takes the right cells of a tuple of N that agrees with it on the left set
abbrev pub revise_once : Dependency → Relation → Tuple → Tuple
revise_once d N m = taken_from d.right m (find (agrees d.left m) N)

abbrev pub revise_by : List Dependency → Relation → Tuple → Tuple
revise_by [] N m = m
revise_by (d ∷ D) N m = revise_by D N (revise_once d N m)

-- To revise m by N, take each dependency after the one whose right set is its left set.
abbrev pub revise : List Dependency → Relation → Tuple → Tuple
revise D N m = revise_by (in_order D) N m

-- What revision comes to, whatever the order of work: r is m as revised by N.
pub record Revised (D : List Dependency) (N : Relation) (m r : Tuple) : Type 0 where
  -- outside the right sets nothing changes
  pub kept : (i : ℕ) → ((d : Dependency) → d ∈ D → has d.right i ≡ false) → cell r i ≡ cell m i
  -- where a tuple of N agrees with r on a left set, it does on the right set
  pub taken : (d : Dependency) → d ∈ D → (n : Tuple) → n ∈ N → Agree d.left r n → Agree d.right r n
  -- where none does, the right set has m's cells
  pub left_alone : (d : Dependency) → d ∈ D → ((n : Tuple) → n ∈ N → Agree d.left r n → ⊥) → Agree d.right r m
