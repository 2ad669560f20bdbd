-- What is claimed of column sets, of columns asked for by their words, and of the test whether a relation meets a sort.
use Rattle.std.specs.Prelude.{◌≡◌, ℕ, true, ◌↔◌, List, Some, None, ◌≢◌}
use Rattle.model.specs.Values.{Tuple, Relation, ◌∈◌}
use Rattle.model.specs.Orders.{Order}
use Rattle.model.specs.ColumnSets.{ColumnSet, Within, Same, Apart, within, same, apart}
use Rattle.model.specs.Sorts.{Column, Shaped, lookup, Distinct, Agree, agrees, Sort, Meets}
use Rattle.model.specs.Tables.{Store, Fits}
use Rattle.model.specs.Decisions.{shaped, meets, fits}
use Rattle.model.specs.Dropping.{column_at}

-- the tests of column sets
pub record SetsTest : Type 0 where
  pub subset : (X Y : ColumnSet) → (within X Y ≡ true) ↔ Within X Y
  pub equality : (X Y : ColumnSet) → (same X Y ≡ true) ↔ Same X Y
  pub disjoint : (X Y : ColumnSet) → (apart X Y ≡ true) ↔ Apart X Y
  pub agreement : (X : ColumnSet) (s t : Tuple) → (agrees X s t ≡ true) ↔ Agree X s t

-- A column asked for by its word is answered by its place, or by none exactly when no column has the word.
pub record LookedUp (C : List Column) (w : List ℕ) : Type 0 where
  pub place : (i : ℕ) → (lookup C w ≡ Some i) ↔ ((c : Column) × (column_at C i ≡ Some c) × (c.word ≡ w))
  pub none : (lookup C w ≡ None) ↔ ((c : Column) → c ∈ C → c.word ≢ w)

abbrev pub LookupRight : Type 0
LookupRight = (C : List Column) → Distinct C → (w : List ℕ) → LookedUp C w

-- the tests of shape, of meeting a sort and of fitting the rooms
pub record MeetsTest : Type 0 where
  pub shape : (C : List Column) (t : Tuple) → (shaped C t ≡ true) ↔ Shaped C t
  pub sort : (o : Order) (S : Sort) (R : Relation) → (meets o S R ≡ true) ↔ Meets o S R
  pub rooms : (S : List Store) (I : List Relation) → (fits S I ≡ true) ↔ Fits S I
