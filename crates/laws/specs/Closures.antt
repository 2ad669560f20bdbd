-- What is claimed of closure, of Armstrong's axioms and of the test of tree form.
use Rattle.std.specs.Prelude.{◌≡◌, true, ◌↔◌, List}
use Rattle.model.specs.Values.{Tuple, Relation, ◌∈◌}
use Rattle.model.specs.ColumnSets.{ColumnSet, Within}
use Rattle.model.specs.Sorts.{Agree, Dependency, MeetsDeps}
use Rattle.model.specs.Closures.{IsClosure, closure, Derives}
use Rattle.model.specs.TreeForm.{TreeForm, tree_form}

-- `closure` computes the least set
abbrev pub ClosureIsLeast : Type 0
ClosureIsLeast = (D : List Dependency) (X : ColumnSet) → IsClosure D X (closure D X)

-- a set follows by Armstrong's axioms exactly when it lies within the closure
abbrev pub ClosureDerives : Type 0
ClosureDerives = (D : List Dependency) (X Y : ColumnSet) → Derives D X Y ↔ Within Y (closure D X)

-- what follows by the axioms holds of every relation that meets the dependencies
abbrev pub ArmstrongSound : Type 0
ArmstrongSound = (D : List Dependency) (X Y : ColumnSet) → Derives D X Y → (R : Relation) → MeetsDeps D R → (s t : Tuple) → s ∈ R → t ∈ R → Agree X s t → Agree Y s t

-- the test of tree form
abbrev pub TreeTest : Type 0
TreeTest = (D : List Dependency) → TreeForm D ↔ (tree_form D ≡ true)
