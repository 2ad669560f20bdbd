-- The closure of a column set under dependencies, and Armstrong's axioms.
use Rattle.std.specs.Prelude.{ℕ, zero, suc, cond, List, [], ◌∷◌, length}
use Rattle.model.specs.Values.{◌∈◌}
use Rattle.model.specs.ColumnSets.{ColumnSet, Within, within, union}
use Rattle.model.specs.Sorts.{Dependency}

-- Z holds X and, with a whole left set, also its right set.
pub record Closed (D : List Dependency) (X Z : ColumnSet) : Type 0 where
  pub holds : Within X Z
  pub follows : (d : Dependency) → d ∈ D → Within d.left Z → Within d.right Z

-- The closure of X is the least such set.
pub record IsClosure (D : List Dependency) (X Z : ColumnSet) : Type 0 where
  pub closed : Closed D X Z
  pub least : (W : ColumnSet) → Closed D X W → Within Z W

-- It is reached by going through the dependencies as many times as there are dependencies.
abbrev pub grow : List Dependency → ColumnSet → ColumnSet
grow [] Z = Z
grow (d ∷ D) Z = let W = grow D Z in cond (within d.left W) (union W d.right) W

abbrev pub turns : ℕ → List Dependency → ColumnSet → ColumnSet
turns zero D Z = Z
turns (suc k) D Z = turns k D (grow D Z)

abbrev pub closure : List Dependency → ColumnSet → ColumnSet
closure D X = turns (length D) D X

-- Armstrong's axioms: what follows from the dependencies.
pub data Derives (D : List Dependency) : ColumnSet → ColumnSet → Type 0 where
  given : {d : Dependency} → d ∈ D → Derives D d.left d.right
  reflexivity : {X Y : ColumnSet} → Within Y X → Derives D X Y
  augmentation : {X Y : ColumnSet} (Z : ColumnSet) → Derives D X Y → Derives D (union X Z) (union Y Z)
  transitivity : {X Y Z : ColumnSet} → Derives D X Y → Derives D Y Z → Derives D X Z
